-- `put` packs a field. The loop's invariant: the bytes written and the low bits of the whole that are pending spell the whole's bits.
-- Assumes nothing.
use Rattle.profiles.proofs.Putting.{Putting}
use Rattle.profiles.proofs.packing.BitWriter.put.Given as goal

abbrev pub invariant-loop-byte : goal.invariant-loop-byte
invariant-loop-byte g l = Putting l.end l.first l.last l.whole l.byte-items l.byte-index l.pending
