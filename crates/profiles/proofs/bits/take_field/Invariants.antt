-- `take_field` takes a field in whole bytes. The loop's invariant: those up to the loop's byte are taken.
-- Assumes nothing.
use Rattle.profiles.proofs.Taking.{Taken}
use Rattle.profiles.proofs.bits.take_field.Given as goal

abbrev pub invariant-loop-byte : goal.invariant-loop-byte
invariant-loop-byte l = Taken l.file l.at l.width l.count l.taken l.byte-index
