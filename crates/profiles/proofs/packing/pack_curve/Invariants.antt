-- `pack_curve` packs the buckets of a curve behind its head. The loop's invariant: the first k are packed.
-- Assumes nothing.
use Rattle.profiles.proofs.Packs.{Bucketing}
use Rattle.profiles.proofs.packing.pack_curve.Given as goal

abbrev pub invariant-loop-k : goal.invariant-loop-k
invariant-loop-k l = Bucketing l.edition l.curve.list.now l.count l.writer l.k
