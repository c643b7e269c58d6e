-- `least_from` is the least value at a tick from a bucket on. The loop's invariant: of the buckets read, which are those before k, the
-- last has the least value.
-- Assumes nothing.
use Rattle.checks.specs.Held.{curve_held}
use Rattle.operations.proofs.Walking.{Onwards}
use Rattle.operations.proofs.lowest.least_from.Given as goal

abbrev pub invariant-loop-k : goal.invariant-loop-k
invariant-loop-k l = Onwards (curve_held l.curve) l.tick l.from l.k l.found
