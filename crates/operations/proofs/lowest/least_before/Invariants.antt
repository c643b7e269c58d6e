-- `least_before` is the least value at a tick before a bucket. The loop's invariant: of the buckets read, which are those from k on, the
-- one numbered k has the least value.
-- Assumes nothing.
use Rattle.checks.specs.Held.{curve_held}
use Rattle.operations.proofs.Walking.{Backwards}
use Rattle.operations.proofs.lowest.least_before.Given as goal

abbrev pub invariant-loop-k : goal.invariant-loop-k
invariant-loop-k l = Backwards (curve_held l.curve) l.tick l.end l.k l.found
