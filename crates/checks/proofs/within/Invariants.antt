-- `within` tells whether every rate and every burst of a list is below its end. The loop's invariant: the buckets that are not passed
-- yet decide.
-- Assumes nothing.
use Prim.Native.Nat.{◌*◌}
use Rattle.checks.proofs.Ranges.{Ranged}
use Rattle.checks.proofs.within.Given as goal

abbrev pub invariant-loop-rate : goal.invariant-loop-rate
invariant-loop-rate l = Ranged l.rates l.bursts l.list (2 * l.rate-index)
