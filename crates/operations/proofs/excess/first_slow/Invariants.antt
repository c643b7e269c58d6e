-- `first_slow` is the number of the first bucket of rate at most R. The loop's invariant: the buckets before k are steeper.
-- Assumes nothing.
use Prim.Native.Nat.{ℕ, ◌<◌}
use Rattle.checks.specs.Cited.{nth}
use Rattle.checks.specs.Held.{curve_held}
use Rattle.operations.proofs.excess.first_slow.Given as goal

abbrev pub invariant-loop-k : goal.invariant-loop-k
invariant-loop-k l = (i : ℕ) → i < l.k → l.rate < (nth (curve_held l.curve) i).rate
