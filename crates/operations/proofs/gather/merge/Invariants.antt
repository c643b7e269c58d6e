-- `merge` pushes the buckets of two curves, merged. The loop's invariant: those passed are pushed, and those left are to be merged behind
-- them.
-- Assumes nothing.
use Rattle.checks.specs.Held.{curve_held}
use Rattle.operations.proofs.Merging.{Merging}
use Rattle.operations.proofs.gather.merge.Given as goal

abbrev pub invariant-loop-passed : goal.invariant-loop-passed
invariant-loop-passed l = Merging (curve_held l.f) (curve_held l.g) l.passed l.i l.all.items
