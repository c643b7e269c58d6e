-- `steepest_below` finds the first bucket below the bound. The loop's invariant: the best of the buckets so far is found.
-- Assumes nothing.
use Rattle.settle.proofs.Steepest.{Sought}
use Rattle.settle.proofs.candidates.steepest_below.Given as goal

abbrev pub invariant-loop-pair : goal.invariant-loop-pair
invariant-loop-pair l = Sought l.bound l.pairs l.best l.pair-index
