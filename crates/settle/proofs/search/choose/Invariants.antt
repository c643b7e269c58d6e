-- `choose` picks the normal form. The outer loop's invariant: the pairs chosen are the front of the normal form, with the rates from the
-- bound up, and the candidates left are the buckets below the bound, which falls. The inner one's: the ends, and the buckets that are still
-- to come, decide whether the candidate is useful.
-- Assumes nothing.
use Rattle.settle.proofs.Picking.{Searched, Picked}
use Rattle.settle.proofs.search.choose.Given as goal

abbrev pub invariant-loop-pair : goal.invariant-loop-pair
invariant-loop-pair l = Searched l.pairs l.candidate l.ends l.pair-index

abbrev pub invariant-next : goal.invariant-next
invariant-next l = Picked l.pairs l.chosen.items l.candidates

abbrev pub decreases-next : goal.decreases-next
decreases-next l = l.candidates.bound
