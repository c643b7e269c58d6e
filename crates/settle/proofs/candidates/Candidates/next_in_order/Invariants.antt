-- `next_in_order` passes the buckets that are not below the bound. The loop's invariant: those that are left are in order, and all
-- below the bound are among them. The measure is how many are left.
-- Assumes nothing.
use lib.ListN.{length}
use Rattle.settle.proofs.Ordered.{Passing}
use Rattle.settle.proofs.candidates.Candidates.next_in_order.Given as goal

abbrev pub invariant-loop-first : goal.invariant-loop-first
invariant-loop-first l = Passing l.initial.self l.self

abbrev pub decreases-loop-first : goal.decreases-loop-first
decreases-loop-first l = length l.self.left.now
