-- `next_in_order` passes over the buckets that are no flatter than the bound, to the first that is.
-- Assumes nothing.
use Rattle.settle.proofs.Ordered.{passing}
use Rattle.std.proofs.Common.{rules}
use Rattle.settle.proofs.candidates.Candidates.next_in_order.Goals as goal

pub returns-then-next-self : goal.returns-then-next-self
returns-then-next-self c = search (passing, c.in-Some.ensures.cases.0, rules)

pub loop-first-preserved : goal.loop-first-preserved
loop-first-preserved c = search (passing, c.in-Some.ensures.cases.0, rules)

pub invariant_of-self : goal.invariant_of-self
invariant_of-self c = search (passing, c.in-Some.ensures.cases.0, rules)
