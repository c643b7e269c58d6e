-- `choose` keeps each candidate that is useful, in turn, until none is left or there is no room for one.
-- Assumes nothing.
use Rattle.settle.proofs.Picking.{picking}
use Rattle.std.proofs.Common.{rules}
use Rattle.settle.proofs.search.choose.Goals as goal

pub next-init : goal.next-init
next-init c = search (picking, rules)

pub loop-pair-init : goal.loop-pair-init
loop-pair-init c = search (picking, rules)

pub narrowed-requires-clause-next : goal.narrowed-requires-clause-next
narrowed-requires-clause-next c = search (picking, rules)

pub next-preserved-in_default-narrowed : goal.next-preserved-in_default-narrowed
next-preserved-in_default-narrowed c = search (picking, rules)

pub loop-pair-preserved : goal.loop-pair-preserved
loop-pair-preserved c = search (picking, rules)

pub next-preserved : goal.next-preserved
next-preserved c = search (picking, rules)

pub returns-in_err-try_push : goal.returns-in_err-try_push
returns-in_err-try_push c = search (picking, c.in_err-try_push.ensures.full, c.from_residual.ensures.0, rules)

pub returns : goal.returns
returns c = search (picking, rules)
