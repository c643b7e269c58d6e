-- A curve that carries nothing is held for no time, any other for the latency. Assumes nothing.
use Rattle.operations.proofs.Delaying.{held_none, held_some}
use Rattle.operations.proofs.delayed.held.Goals as goal

pub returns-then-carries_nothing : goal.returns-then-carries_nothing
returns-then-carries_nothing c = held_none _ c.carries_nothing.ensures c.if-carries_nothing.true

pub returns : goal.returns
returns c = held_some _ c.carries_nothing.ensures c.if-carries_nothing.false
