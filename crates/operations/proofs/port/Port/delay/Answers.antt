-- A curve that carries nothing has no delay; any other has T + M/R, rounded up. Assumes nothing.
use Rattle.operations.proofs.Refusing.{tested_port}
use Rattle.operations.proofs.Bounding.{delay_none, delay_some, delay_fits}
use Rattle.operations.proofs.port.Port.delay.Goals as goal

pub returns-then-carries_nothing : goal.returns-then-carries_nothing
returns-then-carries_nothing c =
    delay_none (tested_port _ c.args.self.clear) c.requires c.carries_nothing.ensures c.if-carries_nothing.true

pub div_ceil-requires : goal.div_ceil-requires
div_ceil-requires c = (tested_port _ c.args.self.clear).server.rate_some

pub overflow_add-result : goal.overflow_add-result
overflow_add-result c = delay_fits (tested_port _ c.args.self.clear) c.requires c.div_ceil.ensures

pub returns : goal.returns
returns c =
    delay_some (tested_port _ c.args.self.clear) c.requires c.carries_nothing.ensures c.if-carries_nothing.false
    c.div_ceil.ensures
