-- A pure delay has no rate to share: RANGE, or what is smaller of the curve. Assumes nothing.
use Rattle.operations.proofs.Leaving.{delay_alone, delay_first}
use Rattle.operations.proofs.delayed.residual.Goals as goal

pub returns-in-Ok : goal.returns-in-Ok
returns-in-Ok c = delay_alone _ _ c.in-Ok.ensures.verdict

pub returns-in-Err : goal.returns-in-Err
returns-in-Err c = delay_first _ _ _ c.in-Err.ensures.verdict c.min.ensures
