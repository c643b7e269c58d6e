-- An operand is refused, or the delay is answered. Assumes nothing.
use Rattle.std.proofs.Common.{refl}
use Rattle.checks.proofs.Numbers.{number_some, refused_as}
use Rattle.operations.proofs.Sharing.{delay_refused, delay_answered}
use Rattle.operations.proofs.delayed.delay.Goals as goal

pub returns-in_err-curve : goal.returns-in_err-curve
returns-in_err-curve c =
    rw (refused_as _ _ c.from_residual.ensures.1) (delay_refused _ _ c.in_err-curve.ensures.verdict (number_some _))

pub returns : goal.returns
returns c =
    delay_answered _ _ c.in_ok-curve.ensures.verdict refl (rw c.in_ok-curve.ensures.its_list at c.held.ensures)
