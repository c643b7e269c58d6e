-- `burst` gives the refusal of its curve, or the first bucket's burst, which is the smallest.
-- Assumes nothing.
use Rattle.std.proofs.Common.{refl}
use Rattle.checks.proofs.Numbers.{number_some, refused_as}
use Rattle.operations.proofs.Valuing.{burst_refused, burst_answered}
use Rattle.operations.proofs.value.burst.Goals as goal

pub returns-in_err-curve : goal.returns-in_err-curve
returns-in_err-curve c =
    rw (refused_as _ _ c.from_residual.ensures.1) (burst_refused _ c.in_err-curve.ensures.verdict (number_some _))

pub returns : goal.returns
returns c =
    burst_answered _ c.in_ok-curve.ensures.verdict refl (rw c.in_ok-curve.ensures.its_list at c.bucket.ensures)
