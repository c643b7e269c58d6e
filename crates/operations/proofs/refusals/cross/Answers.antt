-- The refusals of the curve and of the server come first, then UNBOUNDED. Assumes nothing.
use Rattle.std.proofs.Common.{refl}
use Rattle.checks.proofs.Numbers.{number_some, refused_as}
use Rattle.operations.proofs.Refusing.{port_refused, cross_above, cross_taken}
use Rattle.operations.proofs.refusals.cross.Goals as goal

pub returns-in_err-curve-clause-verdict : goal.returns-in_err-curve-clause-verdict
returns-in_err-curve-clause-verdict c =
    rw (refused_as _ _ c.from_residual.ensures.1) (port_refused _ c.in_err-curve.ensures.verdict (number_some _))

pub returns-then-rate-last-clause-verdict : goal.returns-then-rate-last-clause-verdict
returns-then-rate-last-clause-verdict c =
    cross_above _ c.in_ok-curve.ensures.verdict refl (rw c.in_ok-curve.ensures.its_list at c.last.ensures) c.if-rate-last.true

pub returns-clause-verdict : goal.returns-clause-verdict
returns-clause-verdict c =
    cross_taken _ c.in_ok-curve.ensures.verdict refl (rw c.in_ok-curve.ensures.its_list at c.last.ensures) c.if-rate-last.false
