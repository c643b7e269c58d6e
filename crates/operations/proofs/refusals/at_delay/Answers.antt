-- The smaller of two codes is the verdict on the curve and the pure delay, and a pure delay has no other line. Assumes nothing.
use Rattle.checks.proofs.Numbers.{refused_as}
use Rattle.operations.proofs.Refusing.{with_delay}
use Rattle.operations.proofs.refusals.at_delay.Goals as goal

pub returns-in_err-curve-clause-verdict : goal.returns-in_err-curve-clause-verdict
returns-in_err-curve-clause-verdict c =
    rw (refused_as _ _ c.from_residual.ensures.1)
    (with_delay _ c.curve.ensures.verdict c.delay_refusal.ensures c.in_err-curve.ensures.code)

pub returns-clause-verdict : goal.returns-clause-verdict
returns-clause-verdict c = with_delay _ c.curve.ensures.verdict c.delay_refusal.ensures c.in_ok-curve.ensures.code
