-- The smaller of two codes is the verdict on both operands. Assumes nothing.
use Rattle.checks.proofs.Numbers.{refused_as}
use Rattle.operations.proofs.Refusing.{with_server}
use Rattle.operations.proofs.refusals.curve_and_rate.Goals as goal

pub returns-in_err-curve-clause-verdict : goal.returns-in_err-curve-clause-verdict
returns-in_err-curve-clause-verdict c =
    rw (refused_as _ _ c.from_residual.ensures.1)
    (with_server c.curve.ensures.verdict c.rated_refusal.ensures c.in_err-curve.ensures.code)

pub returns-clause-verdict : goal.returns-clause-verdict
returns-clause-verdict c = with_server c.curve.ensures.verdict c.rated_refusal.ensures c.in_ok-curve.ensures.code
