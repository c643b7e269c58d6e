-- An operand is refused, or the first bucket of rate at most R is found. Assumes nothing.
use Rattle.std.proofs.Common.{refl}
use Rattle.checks.proofs.Numbers.{refused_as}
use Rattle.checks.proofs.Checks.{passed}
use Rattle.operations.proofs.Refusing.{tested_port}
use Rattle.operations.proofs.port.Port.open.Goals as goal

pub returns-in_err-curve-clause-verdict : goal.returns-in_err-curve-clause-verdict
returns-in_err-curve-clause-verdict c = rw (refused_as _ _ c.from_residual.ensures.1) c.in_err-curve.ensures.verdict

pub first_slow-requires : goal.first_slow-requires
first_slow-requires c =
    rw c.in_ok-curve.ensures.its_list (tested_port _ (passed c.in_ok-curve.ensures.verdict refl)).bounded

pub invariant_of-result : goal.invariant_of-result
invariant_of-result c =
    record {
      clear = rw c.in_ok-curve.ensures.its_list (passed c.in_ok-curve.ensures.verdict refl);
      first_slow = c.first_slow.ensures;
    }

pub returns-clause-verdict : goal.returns-clause-verdict
returns-clause-verdict c = c.in_ok-curve.ensures.verdict
