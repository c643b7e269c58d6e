-- An operand is refused, or what `together` leaves is what is asked. Assumes nothing.
use Rattle.std.proofs.Common.{refl}
use Rattle.checks.proofs.Numbers.{number_some, refused_as}
use Rattle.operations.proofs.Asking.{both_verdict, lower_refused, lower_settled}
use Rattle.operations.proofs.curves.lower.Goals as goal

pub returns-in_err-f : goal.returns-in_err-f
returns-in_err-f c =
    rw (refused_as _ _ c.from_residual.ensures.1)
    (lower_refused _ _ _ _ _ (both_verdict c.curve.ensures.verdict c.curve-2.ensures.verdict c.in_err-f.ensures.code) (number_some _))

pub returns : goal.returns
returns c =
    lower_settled _ _ (both_verdict c.curve.ensures.verdict c.curve-2.ensures.verdict c.in_ok-f.ensures.code) refl
    (rw (
      rw c.in_ok-f.ensures.values.0 at c.curve.ensures.its_list,
      rw c.in_ok-f.ensures.values.1 at c.curve-2.ensures.its_list,
    ) at
    c.together.ensures)
