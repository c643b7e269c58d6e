-- An operand is refused, or what `together` leaves over the curve and the link's bucket is what is asked.
-- Assumes nothing.
use Rattle.std.proofs.Common.{refl}
use Rattle.checks.proofs.Numbers.{number_some, refused_as}
use Rattle.operations.proofs.Asking.{both_verdict, shape_refused, link_curve, shape_settled}
use Rattle.operations.proofs.curves.shape.Goals as goal

pub returns-in_err-f : goal.returns-in_err-f
returns-in_err-f c =
    rw (refused_as _ _ c.from_residual.ensures.1)
    (shape_refused _ _ _ _ _ _ (both_verdict c.curve.ensures.verdict c.link.ensures c.in_err-f.ensures.code) (number_some _))

pub invariant_of-together : goal.invariant_of-together
invariant_of-together c =
    record {
      clear =
          link_curve c.args.f.now _ _ (both_verdict c.curve.ensures.verdict c.link.ensures c.in_ok-f.ensures.code) refl;
    }

pub returns : goal.returns
returns c =
    shape_settled _ _ _ (both_verdict c.curve.ensures.verdict c.link.ensures c.in_ok-f.ensures.code) refl
    (rw (rw c.in_ok-f.ensures.values.0 at c.curve.ensures.its_list) at c.together.ensures)
