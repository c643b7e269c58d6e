-- `curve` tests a curve: what a raw list is refused for, and then its form.
-- Assumes nothing.
use Rattle.std.proofs.Common.{refl}
use Rattle.checks.proofs.Numbers.{number_some, refused_as}
use Rattle.checks.proofs.Checks.{passed, curve_refused, curve_ranges, curve_out_of_form, curve_right}
use Rattle.checks.proofs.curve.Goals as goal

pub returns-in_err-raw-clause-verdict : goal.returns-in_err-raw-clause-verdict
returns-in_err-raw-clause-verdict c = rw (refused_as _ _ c.from_residual.ensures.1) (curve_refused _ c.in_err-raw.ensures (number_some _))

pub in_form-requires : goal.in_form-requires
in_form-requires c = curve_ranges _ c.in_ok-raw.ensures refl

pub returns-then-not-in_form-clause-verdict : goal.returns-then-not-in_form-clause-verdict
returns-then-not-in_form-clause-verdict c = curve_out_of_form _ c.in_ok-raw.ensures refl c.if-not-in_form.ensures

pub invariant_of-result : goal.invariant_of-result
invariant_of-result c = record { clear = passed (curve_right _ c.in_ok-raw.ensures refl c.if-not-in_form.ensures) refl }
