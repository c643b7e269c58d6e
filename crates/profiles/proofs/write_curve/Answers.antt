-- `write_curve` meets its contract: the edition or the curve is refused, or it is packed and handed over.
-- Assumes nothing.
use Rattle.std.proofs.Common.{rules, refl, ap, not}
use Rattle.checks.proofs.Numbers.{number_some, refused_as}
use Rattle.profiles.proofs.Handing.{curve_writes, write_curve_refused, write_curve_handed}
use Rattle.profiles.proofs.write_curve.Goals as goal

pub returns-then-not-has_kind : goal.returns-then-not-has_kind
returns-then-not-has_kind c = search (curve_writes, rules)

pub returns-in_err-curve : goal.returns-in_err-curve
returns-in_err-curve c =
    rw (refused_as _ _ c.from_residual.ensures.1) (write_curve_refused _ c.has_kind.ensures (ap not c.if-not-has_kind.false) c.in_err-curve.ensures.verdict (number_some _))

pub pack_curve-writer-requires : goal.pack_curve-writer-requires
pack_curve-writer-requires c = search (curve_writes, rules)

pub returns : goal.returns
returns c =
    write_curve_handed _ c.has_kind.ensures (ap not c.if-not-has_kind.false) c.in_ok-curve.ensures.verdict refl
    (rw c.in_ok-curve.ensures.its_list at c.pack_curve-writer.ensures) c.bytes.ensures c.hand_over.ensures
