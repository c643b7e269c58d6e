-- `read_curve` reads the curve that an input begins with, and counts the numbers of its list.
-- Assumes nothing.
use Rattle.checks.proofs.Numbers.{refused_as}
use Rattle.profiles.proofs.Readings.{read_whole}
use Rattle.routes.proofs.Due.{curve_missing, curve_read, curve_numbers, no_server_read}
use Rattle.routes.proofs.reading.read_curve.Goals as goal

pub returns-then-kind_in-ne-CURVE : goal.returns-then-kind_in-ne-CURVE
returns-then-kind_in-ne-CURVE c = curve_missing c.kind_in.ensures c.requires c.if-kind_in-ne-CURVE.true

pub returns-in_err-count : goal.returns-in_err-count
returns-in_err-count c =
    rw (refused_as _ _ c.from_residual.ensures.1)
    (curve_read c.kind_in.ensures c.first_end-end.ensures c.requires c.if-kind_in-ne-CURVE.false
    (read_whole _ (rw (c.whole-whole.ensures.start, c.whole-whole.ensures.end) at c.in_err-count.ensures)))

pub overflow_mul-result : goal.overflow_mul-result
overflow_mul-result c =
    curve_numbers c.kind_in.ensures c.first_end-end.ensures
    (read_whole _ (rw (c.in-Curve.is, c.whole-whole.ensures.start, c.whole-whole.ensures.end) at c.in_ok-count.ensures))

pub unreachable-requires : goal.unreachable-requires
unreachable-requires c =
    no_server_read c.kind_in.ensures c.first_end-end.ensures _ c.if-kind_in-ne-CURVE.false
    (read_whole _ (rw (c.in-Server.is, c.whole-whole.ensures.start, c.whole-whole.ensures.end) at c.in_ok-count.ensures))

pub returns : goal.returns
returns c =
    curve_read c.kind_in.ensures c.first_end-end.ensures c.requires c.if-kind_in-ne-CURVE.false
    (read_whole _ (rw (c.in-Curve.is, c.whole-whole.ensures.start, c.whole-whole.ensures.end) at c.in_ok-count.ensures))
