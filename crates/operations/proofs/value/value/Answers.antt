-- `value` gives the smaller of the refusals of its curve and its tick, or nothing at 0, or the curve's value there.
-- Assumes nothing.
use Rattle.std.proofs.Common.{refl}
use Rattle.checks.proofs.Numbers.{number_some, refused_as}
use Rattle.checks.proofs.Checks.{curve_some}
use Rattle.operations.proofs.Valuing.{value_refused, value_tick, value_nothing, value_answered}
use Rattle.operations.proofs.value.value.Goals as goal

pub returns-in_err-curve : goal.returns-in_err-curve
returns-in_err-curve c =
    rw (refused_as _ _ c.from_residual.ensures.1) (value_refused _ _ c.curve.ensures.verdict c.tick.ensures c.in_err-curve.ensures.code (number_some _))

pub returns-then-tick-eq0 : goal.returns-then-tick-eq0
returns-then-tick-eq0 c =
    value_nothing _ _ c.curve.ensures.verdict c.tick.ensures c.in_ok-curve.ensures.code refl c.if-tick-eq0.true

pub least_from-requires-clause-from_in_bounds : goal.least_from-requires-clause-from_in_bounds
least_from-requires-clause-from_in_bounds c = curve_some _ c.in_ok-curve.curve.clear

pub least_from-requires-clause-tick_fits : goal.least_from-requires-clause-tick_fits
least_from-requires-clause-tick_fits c =
    value_tick _ _ c.curve.ensures.verdict c.tick.ensures c.in_ok-curve.ensures.code refl

pub returns : goal.returns
returns c =
    value_answered _ _ c.curve.ensures.verdict c.tick.ensures c.in_ok-curve.ensures.code refl c.if-tick-eq0.false _
    (rw (rw c.in_ok-curve.ensures.values.0 at c.curve.ensures.its_list) at c.least_from.ensures)
