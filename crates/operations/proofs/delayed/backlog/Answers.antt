-- An operand is refused, or the backlog is the least value at the latency. Assumes nothing.
use Rattle.std.proofs.Common.{refl}
use Rattle.checks.proofs.Numbers.{number_some, refused_as}
use Rattle.checks.proofs.Checks.{passed, curve_some}
use Rattle.operations.proofs.Sharing.{backlog_refused, backlog_answered}
use Rattle.operations.proofs.Delaying.{held_tick, held_backlog}
use Rattle.operations.proofs.delayed.backlog.Goals as goal

pub returns-in_err-curve : goal.returns-in_err-curve
returns-in_err-curve c =
    rw (refused_as _ _ c.from_residual.ensures.1) (backlog_refused _ _ c.in_err-curve.ensures.verdict (number_some _))

pub least_from-requires-clause-from_in_bounds : goal.least_from-requires-clause-from_in_bounds
least_from-requires-clause-from_in_bounds c = curve_some _ c.in_ok-curve.curve.clear

pub least_from-requires-clause-tick_fits : goal.least_from-requires-clause-tick_fits
least_from-requires-clause-tick_fits c = held_tick _ (passed c.in_ok-curve.ensures.verdict refl)

pub returns : goal.returns
returns c =
    backlog_answered _ _ c.in_ok-curve.ensures.verdict refl
    (held_backlog _ (passed c.in_ok-curve.ensures.verdict refl) (rw c.in_ok-curve.ensures.its_list at c.least_from.ensures))
