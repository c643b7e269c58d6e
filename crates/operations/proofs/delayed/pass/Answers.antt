-- An operand is refused, or the answer is; or the curve behind is handed over, with the figures. Assumes nothing.
use Rattle.std.proofs.Common.{refl}
use Rattle.checks.proofs.Numbers.{number_some, refused_as}
use Rattle.checks.proofs.Checks.{passed, curve_some}
use Rattle.operations.proofs.Sharing.{hop_operand, hop_large, hop_handed}
use Rattle.operations.proofs.Delaying.{held_small, held_tick, held_backlog, passed_later}
use Rattle.operations.proofs.delayed.pass.Goals as goal

pub returns-in_err-curve : goal.returns-in_err-curve
returns-in_err-curve c =
    rw (refused_as _ _ c.from_residual.ensures.1) (hop_operand _ _ c.in_err-curve.ensures.verdict (number_some _))

pub behind-requires : goal.behind-requires
behind-requires c = held_small _ (passed c.in_ok-curve.ensures.verdict refl)

pub returns-in_err-count : goal.returns-in_err-count
returns-in_err-count c =
    rw (refused_as _ _ c.from_residual-in_err-count.ensures.1)
    (hop_large _ _
    (passed_later _ (passed c.in_ok-curve.ensures.verdict refl)
    (rw c.in_ok-curve.ensures.its_list at c.in_err-count.ensures)) (number_some _))

pub least_from-requires-clause-from_in_bounds : goal.least_from-requires-clause-from_in_bounds
least_from-requires-clause-from_in_bounds c = curve_some _ c.in_ok-curve.curve.clear

pub least_from-requires-clause-tick_fits : goal.least_from-requires-clause-tick_fits
least_from-requires-clause-tick_fits c = held_tick _ (passed c.in_ok-curve.ensures.verdict refl)

pub returns : goal.returns
returns c =
    let clear = passed c.in_ok-curve.ensures.verdict refl in
    hop_handed _ _
    (passed_later _ clear (rw c.in_ok-curve.ensures.its_list at c.in_ok-count.ensures))
    (held_backlog _ clear (rw c.in_ok-curve.ensures.its_list at c.least_from.ensures))
    (rw c.in_ok-curve.ensures.its_list at c.held.ensures)
    c.pure_delay.ensures
