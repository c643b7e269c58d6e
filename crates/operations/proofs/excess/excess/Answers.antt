-- M is reached at tick 0, or at the whole tick up to the crossing or the next.
-- Assumes nothing.
use Rattle.operations.proofs.Turning.{tick_is, excess_start, turn_small, turn_tick, turn_next_fits, turn_product_fits, turn_after_fits, excess_turn}
use Rattle.operations.proofs.Valuing.{tested}
use Rattle.operations.proofs.excess.excess.Goals as goal

pub returns-then-first-eq0 : goal.returns-then-first-eq0
returns-then-first-eq0 c =
    excess_start (tested _ c.args.curve.clear) c.requires.first_slow c.if-first-eq0.true c.bucket.ensures

pub least_before-requires-clause-tick_fits : goal.least_before-requires-clause-tick_fits
least_before-requires-clause-tick_fits c =
    turn_small (tested _ c.args.curve.clear) c.requires.first_slow c.if-first-eq0.false (tick_is c.crossing_at-crossing.ensures)

pub overflow_mul-rate : goal.overflow_mul-rate
overflow_mul-rate c =
    turn_product_fits (tested _ c.args.curve.clear) c.requires.first_slow c.if-first-eq0.false (tick_is c.crossing_at-crossing.ensures)
    c.requires.rate_fits

pub overflow_add-tick : goal.overflow_add-tick
overflow_add-tick c =
    turn_next_fits (tested _ c.args.curve.clear) c.requires.first_slow c.if-first-eq0.false (tick_is c.crossing_at-crossing.ensures)

pub least_from-requires-clause-tick_fits : goal.least_from-requires-clause-tick_fits
least_from-requires-clause-tick_fits c =
    turn_tick (tested _ c.args.curve.clear) c.requires.first_slow c.if-first-eq0.false (tick_is c.crossing_at-crossing.ensures)

pub overflow_add-tick-2 : goal.overflow_add-tick-2
overflow_add-tick-2 c =
    turn_next_fits (tested _ c.args.curve.clear) c.requires.first_slow c.if-first-eq0.false (tick_is c.crossing_at-crossing.ensures)

pub overflow_mul-rate-2 : goal.overflow_mul-rate-2
overflow_mul-rate-2 c =
    turn_after_fits (tested _ c.args.curve.clear) c.requires.first_slow c.if-first-eq0.false (tick_is c.crossing_at-crossing.ensures)
    c.requires.rate_fits

pub returns : goal.returns
returns c =
    excess_turn (tested _ c.args.curve.clear) c.requires.first_slow c.if-first-eq0.false (tick_is c.crossing_at-crossing.ensures)
    c.least_before.ensures c.saturating_sub-up_to.ensures c.least_from.ensures c.saturating_sub-after.ensures c.max.ensures
