-- `step_of` is how the sum of what is left goes on: each list that turns no later than the other.
-- Assumes nothing.
use Rattle.operations.proofs.Summing.{product_fits, step_by_times}
use Rattle.operations.proofs.Valuing.{tested}
use Rattle.operations.proofs.adding.step_of.Goals as goal

pub overflow_mul-a_time : goal.overflow_mul-a_time
overflow_mul-a_time c =
    product_fits (tested _ c.args.f.clear) (tested _ c.args.g.clear) c.turn_after-a.ensures c.turn_after-b.ensures

pub overflow_mul-b_time : goal.overflow_mul-b_time
overflow_mul-b_time c =
    product_fits (tested _ c.args.g.clear) (tested _ c.args.f.clear) c.turn_after-b.ensures c.turn_after-a.ensures

pub returns : goal.returns
returns c =
    step_by_times (tested _ c.args.f.clear) (tested _ c.args.g.clear) c.requires c.turn_after-a.ensures c.turn_after-b.ensures
    c.from.ensures c.from-2.ensures
