-- A bucket's value at a tick fits 64 bits.
-- Assumes nothing.
use Rattle.checks.proofs.Checks.{curve_ranged}
use Rattle.operations.proofs.Walking.{value_product_fits, value_sum_fits, value_of_is}
use Rattle.operations.proofs.lowest.value_of.Goals as goal

pub overflow_mul-result : goal.overflow_mul-result
overflow_mul-result c =
    value_product_fits _ c.args.tick (curve_ranged _ c.args.curve.clear) c.requires.k_in_bounds c.requires.tick_fits c.bucket-here.ensures

pub overflow_add-result : goal.overflow_add-result
overflow_add-result c =
    value_sum_fits _ c.args.tick (curve_ranged _ c.args.curve.clear) c.requires.k_in_bounds c.requires.tick_fits c.bucket-here.ensures

pub returns : goal.returns
returns c =
    value_of_is _ c.args.tick (curve_ranged _ c.args.curve.clear) c.requires.k_in_bounds c.requires.tick_fits c.bucket-here.ensures
