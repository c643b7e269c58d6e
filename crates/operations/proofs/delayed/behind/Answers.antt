-- The buckets, each read later, stand in local memory, and what `settle` leaves over them is what is asked. Assumes nothing.
use Rattle.checks.proofs.Checks.{curve_some}
use Rattle.operations.proofs.Pushing.{laid_out}
use Rattle.operations.proofs.Delaying.{lined_later, first_product_fits, first_later_fits}
use Rattle.operations.proofs.delayed.behind.Goals as goal

pub overflow_mul-line : goal.overflow_mul-line
overflow_mul-line c = first_product_fits c.requires _ c.args.curve.clear c.bucket-first.ensures

pub overflow_add-line : goal.overflow_add-line
overflow_add-line c = first_later_fits c.requires _ c.args.curve.clear c.bucket-first.ensures

pub line_and_later-raw-requires-clause-first_in_bounds :
    goal.line_and_later-raw-requires-clause-first_in_bounds
line_and_later-raw-requires-clause-first_in_bounds c = curve_some _ c.args.curve.clear

pub returns : goal.returns
returns c =
    rw (
      laid_out _ c.line_and_later-raw.ensures c.as_slice.ensures.value c.as_flattened.ensures.value,
      lined_later _ c.args.latency (curve_some _ c.args.curve.clear) c.bucket-first.ensures,
    ) at
    c.settle.ensures
