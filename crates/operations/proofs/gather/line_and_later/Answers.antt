-- `line_and_later` puts the line, then each later bucket in turn.
-- Assumes nothing.
use Rattle.std.proofs.Common.{arith}
use Rattle.checks.proofs.Checks.{curve_few}
use Rattle.checks.specs.Held.{curve_held}
use Rattle.operations.proofs.Lining.{lining_start, lining_room, lining_product_fits, lining_later_fits, lining_step}
use Rattle.operations.proofs.Valuing.{tested}
use Rattle.operations.proofs.gather.line_and_later.Goals as goal

pub loop-k-init : goal.loop-k-init
loop-k-init c =
    lining_start (curve_held c.args.curve) c.requires.first_in_bounds c.new-raw.ensures c.push.ensures.items

pub push-requires-in-loop-k : goal.push-requires-in-loop-k
push-requires-in-loop-k c = (
  omega arith,
  lining_room c.loop-k.invariant (omega (arith, c.count-k-end.ensures, c.loop-k-test.true)) (curve_few _ c.args.curve.clear),
)

pub overflow_mul-here : goal.overflow_mul-here
overflow_mul-here c =
    lining_product_fits (tested _ c.args.curve.clear) (omega (arith, c.count-k-end.ensures, c.loop-k-test.true)) c.requires.latency_fits
    c.bucket-here.ensures

pub overflow_add-here : goal.overflow_add-here
overflow_add-here c =
    lining_later_fits (tested _ c.args.curve.clear) (omega (arith, c.count-k-end.ensures, c.loop-k-test.true)) c.requires.latency_fits
    c.bucket-here.ensures

pub loop-k-preserved : goal.loop-k-preserved
loop-k-preserved c =
    lining_step c.loop-k.invariant (omega (arith, c.count-k-end.ensures, c.loop-k-test.true)) c.bucket-here.ensures
    c.push-in-loop-k.ensures.items
