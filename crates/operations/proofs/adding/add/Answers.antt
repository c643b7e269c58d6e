-- `add` puts the sum of the two buckets at hand, steps to the next crossing, and ends where both are at their last bucket.
-- Assumes nothing.
use Rattle.std.proofs.Common.{arith}
use Rattle.checks.proofs.Checks.{curve_some, curve_few, curve_ranged}
use Rattle.checks.specs.Held.{curve_held}
use Rattle.operations.proofs.Summing.{summing_start, summing_room, summing_rate_fits, summing_burst_fits, summing_last, summing_step}
use Rattle.operations.proofs.adding.add.Goals as goal

pub overflow_add-buckets : goal.overflow_add-buckets
overflow_add-buckets c =
    record { fits = omega (arith, c.count.ensures, c.count-2.ensures, curve_few _ c.args.f.clear, curve_few _ c.args.g.clear) }

pub loop-init : goal.loop-init
loop-init c =
    summing_start (curve_held c.args.f) (curve_held c.args.g) (curve_some _ c.args.f.clear) (curve_some _ c.args.g.clear) c.new-all.ensures

pub overflow_add-a : goal.overflow_add-a
overflow_add-a c =
    summing_rate_fits c.loop.invariant (omega (arith, c.loop-test.true)) c.bucket-a.ensures c.bucket-b.ensures
    (curve_ranged _ c.args.f.clear) (curve_ranged _ c.args.g.clear)

pub push-requires : goal.push-requires
push-requires c = (omega arith, summing_room c.loop.invariant (omega (arith, c.loop-test.true)))

pub overflow_add-a-in-loop : goal.overflow_add-a-in-loop
overflow_add-a-in-loop c =
    summing_burst_fits c.loop.invariant (omega (arith, c.loop-test.true)) c.bucket-a.ensures c.bucket-b.ensures
    (curve_ranged _ c.args.f.clear) (curve_ranged _ c.args.g.clear)

pub overflow_add-i : goal.overflow_add-i
overflow_add-i c =
    record { fits = omega (arith, c.loop.invariant.inside, curve_few _ c.args.f.clear, curve_few _ c.args.g.clear) }

pub overflow_add-i-in-loop : goal.overflow_add-i-in-loop
overflow_add-i-in-loop c =
    record { fits = omega (arith, c.loop.invariant.inside, curve_few _ c.args.f.clear, curve_few _ c.args.g.clear) }

pub returns-then-buckets-i : goal.returns-then-buckets-i
returns-then-buckets-i c =
    summing_last c.loop.invariant (omega (arith, c.loop-test.true)) c.bucket-a.ensures c.bucket-b.ensures c.push.ensures.items
    (omega (arith, c.count.ensures, c.count-2.ensures, c.if-buckets-i.true))

pub loop-preserved : goal.loop-preserved
loop-preserved c =
    summing_step c.loop.invariant (omega (arith, c.loop-test.true)) c.bucket-a.ensures c.bucket-b.ensures c.push.ensures.items
    c.step_of-step.ensures
