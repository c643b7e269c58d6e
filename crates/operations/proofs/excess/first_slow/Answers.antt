-- There is a last bucket, and it is slow.
-- Assumes nothing.
use Rattle.std.proofs.Common.{arith, ◌-◌}
use Rattle.checks.proofs.Buckets.{last_numbered}
use Rattle.checks.proofs.Checks.{curve_some}
use Rattle.checks.specs.Held.{curve_held}
use Rattle.operations.proofs.excess.first_slow.Goals as goal

pub overflow_sub-last : goal.overflow_sub-last
overflow_sub-last c = omega (arith, c.count-last.ensures, curve_some _ c.args.curve.clear)

pub returns : goal.returns
returns c =
    let some = curve_some _ c.args.curve.clear in
    record {
      inside = omega (arith, c.count-last.ensures, some);
      steeper = λ i low. c.loop-k.invariant i (omega (arith, c.loop-k-test.false));
      slow = rw (last_numbered (curve_held c.args.curve) (c.count-last.result - 1) (omega (arith, c.count-last.ensures, some))) c.requires;
    }
