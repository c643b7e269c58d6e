-- `merge` puts the steeper of the two first buckets that are left, until none is.
-- Assumes nothing.
use Rattle.std.proofs.Common.{arith}
use Rattle.checks.proofs.Checks.{curve_few}
use Rattle.operations.proofs.Merging.{merging_room, merging_first, merging_second, merging_end}
use Rattle.operations.proofs.gather.merge.Goals as goal
use Rattle.operations.proofs.gather.merge.Goals.{in-First, in-Second}

pub overflow_add-passed-end : goal.overflow_add-passed-end
overflow_add-passed-end c =
    record { fits = omega (arith, c.count.ensures, c.count-2.ensures, curve_few _ c.args.f.clear, curve_few _ c.args.g.clear) }

pub push-requires : goal.push-requires
push-requires c = (
  omega arith,
  merging_room c.loop-passed.invariant (curve_few _ c.args.f.clear) (curve_few _ c.args.g.clear)
      (omega (arith, c.count.ensures, c.count-2.ensures, c.loop-passed-test.true)),
)

pub loop-passed-preserved : goal.loop-passed-preserved
loop-passed-preserved c =
    elim c.match-next_of.branch [
      | in-First w ↦
          rw w.i-is
          (merging_first c.loop-passed.invariant c.push.ensures.items
          (rw (← w.bucket-is) at w.in-First.ensures))
      | in-Second w ↦
          rw w.i-is
          (merging_second c.loop-passed.invariant c.push.ensures.items
          (rw (← w.bucket-is) at w.in-Second.ensures))
    ]

pub returns : goal.returns
returns c = merging_end c.loop-passed.invariant (omega (arith, c.count.ensures, c.count-2.ensures, c.loop-passed-test.false))
