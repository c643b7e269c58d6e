-- `least_from` goes up while the values fall: where one does not, none behind it is lower.
-- Assumes nothing.
use Rattle.std.proofs.Common.{arith}
use Rattle.meaning.proofs.Outcome.Answers.{clear_form}
use Rattle.checks.proofs.Checks.{curve_few}
use Rattle.operations.proofs.Walking.{onwards_stop}
use Rattle.operations.proofs.lowest.least_from.Goals as goal

pub overflow_step-k : goal.overflow_step-k
overflow_step-k c = record { fits = omega (arith, c.requires.from_in_bounds, curve_few _ c.args.curve.clear) }

pub returns-then-found-next : goal.returns-then-found-next
returns-then-found-next c =
    onwards_stop (clear_form _ c.args.curve.clear) c.loop-k.invariant (omega (arith, c.loop-k-test.true, c.count-k-end.ensures))
    c.value_of-next.ensures c.if-found-next.true
