-- `least_before` goes down while the values fall: where one does not, none before it is lower.
-- Assumes nothing.
use Rattle.meaning.proofs.Outcome.Answers.{clear_form}
use Rattle.operations.proofs.Walking.{backwards_stop}
use Rattle.operations.proofs.lowest.least_before.Goals as goal

pub returns-then-found-next : goal.returns-then-found-next
returns-then-found-next c =
    backwards_stop (clear_form _ c.args.curve.clear) c.requires.end_in_bounds c.loop-k.invariant c.loop-k-test.true
    c.value_of-next.ensures c.if-found-next.true
