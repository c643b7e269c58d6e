-- The last bucket tells.
-- Assumes nothing.
use Rattle.meaning.proofs.Outcome.Answers.{clear_form}
use Rattle.operations.proofs.Walking.{carries_none}
use Rattle.operations.proofs.lowest.carries_nothing.Goals as goal

pub returns : goal.returns
returns c = carries_none _ (clear_form _ c.args.curve.clear) c.last.ensures c.eq.ensures
