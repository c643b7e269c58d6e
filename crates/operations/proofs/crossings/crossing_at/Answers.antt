-- From a bucket to the next bursts rise and rates fall.
-- Assumes nothing.
use Rattle.operations.proofs.Turning.{crossing_burst, crossing_rate}
use Rattle.operations.proofs.Valuing.{tested}
use Rattle.operations.proofs.crossings.crossing_at.Goals as goal

pub overflow_sub-result : goal.overflow_sub-result
overflow_sub-result c =
    crossing_burst (tested _ c.args.curve.clear) c.requires.past_the_first c.bucket-before.ensures c.bucket-here.ensures

pub overflow_sub-result-2 : goal.overflow_sub-result-2
overflow_sub-result-2 c =
    crossing_rate (tested _ c.args.curve.clear) c.requires.past_the_first c.bucket-before.ensures c.bucket-here.ensures
