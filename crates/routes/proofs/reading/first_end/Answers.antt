-- `first_end` finds the end of the first file: behind its bytes, or with the input where that is sooner.
-- Assumes nothing.
use Rattle.routes.proofs.Due.{end_least}
use Rattle.routes.proofs.reading.first_end.Goals as goal

pub returns : goal.returns
returns c = end_least c.args.input.now c.bytes_taken.ensures c.min.ensures
