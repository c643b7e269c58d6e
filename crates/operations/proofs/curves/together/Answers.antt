-- The buckets of both stand in local memory, and what `settle` leaves over them is what is asked.
-- Assumes nothing.
use Rattle.operations.proofs.Pushing.{laid_out}
use Rattle.operations.proofs.curves.together.Goals as goal

pub returns : goal.returns
returns c = rw (laid_out _ c.merge-all.ensures c.as_slice.ensures.value c.as_flattened.ensures.value) at c.settle.ensures
