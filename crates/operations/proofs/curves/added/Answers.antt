-- The buckets of the sum stand in local memory, and what `deliver` leaves over them is what is asked.
-- Assumes nothing.
use Rattle.operations.proofs.Pushing.{laid_out}
use Rattle.operations.proofs.curves.added.Goals as goal

pub returns : goal.returns
returns c = rw (laid_out _ c.add-all.ensures c.as_slice.ensures.value c.as_flattened.ensures.value) at c.deliver.ensures
