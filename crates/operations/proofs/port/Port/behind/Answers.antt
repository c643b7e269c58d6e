-- The raw buckets stand in local memory, and what `settle` leaves over them is what is asked. Assumes nothing.
use Rattle.operations.proofs.Refusing.{tested_port}
use Rattle.operations.proofs.Pushing.{laid_out}
use Rattle.operations.proofs.Bounding.{line_product_fits, line_fits}
use Rattle.operations.proofs.port.Port.behind.Goals as goal

pub overflow_mul-line : goal.overflow_mul-line
overflow_mul-line c = line_product_fits (tested_port _ c.args.self.clear)

pub overflow_add-line : goal.overflow_add-line
overflow_add-line c = line_fits (tested_port _ c.args.self.clear) c.requires

pub line_and_later-raw-requires-clause-latency_fits : goal.line_and_later-raw-requires-clause-latency_fits
line_and_later-raw-requires-clause-latency_fits c = (tested_port _ c.args.self.clear).server.latency_fits

pub returns : goal.returns
returns c =
    rw (laid_out _ c.line_and_later-raw.ensures c.as_slice.ensures.value c.as_flattened.ensures.value) at c.settle.ensures
