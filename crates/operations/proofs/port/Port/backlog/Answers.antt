-- The backlog is the cut by the line R·t + M, read at the latency. Assumes nothing.
use Rattle.operations.proofs.Refusing.{tested_port}
use Rattle.operations.proofs.Bounding.{line_product_fits, line_fits, port_latency, least_backlog}
use Rattle.operations.proofs.port.Port.backlog.Goals as goal

pub overflow_mul-line : goal.overflow_mul-line
overflow_mul-line c = line_product_fits (tested_port _ c.args.self.clear)

pub overflow_add-line : goal.overflow_add-line
overflow_add-line c = line_fits (tested_port _ c.args.self.clear) c.requires

pub least_from-requires-clause-tick_fits : goal.least_from-requires-clause-tick_fits
least_from-requires-clause-tick_fits c = port_latency (tested_port _ c.args.self.clear)

pub returns : goal.returns
returns c =
    rw c.min.ensures
    (least_backlog (tested_port _ c.args.self.clear) c.args.self.first_slow c.requires c.least_from.ensures)
