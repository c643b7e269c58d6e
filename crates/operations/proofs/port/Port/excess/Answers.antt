-- A server's rate is below 2^20. Assumes nothing.
use Rattle.operations.proofs.Refusing.{tested_port}
use Rattle.operations.proofs.port.Port.excess.Goals as goal

pub excess-requires-clause-rate_fits : goal.excess-requires-clause-rate_fits
excess-requires-clause-rate_fits c = (tested_port _ c.args.self.clear).server.rate_fits
