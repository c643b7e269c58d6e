-- `report` reads the curve, and goes on from there.
-- Assumes nothing.
use Rattle.std.proofs.Common.{refl}
use Rattle.checks.proofs.Numbers.{number_some}
use Rattle.routes.proofs.Reporting.{first_refused, first_starts}
use Rattle.routes.proofs.report.Goals as goal

pub returns-in-Err : goal.returns-in-Err
returns-in-Err c = first_refused c.in-Err.ensures (number_some _) c.refuse.ensures

pub walk-requires-clause-starts : goal.walk-requires-clause-starts
walk-requires-clause-starts c = first_starts c.in-Ok.ensures refl c.bytes_taken-start.ensures
