-- `tick` tests a tick, by its one line.
-- Assumes nothing.
use Rattle.checks.proofs.Checks.{number_lines}
use Rattle.std.proofs.Common.{rules}
use Rattle.checks.proofs.tick.Goals as goal

pub returns-then-t-ge-TICK_END : goal.returns-then-t-ge-TICK_END
returns-then-t-ge-TICK_END c = search (number_lines, rules)
