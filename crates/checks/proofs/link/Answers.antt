-- `link` tests a link, by its one line.
-- Assumes nothing.
use Rattle.checks.proofs.Checks.{number_lines}
use Rattle.std.proofs.Common.{rules}
use Rattle.checks.proofs.link.Goals as goal

pub returns-then-rate-eq0 : goal.returns-then-rate-eq0
returns-then-rate-eq0 c = search (number_lines, rules)
