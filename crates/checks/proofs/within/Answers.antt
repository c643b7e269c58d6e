-- `within` answers no at the first bucket that is out of range, and yes behind the last.
-- Assumes nothing.
use Rattle.checks.proofs.Ranges.{ranging}
use Rattle.std.proofs.Common.{rules}
use Rattle.checks.proofs.within.Goals as goal

pub returns-then-rates-rate : goal.returns-then-rates-rate
returns-then-rates-rate c = search (ranging, rules)

pub loop-rate-preserved : goal.loop-rate-preserved
loop-rate-preserved c = search (ranging, rules)

pub returns : goal.returns
returns c = search (ranging, rules)
