-- `both` gives the refusal that wins: each way out is one case of `earlier`.
-- Assumes nothing.
use Rattle.checks.proofs.Numbers.{two_tests}
use Rattle.std.proofs.Common.{rules}
use Rattle.checks.proofs.both.Goals as goal

pub returns-in-Ok-Ok-clause-code : goal.returns-in-Ok-Ok-clause-code
returns-in-Ok-Ok-clause-code g c = search (two_tests, rules)

pub returns-in-Ok-Err-clause-code : goal.returns-in-Ok-Err-clause-code
returns-in-Ok-Err-clause-code g c = search (two_tests, rules)

pub returns-in-Err-Err-clause-code : goal.returns-in-Err-Err-clause-code
returns-in-Err-Err-clause-code g c = search (two_tests, rules)

pub returns-in-Err-Ok-clause-code : goal.returns-in-Err-Ok-clause-code
returns-in-Err-Ok-clause-code g c = search (two_tests, rules)
