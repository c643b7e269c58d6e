-- `count_in` reads the six bits behind the kind, if the input has them.
-- Assumes nothing.
use Rattle.profiles.proofs.Header.{heading}
use Rattle.std.proofs.Common.{rules}
use Rattle.profiles.proofs.count_in.Goals as goal

pub returns-then-input-lt2 : goal.returns-then-input-lt2
returns-then-input-lt2 c = search (heading, rules)

pub overflow_add-result : goal.overflow_add-result
overflow_add-result c = search (heading, rules)

pub returns : goal.returns
returns c = search (heading, rules)
