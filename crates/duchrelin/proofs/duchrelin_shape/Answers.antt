-- All of a list is a part of it. Assumes nothing.
use Rattle.std.proofs.Common.{rules}
use Rattle.duchrelin.proofs.InNumbers.{whole_answer}
use Rattle.duchrelin.proofs.duchrelin_shape.Goals as goal

pub returns : goal.returns
returns c = search (whole_answer, c.into.ensures.code_is, c.into.ensures.count_is, rules)
