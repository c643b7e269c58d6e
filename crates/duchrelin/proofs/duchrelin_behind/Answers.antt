-- All of a list is a part of it, and the server is the one that the numbers stand for. Assumes nothing.
use Rattle.std.proofs.Common.{rules}
use Rattle.duchrelin.proofs.InNumbers.{whole_behind}
use Rattle.duchrelin.proofs.duchrelin_behind.Goals as goal

pub returns : goal.returns
returns c = search (whole_behind, c.into.ensures.code_is, c.into.ensures.count_is, rules)
