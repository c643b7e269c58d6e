-- What comes of the server that the numbers stand for comes of them. Assumes nothing.
use Rattle.std.proofs.Common.{rules}
use Rattle.duchrelin.proofs.InNumbers.{named_written}
use Rattle.duchrelin.proofs.duchrelin_write_server.Goals as goal

pub returns : goal.returns
returns c = search (named_written, c.into.ensures.code_is, c.into.ensures.bytes_is, rules)
