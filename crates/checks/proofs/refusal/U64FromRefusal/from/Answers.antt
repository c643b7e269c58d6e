-- Each refusal has its number in the table. Assumes nothing.
use Rattle.checks.proofs.Numbers.{number_is}
use Rattle.checks.proofs.refusal.U64FromRefusal.from.Goals as goal

pub returns : goal.returns
returns c = number_is c.args.refusal
