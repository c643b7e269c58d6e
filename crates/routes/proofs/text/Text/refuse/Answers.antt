-- `refuse` puts the line of a refusal.
-- Assumes nothing.
use Rattle.routes.proofs.Putting.{refusing, refused_put}
use Rattle.std.proofs.Common.{rules}
use Rattle.routes.proofs.text.Text.refuse.Goals as goal

pub put_number-requires : goal.put_number-requires
put_number-requires c = search (refusing, rules)

pub put_line-requires : goal.put_line-requires
put_line-requires c = search (refusing, rules)

pub returns : goal.returns
returns c =
    refused_put (rw c.clear.ensures at c.put.ensures) c.into.result c.put_number.ensures c.args.profile c.into.ensures
    c.put_line.ensures
