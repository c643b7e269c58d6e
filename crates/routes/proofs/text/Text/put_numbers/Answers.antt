-- `put_numbers` puts each number in turn, a space before it.
-- Assumes nothing.
use Rattle.routes.proofs.Putting.{counting}
use Rattle.std.proofs.Common.{rules}
use Rattle.routes.proofs.text.Text.put_numbers.Goals as goal

pub loop-n-init : goal.loop-n-init
loop-n-init c = search (counting, rules)

pub put_number-requires : goal.put_number-requires
put_number-requires c = search (counting, rules)

pub loop-n-preserved : goal.loop-n-preserved
loop-n-preserved c = search (counting, rules)
