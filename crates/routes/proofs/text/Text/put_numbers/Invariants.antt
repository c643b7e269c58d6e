-- `put_numbers` puts numbers, a space before each. The loop's invariant: the first n-index of them are put.
-- Assumes nothing.
use Rattle.routes.proofs.Putting.{Counting}
use Rattle.routes.proofs.text.Text.put_numbers.Given as goal

abbrev pub invariant-loop-n : goal.invariant-loop-n
invariant-loop-n l = Counting l.initial.self l.list l.n-index l.self
