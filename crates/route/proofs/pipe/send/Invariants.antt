-- `send` writes only what the text has. The loop's invariant: no more is counted than that.
-- Assumes nothing.
use Rattle.std.proofs.Common.{◌≤◌, length}
use Rattle.route.proofs.pipe.send.Given as goal

abbrev pub invariant-loop : goal.invariant-loop
invariant-loop g l = l.count ≤ length l.text
