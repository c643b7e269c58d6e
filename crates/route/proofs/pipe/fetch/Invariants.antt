-- `fetch` counts no more bytes than the buffer has. The loop's invariant: the buffer is as long as it was, and the count within it.
-- Assumes nothing.
use Rattle.std.proofs.Common.{◌≡◌, ◌≤◌, length}
use Rattle.route.proofs.pipe.fetch.Given as goal

abbrev pub invariant-loop : goal.invariant-loop
invariant-loop l = (length l.buffer ≡ length l.initial.buffer) × (l.count ≤ length l.buffer)
