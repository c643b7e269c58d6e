-- `line_and_later` pushes the raw buckets of a curve behind a server. The loop's invariant: those before k are pushed.
-- Assumes nothing.
use Rattle.checks.specs.Held.{curve_held}
use Rattle.operations.proofs.Lining.{Lining}
use Rattle.operations.proofs.gather.line_and_later.Given as goal

abbrev pub invariant-loop-k : goal.invariant-loop-k
invariant-loop-k l = Lining (curve_held l.curve) l.first l.fn.line.rate l.fn.line.burst l.latency l.k l.raw.items
