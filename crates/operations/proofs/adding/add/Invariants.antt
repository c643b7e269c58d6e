-- `add` pushes the sum of two curves, up to its 65th bucket. The loop's invariant: the buckets counted are pushed, and those left are the
-- sum of what is left of the two curves, from the buckets at hand on.
-- Assumes nothing.
use Rattle.checks.specs.Held.{curve_held}
use Rattle.operations.proofs.Summing.{Summing}
use Rattle.operations.proofs.adding.add.Given as goal

abbrev pub invariant-loop : goal.invariant-loop
invariant-loop l = Summing (curve_held l.f) (curve_held l.g) l.counter l.i l.j l.all.items
