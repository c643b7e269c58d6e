-- `even` tests that a list is not empty and has no half of a bucket.
-- Assumes nothing.
use Rattle.checks.proofs.Checks.{even_empty, even_odd}
use Rattle.checks.proofs.even.Goals as goal

pub returns-then-n-eq0 : goal.returns-then-n-eq0
returns-then-n-eq0 c = even_empty _ c.if-n-eq0.true

pub returns-then-n-eq1 : goal.returns-then-n-eq1
returns-then-n-eq1 c = even_odd _ c.if-n-eq1.true
