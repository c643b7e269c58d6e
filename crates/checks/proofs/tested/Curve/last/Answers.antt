-- `last` reads the last bucket: there is one, since no line refuses the list.
-- Assumes nothing.
use Rattle.std.proofs.Common.{arith, ◌∙◌}
use Rattle.checks.proofs.Checks.{curve_some}
use Rattle.checks.proofs.Buckets.{last_numbered}
use Rattle.checks.proofs.tested.Curve.last.Goals as goal

pub overflow_sub-count : goal.overflow_sub-count
overflow_sub-count c = omega (arith, c.count.ensures, curve_some _ c.args.self.clear)

pub returns : goal.returns
returns c = c.bucket.ensures ∙ last_numbered _ _ (omega (arith, c.count.ensures, curve_some _ c.args.self.clear))
