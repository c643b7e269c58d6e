-- `route` hands the text over.
-- Assumes nothing.
use Rattle.routes.proofs.Reporting.{handed_text}
use Rattle.std.proofs.Common.{rules}
use Rattle.routes.proofs.route.Goals as goal

pub returns : goal.returns
returns c = search (handed_text, rules)
