-- `join_to` joins a server with those before it.
-- Assumes nothing.
use Rattle.routes.proofs.Hops.{join_laws}
use Rattle.std.proofs.Common.{rules}
use Rattle.routes.proofs.walk.join_to.Goals as goal

pub returns-then-passed-eq0 : goal.returns-then-passed-eq0
returns-then-passed-eq0 c = search (join_laws, rules)

pub returns : goal.returns
returns c = search (join_laws, rules)
