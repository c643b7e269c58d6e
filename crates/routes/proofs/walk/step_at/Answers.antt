-- `step_at` is a hop of the route: refused before it is joined, or as joining decides.
-- Assumes nothing.
use Rattle.std.proofs.Common.{refl}
use Rattle.checks.proofs.Numbers.{number_some, refused_as}
use Rattle.routes.proofs.Hops.{step_refused, step_unjoined, step_joined}
use Rattle.routes.proofs.walk.step_at.Goals as goal

pub returns-in_err-hop : goal.returns-in_err-hop
returns-in_err-hop c =
    rw (refused_as _ _ c.from_residual.ensures.1) (step_refused _ _ c.requires.stepping c.in_err-hop.ensures (number_some _))

pub returns-in_err-all : goal.returns-in_err-all
returns-in_err-all c =
    rw (refused_as _ _ c.from_residual-in_err-all.ensures.1) (step_unjoined _ _ c.requires.stepping c.in_ok-hop.ensures c.in_err-all.ensures (number_some _))

pub returns : goal.returns
returns c = step_joined _ _ c.requires.stepping c.in_ok-hop.ensures refl c.in_ok-all.ensures
