-- An operand is refused, or the backlog is answered. Assumes nothing.
use Rattle.std.proofs.Common.{refl}
use Rattle.checks.proofs.Numbers.{number_some, refused_as}
use Rattle.operations.proofs.Sharing.{backlog_refused, backlog_answered}
use Rattle.operations.proofs.rated.backlog.Goals as goal

pub returns-in_err-port : goal.returns-in_err-port
returns-in_err-port c =
    rw (refused_as _ _ c.from_residual.ensures.1) (backlog_refused _ _ c.in_err-port.ensures.verdict (number_some _))

pub returns : goal.returns
returns c =
    backlog_answered _ _ c.in_ok-port.ensures.verdict refl
    (rw (c.in_ok-port.ensures.its_curve, c.in_ok-port.ensures.its_server) at c.backlog.ensures)
