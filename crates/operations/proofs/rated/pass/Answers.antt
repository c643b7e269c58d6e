-- An operand is refused, or the answer is; or the curve behind is handed over, with the figures. Assumes nothing.
use Rattle.checks.proofs.Numbers.{number_some, refused_as}
use Rattle.operations.proofs.Sharing.{hop_operand, hop_large, hop_handed}
use Rattle.operations.proofs.Passing.{passed_rated}
use Rattle.operations.proofs.rated.pass.Goals as goal

pub returns-in_err-port : goal.returns-in_err-port
returns-in_err-port c =
    rw (refused_as _ _ c.from_residual.ensures.1) (hop_operand _ _ c.in_err-port.ensures.verdict (number_some _))

pub returns-in_err-count : goal.returns-in_err-count
returns-in_err-count c =
    let port = c.in_ok-port.port in
    rw (refused_as _ _ c.from_residual-in_err-count.ensures.1)
    (hop_large _ _
    (rw (c.in_ok-port.ensures.its_curve, c.in_ok-port.ensures.its_server) at
    (passed_rated _ port.clear port.first_slow c.excess-excess.ensures c.in_err-count.ensures)) (number_some _))

pub returns : goal.returns
returns c =
    let port = c.in_ok-port.port in
    hop_handed _ _
    (rw (c.in_ok-port.ensures.its_curve, c.in_ok-port.ensures.its_server) at
    (passed_rated _ port.clear port.first_slow c.excess-excess.ensures c.in_ok-count.ensures))
    (rw (c.in_ok-port.ensures.its_curve, c.in_ok-port.ensures.its_server) at c.backlog.ensures)
    (rw (c.in_ok-port.ensures.its_curve, c.in_ok-port.ensures.its_server) at c.delay.ensures)
    c.rated.ensures
