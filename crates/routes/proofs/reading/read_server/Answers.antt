-- `read_server` reads the server that an input begins with.
-- Assumes nothing.
use Rattle.checks.proofs.Numbers.{refused_as}
use Rattle.profiles.proofs.Readings.{read_whole}
use Rattle.routes.proofs.Due.{server_missing, server_read, no_curve_read}
use Rattle.routes.proofs.reading.read_server.Goals as goal

pub returns-then-kind_in-eq-CURVE : goal.returns-then-kind_in-eq-CURVE
returns-then-kind_in-eq-CURVE c = server_missing c.kind_in.ensures c.if-kind_in-eq-CURVE.true

pub returns-in_err-server : goal.returns-in_err-server
returns-in_err-server c =
    rw (refused_as _ _ c.from_residual.ensures.1)
    (server_read c.kind_in.ensures c.first_end-end.ensures c.if-kind_in-eq-CURVE.false (read_whole _ c.in_err-server.ensures))

pub unreachable-requires : goal.unreachable-requires
unreachable-requires c =
    no_curve_read c.kind_in.ensures c.first_end-end.ensures c.if-kind_in-eq-CURVE.false
    (read_whole _ (rw c.in-Curve.is at c.in_ok-server.ensures))

pub returns : goal.returns
returns c =
    server_read c.kind_in.ensures c.first_end-end.ensures c.if-kind_in-eq-CURVE.false
    (read_whole _ (rw c.in-Server.is at c.in_ok-server.ensures))
