-- `hop_at` reads a server and passes the curve through it.
-- Assumes nothing.
use Rattle.checks.proofs.Numbers.{number_some, refused_as}
use Rattle.routes.proofs.Hops.{hop_unread, hop_passed}
use Rattle.routes.proofs.walk.hop_at.Goals as goal

pub returns-in_err-server : goal.returns-in_err-server
returns-in_err-server c =
    rw (refused_as _ _ c.from_residual.ensures.1) (hop_unread c.in_err-server.ensures (number_some _) c.requires.room)

pub returns : goal.returns
returns c =
    hop_passed c.in_ok-server.ensures _ _ _ c.whole-whole.ensures.start c.whole-whole.ensures.end
    c.requires.room c.pass.result c.pass.ensures
