-- `read` meets its contract: the frame is refused, or a server is read and the table stays, or a curve is read into the part.
-- Assumes nothing.
use Rattle.std.proofs.Common.{refl}
use Rattle.checks.proofs.Numbers.{number_some, refused_as}
use Rattle.profiles.proofs.Readings.{frame_refused}
use Rattle.profiles.proofs.read.Goals as goal

pub returns-in_err-refusal : goal.returns-in_err-refusal
returns-in_err-refusal c =
    rw (refused_as _ _ c.from_residual.ensures.1) (frame_refused c.in_err-refusal.ensures (number_some _) refl)

pub returns-then-kind_in-ne-CURVE : goal.returns-then-kind_in-ne-CURVE
returns-then-kind_in-ne-CURVE c = c.server.ensures.outcome _ _ _
