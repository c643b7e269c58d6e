-- `refusal` tests the first three lines of a file in the order of their numbers.
-- Assumes nothing.
use Rattle.checks.proofs.Numbers.{number_some, refused_as}
use Rattle.profiles.proofs.Framing.{frame_header}
use Rattle.profiles.proofs.frame.refusal.Goals as goal

pub returns-in_err-header : goal.returns-in_err-header
returns-in_err-header c = rw (refused_as _ _ c.from_residual.ensures.1) (frame_header c.in_err-header.ensures (number_some _))
