-- `hand_over` copies bytes to the start of a buffer, or finds it too short.
-- Assumes nothing.
use Rattle.profiles.proofs.Handing.{hands}
use Rattle.std.proofs.Common.{rules}
use Rattle.profiles.proofs.hand_over.Goals as goal

pub returns-then-buffer-n : goal.returns-then-buffer-n
returns-then-buffer-n c = search (hands, rules)

pub returns : goal.returns
returns c = search (hands, rules)
