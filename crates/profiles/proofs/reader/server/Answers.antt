-- `server` meets its contract: the server is read and tested; every list that is lent stays.
-- Assumes nothing.
use Rattle.std.proofs.Common.{refl}
use Rattle.checks.proofs.Numbers.{number_some, refused_as}
use Rattle.profiles.proofs.Readings.{server_file_refused, server_file_read}
use Rattle.profiles.proofs.reader.server.Goals as goal

pub returns-in_err-refusal : goal.returns-in_err-refusal
returns-in_err-refusal c =
    rw (refused_as _ _ c.from_residual.ensures.1) (server_file_refused c.requires c.held-server.ensures c.in_err-refusal.ensures (number_some _))

pub returns : goal.returns
returns c = server_file_read c.requires c.held-server.ensures c.in_ok-refusal.ensures refl c.edition_in.ensures
