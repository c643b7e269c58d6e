-- What comes of a hop, as code answers it.
-- Assumes nothing.
use Rattle.std.specs.Prelude.{List, ℕ, Result, Ok, Err}
use Rattle.meaning.specs.Refusal.{number}
use Rattle.meaning.specs.Server.{Server, no_server}
use Rattle.meaning.specs.ServerQuestions.{HopPartOutcome}
use Rattle.checks.specs.Table.{line_of}
use Rattle.checks.specs.declared.refusal.Refusal.{Refusal}
use Rattle.servers.specs.Cited.{server_of}
use Rattle.settle.specs.declared.part.Part.{Part}
use Rattle.operations.specs.declared.hops.Hop.{Hop}

-- The outcome, with the table before and after: for an answer code 0, the count of buckets, backlog, delay and the server passed; for a
-- refusal its number, no count, no figures and no server.
abbrev pub HopTold : List ℕ → Server → Part → List ℕ → List ℕ → Result Hop Refusal → Type 0
HopTold f s part before after (Ok hop) =
    HopPartOutcome f s part.at part.room before after 0 hop.count hop.backlog hop.delay (server_of hop.server)
HopTold f s part before after (Err r) = HopPartOutcome f s part.at part.room before after (number (line_of r)) 0 0 0 no_server
