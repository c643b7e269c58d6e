-- What comes of a hop, as code answers it.
-- Assumes nothing.
use Rattle.std.specs.Prelude.{List, ℕ, Result, Ok, Err}
use Rattle.meaning.specs.Refusal.{number}
use Rattle.meaning.specs.Server.{Server, no_server}
use Rattle.checks.specs.Table.{line_of}
use Rattle.checks.specs.declared.refusal.Refusal.{Refusal}
use Rattle.servers.specs.Cited.{server_of}
use Rattle.operations.specs.declared.hops.Hop.{Hop}
use Rattle.routes.specs.Cited.{HopAt, Stepped}
use Rattle.routes.specs.declared.walk.Step.{Step}

-- The hop at a server: for an answer code 0, the count of buckets, backlog, delay and the server; for a refusal its number.
abbrev pub HopTold : List ℕ → List ℕ → List ℕ → Result Hop Refusal → Type 0
HopTold rest f after (Ok hop) = HopAt rest f after 0 hop.count hop.backlog hop.delay (server_of hop.server)
HopTold rest f after (Err r) = HopAt rest f after (number (line_of r)) 0 0 0 no_server

-- The same where it is joined with the servers before it.
abbrev pub StepTold : List ℕ → ℕ → Server → List ℕ → List ℕ → Result Step Refusal → Type 0
StepTold f passed before rest after (Ok step) =
    Stepped f passed before rest after 0 step.count step.backlog step.delay (server_of step.joined)
StepTold f passed before rest after (Err r) = Stepped f passed before rest after (number (line_of r)) 0 0 0 no_server
