-- What the contracts of this crate's own functions cite, beside the definitions of the crate meaning.
-- Assumes nothing.
use Rattle.std.specs.Prelude.{◌≡◌, ℕ, ◌^◌, ◌<◌, Result, Ok, Err}
use Rattle.meaning.specs.Server as meant
use Rattle.meaning.specs.Server.{Server, pure_delay, port, no_server, numbers_of}
use Rattle.meaning.specs.Refusal.{Verdict}
use Rattle.meaning.specs.ServerQuestions.{server_lines}
use Rattle.checks.specs.Table.{code_of}
use Rattle.checks.specs.declared.refusal.Refusal.{Refusal}
use Rattle.servers.specs.declared.Kind.{Kind}
use Rattle.servers.specs.declared.Kind.TheVariants.{RateLatency, PureDelay}
use Rattle.servers.specs.declared.Server as held_server
use Rattle.servers.specs.declared.Numbers as held_numbers
use Rattle.servers.specs.declared.ServerAnswer.{ServerAnswer}

-- The server of a kind that code holds, case by case,
abbrev pub of_kind : Kind → Server
of_kind (RateLatency rate latency) = port rate latency
of_kind (PureDelay latency) = pure_delay latency

-- and of the struct that holds it.
abbrev pub server_of : held_server.Server → Server
server_of s = of_kind s.kind

-- A server's numbers.
abbrev pub numbers : ℕ → ℕ → ℕ → meant.Numbers
numbers kind rate latency = record { kind = kind; rate = rate; latency = latency }

-- Those that code holds.
abbrev pub numbers_held : held_numbers.Numbers → meant.Numbers
numbers_held n = numbers n.kind n.rate n.latency

-- A server's latency is in range.
pub record Late (s : Server) : Type 0 where
  pub fits : (numbers_of s).latency < 2 ^ 20

-- The code of a server's test.
pub record Tested (s : Server) (code : ℕ) : Type 0 where
  pub verdict : Verdict (server_lines s) code

-- The server of an answer; of a refusal none.
abbrev pub server_told : Result held_server.Server Refusal → Server
server_told (Ok s) = server_of s
server_told (Err r) = no_server

-- An answer as a code and a server.
pub record Tells (answer : Result held_server.Server Refusal) (told : ServerAnswer) : Type 0 where
  pub code_is : told.code ≡ code_of answer
  pub server_is : server_of told.server ≡ server_told answer

-- A refusal with its number: no server.
pub record Refusing (code : ℕ) (answer : ServerAnswer) : Type 0 where
  pub code_is : answer.code ≡ code
  pub no_server_there : server_of answer.server ≡ no_server
