-- The operations over servers, each as a question over the lent numbers.
-- Assumes nothing.
use Rattle.std.specs.Prelude.{◌≡◌, ◌≢◌, List, [], ℕ, ◌^◌, ◌≤◌, ◌<◌}
use Rattle.meaning.specs.Curve.{Bucket, curve_of}
use Rattle.meaning.specs.Refusal.{RANGE, UNBOUNDED, LARGE, Lines, ◌when◌, ◌or◌, Clear, Refused, curve_lines, Question, Outcome, PartOutcome, FigureOutcome}
use Rattle.meaning.specs.Server.{RateLatency, Server, rated, pure_delay, no_server, Numbers, numbers_of, server_named, join, Behind, Backlog, Delay, Residual, last}

-- A rate-latency server's ranges: some rate, below 2^20, and a latency below 2^20.
pub record RatedInRange (s : RateLatency) : Type 0 where
  pub rate_some : 1 ≤ s.rate
  pub rate_fits : s.rate < 2 ^ 20
  pub latency_fits : s.latency < 2 ^ 20

-- A server's ranges: a pure delay has a latency below 2^20.
abbrev pub ServerInRange : Server → Type 0
ServerInRange (rated s) = RatedInRange s
ServerInRange (pure_delay latency) = latency < 2 ^ 20

-- A server: a rate or latency is outside its range.
abbrev pub server_lines : Server → Lines
server_lines s = RANGE when (ServerInRange s → ⊥)

-- A curve outruns a server: its last rate is above R. A pure delay is never outrun.
abbrev pub Outruns : List Bucket → Server → Type 0
Outruns f (rated s) = s.rate < (last f).rate
Outruns f (pure_delay latency) = ⊥

-- A curve and a server; the curve outruns the server.
abbrev pub port_lines : List ℕ → Server → Lines
port_lines f s = curve_lines f or server_lines s or UNBOUNDED when (Outruns (curve_of f) s)

-- behind: the curve behind a server.
unfoldable pub passing : List ℕ → Server → Question
passing f s = record { operands = port_lines f s; Answer = Behind (curve_of f) s }

-- backlog of a curve and a server.
unfoldable pub BacklogOutcome : List ℕ → Server → ℕ → ℕ → Type 0
BacklogOutcome f s = FigureOutcome (port_lines f s) (Backlog (curve_of f) s)

-- delay of a curve and a server.
unfoldable pub DelayOutcome : List ℕ → Server → ℕ → ℕ → Type 0
DelayOutcome f s = FigureOutcome (port_lines f s) (Delay (curve_of f) s)

-- What a hop of a route reports beside its curve: where the code is 0, backlog, delay and the server (a hop's record holds its
-- server); no figures and no server where it is not.
pub record HopFigures (f : List ℕ) (s : Server) (code backlog delay : ℕ) (through : Server) : Type 0 where
  pub backlog_is : code ≡ 0 → Backlog (curve_of f) s backlog
  pub delay_is : code ≡ 0 → Delay (curve_of f) s delay
  pub server_is : code ≡ 0 → through ≡ s
  pub no_backlog : code ≢ 0 → backlog ≡ 0
  pub no_delay : code ≢ 0 → delay ≡ 0
  pub no_server_there : code ≢ 0 → through ≡ no_server

-- A hop: behind, backlog and delay asked together. It is refused whole: its code is behind's, so a curve behind that is LARGE, or
-- for which there is no ROOM, leaves no figures either.
pub record HopOutcome (f : List ℕ) (s : Server) (before after : List ℕ) (code count backlog delay : ℕ) (through : Server) : Type 0 where
  pub curve : Outcome (passing f s) before after code count
  pub figures : HopFigures f s code backlog delay through

-- The same with a part of a larger table for the output list.
pub record HopPartOutcome
    (f : List ℕ) (s : Server) (at room : ℕ) (before after : List ℕ) (code count backlog delay : ℕ) (through : Server)
    : Type 0
  where
    pub curve : PartOutcome (passing f s) at room before after code count
    pub figures : HopFigures f s code backlog delay through

-- The lines of a question that a server answers: LARGE where the exact answer is out of range.
abbrev pub with_large : Lines → (Server → Type 0) → Lines
with_large operands Answer = operands or LARGE when ((exact : Server) × Answer exact × (ServerInRange exact → ⊥))

-- What comes of it: a refusal, with no server, or code 0 and the server.
pub data ServerOutcome (operands : Lines) (Answer : Server → Type 0) (code : ℕ) (s : Server) : Type 0 where
  refused :
      Refused (with_large operands Answer) [] [] code 0 → s ≡ no_server → ServerOutcome operands Answer code s
  answered : Clear (with_large operands Answer) → code ≡ 0 → Answer s → ServerOutcome operands Answer code s

-- join: of two servers comes the one joined server.
unfoldable pub JoinOutcome : Server → Server → ℕ → Server → Type 0
JoinOutcome s next = ServerOutcome (server_lines s or server_lines next) (λ joined. joined ≡ join s next)

-- A server shared with a cross curve: UNBOUNDED where its last rate is R or more; a pure delay, which has no rate to share, is RANGE.
abbrev pub shared_lines : List Bucket → Server → Lines
shared_lines cross (rated s) = UNBOUNDED when (s.rate ≤ (last cross).rate)
shared_lines cross (pure_delay latency) = RANGE when Unit {0}

-- A cross curve and a server.
abbrev pub cross_lines : List ℕ → Server → Lines
cross_lines cross s = curve_lines cross or server_lines s or shared_lines (curve_of cross) s

-- residual: the server left beside a cross curve.
unfoldable pub ResidualOutcome : List ℕ → Server → ℕ → Server → Type 0
ResidualOutcome cross s = ServerOutcome (cross_lines cross s) (Residual (curve_of cross) s)

-- ---- A server in numbers, as the C calls have it: what is asked, of the server that the numbers stand for; what comes of it, in the
-- numbers of the server that is answered.

-- join in numbers.
pub record JoinNumbers (s next : Numbers) (code : ℕ) (answer : Numbers) : Type 0 where
  pub joined : Server
  pub outcome : JoinOutcome (server_named s) (server_named next) code joined
  pub numbers_are : answer ≡ numbers_of joined

-- residual in numbers.
pub record ResidualNumbers (cross : List ℕ) (s : Numbers) (code : ℕ) (answer : Numbers) : Type 0 where
  pub left : Server
  pub outcome : ResidualOutcome cross (server_named s) code left
  pub numbers_are : answer ≡ numbers_of left
