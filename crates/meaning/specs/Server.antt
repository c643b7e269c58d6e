-- Servers of both kinds, and what they do to a curve: service, join, behind, backlog, delay, residual, as min-plus has them at whole
-- ticks.
-- (docs/SCOPE.md, "Servers", "Questions and answers".)
-- Assumes nothing.
use Rattle.std.specs.Prelude.{◌≡◌, cond, List, [], ◌∷◌, ◌++◌, map, ℕ, ◌+◌, ◌-◌, ◌*◌, ◌^◌, ◌≤◌, ◌<◌, min, leb, eqb}
use Rattle.meaning.specs.Curve.{Bucket, NormalOf, reads}

infix 50 ◌within◌ ◌fill◌
infix 60 ◌plus◌
-- A rate-latency server: R bits a tick, once T ticks are over.
pub record RateLatency : Type 0 where
  pub rate : ℕ
  pub latency : ℕ

-- A server is rate-latency, with its two numbers, or a pure delay, with one: it has no rate, only a latency T.
pub data Server : Type 0 where
  rated : RateLatency → Server
  pure_delay : ℕ → Server

-- The rate-latency server of a rate and a latency.
abbrev pub port : ℕ → ℕ → Server
port rate latency = rated (record { rate = rate; latency = latency })

-- The server of a refusal is rate-latency (0, 0).
abbrev pub no_server : Server
no_server = port 0 0

-- The kinds by their numbers: of a rate-latency server,
abbrev pub rate_latency_kind : ℕ
rate_latency_kind = 2

-- and of a pure delay.
abbrev pub pure_delay_kind : ℕ
pure_delay_kind = 3

-- A server as a caller passes it and gets it: its kind, its rate and its latency.
pub record Numbers : Type 0 where
  pub kind : ℕ
  pub rate : ℕ
  pub latency : ℕ

-- The numbers of a server. A pure delay has 0 for its rate.
abbrev pub numbers_of : Server → Numbers
numbers_of (rated s) = record { kind = rate_latency_kind; rate = s.rate; latency = s.latency }
numbers_of (pure_delay latency) = record { kind = pure_delay_kind; rate = 0; latency = latency }

-- The server that three numbers stand for. Numbers that are no server's stand for one that is out of its range, and so are RANGE:
-- those of another kind for rate 0, a pure delay that is handed a rate for latency 2^20.
unfoldable pub server_named : Numbers → Server
server_named n =
    cond (eqb n.kind rate_latency_kind) (port n.rate n.latency)
    (cond (eqb n.kind pure_delay_kind) (pure_delay (cond (eqb n.rate 0) n.latency (2 ^ 20))) no_server)

-- The instants that count: whole ticks.
abbrev pub Instant : Type 0
Instant = ℕ

-- What can have been served: so many bits, or without limit.
pub data Amount : Type 0 where
  up_to : ℕ → Amount
  no_limit : Amount

-- So many bits are within an amount.
abbrev pub ◌within◌ : ℕ → Amount → Type 0
n within up_to m = n ≤ m
n within no_limit = Unit {0}

-- So many bits are all of an amount.
abbrev pub ◌fill◌ : ℕ → Amount → Type 0
n fill up_to m = n ≡ m
n fill no_limit = ⊥

-- An amount and n bits more.
abbrev pub ◌plus◌ : Amount → ℕ → Amount
up_to m plus n = up_to (m + n)
no_limit plus n = no_limit

-- What a rate-latency server has served by an instant. (A difference of numbers is 0 where it would be negative: so nothing up to T.)
unfoldable pub by_rate : RateLatency → Instant → ℕ
by_rate s t = s.rate * (t - s.latency)

-- What a server has served by an instant. A pure delay: nothing up to T, and without limit after.
abbrev pub served : Server → Instant → Amount
served (rated s) t = up_to (by_rate s t)
served (pure_delay latency) t = cond (leb t latency) (up_to 0) no_limit

-- n is the most by which a is ahead of b at any instant.
pub record GreatestGap (a : Instant → ℕ) (b : Instant → Amount) (n : ℕ) : Type 0 where
  pub at : Instant
  pub reached : a at fill (b at plus n)
  pub greatest : (u : Instant) → a u within (b u plus n)

-- n is the smallest number of which P holds.
pub record Smallest (P : ℕ → Type 0) (n : ℕ) : Type 0 where
  pub suffices : P n
  pub smallest : (m : ℕ) → P m → n ≤ m

-- join of two rates: the slower of the two, both latencies.
unfoldable pub join_rated : RateLatency → RateLatency → RateLatency
join_rated s next = record { rate = min s.rate next.rate; latency = s.latency + next.latency }

-- join: a pure delay adds its latency, and two of them make one.
unfoldable pub join : Server → Server → Server
join (rated s) (rated next) = rated (join_rated s next)
join (rated s) (pure_delay latency) = port s.rate (s.latency + latency)
join (pure_delay latency) (rated s) = port s.rate (latency + s.latency)
join (pure_delay first) (pure_delay next) = pure_delay (first + next)

-- M: the most by which a curve is ahead of R bits a tick.
abbrev pub Excess : List Bucket → ℕ → ℕ → Type 0
Excess f rate = GreatestGap (reads f) (λ u. up_to (rate * u))

-- A bucket read T ticks later: its burst grows by r·T.
unfoldable pub later : ℕ → Bucket → Bucket
later latency k = record { rate = k.rate; burst = k.burst + k.rate * latency }

-- The buckets that are no faster than the server, each read T ticks later.
unfoldable pub slower : RateLatency → List Bucket → List Bucket
unfolding later
slower s [] = []
slower s (k ∷ f) = cond (leb k.rate s.rate) (later s.latency k ∷ slower s f) (slower s f)

-- behind a rate-latency server: those, and the bucket (R, R·T + M), in normal form.
pub record BehindRated (f : List Bucket) (s : RateLatency) (g : List Bucket) : Type 0 where
  pub m : ℕ
  pub excess : Excess f s.rate m
  pub normal : NormalOf (slower s f ++ record { rate = s.rate; burst = s.rate * s.latency + m } ∷ []) g

-- behind. Behind a pure delay each bucket is read T ticks later.
pub data Behind (f : List Bucket) : Server → List Bucket → Type 0 where
  of_rate : {s : RateLatency} {g : List Bucket} → BehindRated f s g → Behind f (rated s) g
  of_delay : {latency : ℕ} {g : List Bucket} → NormalOf (map (later latency) f) g → Behind f (pure_delay latency) g

-- backlog: the most by which a curve is ahead of what is served.
abbrev pub Backlog : List Bucket → Server → ℕ → Type 0
Backlog f s = GreatestGap (reads f) (served s)

-- d suffices: whatever the instant, all that has come by it is served d later.
abbrev pub Suffices : List Bucket → Server → ℕ → Type 0
Suffices f s d = (t : Instant) → reads f t within served s (t + d)

-- The delay of a rate-latency server: the least d that suffices.
abbrev pub DelayRated : List Bucket → RateLatency → ℕ → Type 0
DelayRated f s = Smallest (Suffices f (rated s))

-- The delay of a pure delay: its T, and 0 for a curve that carries nothing.
pub record HeldFor (f : List Bucket) (latency d : ℕ) : Type 0 where
  pub something : (t : Instant) → 0 < reads f t → d ≡ latency
  pub nothing : ((t : Instant) → reads f t ≡ 0) → d ≡ 0

-- delay. Of a pure delay, and of no other, it is the horizontal distance between curve and service, an infimum: every larger number
-- suffices, and it may itself be a tick short. (How it stands to what is served say the laws `held_suffices` and `held_needed`, and
-- over fractions `held_infimum`.)
pub data Delay (f : List Bucket) : Server → ℕ → Type 0 where
  of_rate : {s : RateLatency} {d : ℕ} → DelayRated f s d → Delay f (rated s) d
  of_delay : {latency d : ℕ} → HeldFor f latency d → Delay f (pure_delay latency) d

-- The last bucket of a curve. (No curve is empty; an empty list has (0, 0).)
unfoldable pub last : List Bucket → Bucket
last [] = record { rate = 0; burst = 0 }
last (k ∷ []) = k
last (k ∷ j ∷ f) = last (j ∷ f)

-- residual: what the cross curve's last bucket (r, b) leaves: R-r, after T and so many ticks as R takes for b, rounded up.
pub record ResidualRated (cross : List Bucket) (s left : RateLatency) : Type 0 where
  pub rate_is : left.rate ≡ s.rate - (last cross).rate
  pub quotient : ℕ
  pub is_rounded_up : Smallest (λ x. (last cross).burst ≤ s.rate * x) quotient
  pub latency_is : left.latency ≡ s.latency + quotient

-- It is asked of a rate-latency server, and one is left.
abbrev pub Residual : List Bucket → Server → Server → Type 0
Residual cross (rated s) (rated left) = ResidualRated cross s left
Residual cross (rated s) (pure_delay latency) = ⊥
Residual cross (pure_delay latency) left = ⊥
