-- Pure delays, in what a caller has in hand: the figures as the only outcomes; the delay is the latency, where anything comes; and the
-- wrong answers that the contracts shut out.
-- Assumes nothing.
use mathlib.Core.Path.{◌≡◌, refl, ap}
use mathlib.Core.Logic.{inl, inr}
use mathlib.Core.List.{List, [], ◌∷◌}
use Prim.Native.Nat.{ℕ, ◌+◌, ◌-◌, ◌*◌, ◌^◌, ◌≤◌, ◌<◌}
use native.Mathlib.Omega.{arith}
use lib.Dec.{lit≤}
use Rattle.meaning.specs.Curve.{buckets, curve_of, list_of, reads}
use Rattle.meaning.specs.Server.{RateLatency, Server, rated, pure_delay, no_server, numbers_of, by_rate, join, last, port}
use Rattle.meaning.specs.Refusal.{LARGE, number, accepted}
use Rattle.meaning.specs.ServerQuestions.{passing, BacklogOutcome, DelayOutcome, ServerOutcome, JoinOutcome, ResidualOutcome}
use Rattle.meaning.specs.Figures.{C}
use Rattle.meaning.proofs.Order.{le_or_lt}
use Rattle.meaning.proofs.Figures.{table}
use Rattle.meaning.proofs.Curve.Reads.{reads_rise}
use Rattle.meaning.proofs.Server.PureDelay.{delay_late, delay_past, PastBy, Infimum, held_infimum}
use Rattle.meaning.proofs.Server.BothKinds.{delay_held, delay_rate}
use Rattle.meaning.proofs.Outcome.Outcomes.{clear_or, line_hit, refused_then, refusal}
use Rattle.meaning.proofs.Outcome.Answers.{OnlyAnswer, figure_answered}
use Rattle.meaning.proofs.Outcome.Known.{c_clear}
use Rattle.meaning.proofs.Outcome.Demands.{one_join, port_form, answered_join, residual_of_delay}
use Rattle.meaning.proofs.Outcome.KnownServers.{OnlyFigure, OnlyServer, only_behind, only_backlog, only_delay, join_answered, c_form, c_fits, one, one_form}

-- ---- The figures, as the only outcomes.

-- C behind a pure delay of 4 is (3,32),
pub delayed_outcome : OnlyAnswer (passing (list_of C) (pure_delay 4)) (list_of (buckets (3 ∷ 32 ∷ []))) 1
unfolding buckets
delayed_outcome = only_behind (pure_delay 4) c_form c_fits (lit≤ tt) tt table.delayed.0 (omega arith)

-- its backlog there 32,
pub delayed_backlog : OnlyFigure (BacklogOutcome (list_of C) (pure_delay 4)) 32
unfolding buckets
delayed_backlog = only_backlog (pure_delay 4) c_form c_fits (lit≤ tt) tt table.delayed.1

-- and its delay 4
pub delayed_delay : OnlyFigure (DelayOutcome (list_of C) (pure_delay 4)) 4
unfolding buckets
delayed_delay = only_delay (pure_delay 4) c_form c_fits (lit≤ tt) tt table.delayed.2

-- the port (6,1) and a pure delay of 3 are joined to (6,4),
pub rate_then_delay : OnlyServer (JoinOutcome (port 6 1) (pure_delay 3)) 0 (port 6 4)
unfolding join
rate_then_delay code s o =
    one_join (port 6 1) (pure_delay 3) o (join_answered (port 6 1) (pure_delay 3) (omega arith) (lit≤ tt) (omega arith))

-- either way round,
pub delay_then_rate : OnlyServer (JoinOutcome (pure_delay 3) (port 6 1)) 0 (port 6 4)
unfolding join
delay_then_rate code s o =
    one_join (pure_delay 3) (port 6 1) o (join_answered (pure_delay 3) (port 6 1) (lit≤ tt) (omega arith) (omega arith))

-- pure delays of 2 and 3 to one of 5,
pub delay_then_delay : OnlyServer (JoinOutcome (pure_delay 2) (pure_delay 3)) 0 (pure_delay 5)
unfolding join
delay_then_delay code s o =
    one_join (pure_delay 2) (pure_delay 3) o (join_answered (pure_delay 2) (pure_delay 3) (lit≤ tt) (lit≤ tt) (lit≤ tt))

-- and of 2^20-1 and 1 to none: 9
pub delays_too_long : OnlyServer (JoinOutcome (pure_delay (2 ^ 20 - 1)) (pure_delay 1)) 9 no_server
unfolding JoinOutcome join number
delays_too_long code s o =
    one_join (pure_delay (2 ^ 20 - 1)) (pure_delay 1) o
    (ServerOutcome.refused
    (refusal [] (lit≤ tt)
    (refused_then (accepted (clear_or (λ r h. h.1 (lit≤ tt)) (λ r h. h.1 (lit≤ tt))) refl)
    (line_hit LARGE (pure_delay (2 ^ 20), refl, λ r. omega arith))))
    refl)

-- C through the port (6,1) and then a delay of 3 is as late as at the port (6,4)
pub through_both : (s : Server) {d : ℕ} → JoinOutcome (port 6 1) (pure_delay 3) 0 s → DelayOutcome (list_of C) s 0 d → d ≡ 6
unfolding buckets last join
through_both s {d} j o =
    (only_delay (port 6 4) c_form c_fits (omega arith) (lit≤ tt) table.joined_delays.3 0 d
    (rw (rate_then_delay 0 s j).1 at o)).1

-- what carries nothing is not delayed, whatever the latency
pub nothing_delayed : (latency : ℕ) → latency < 2 ^ 20 → OnlyFigure (DelayOutcome (list_of (one 0 0)) (pure_delay latency)) 0
unfolding buckets
nothing_delayed latency fits = only_delay (pure_delay latency) (one_form 0 0) (omega arith) fits tt (table.nothing_delayed latency)

-- the residual of a pure delay beside C is 6
pub residual_refused : (latency : ℕ) → OnlyServer (ResidualOutcome (list_of C) (pure_delay latency)) 6 no_server
residual_refused latency code s o = residual_of_delay (list_of C) latency c_clear o

-- ---- What is known of every answer.

module _ (f : List ℕ) (latency : ℕ) where
  -- the delay is the latency, where anything comes,
  pub delay_is_latency : {d : ℕ} (t : ℕ) → 0 < reads (curve_of f) t → DelayOutcome f (pure_delay latency) 0 d → d ≡ latency
  unfolding DelayOutcome
  delay_is_latency t some o = (delay_held (figure_answered o).1).something t some

  -- and for any curve the infimum of what suffices at every fraction of a tick;
  pub delay_is_infimum : {d : ℕ} → DelayOutcome f (pure_delay latency) 0 d → Infimum (PastBy (curve_of f) latency) d
  unfolding DelayOutcome
  delay_is_infimum o = held_infimum (delay_held (figure_answered o).1)

  -- the backlog is what has come by the latency
  pub backlog_is_value : {n : ℕ} → BacklogOutcome f (pure_delay latency) 0 n → n ≡ reads (curve_of f) latency
  unfolding BacklogOutcome
  backlog_is_value o =
      let known = figure_answered o in
      let gap = known.1 in
      elim (le_or_lt gap.at latency) [
        | inl h ↦
            omega (
              arith,
              rw (delay_late latency {t = latency} (omega arith)) at (gap.greatest latency),
              rw (delay_late latency h) at gap.reached,
              reads_rise (curve_of f) {t = gap.at} {u = latency} (port_form f (pure_delay latency) known.0).some h,
            )
        | inr h ↦ absurd (rw (delay_past latency h) at gap.reached)
      ]

-- ---- Wrong answers.

-- A pure delay treated as a very fast rate: where anything comes at once, no rate has a delay so small
pub no_rate_so_fast :
    (f : List ℕ) (s : RateLatency) {d d' : ℕ} → 0 < reads (curve_of f) 0 → DelayOutcome f (rated s) 0 d
    → DelayOutcome f (pure_delay s.latency) 0 d' → d' < d
unfolding DelayOutcome by_rate
no_rate_so_fast f s {d} {d'} some o o' =
    let enough = (delay_rate (figure_answered o).1).suffices 0 in
    let held = (delay_held (figure_answered o').1).something 0 some in
    omega (arith, held, late d enough)
  where
    late : (d : ℕ) → reads (curve_of f) 0 ≤ s.rate * (0 + d - s.latency) → s.latency < d
    late d enough =
        elim (le_or_lt d s.latency) [
          | inl h ↦
              let none : 0 + d - s.latency ≡ 0 = omega arith in
              absurd (omega (arith, rw none at enough))
          | inr h ↦ h
        ]

-- so for C and 4 it is not 5
pub delayed_as_fast : DelayOutcome (list_of C) (pure_delay 4) 0 5 → ⊥
delayed_as_fast o = omega (arith, delayed_delay 0 5 o)

-- The latency charged to a curve that carries nothing
pub latency_charged_by_delay :
    (latency : ℕ) → 1 ≤ latency → latency < 2 ^ 20 → DelayOutcome (list_of (one 0 0)) (pure_delay latency) 0 latency → ⊥
latency_charged_by_delay latency some fits o = omega (arith, nothing_delayed latency fits 0 latency o)

-- Two delays joined to a rate
pub delays_make_a_rate : (a b : ℕ) (s : RateLatency) → JoinOutcome (pure_delay a) (pure_delay b) 0 (rated s) → ⊥
unfolding join
delays_make_a_rate a b s o =
    omega (arith, ap (λ (x : Server). (numbers_of x).kind) (answered_join (pure_delay a) (pure_delay b) o).definition)

-- A delay joined to a rate that loses its latency
pub latency_lost :
    (s : RateLatency) (latency : ℕ) (joined : Server) → JoinOutcome (rated s) (pure_delay latency) 0 joined
    → (numbers_of joined).latency ≡ s.latency + latency
unfolding join
latency_lost s latency joined o = ap (λ (x : Server). (numbers_of x).latency) (answered_join (rated s) (pure_delay latency) o).definition
