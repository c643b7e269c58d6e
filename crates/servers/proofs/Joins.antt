-- The test of a server, and what comes of joining two: a refusal of either, a latency that is too large, or the joined server.
-- Assumes nothing.
use mathlib.Core.Path.{◌≡◌, refl, sym, ◌∙◌, ap, subst}
use mathlib.Core.Logic.{◌⊎◌, inl, inr}
use mathlib.Core.List.{[]}
use Prim.Native.Nat.{ℕ, ◌+◌, ◌^◌, ◌≤◌, ◌<◌, min}
use native.Mathlib.Omega.{arith}
use native.Mathlib.Decide.{ℕ_discrete}
use lib.Dec.{lit≤}
use borrow.Author.Tests.{eq-eqb, ne_eqb}
use mir.Syntax.{w64}
use mir.Val.{Fits}
use Rattle.meaning.specs.Refusal.{RANGE, LARGE, number, ◌or◌, Clear, Verdict, accepted}
use Rattle.meaning.specs.Server.{Server, rated, pure_delay, no_server, numbers_of, server_named, join_rated, join, port}
use Rattle.meaning.specs.ServerQuestions.{ServerInRange, server_lines, ServerOutcome, JoinOutcome}
use Rattle.meaning.specs.Computed.{earlier}
use Rattle.meaning.proofs.Outcome.Stable.{server_stable}
use Rattle.meaning.proofs.Outcome.Outcomes.{up_to_or, clear_or, line_hit, line_miss, verdict_or, refused_then, refusal}
use Rattle.meaning.proofs.Outcome.Demands.{server_up_to, server_refused}
use Rattle.checks.proofs.Checks.{passed, clear_first, clear_second}
use Rattle.servers.specs.declared.Kind.{Kind}
use Rattle.servers.specs.declared.Kind.TheVariants.{RateLatency, PureDelay}
use Rattle.servers.specs.Cited.{of_kind, numbers, Late, Tested}

-- ---- The test of a server.

module _ {rate latency : ℕ} where
  -- it serves nothing, or its rate or its latency is out of range
  pub server_out :
      (rate ≡ 0) ⊎ (((rate ≡ 0 → ⊥) × (1048576 ≤ rate)) ⊎ ((rate ≡ 0 → ⊥) × (rate < 1048576) × (1048576 ≤ latency)))
      → Tested (port rate latency) (number RANGE)
  server_out = elim [
    | inl still ↦ record { verdict = line_hit RANGE (λ r. omega (arith, r.rate_some)) }
    | inr (inl fast) ↦ record { verdict = line_hit RANGE (λ r. omega (arith, fast.1, r.rate_fits)) }
    | inr (inr late) ↦ record { verdict = line_hit RANGE (λ r. omega (arith, late.2, r.latency_fits)) }
  ]

  -- both are in range
  pub server_right : (rate ≡ 0 → ⊥) → rate < 1048576 → latency < 1048576 → Tested (port rate latency) 0
  server_right some hr hl =
      record {
        verdict = line_miss (λ out. out (record { rate_some = omega (arith, some); rate_fits = hr; latency_fits = hl }));
      }

module _ {latency : ℕ} where
  -- a pure delay's latency is out of range,
  pub delay_late : 1048576 ≤ latency → Tested (pure_delay latency) (number RANGE)
  delay_late h = record { verdict = line_hit RANGE (λ r. omega arith) }

  -- or in range
  pub delay_right : latency < 1048576 → Tested (pure_delay latency) 0
  delay_right h = record { verdict = line_miss (λ out. out h) }

pub ruleset server_line_rules = (server_out, server_right, delay_late, delay_right)

-- a server that no line refuses is in range
pub server_ranged : (s : Server) → Clear (server_lines s) → ServerInRange s
server_ranged s clear = server_stable s (λ out. clear RANGE (refl, out))

-- ---- The server that numbers stand for.

module _ {s : Server} {kind : ℕ} (rate latency : ℕ) where
  -- a rate-latency server,
  pub named_rate : kind ≡ 2 → s ≡ port rate latency → s ≡ server_named (numbers kind rate latency)
  unfolding server_named
  named_rate k e = rw k e

  -- another kind than the two,
  pub named_none : (kind ≡ 2 → ⊥) → (kind ≡ 3 → ⊥) → s ≡ port 0 0 → s ≡ server_named (numbers kind rate latency)
  unfolding server_named
  named_none two three e = rw (ne_eqb kind 2 two, ne_eqb kind 3 three) e

  -- a pure delay that is handed a rate,
  pub named_handed : kind ≡ 3 → (rate ≡ 0 → ⊥) → s ≡ pure_delay 1048576 → s ≡ server_named (numbers kind rate latency)
  unfolding server_named
  named_handed k some e = rw (k, ne_eqb rate 0 some) e

  -- and a pure delay
  pub named_delay : kind ≡ 3 → rate ≡ 0 → s ≡ pure_delay latency → s ≡ server_named (numbers kind rate latency)
  unfolding server_named
  named_delay k none e = rw (k, none) e

pub ruleset naming = (named_rate, named_none, named_handed, named_delay)

-- ---- Joining.

-- two latencies in range add up within 64 bits
pub late_fits :
    {s next : Server} {x y : ℕ} → Late s → Late next → x ≡ (numbers_of s).latency → y ≡ (numbers_of next).latency → Fits w64 (x + y)
late_fits s next e e' = record { fits = omega (arith, s.fits, next.fits) }

-- Two kinds, x and y their latencies:
module _ {a b : Kind} {x y : ℕ} (is : x ≡ (numbers_of (of_kind a)).latency) (is' : y ≡ (numbers_of (of_kind b)).latency) where
  -- two rates,
  pub both_rated :
      {r l r' l' least : ℕ} → a ≡ RateLatency r l → b ≡ RateLatency r' l' → least ≡ min r r'
      → port least (x + y) ≡ join (of_kind a) (of_kind b)
  unfolding join join_rated
  both_rated e e' smaller = rw (smaller, is, is', e, e')

  -- a rate and a delay,
  pub first_rated : {r l l' : ℕ} → a ≡ RateLatency r l → b ≡ PureDelay l' → port r (x + y) ≡ join (of_kind a) (of_kind b)
  unfolding join
  first_rated e e' = rw (is, is', e, e')

  -- a delay and a rate,
  pub second_rated : {l r' l' : ℕ} → a ≡ PureDelay l → b ≡ RateLatency r' l' → port r' (x + y) ≡ join (of_kind a) (of_kind b)
  unfolding join
  second_rated e e' = rw (is, is', e, e')

  -- or two delays
  pub both_delays : {l l' : ℕ} → a ≡ PureDelay l → b ≡ PureDelay l' → pure_delay (x + y) ≡ join (of_kind a) (of_kind b)
  unfolding join
  both_delays e e' = rw (is, is', e, e')

pub ruleset combining = (late_fits, both_rated, first_rated, second_rated, both_delays)

-- a server in range has its latency in range,
ranged_late : (s : Server) → ServerInRange s → Late s
ranged_late (rated s) h = record { fits = h.latency_fits }
ranged_late (pure_delay latency) h = record { fits = h }

-- the smaller of two codes is 0 only if both are
earlier_none : (x y : ℕ) → earlier x y ≡ 0 → (x ≡ 0) × (y ≡ 0)
unfolding earlier
earlier_none x y e =
    elim (ℕ_discrete x 0) [
      | yes a ↦ (a, rw (eq-eqb x 0 a) at e)
      | no a ↦
          elim (ℕ_discrete y 0) [
            | yes b ↦ absurd (a (rw (ne_eqb x 0 a, eq-eqb y 0 b) at e))
            | no b ↦ absurd (omega (arith, a, b, rw (ne_eqb x 0 a, ne_eqb y 0 b) at e))
          ]
    ]

-- two servers in range, joined, are in range exactly where the latency is
joined_ranged :
    (s next : Server) → ServerInRange s → ServerInRange next → (numbers_of (join s next)).latency < 2 ^ 20
    → ServerInRange (join s next)
unfolding join join_rated
joined_ranged (rated s) (rated next) h h' fits =
    record {
      rate_some = omega (arith, h.rate_some, h'.rate_some);
      rate_fits = omega (arith, h.rate_fits);
      latency_fits = fits;
    }
joined_ranged (rated s) (pure_delay latency) h h' fits =
    record { rate_some = h.rate_some; rate_fits = h.rate_fits; latency_fits = fits }
joined_ranged (pure_delay latency) (rated s) h h' fits =
    record { rate_some = h'.rate_some; rate_fits = h'.rate_fits; latency_fits = fits }
joined_ranged (pure_delay latency) (pure_delay latency') h h' fits = fits

module _ {s next : Server} {x y code : ℕ} (v : Tested s x) (w : Tested next y) (e : code ≡ earlier x y) where
  -- the verdict on both
  both : Verdict (server_lines s or server_lines next) code
  both = subst (Verdict (server_lines s or server_lines next)) (sym e) (verdict_or v.verdict w.verdict)

  -- one of the two is refused
  pub join_refused :
      {told : ℕ} {answer : Server} → (code ≡ 0 → ⊥) → told ≡ code → answer ≡ no_server → JoinOutcome s next told answer
  unfolding JoinOutcome
  join_refused some same none =
      rw (same, none) (server_refused (up_to_or (server_up_to s) (server_up_to next)) (omega (arith, some)) both)

  -- neither is: each has its latency in range
  pub late_first : code ≡ 0 → Late s
  late_first right = ranged_late s (server_ranged s (passed v.verdict (earlier_none x y (sym e ∙ right)).0))

  pub late_second : code ≡ 0 → Late next
  late_second right = ranged_late next (server_ranged next (passed w.verdict (earlier_none x y (sym e ∙ right)).1))

  module _ (right : code ≡ 0) {answer : Server} (is : answer ≡ join s next) {latency : ℕ} (late : latency ≡ (numbers_of answer).latency) where
    clear : Clear (server_lines s or server_lines next)
    clear = passed both right

    -- the latencies added are out of range
    pub join_large :
        {told : ℕ} {none : Server} → 1048576 ≤ latency → told ≡ number LARGE → none ≡ no_server → JoinOutcome s next told none
    unfolding JoinOutcome number
    join_large past same is_none =
        rw (same, is_none)
        (ServerOutcome.refused
        (refusal [] (lit≤ tt)
        (refused_then (accepted clear refl)
        (line_hit LARGE (join s next, refl, λ r. omega (arith, (ranged_late (join s next) r).fits, ap (λ (x : Server). (numbers_of x).latency) is)))))
        refl)

    -- they are in range
    pub join_joined : latency < 1048576 → JoinOutcome s next 0 answer
    unfolding JoinOutcome
    join_joined fits =
        ServerOutcome.answered (clear_or clear (λ r h. h.1.2 (rw h.1.1 ranged))) refl is
      where
        ranged : ServerInRange (join s next)
        ranged =
            joined_ranged s next (server_ranged s (clear_first clear)) (server_ranged next (clear_second clear))
            (omega (arith, ap (λ (x : Server). (numbers_of x).latency) is))
