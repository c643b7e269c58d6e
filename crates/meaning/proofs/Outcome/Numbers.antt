-- A server in numbers, as the C calls have it: kind, rate, latency. Three numbers are in range exactly where they are those of a
-- server in range: another kind is not, nor is a pure delay that is handed a rate. What comes of join and of residual in numbers is
-- one outcome for every input; a refusal tells kind 2 and zeros.
-- Assumes nothing.
use mathlib.Core.Path.{◌≡◌, refl, sym, ◌∙◌, ap}
use mathlib.Core.Logic.{◌≢◌, ◌↔◌}
use mathlib.Core.List.{List}
use Prim.Native.Nat.{ℕ}
use native.Mathlib.Decide.{ℕ_discrete}
use native.Mathlib.Omega.{arith}
use borrow.Author.Tests.{eq-eqb, ne_eqb}
use Rattle.meaning.specs.Server.{Server, no_server, rate_latency_kind, pure_delay_kind, Numbers, numbers_of, server_named}
use Rattle.meaning.specs.Refusal.{Lines}
use Rattle.meaning.specs.ServerQuestions.{ServerInRange, ServerOutcome, JoinOutcome, ResidualOutcome, JoinNumbers, ResidualNumbers}
use Rattle.meaning.proofs.Server.BothKinds.{numbers_back}
use Rattle.meaning.proofs.Outcome.Demands.{one_join, one_residual}
use Rattle.meaning.proofs.Outcome.EveryInput.{join_has_outcome, residual_has_outcome}

-- ---- The server that numbers stand for.

module _ (n : Numbers) where
  -- another kind stands for none,
  pub other_kind : n.kind ≢ rate_latency_kind → n.kind ≢ pure_delay_kind → server_named n ≡ no_server
  unfolding server_named
  other_kind two three = rw (ne_eqb n.kind rate_latency_kind two, ne_eqb n.kind pure_delay_kind three)

  -- which is out of range,
  pub other_kind_out : n.kind ≢ rate_latency_kind → n.kind ≢ pure_delay_kind → ServerInRange (server_named n) → ⊥
  other_kind_out two three ranged = omega (arith, (rw (other_kind two three) at ranged).rate_some)

  -- and so is a pure delay that is handed a rate, whatever its latency
  pub rate_handed_out : n.kind ≡ pure_delay_kind → n.rate ≢ 0 → ServerInRange (server_named n) → ⊥
  unfolding server_named
  rate_handed_out three some ranged =
      let other : n.kind ≢ rate_latency_kind = λ two. omega arith in
      omega (arith, rw (ne_eqb n.kind rate_latency_kind other, eq-eqb n.kind pure_delay_kind three, ne_eqb n.rate 0 some) at ranged)

  -- what stands for a server in range is that server's numbers
  pub numbers_are : ServerInRange (server_named n) → n ≡ numbers_of (server_named n)
  unfolding server_named
  numbers_are ranged =
      elim (ℕ_discrete n.kind rate_latency_kind) [
        | yes two ↦ rw (eq-eqb n.kind rate_latency_kind two) (same two refl)
        | no other ↦
            elim (ℕ_discrete n.kind pure_delay_kind) [
              | yes three ↦
                  elim (ℕ_discrete n.rate 0) [
                    | yes none ↦
                        rw (ne_eqb n.kind rate_latency_kind other, eq-eqb n.kind pure_delay_kind three, eq-eqb n.rate 0 none)
                        (same three none)
                    | no some ↦ absurd (rate_handed_out three some ranged)
                  ]
              | no neither ↦ absurd (other_kind_out other neither ranged)
            ]
      ]
    where
      same : {kind rate : ℕ} → n.kind ≡ kind → n.rate ≡ rate → n ≡ record { kind = kind; rate = rate; latency = n.latency }
      same e e' = λ i. record { kind = e i; rate = e' i; latency = n.latency }

  -- So numbers are in range exactly where they are those of a server in range.
  pub in_range_exactly : ServerInRange (server_named n) ↔ ((s : Server) × (n ≡ numbers_of s) × ServerInRange s)
  in_range_exactly =
      (λ ranged. (server_named n, numbers_are ranged, ranged), λ h. rw (ap server_named h.1 ∙ numbers_back h.0) h.2)

-- ---- One outcome for every input.

module _ (s next : Numbers) where
  -- join in numbers has an outcome,
  pub join_numbers_exist : (code : ℕ) × (answer : Numbers) × JoinNumbers s next code answer
  join_numbers_exist =
      let o = join_has_outcome (server_named s) (server_named next) in
      (o.code, numbers_of o.server, record { joined = o.server; outcome = o.outcome; numbers_are = refl })

  -- and only one
  pub one_join_numbers :
      {code code' : ℕ} {answer answer' : Numbers} → JoinNumbers s next code answer → JoinNumbers s next code' answer'
      → (code ≡ code') × (answer ≡ answer')
  one_join_numbers x y =
      let same = one_join (server_named s) (server_named next) x.outcome y.outcome in
      (same.0, x.numbers_are ∙ ap numbers_of same.1 ∙ sym y.numbers_are)

module _ (cross : List ℕ) (s : Numbers) where
  -- residual in numbers has an outcome,
  pub residual_numbers_exist : (code : ℕ) × (answer : Numbers) × ResidualNumbers cross s code answer
  residual_numbers_exist =
      let o = residual_has_outcome cross (server_named s) in
      (o.code, numbers_of o.server, record { left = o.server; outcome = o.outcome; numbers_are = refl })

  -- and only one
  pub one_residual_numbers :
      {code code' : ℕ} {answer answer' : Numbers} → ResidualNumbers cross s code answer → ResidualNumbers cross s code' answer'
      → (code ≡ code') × (answer ≡ answer')
  one_residual_numbers x y =
      let same = one_residual cross (server_named s) x.outcome y.outcome in
      (same.0, x.numbers_are ∙ ap numbers_of same.1 ∙ sym y.numbers_are)

-- ---- A refusal.

-- The numbers of a refusal: kind 2, and zeros.
abbrev pub no_numbers : Numbers
no_numbers = record { kind = 2; rate = 0; latency = 0 }

-- a question that a server answers has no server where the code is not 0,
refused_server :
    {operands : Lines} {Answer : Server → Type 0} {code : ℕ} {s : Server} → ServerOutcome operands Answer code s → code ≢ 0
    → s ≡ no_server
refused_server (ServerOutcome.refused v none) some = none
refused_server (ServerOutcome.answered clear e x) some = absurd (some e)

-- so join tells these numbers,
pub join_refusal : (s next : Numbers) {code : ℕ} {answer : Numbers} → JoinNumbers s next code answer → code ≢ 0 → answer ≡ no_numbers
unfolding JoinOutcome
join_refusal s next x some = x.numbers_are ∙ ap numbers_of (refused_server x.outcome some)

-- and so does residual
pub residual_refusal :
    (cross : List ℕ) (s : Numbers) {code : ℕ} {answer : Numbers} → ResidualNumbers cross s code answer → code ≢ 0 → answer ≡ no_numbers
unfolding ResidualOutcome
residual_refusal cross s x some = x.numbers_are ∙ ap numbers_of (refused_server x.outcome some)
