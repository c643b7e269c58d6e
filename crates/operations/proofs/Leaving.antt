-- What comes of the server left beside a cross curve: a refusal of either, a latency that is too large, or the server left.
-- Assumes nothing.
use mathlib.Core.Path.{◌≡◌, refl, ap, subst}
use mathlib.Core.Logic.{inl, inr}
use mathlib.Core.List.{List, []}
use Prim.Native.Nat.{ℕ, ◌+◌, ◌-◌, ◌^◌, ◌≤◌, ◌<◌}
use native.Mathlib.Nat.{le_of_lt}
use native.Mathlib.Omega.{arith}
use native.Mathlib.Decide.{ℕ_discrete}
use borrow.Author.Tests.{eq-eqb, ne_eqb}
use mir.Syntax.{w64}
use mir.Val.{Fits}
use lib.Dec.{lit≤}
use Rattle.meaning.specs.Curve.{Bucket, curve_of}
use Rattle.meaning.specs.Server.{Server, pure_delay, no_server, last, Residual, port}
use Rattle.meaning.specs.Computed.{earlier}
use Rattle.meaning.specs.Refusal.{Refusal, RANGE, LARGE, number, ◌when◌, ◌or◌, Clear, Verdict, accepted, rejected, curve_lines}
use Rattle.meaning.specs.ServerQuestions.{RatedInRange, ServerInRange, ServerOutcome, cross_lines, ResidualOutcome}
use Rattle.meaning.proofs.Order.{not_above}
use Rattle.meaning.proofs.Curve.Value.{same_rate}
use Rattle.meaning.proofs.Server.Joining.{last_inside}
use Rattle.meaning.proofs.Server.BothKinds.{left_unique}
use Rattle.meaning.proofs.Outcome.Outcomes.{UpTo, number_positive, up_to_or, up_to_when, clear_or, line_hit, verdict_or, refused_then, refusal}
use Rattle.meaning.proofs.Outcome.Answers.{curve_up_to}
use Rattle.meaning.proofs.Outcome.Demands.{port_curve, port_server, port_bounded, server_up_to, port_up_to, server_refused}
use Rattle.checks.proofs.Checks.{passed}
use Rattle.checks.proofs.Numbers.{second_wins, smaller_wins}
use Rattle.checks.specs.Table.{line_of}
use Rattle.checks.specs.contracts.refusal.RefusalOrd.TheImpl
use Rattle.checks.specs.declared.refusal.Refusal as held
use Rattle.checks.specs.declared.refusal.Refusal.TheVariants.{Range}
use Rattle.std.proofs.Common.{Err, Ok}
use Rattle.std.specs.Ordering.{ord_min}
use Rattle.operations.specs.Cited.{bucket, Tested}
use Rattle.std.specs.Int.{div_ceil}
use Rattle.operations.proofs.Bounding.{quotient_is, quotient_small}
use Rattle.operations.proofs.Valuing.{tested}

module _ (f : List ℕ) {rate latency code : ℕ} (v : Verdict (cross_lines f (port rate latency)) code) where
  -- an operand is refused
  pub residual_refused : (code ≡ 0 → ⊥) → ResidualOutcome f (port rate latency) code no_server
  unfolding ResidualOutcome
  residual_refused some = server_refused (port_up_to f (port rate latency)) (omega (arith, some)) v

  module _ (right : code ≡ 0) where
    clear : Clear (cross_lines f (port rate latency))
    clear = passed v right

    curve : Tested (curve_of f)
    curve = tested f (port_curve f (port rate latency) clear)

    -- the server is in range
    pub shared_server : RatedInRange (record { rate = rate; latency = latency })
    shared_server = port_server f (port rate latency) clear

    module _ {last_rate burst : ℕ} (is : bucket last_rate burst ≡ last (curve_of f)) where
      burst_fits : burst < 2 ^ 40
      burst_fits =
          omega (
            arith,
            ap (λ (j : Bucket). j.burst) is,
            (curve.ranged (last (curve_of f)) (last_inside (curve_of f) curve.form.some)).burst_fits,
          )

      below : last_rate < rate
      below = not_above (λ above. port_bounded f (port rate latency) clear (omega (arith, same_rate is)))

      -- the rate that is left is one
      pub residual_less : last_rate ≤ rate
      residual_less = le_of_lt below

      module _ {quotient : ℕ} (rounded : quotient ≡ div_ceil burst rate) where
        pub residual_fits : Fits w64 (latency + quotient)
        residual_fits =
            record { fits = omega (arith, quotient_small burst rate rounded, burst_fits, shared_server.latency_fits) }

        -- the server left
        abbrev server_left : Server
        server_left = port (rate - last_rate) (latency + quotient)

        left : Residual (curve_of f) (port rate latency) server_left
        left =
            record {
              rate_is = ap (λ (j : Bucket). rate - j.rate) is;
              quotient = quotient;
              is_rounded_up = rw (← is) (quotient_is burst rate shared_server.rate_some rounded);
              latency_is = refl;
            }

        -- its latency is out of range
        pub residual_large : 1048576 ≤ latency + quotient → ResidualOutcome f (port rate latency) (number LARGE) no_server
        unfolding ResidualOutcome
        residual_large late =
            ServerOutcome.refused
            (refusal [] (number_positive LARGE)
            (refused_then (accepted clear refl) (line_hit LARGE (server_left, left, λ r. omega (arith, r.latency_fits)))))
            refl

        -- or it is in range
        pub residual_left :
            {s : Server} → latency + quotient < 1048576 → s ≡ port (rate - last_rate) (latency + quotient)
            → ResidualOutcome f (port rate latency) 0 s
        unfolding ResidualOutcome
        residual_left fits same =
            rw same
            (ServerOutcome.answered (clear_or clear (λ r h. h.1.2 (only h.1.0 h.1.1))) refl left)
          where
            ranged : RatedInRange (record { rate = rate - last_rate; latency = latency + quotient })
            ranged =
                record {
                  rate_some = omega (arith, below);
                  rate_fits = omega (arith, shared_server.rate_fits);
                  latency_fits = fits;
                }

            only : (s : Server) → Residual (curve_of f) (port rate latency) s → ServerInRange s
            only s other = subst ServerInRange (left_unique (curve_of f) (port rate latency) server_left s left other) ranged

-- ---- A pure delay.

-- the smaller of a code and RANGE is some code
some_code : (x : ℕ) → 1 ≤ earlier x (number RANGE)
unfolding earlier number
some_code x =
    elim (ℕ_discrete x 0) [
      | yes none ↦ rw (eq-eqb x 0 none) (lit≤ tt)
      | no some ↦ rw (ne_eqb x 0 some) (omega (arith, some))
    ]

-- what is refused of a pure delay beside a cross curve: the smaller of the curve's code and RANGE
delay_shared :
    (f : List ℕ) (latency : ℕ) {x code : ℕ} → Verdict (curve_lines f) x → code ≡ earlier x (number RANGE)
    → ResidualOutcome f (pure_delay latency) code no_server
unfolding ResidualOutcome number
delay_shared f latency {x} v e =
    rw e (server_refused upto (some_code x) (shared (verdict_or v (line_hit RANGE tt))))
  where
    upto : UpTo 8 (cross_lines f (pure_delay latency))
    upto = up_to_or (up_to_or (curve_up_to f) (server_up_to (pure_delay latency))) (up_to_when RANGE (lit≤ tt))

    -- the server's own line is RANGE as well
    shared : {c : ℕ} → Verdict (curve_lines f or RANGE when Unit {0}) c → Verdict (cross_lines f (pure_delay latency)) c
    shared (accepted clear is) = absurd (clear RANGE (inr (refl, tt)))
    shared (rejected r w is) =
        rejected r (record { holds = there r w.holds; smallest = λ line h. w.smallest line (back line h) }) is
      where
        there : (line : Refusal) → (curve_lines f or RANGE when Unit {0}) line → cross_lines f (pure_delay latency) line
        there line (inl h) = inl (inl h)
        there line (inr h) = inr h

        back : (line : Refusal) → cross_lines f (pure_delay latency) line → (curve_lines f or RANGE when Unit {0}) line
        back line (inl (inl h)) = inl h
        back line (inl (inr h)) = inr (h.0, tt)
        back line (inr h) = inr h

-- so RANGE itself, where the curve is taken,
pub delay_alone :
    (f : List ℕ) (latency : ℕ) → Verdict (curve_lines f) 0
    → ResidualOutcome f (pure_delay latency) (number (line_of Range)) no_server
delay_alone f latency v =
    delay_shared f latency v (second_wins {A = Unit {0}} {B = Unit {0}} {x = Ok tt} {y = Err Range} refl refl)

-- and else the one of the two that comes first
pub delay_first :
    (f : List ℕ) (latency : ℕ) (r : held.Refusal) {least : held.Refusal} → Verdict (curve_lines f) (number (line_of r))
    → least ≡ ord_min (TheImpl.cmp-value).it r Range
    → ResidualOutcome f (pure_delay latency) (number (line_of least)) no_server
delay_first f latency r v is =
    delay_shared f latency v (smaller_wins {A = Unit {0}} {B = Unit {0}} {x = Err r} {y = Err Range} refl refl is)
