-- A curve that no line refuses; the outcome of value, from the verdicts on its curve and its tick; and that of burst.
-- Assumes nothing.
use mathlib.Core.Path.{◌≡◌, refl, sym, ◌∙◌, ap, subst}
use mathlib.Core.List.{List, [], ◌∷◌}
use Prim.Native.Nat.{ℕ, ◌^◌, ◌≤◌}
use native.Mathlib.Nat.{lt_of_not-le, le_of_lt}
use native.Mathlib.Omega.{arith}
use lib.ListN.{length}
use Rattle.meaning.specs.Curve.{Bucket, curve_of, reads, value, Burst, NormalForm}
use Rattle.meaning.specs.Refusal.{RANGE, ◌or◌, Clear, Verdict, curve_lines, FigureOutcome}
use Rattle.meaning.specs.Computed.{earlier}
use Rattle.meaning.specs.CurveQuestions.{tick_line, ValueOutcome, BurstOutcome}
use Rattle.meaning.proofs.Curve.Reads.{reads_later, first_burst}
use Rattle.meaning.proofs.Outcome.Outcomes.{verdict_or, refusal}
use Rattle.meaning.proofs.Outcome.Answers.{clear_form}
use Rattle.checks.specs.Cited.{nth}
use Rattle.checks.proofs.Checks.{passed, clear_second, curve_ranged, curve_few}
use Rattle.operations.specs.Cited.{bucket, Tested, LeastOf}
use Rattle.operations.proofs.Walking.{least_of_all}

-- what is known of a curve that no line refuses
pub tested : (f : List ℕ) → Clear (curve_lines f) → Tested (curve_of f)
tested f clear = record { form = clear_form f clear; ranged = curve_ranged f clear; few = curve_few f clear }

module _ (f : List ℕ) (t : ℕ) {x y code : ℕ} (v : Verdict (curve_lines f) x) (w : Verdict (tick_line t) y) (e : code ≡ earlier x y) where
  -- the verdict on both
  together : Verdict (curve_lines f or tick_line t) code
  together = subst (Verdict (curve_lines f or tick_line t)) (sym e) (verdict_or v w)

  -- the smaller code, if there is one, is the refusal
  pub value_refused : (code ≡ 0 → ⊥) → ValueOutcome f t code 0
  unfolding ValueOutcome
  value_refused some = FigureOutcome.refused (refusal [] (omega (arith, some)) together)

  module _ (none : code ≡ 0) where
    both_clear : Clear (curve_lines f or tick_line t)
    both_clear = passed together none

    -- what the least value needs: a tick in range
    pub value_tick : t ≤ 2 ^ 40
    value_tick = le_of_lt (lt_of_not-le (λ over. clear_second both_clear RANGE (refl, over)))

    -- at 0 the answer is 0,
    pub value_nothing : t ≡ 0 → ValueOutcome f t 0 0
    unfolding ValueOutcome value
    value_nothing e = FigureOutcome.answered both_clear refl (rw e refl)

    -- later the least value
    pub value_answered :
        (t ≡ 0 → ⊥) → (figure : ℕ) → LeastOf (curve_of f) t 0 (length (curve_of f)) figure → ValueOutcome f t 0 figure
    unfolding ValueOutcome reads
    value_answered some figure least =
        FigureOutcome.answered both_clear refl (least_of_all (curve_of f) least ∙ reads_later (curve_of f) t (omega (arith, some)))

-- the first bucket has the burst
first_numbered : (f : List Bucket) → NormalForm f → Burst f (nth f 0).burst
first_numbered [] n = absurd (omega (arith, n.some))
first_numbered (k ∷ f) n = first_burst n

module _ (f : List ℕ) {code : ℕ} (v : Verdict (curve_lines f) code) where
  -- the curve's refusal is the refusal,
  pub burst_refused : (code ≡ 0 → ⊥) → BurstOutcome f code 0
  unfolding BurstOutcome
  burst_refused some = FigureOutcome.refused (refusal [] (omega (arith, some)) v)

  -- and otherwise the first bucket's burst is the answer
  pub burst_answered : code ≡ 0 → {rate burst : ℕ} → bucket rate burst ≡ nth (curve_of f) 0 → BurstOutcome f 0 burst
  unfolding BurstOutcome
  burst_answered none is =
      FigureOutcome.answered (passed v none) refl
      (rw (ap (λ (j : Bucket). j.burst) is) (first_numbered (curve_of f) (clear_form f (passed v none))))
