-- From what `settle` leaves to what each operation answers: an operand is refused, or the operation's question is the one that
-- `settle` answers, over its raw buckets.
-- Assumes nothing.
use mathlib.Core.Path.{◌≡◌, refl, sym, subst}
use mathlib.Core.Logic.{inl, inr, ⊎_elim}
use mathlib.Core.List.{List, [], ◌∷◌, ◌++◌}
use Prim.Native.Nat.{ℕ, ◌^◌, ◌≤◌, ◌<◌}
use native.Mathlib.Omega.{arith}
use native.Mathlib.Nat.{lt_of_not-le}
use lib.ListN.{length, take}
use lib.Dec.{lit≤}
use Rattle.meaning.specs.Curve.{Bucket, buckets, flat, curve_of, list_of, link_bucket, NormalOf}
use Rattle.meaning.specs.Refusal.{RANGE, number, Lines, ◌or◌, Clear, Verdict, AllInRange, raw_lines, curve_lines, Question, PartOutcome}
use Rattle.meaning.specs.CurveQuestions.{link_line, normalising, lowering, summing, shaping}
use Rattle.meaning.specs.Computed.{earlier, merged_sum, is_normal, crossings_rise}
use Rattle.meaning.proofs.Curve.Neighbours.{neighbours_sound}
use Rattle.meaning.proofs.Curve.Unique.{normal_of_unique}
use Rattle.meaning.proofs.Curve.Curves.{same_buckets_normal}
use Rattle.meaning.proofs.Curve.Merging.{merged_sum_lem}
use Rattle.meaning.proofs.Outcome.Answers.{raw_some, clear_form, sound_clear, list_up_to, curve_up_to}
use Rattle.meaning.proofs.Outcome.Outcomes.{up_to_when, up_to_or, clear_or, verdict_or, refuse_in_part, asked_so_in_part}
use Rattle.settle.specs.Cited.{AllWide, settling, delivering}
use Rattle.settle.proofs.Delivering.{answered_by}
use Rattle.meaning.proofs.Lists.{append_each, buckets_flat, all_in_range, flat_length}
use Rattle.checks.proofs.Buckets.{flat_buckets}
use Rattle.operations.specs.Cited.{merged}
use Rattle.operations.proofs.Merging.{merged_from, merged_to, merged_length}
use Rattle.checks.proofs.Checks.{passed, clear_first, clear_second, list_ranges, list_even, curve_ranged, curve_some}

-- buckets in their range are not too wide
wide : {f : List Bucket} → AllInRange f → AllWide f
wide all k m =
    let r = all k m in
    record { rate_fits = omega (arith, r.rate_fits); burst_fits = omega (arith, r.burst_fits) }

-- A question whose answer is the normal form of some buckets, at least one and none too wide, is what `settle`
-- answers over their numbers.
module _
    (ask : Question) (f : List Bucket)
    (to : (g : List Bucket) → NormalOf f g → ask.Answer g)
    (back : (g : List Bucket) → ask.Answer g → NormalOf f g)
    (clear : Clear ask.operands) (some : 1 ≤ length f) (all : AllWide f)
  where
    settling_clear : Clear (settling (flat f)).operands
    unfolding settling
    settling_clear =
        clear_or (λ r h. ⊎_elim (λ none. omega (arith, flat_length f)) (λ odd. odd (omega (arith, flat_length f))) h.1)
        (λ r h. h.1 (rw buckets_flat all))

    pub settled :
        {at room : ℕ} {before after : List ℕ} {code count : ℕ}
        → PartOutcome (settling (flat f)) at room before after code count → PartOutcome ask at room before after code count
    unfolding settling
    settled =
        asked_so_in_part (settling (flat f)) ask settling_clear clear (λ g n. to g (rw buckets_flat at n))
        (λ g n. rw buckets_flat (back g n))

-- So it is where the buckets are those of two lists, merged.
module _
    (ask : Question) (f g : List Bucket)
    (to : (h : List Bucket) → NormalOf (f ++ g) h → ask.Answer h)
    (back : (h : List Bucket) → ask.Answer h → NormalOf (f ++ g) h)
    (clear : Clear ask.operands) (some : 1 ≤ length f) (all : AllWide f) (all' : AllWide g)
  where
    merged_some : 1 ≤ length (merged f g)
    merged_some = omega (arith, merged_length f g)

    merged_settled :
        {at room : ℕ} {before after : List ℕ} {code count : ℕ}
        → PartOutcome (settling (flat (merged f g))) at room before after code count → PartOutcome ask at room before after code count
    merged_settled =
        settled ask (merged f g)
        (λ h n. to h (same_buckets_normal (merged_from f g) (merged_to f g) n))
        (λ h n. same_buckets_normal (merged_to f g) (merged_from f g) (back h n))
        clear merged_some
        (λ k m. append_each all all' k (merged_from f g k m))

-- ---- What is refused by an operand.

-- An operand is refused, with a number up to 8: the whole table stays.
module _ (at room : ℕ) (table : List ℕ) {code : ℕ} where
  pub normalise_refused :
      (raw : List ℕ) → Verdict (raw_lines raw) code → (code ≡ 0 → ⊥) → PartOutcome (normalising raw) at room table table code 0
  unfolding normalising
  normalise_refused raw v some =
      refuse_in_part (normalising raw) at room table (list_up_to 2 raw (buckets raw)) (omega (arith, some)) v

  pub lower_refused :
      (f g : List ℕ) → Verdict (curve_lines f or curve_lines g) code → (code ≡ 0 → ⊥)
      → PartOutcome (lowering f g) at room table table code 0
  unfolding lowering
  lower_refused f g v some =
      refuse_in_part (lowering f g) at room table (up_to_or (curve_up_to f) (curve_up_to g)) (omega (arith, some)) v

  pub sum_refused :
      (f g : List ℕ) → Verdict (curve_lines f or curve_lines g) code → (code ≡ 0 → ⊥)
      → PartOutcome (summing f g) at room table table code 0
  unfolding summing
  sum_refused f g v some =
      refuse_in_part (summing f g) at room table (up_to_or (curve_up_to f) (curve_up_to g)) (omega (arith, some)) v

  pub shape_refused :
      (f : List ℕ) (rate frame : ℕ) → Verdict (curve_lines f or link_line rate frame) code → (code ≡ 0 → ⊥)
      → PartOutcome (shaping f rate frame) at room table table code 0
  unfolding shaping number
  shape_refused f rate frame v some =
      refuse_in_part (shaping f rate frame) at room table (up_to_or (curve_up_to f) (up_to_when RANGE (lit≤ tt))) (omega (arith, some)) v

-- ---- normalise: the raw list is settled as it is.

pub normalise_settled :
    (raw : List ℕ) {at room : ℕ} {before after : List ℕ} {checked code count : ℕ}
    → Verdict (raw_lines raw) checked → checked ≡ 0
    → PartOutcome (settling raw) at room before after code count → PartOutcome (normalising raw) at room before after code count
unfolding normalising
normalise_settled raw {at} {room} {before} {after} {code = code} {count = count} v e o =
    let clear : Clear (raw_lines raw) = passed v e in
    settled (normalising raw) (buckets raw) (λ g n. n) (λ g n. n) clear (raw_some raw clear)
    (wide (list_ranges 2 raw (buckets raw) clear))
    (subst (λ (l : List ℕ). PartOutcome (settling l) at room before after code count)
    (sym (flat_buckets raw (list_even 2 raw (buckets raw) clear))) o)

-- the smaller of two codes is the verdict on both operands
pub both_verdict : {a b : Lines} {x y code : ℕ} → Verdict a x → Verdict b y → code ≡ earlier x y → Verdict (a or b) code
both_verdict {a} {b} v w e = subst (Verdict (a or b)) (sym e) (verdict_or v w)

-- ---- lower and sum: two curves of which neither is refused.

module _ (f g : List ℕ) {checked : ℕ} (v : Verdict (curve_lines f or curve_lines g) checked) (none : checked ≡ 0) where
  both_clear : Clear (curve_lines f or curve_lines g)
  both_clear = passed v none

  first_clear : Clear (curve_lines f)
  first_clear = clear_first both_clear

  second_clear : Clear (curve_lines g)
  second_clear = clear_second both_clear

  pub lower_settled :
      {at room : ℕ} {before after : List ℕ} {code count : ℕ}
      → PartOutcome (settling (flat (merged (curve_of f) (curve_of g)))) at room before after code count
      → PartOutcome (lowering f g) at room before after code count
  unfolding lowering
  lower_settled =
      merged_settled (lowering f g) (curve_of f) (curve_of g) (λ h n. n) (λ h n. n) both_clear (curve_some f first_clear)
      (wide (curve_ranged f first_clear)) (wide (curve_ranged g second_clear))

  -- what they come to when merged is their sum, and no other list is
  pub sum_delivered :
      {at room : ℕ} {before after : List ℕ} {code count : ℕ}
      → PartOutcome (delivering (flat (take 65 (merged_sum (curve_of f) (curve_of g))))) at room before after code count
      → PartOutcome (summing f g) at room before after code count
  unfolding summing
  sum_delivered =
      let sum = merged_sum_lem (curve_of f) (curve_of g) (clear_form f first_clear) (clear_form g second_clear) in
      answered_by (summing f g) (merged_sum (curve_of f) (curve_of g)) both_clear sum (λ h n. normal_of_unique n sum) sum.form.some

-- ---- shape: a curve and a link of which neither is refused.

module _ (f : List ℕ) (rate frame : ℕ) {checked : ℕ} (v : Verdict (curve_lines f or link_line rate frame) checked) (none : checked ≡ 0) where
  shaped_clear : Clear (curve_lines f or link_line rate frame)
  shaped_clear = passed v none

  shaped_curve : Clear (curve_lines f)
  shaped_curve = clear_first shaped_clear

  rate_fits : rate < 2 ^ 20
  rate_fits = lt_of_not-le (λ over. clear_second shaped_clear RANGE (refl, inr (inl over)))

  frame_fits : frame < 2 ^ 40
  frame_fits = lt_of_not-le (λ over. clear_second shaped_clear RANGE (refl, inr (inr over)))

  link_ranged : AllInRange (link_bucket rate frame ∷ [])
  link_ranged = all_in_range (link_bucket rate frame ∷ []) (record { rate_fits = rate_fits; burst_fits = frame_fits }, tt)

  -- the link's list is one bucket, and a curve of its own
  pub link_curve : Clear (curve_lines (rate ∷ frame ∷ []))
  unfolding list_of flat is_normal crossings_rise
  link_curve =
      sound_clear (link_bucket rate frame ∷ []) (neighbours_sound (link_bucket rate frame ∷ []) refl) link_ranged (lit≤ tt)

  link_wide : AllWide (link_bucket rate frame ∷ [])
  link_wide = wide link_ranged

  pub shape_settled :
      {at room : ℕ} {before after : List ℕ} {code count : ℕ}
      → PartOutcome (settling (flat (merged (curve_of f) (curve_of (rate ∷ frame ∷ []))))) at room before after code count
      → PartOutcome (shaping f rate frame) at room before after code count
  unfolding shaping curve_of buckets
  shape_settled =
      merged_settled (shaping f rate frame) (curve_of f) (link_bucket rate frame ∷ []) (λ h n. n) (λ h n. n) shaped_clear
      (curve_some f shaped_curve) (wide (curve_ranged f shaped_curve)) link_wide
