-- Two curves added: which list is answered, when it is too large, and what a merge that goes wrong would answer.
-- Assumes nothing.
use mathlib.Core.Path.{◌≡◌, refl, sym, ◌∙◌, ap, subst}
use mathlib.Core.Logic.{◌⊎◌, inl, inr, ◌↔◌}
use mathlib.Core.Bool.{true}
use mathlib.Core.List.Memᴰ
use mathlib.Core.List.{List, [], ◌∷◌}
use Prim.Native.Nat.{ℕ, zero, suc, ◌+◌, ◌*◌, ◌^◌, ◌≤◌, ◌<◌}
use native.Mathlib.Nat.{le_of_lt, eq-or-lt_of_le}
use native.Mathlib.Omega.{arith}
use lib.Dec.{lit≤}
use lib.ListN.{length}
use Rattle.meaning.specs.Curve.{Bucket, ◌∈◌, buckets, curve_of, list_of, Falling, NormalForm, numbered, added}
use Rattle.meaning.specs.Server.{last}
use Rattle.meaning.specs.Computed.{is_normal, merged_sum}
use Rattle.meaning.specs.Refusal.{number, ◌or◌, Clear, AllInRange, curve_lines, TooLarge, Question, Outcome, over}
use Rattle.meaning.specs.CurveQuestions.{summing}
use Rattle.meaning.specs.Figures.{C}
use Rattle.meaning.proofs.Order.{le_or_lt}
use Rattle.meaning.proofs.Lists.{cons_each, at_inside, curve_list, each_in_range}
use Rattle.meaning.proofs.Curve.Neighbours.{neighbours_sound}
use Rattle.meaning.proofs.Curve.Normal.{useful_lowest}
use Rattle.meaning.proofs.Curve.Reads.{burst_below}
use Rattle.meaning.proofs.Curve.Merging.{merged_sum_lem, merged_count, merged_first, merged_last}
use Rattle.meaning.proofs.Server.Joining.{last_inside, last_slowest}
use Rattle.meaning.proofs.Outcome.Outcomes.{Single, Same, one_outcome, clear_or, too_large}
use Rattle.meaning.proofs.Outcome.Answers.{summing_asks, single_normal, outcome_code, code_wins, clear_form, read_back, answered_list, sound_clear, OnlyAnswer, only_answered, only_single}

-- ---- Which list is answered.

-- the two curves merged answer the question
sum_right :
    (f g : List ℕ) → Clear (curve_lines f or curve_lines g) → (summing f g).Answer (merged_sum (curve_of f) (curve_of g))
unfolding summing
sum_right f g clear =
    merged_sum_lem (curve_of f) (curve_of g) (clear_form f (λ r h. clear r (inl h))) (clear_form g (λ r h. clear r (inr h)))

-- no other list does
sum_single : (f g : List ℕ) → Single (summing f g).Answer
sum_single f g = single_normal (summing_asks f g)

-- what is answered is the two curves merged
pub sum_answered :
    (f g : List ℕ) {before after : List ℕ} {count : ℕ} → Outcome (summing f g) before after 0 count
    → (curve_of (read_back after count) ≡ merged_sum (curve_of f) (curve_of g)) × (count ≡ length (merged_sum (curve_of f) (curve_of g)))
unfolding summing
sum_answered f g o =
    let a = answered_list o in
    let e = sum_single f g _ _ a.right (sum_right f g a.operands_clear) in
    (e, a.count_is ∙ ap length e)

-- ---- When it is too large.

-- LARGE is answered exactly where no operand is refused and the exact answer is too large
pub large_exactly :
    (ask : Question) {f : List Bucket} → Single ask.Answer → Clear ask.operands → ask.Answer f
    → {before after : List ℕ} {code count : ℕ} → Outcome ask before after code count → (code ≡ 9) ↔ TooLarge f
unfolding number
large_exactly ask {f} one clear right {code = code} o =
    (to, λ large. (one_outcome one o (too_large ask _ clear right large)).code_same)
  where
    to : code ≡ 9 → TooLarge f
    to e =
        let w = code_wins (outcome_code o) (λ none. omega arith) in
        elim w.1.holds [
          | inl h ↦ absurd (clear w.0 h)
          | inr (inl (is, (g, answer, large))) ↦ subst TooLarge (one g f answer right) large
          | inr (inr (is, short)) ↦ absurd (omega (arith, ap number is, w.2))
        ]

-- a curve in normal form has its greatest burst last
last_highest : (f : List Bucket) → NormalForm f → (k : Bucket) → k ∈ f → k.burst ≤ (last f).burst
last_highest f n k m =
    elim (eq-or-lt_of_le (last_slowest f n.falling m)) [
      | inl e ↦ useful_lowest (n.useful k m) (last_inside f n.some) (sym e)
      | inr l ↦ le_of_lt (burst_below (n.useful k m) (last_inside f n.some) l)
    ]

-- and its greatest rate first
first_steepest : (f : List Bucket) → Falling f → (k : Bucket) → k ∈ f → k.rate ≤ (numbered f 1).rate
unfolding Falling
first_steepest [] n k m = absurd (Memᴰ.not-nil m)
first_steepest (j ∷ f) n k m = cons_each {P = λ (i : Bucket). i.rate ≤ j.rate} (omega arith) (λ i h. le_of_lt (n.0 i h)) k m

-- so these two tell whether it is in range
ranged_by_ends : (f : List Bucket) → NormalForm f → (numbered f 1).rate < 2 ^ 20 → (last f).burst < 2 ^ 40 → AllInRange f
ranged_by_ends f n slow short k m =
    record {
      rate_fits = omega (arith, first_steepest f n.falling k m);
      burst_fits = omega (arith, last_highest f n k m);
    }

-- The sum of two curves is too large: it has over 64 buckets, or the two first rates or the two last bursts add up to too much.
abbrev pub SumTooLarge : List Bucket → List Bucket → Type 0
SumTooLarge f g =
    (64 < length (merged_sum f g))
    ⊎ (2 ^ 20 ≤ (numbered f 1).rate + (numbered g 1).rate)
    ⊎ (2 ^ 40 ≤ (last f).burst + (last g).burst)

module _ (f g : List Bucket) (n : NormalForm f) (n' : NormalForm g) where
  first_rate : (numbered (merged_sum f g) 1).rate ≡ (numbered f 1).rate + (numbered g 1).rate
  unfolding added
  first_rate = ap (λ (k : Bucket). k.rate) (merged_first f g n.some n'.some)

  last_burst : (last (merged_sum f g)).burst ≡ (last f).burst + (last g).burst
  unfolding added
  last_burst = ap (λ (k : Bucket). k.burst) (merged_last f g n.some n'.some)

  large_by_ends : TooLarge (merged_sum f g) → SumTooLarge f g
  large_by_ends (inl many) = inl many
  large_by_ends (inr out) =
      elim (le_or_lt (2 ^ 20) ((numbered f 1).rate + (numbered g 1).rate)) [
        | inl steep ↦ inr (inl steep)
        | inr slow ↦
            elim (le_or_lt (2 ^ 40) ((last f).burst + (last g).burst)) [
              | inl high ↦ inr (inr high)
              | inr short ↦
                  absurd
                  (out
                  (ranged_by_ends (merged_sum f g) (merged_sum_lem f g n n').form (omega (arith, first_rate)) (omega (arith, last_burst))))
            ]
      ]

  ends_large : SumTooLarge f g → TooLarge (merged_sum f g)
  ends_large (inl many) = inl many
  ends_large (inr (inl steep)) =
      inr (λ all. omega (arith, first_rate, (all (numbered (merged_sum f g) 1) (at_inside (merged_sum f g) 0 _ (merged_sum_lem f g n n').form.some)).rate_fits))
  ends_large (inr (inr high)) =
      inr (λ all. omega (arith, last_burst, (all (last (merged_sum f g)) (last_inside (merged_sum f g) (merged_sum_lem f g n n').form.some)).burst_fits))

-- sum answers LARGE exactly so
pub sum_large :
    (f g : List ℕ) → Clear (curve_lines f) → Clear (curve_lines g) → {before after : List ℕ} {code count : ℕ}
    → Outcome (summing f g) before after code count → (code ≡ 9) ↔ SumTooLarge (curve_of f) (curve_of g)
unfolding summing
sum_large f g clear clear' o =
    let n = clear_form f clear in
    let n' = clear_form g clear' in
    let exactly = large_exactly (summing f g) (sum_single f g) (clear_or clear clear') (merged_sum_lem (curve_of f) (curve_of g) n n') o in
    (λ e. large_by_ends (curve_of f) (curve_of g) n n' (exactly.0 e), λ large. exactly.1 (ends_large (curve_of f) (curve_of g) n n' large))

-- two curves that have 65 buckets together never have too many
pub few_enough : (f g : List Bucket) → NormalForm f → NormalForm g → length f + length g ≤ 65 → length (merged_sum f g) ≤ 64
few_enough f g n n' h = omega (arith, merged_count f g n.some n'.some)

-- ---- Known sums, as the only outcomes.

-- A curve that no line refuses, as can be worked out.
record Good (f : List Bucket) : Type 0 where
  normal : is_normal f ≡ true
  few : length f ≤ 64
  slow : (numbered f 1).rate < 2 ^ 20
  short : (last f).burst < 2 ^ 40

module _ {f : List Bucket} (x : Good f) where
  good_form : NormalForm f
  good_form = neighbours_sound f x.normal

  good_clear : Clear (curve_lines (list_of f))
  good_clear = sound_clear f good_form (ranged_by_ends f good_form x.slow x.short) x.few

module _ {f g : List Bucket} (x : Good f) (y : Good g) where
  good_sum : (summing (list_of f) (list_of g)).Answer (merged_sum f g)
  unfolding summing
  good_sum = rw (curve_list f, curve_list g) (merged_sum_lem f g (good_form x) (good_form y))

  both_clear : Clear (summing (list_of f) (list_of g)).operands
  unfolding summing
  both_clear = clear_or (good_clear x) (good_clear y)

  -- a sum that is not too large is the only outcome,
  only_sum :
      length (merged_sum f g) ≤ 64 → (numbered f 1).rate + (numbered g 1).rate < 2 ^ 20 → (last f).burst + (last g).burst < 2 ^ 40
      → OnlyAnswer (summing (list_of f) (list_of g)) (list_of (merged_sum f g)) (length (merged_sum f g))
  only_sum few slow short =
      only_single (merged_sum f g) (sum_single (list_of f) (list_of g)) both_clear good_sum (
        few,
        each_in_range (merged_sum f g)
            (ranged_by_ends (merged_sum f g) (merged_sum_lem f g (good_form x) (good_form y)).form
            (omega (arith, first_rate f g (good_form x) (good_form y))) (omega (arith, last_burst f g (good_form x) (good_form y)))),
      )

  -- and one that has over 64 buckets is LARGE
  only_large :
      64 < length (merged_sum f g) → {before after : List ℕ} {code count : ℕ}
      → Outcome (summing (list_of f) (list_of g)) before after code count → Same code count 9 0 after before
  only_large many o =
      one_outcome (sum_single (list_of f) (list_of g)) o (too_large (summing (list_of f) (list_of g)) _ both_clear good_sum (inl many))

c_good : Good C
unfolding is_normal last buckets
c_good = record { normal = refl; few = lit≤ tt; slow = lit≤ tt; short = lit≤ tt }

-- C twice: the crossings come together, and so do the steps
pub c_twice : OnlyAnswer (summing (list_of C) (list_of C)) (list_of (buckets (20 ∷ 4 ∷ 6 ∷ 40 ∷ []))) 2
unfolding merged_sum buckets last
c_twice = only_sum c_good c_good (lit≤ tt) (lit≤ tt) (lit≤ tt)

-- Two curves that turn within one tick, the one at 1/2 and the other at 1/3,
abbrev half : List Bucket
half = buckets (3 ∷ 0 ∷ 1 ∷ 1 ∷ [])

abbrev third : List Bucket
third = buckets (4 ∷ 0 ∷ 1 ∷ 1 ∷ [])

half_good : Good half
unfolding is_normal last buckets
half_good = record { normal = refl; few = lit≤ tt; slow = lit≤ tt; short = lit≤ tt }

third_good : Good third
unfolding is_normal last buckets
third_good = record { normal = refl; few = lit≤ tt; slow = lit≤ tt; short = lit≤ tt }

-- added: the earlier turn comes first
pub within_a_tick :
    OnlyAnswer (summing (list_of half) (list_of third)) (list_of (buckets (7 ∷ 0 ∷ 4 ∷ 1 ∷ 2 ∷ 2 ∷ []))) 3
unfolding merged_sum buckets last
within_a_tick = only_sum half_good third_good (lit≤ tt) (lit≤ tt) (lit≤ tt)

-- Stairs: rates n to 0, and so many crossings, from bucket i on at 2·i + 1 + d, 2·i + 3 + d and so on.
unfoldable pub stairs : ℕ → ℕ → ℕ → List Bucket
stairs d i zero = record { rate = 0; burst = i * (i + d) } ∷ []
stairs d i (suc n) = record { rate = suc n; burst = i * (i + d) } ∷ stairs d (i + 1) n

-- 32 odd crossings, and 31 or 32 even ones
abbrev pub odd_32 : List Bucket
odd_32 = stairs 0 0 32

abbrev pub even_31 : List Bucket
even_31 = stairs 1 0 31

abbrev pub even_32 : List Bucket
even_32 = stairs 1 0 32

odd_good : Good odd_32
unfolding is_normal last stairs buckets
odd_good = record { normal = refl; few = lit≤ tt; slow = lit≤ tt; short = lit≤ tt }

even_31_good : Good even_31
unfolding is_normal last stairs buckets
even_31_good = record { normal = refl; few = lit≤ tt; slow = lit≤ tt; short = lit≤ tt }

even_32_good : Good even_32
unfolding is_normal last stairs buckets
even_32_good = record { normal = refl; few = lit≤ tt; slow = lit≤ tt; short = lit≤ tt }

-- 63 crossings make 64 buckets, which are answered,
pub crossings_63 : OnlyAnswer (summing (list_of odd_32) (list_of even_31)) (list_of (merged_sum odd_32 even_31)) 64
unfolding merged_sum last stairs
crossings_63 = only_sum odd_good even_31_good (lit≤ tt) (lit≤ tt) (lit≤ tt)

-- and 64 make 65, which are not
pub crossings_64 :
    {before after : List ℕ} {code count : ℕ} → Outcome (summing (list_of odd_32) (list_of even_32)) before after code count
    → Same code count 9 0 after before
unfolding merged_sum stairs
crossings_64 = only_large odd_good even_32_good (lit≤ tt)

-- ---- Wrong answers.

-- Crossings that come together taken in one list first: between them stands a bucket that is nowhere strictly lowest
pub step_in_one_list :
    {before : List ℕ}
    → Outcome (summing (list_of C) (list_of C)) before (over (list_of (buckets (20 ∷ 4 ∷ 13 ∷ 22 ∷ 6 ∷ 40 ∷ []))) before) 0 3 → ⊥
step_in_one_list o = omega (arith, (only_answered c_twice o).figure_same)

-- The 65th bucket dropped, and 64 answered
pub bucket_dropped :
    (f g : List ℕ) {before after : List ℕ} {count : ℕ} → 64 < length (merged_sum (curve_of f) (curve_of g))
    → Outcome (summing f g) before after 0 count → ⊥
bucket_dropped f g many o = let a = answered_list o in a.fits (inl (rw (sum_answered f g o).0 many))

-- Crossings compared rounded: 1/2 and 1/3 are then both 0, or both 1, and come together
pub rounded_crossings :
    {before : List ℕ}
    → Outcome (summing (list_of half) (list_of third)) before (over (list_of (buckets (7 ∷ 0 ∷ 2 ∷ 2 ∷ []))) before) 0 2 → ⊥
rounded_crossings o = omega (arith, (only_answered within_a_tick o).figure_same)
