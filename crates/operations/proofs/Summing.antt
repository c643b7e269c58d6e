-- Two curves added by merging, step by step: how the walk goes on from two buckets at hand, and what is pushed of the sum so far.
-- Assumes nothing.
use mathlib.Core.Path.{◌≡◌, refl, sym, ◌∙◌, ap, ap₂}
use mathlib.Core.Logic.{inl, inr}
use mathlib.Core.Bool.{Bool, true, false, cond}
use mathlib.Core.List.{List, [], ◌∷◌, ◌++◌, map}
use Prim.Native.Nat.{ℕ, zero, suc, ◌+◌, ◌-◌, ◌*◌, ◌^◌, ◌≤◌, ◌<◌}
use native.Mathlib.Nat.{le_of_eq, le_of_lt, mul-le-mul}
use native.Mathlib.Omega.{arith}
use mir.Syntax.{w64}
use mir.Val.{Fits, bool_byte}
use borrow.Author.Tests.{lt-ltb, le-ltb, le-leb, lt-leb}
use lib.Dec.{leb, ltb}
use lib.ListN.{length, take, drop, length-take, drop_of_length-le}
use Rattle.meaning.specs.Curve.{Bucket, added}
use Rattle.meaning.specs.Computed.{crosses_before, sum_after, merged_sum}
use Rattle.meaning.specs.Refusal.{AllInRange}
use Rattle.meaning.proofs.Lists.{at_inside}
use Rattle.meaning.proofs.Curve.Value.{same_rate}
use Rattle.meaning.proofs.Order.{le_or_lt, lt_or_eq_or_gt}
use Rattle.checks.specs.Cited.{nth}
use Rattle.settle.specs.Cited.{numbers}
use Rattle.checks.proofs.Buckets.{left_from}
use Rattle.operations.specs.Cited.{Tested, CrossingAt, TurnAfter, AtHand, StepOf}
use Rattle.operations.specs.declared.adding.Step.{Step}
use Rattle.operations.specs.declared.crossings.Crossing.{Crossing}
use Rattle.operations.proofs.Pushing.{Pushed, pushed_start, pushed_count, pushed_next, pushed_end}
use Rattle.operations.proofs.Turning.{crossing_some, crossing_rise_fits, crossing_fall_fits}

-- ---- The step from two buckets on.

abbrev step : ℕ → ℕ → Step
step first second = record { first = first; second = second }

-- Both numbers of a turn are in range, of the last bucket's too.
module _ {f : List Bucket} {i : ℕ} {c : Crossing} (t : Tested f) (is : TurnAfter f i c) where
  turn_fits : (c.rise < 2 ^ 40) × (c.fall < 2 ^ 20)
  turn_fits =
      elim (le_or_lt (length f) (i + 1)) [
        | inl end ↦ (omega (arith, (is.last end).0), omega (arith, (is.last end).1))
        | inr more ↦
            (crossing_rise_fits t (omega arith, more) (is.next more), crossing_fall_fits t (omega arith, more) (is.next more))
      ]

-- a rise of one by a fall of the other
pub product_fits :
    {f g : List Bucket} {i j : ℕ} {a b : Crossing} → Tested f → Tested g → TurnAfter f i a → TurnAfter g j b
    → Fits w64 (a.rise * b.fall)
product_fits t t' is is' =
    record { fits = omega (arith, mul-le-mul (le_of_lt (turn_fits t is).0) (le_of_lt (turn_fits t' is').1)) }

-- the sum goes on in the list that has a bucket left,
sum_first_left : (k l j : Bucket) (f : List Bucket) → merged_sum (k ∷ l ∷ f) (j ∷ []) ≡ added k j ∷ merged_sum (l ∷ f) (j ∷ [])
unfolding merged_sum
sum_first_left k l j f = refl

sum_second_left : (k j i : Bucket) (g : List Bucket) → merged_sum (k ∷ []) (j ∷ i ∷ g) ≡ added k j ∷ merged_sum (k ∷ []) (i ∷ g)
unfolding merged_sum
sum_second_left k j i g = refl

module _ (k l j i : Bucket) (f g : List Bucket) where
  -- or in that whose crossing comes first, or in both
  abbrev by_tests : Bool → Bool → List Bucket
  by_tests before after =
      added k j
      ∷ cond before (merged_sum (l ∷ f) (j ∷ i ∷ g)) (cond after (merged_sum (k ∷ l ∷ f) (i ∷ g)) (merged_sum (l ∷ f) (i ∷ g)))

  sum_by_tests : merged_sum (k ∷ l ∷ f) (j ∷ i ∷ g) ≡ by_tests (crosses_before k l j i) (crosses_before j i k l)
  unfolding merged_sum
  sum_by_tests = refl

-- of nothing, nothing
take_none : (n : ℕ) (l : List Bucket) → l ≡ [] → take n l ≡ []
take_none zero l e = refl
take_none (suc n) l e = rw e refl

-- the bucket at hand, with what follows it
at_hand : (f : List Bucket) (i : ℕ) → i < length f → drop i f ≡ nth f i ∷ drop (i + 1) f
at_hand f i inside = left_from f i inside refl

-- nothing follows the last
none_left : (f : List Bucket) (i : ℕ) → length f ≤ i + 1 → drop (i + 1) f ≡ []
none_left f i end = drop_of_length-le f {i = i + 1} end

-- no step
stays : (i : ℕ) → i + 0 ≡ i
stays i = omega arith

-- the test compares the crossings after the buckets at hand
crossing_test :
    (f g : List Bucket) (i j : ℕ) {a b : Crossing} → CrossingAt f (i + 1) a → CrossingAt g (j + 1) b
    → crosses_before (nth f i) (nth f (i + 1)) (nth g j) (nth g (j + 1)) ≡ ltb (a.rise * b.fall) (b.rise * a.fall)
unfolding crosses_before
crossing_test f g i j is is' =
    let back : i + 1 - 1 ≡ i = omega arith in
    let back' : j + 1 - 1 ≡ j = omega arith in
    rw (is.rise_is, is.fall_is, is'.rise_is, is'.fall_is, back, back')

module _ (f g : List Bucket) {i j : ℕ} (inside : i < length f) (inside' : j < length g) where
  -- none follows in either: what is at hand is all
  sum_ends : length f ≤ i + 1 → length g ≤ j + 1 → merged_sum (drop i f) (drop j g) ≡ added (nth f i) (nth g j) ∷ []
  unfolding merged_sum
  sum_ends end end' = rw (at_hand f i inside, at_hand g j inside', none_left f i end, none_left g j end')

  -- one follows in the second only,
  in_second : length f ≤ i + 1 → j + 1 < length g → StepOf f g i j (step 0 1)
  in_second end more =
      record {
        inside = (omega arith, more);
        next =
            rw (stays i, at_hand f i inside, at_hand g j inside', none_left f i end, at_hand g (j + 1) more) (sum_second_left _ _ _ _);
      }

  -- or in the first only
  in_first : i + 1 < length f → length g ≤ j + 1 → StepOf f g i j (step 1 0)
  in_first more end =
      record {
        inside = (more, omega arith);
        next =
            rw (stays j, at_hand f i inside, at_hand g j inside', at_hand f (i + 1) more, none_left g j end) (sum_first_left _ _ _ _);
      }

  -- one follows in both, and the tests of the crossings decide
  module _ (more : i + 1 < length f) (more' : j + 1 < length g) {a b : Crossing} (is : CrossingAt f (i + 1) a) (is' : CrossingAt g (j + 1) b) where
    tested_by :
        (before after : Bool) → ltb (a.rise * b.fall) (b.rise * a.fall) ≡ before
        → ltb (b.rise * a.fall) (a.rise * b.fall) ≡ after
        → merged_sum (drop i f) (drop j g)
        ≡ by_tests (nth f i) (nth f (i + 1)) (nth g j) (nth g (j + 1)) (drop (i + 1 + 1) f) (drop (j + 1 + 1) g) before after
    tested_by before after e d =
        rw (
          at_hand f i inside,
          at_hand g j inside',
          at_hand f (i + 1) more,
          at_hand g (j + 1) more',
          ← e,
          ← d,
          ← crossing_test f g i j is is',
          ← crossing_test g f j i is' is,
        )
        (sum_by_tests _ _ _ _ _ _)

    -- the first's comes first,
    first_before : a.rise * b.fall < b.rise * a.fall → StepOf f g i j (step 1 0)
    first_before h =
        record {
          inside = (more, omega arith);
          next =
              tested_by true _ (lt-ltb _ _ h) refl
              ∙ rw (stays j, at_hand g j inside', at_hand f (i + 1) more, at_hand g (j + 1) more');
        }

    -- the second's does,
    second_before : b.rise * a.fall < a.rise * b.fall → StepOf f g i j (step 0 1)
    second_before h =
        record {
          inside = (omega arith, more');
          next =
              tested_by false true (le-ltb _ _ (le_of_lt h)) (lt-ltb _ _ h)
              ∙ rw (stays i, at_hand f i inside, at_hand f (i + 1) more, at_hand g (j + 1) more');
        }

    -- or they come together
    both_together : a.rise * b.fall ≡ b.rise * a.fall → StepOf f g i j (step 1 1)
    both_together e =
        record {
          inside = (more, more');
          next =
              tested_by false false (le-ltb _ _ (le_of_eq (sym e))) (le-ltb _ _ (le_of_eq e))
              ∙ rw (at_hand f (i + 1) more, at_hand g (j + 1) more');
        }

-- So each list goes on that turns no later than the other.
module _
    {f g : List Bucket} {i j : ℕ} (t : Tested f) (t' : Tested g) (h : AtHand f g i j) {a b : Crossing} (is : TurnAfter f i a)
    (is' : TurnAfter g j b) {first second : ℕ} (e : first ≡ bool_byte (leb (a.rise * b.fall) (b.rise * a.fall)))
    (d : second ≡ bool_byte (leb (b.rise * a.fall) (a.rise * b.fall)))
  where
    -- the first turns before the second,
    before_is : a.rise * b.fall < b.rise * a.fall → StepOf f g i j (step 1 0) → StepOf f g i j (step first second)
    before_is l s = rw (e, d, le-leb (a.rise * b.fall) (b.rise * a.fall) (le_of_lt l), lt-leb (b.rise * a.fall) (a.rise * b.fall) l) s

    -- after it,
    after_is : b.rise * a.fall < a.rise * b.fall → StepOf f g i j (step 0 1) → StepOf f g i j (step first second)
    after_is l s = rw (e, d, lt-leb (a.rise * b.fall) (b.rise * a.fall) l, le-leb (b.rise * a.fall) (a.rise * b.fall) (le_of_lt l)) s

    -- or with it
    together_is : a.rise * b.fall ≡ b.rise * a.fall → StepOf f g i j (step 1 1) → StepOf f g i j (step first second)
    together_is l s =
        rw (e, d, le-leb (a.rise * b.fall) (b.rise * a.fall) (le_of_eq l), le-leb (b.rise * a.fall) (a.rise * b.fall) (le_of_eq (sym l))) s

    pub step_by_times : StepOf f g i j (step first second)
    step_by_times =
        elim (le_or_lt (length f) (i + 1)) [
          | inl end ↦
              elim (le_or_lt (length g) (j + 1)) [
                | inl end' ↦ absurd (omega (arith, h.not_last))
                | inr more' ↦
                    let some = crossing_some t' (omega arith, more') (is'.next more') in
                    after_is (rw ((is.last end).0, (is.last end).1) (omega arith)) (in_second f g h.first_inside h.second_inside end more')
              ]
          | inr more ↦
              elim (le_or_lt (length g) (j + 1)) [
                | inl end' ↦
                    let some = crossing_some t (omega arith, more) (is.next more) in
                    before_is (rw ((is'.last end').0, (is'.last end').1) (omega arith)) (in_first f g h.first_inside h.second_inside more end')
                | inr more' ↦ in_both more more'
              ]
        ]
      where
        in_both : i + 1 < length f → j + 1 < length g → StepOf f g i j (step first second)
        in_both more more' =
            elim (lt_or_eq_or_gt (a.rise * b.fall) (b.rise * a.fall)) [
              | inl l ↦ before_is l (first_before f g h.first_inside h.second_inside more more' (is.next more) (is'.next more') l)
              | inr (inl l) ↦
                  together_is l (both_together f g h.first_inside h.second_inside more more' (is.next more) (is'.next more') l)
              | inr (inr l) ↦ after_is l (second_before f g h.first_inside h.second_inside more more' (is.next more) (is'.next more') l)
            ]

-- ---- The sum so far.

-- The first `count` buckets of the sum are pushed, and those left up to the 65th are the sum of what is left of the two, from the buckets
-- numbered i and j on.
pub record Summing (f g : List Bucket) (count i j : ℕ) (items : List (List ℕ)) : Type 0 where
  pub inside : (i < length f) × (j < length g)
  pub pushed : Pushed (take 65 (merged_sum f g)) (take (65 - count) (merged_sum (drop i f) (drop j g))) items

pub summing_start :
    (f g : List Bucket) {items : List (List ℕ)} → 0 < length f → 0 < length g → items ≡ [] → Summing f g 0 0 0 items
summing_start f g some some' none = record { inside = (some, some'); pushed = pushed_start (take 65 (merged_sum f g)) none }

module _ {f g : List Bucket} {count i j : ℕ} {items : List (List ℕ)} (w : Summing f g count i j items) where
  -- the 65th is pushed
  pub summing_full : 65 ≤ count → items ≡ map numbers (take 65 (merged_sum f g))
  summing_full full = let none : 65 - count ≡ 0 = omega arith in pushed_end w.pushed (rw none refl)

  module _ (few : count < 65) where
    -- the next bucket is the sum of the two at hand
    next_sum :
        merged_sum (drop i f) (drop j g)
        ≡ added (nth f i) (nth g j) ∷ sum_after (nth f i) (drop (i + 1) f) (nth g j) (drop (j + 1) g)
    unfolding merged_sum
    next_sum = rw (at_hand f i w.inside.0, at_hand g j w.inside.1)

    -- up to the 65th it is, and so is what is behind it
    left_is :
        {here : Bucket} {rest : List Bucket} → merged_sum (drop i f) (drop j g) ≡ here ∷ rest
        → take (65 - count) (merged_sum (drop i f) (drop j g)) ≡ here ∷ take (65 - (count + 1)) rest
    left_is e = let one : 65 - count ≡ suc (65 - (count + 1)) = omega arith in rw (e, one) refl

    -- there is room for it
    pub summing_room : length items < 65
    summing_room =
        omega (
          arith,
          pushed_count w.pushed,
          ap length (left_is next_sum),
          length-take 65 (merged_sum f g),
        )

    module _ {a b : Bucket} (is : a ≡ nth f i) (is' : b ≡ nth g j) where
      -- it fits
      pub summing_rate_fits : AllInRange f → AllInRange g → Fits w64 (a.rate + b.rate)
      summing_rate_fits all all' =
          record {
            fits =
                omega (
                  arith,
                  same_rate is,
                  same_rate is',
                  (all (nth f i) (at_inside f i _ w.inside.0)).rate_fits,
                  (all' (nth g j) (at_inside g j _ w.inside.1)).rate_fits,
                );
          }

      pub summing_burst_fits : AllInRange f → AllInRange g → Fits w64 (a.burst + b.burst)
      summing_burst_fits all all' =
          record {
            fits =
                omega (
                  arith,
                  ap (λ (k : Bucket). k.burst) is,
                  ap (λ (k : Bucket). k.burst) is',
                  (all (nth f i) (at_inside f i _ w.inside.0)).burst_fits,
                  (all' (nth g j) (at_inside g j _ w.inside.1)).burst_fits,
                );
          }

      module _ {longer : List (List ℕ)} (one : longer ≡ items ++ ((a.rate + b.rate) ∷ (a.burst + b.burst) ∷ []) ∷ []) where
        -- where the two at hand are the last, it is the last
        pub summing_last : length f + length g ≤ i + j + 2 → longer ≡ map numbers (take 65 (merged_sum f g))
        unfolding added
        summing_last last =
            pushed_end
            (pushed_next w.pushed
            (left_is
            (sum_ends f g w.inside.0 w.inside.1 (omega (arith, w.inside.1)) (omega (arith, w.inside.0)) ∙ ap (λ (k : Bucket). k ∷ []) (sym (ap₂ added is is'))))
            one)
            (take_none (65 - (count + 1)) [] refl)

        -- where they are not, the walk goes on
        pub summing_step :
            {r : Step} → StepOf f g i j r → Summing f g (count + 1) (i + r.first) (j + r.second) longer
        unfolding added
        summing_step s =
            record {
              inside = s.inside;
              pushed =
                  pushed_next w.pushed
                  (left_is (s.next ∙ ap₂ (λ (k : Bucket) (l : List Bucket). k ∷ l) (sym (ap₂ added is is')) refl)) one;
            }
