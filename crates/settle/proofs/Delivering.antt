-- Buckets handed over as they stand, refusal by refusal, then the curve in the part of the table.
-- Assumes nothing.
use mathlib.Core.Path.{◌≡◌, refl, sym, ◌∙◌}
use mathlib.Core.Bool.{Bool, true, false}
use mathlib.Core.Logic.{inl, inr}
use mathlib.Core.List.{List}
use Prim.Native.Nat.{ℕ, ◌/◌, ◌%◌, ◌≤◌, ◌<◌}
use native.Mathlib.Omega.{arith}
use lib.Dec.{lit≤}
use lib.ListN.{length, take, length-take}
use lib.Seq.{take_all}
use Rattle.meaning.specs.Curve.{Bucket, buckets, flat, list_of}
use Rattle.meaning.specs.Refusal.{LIST, LARGE, number, ◌when◌, Clear, Verdict, AllWithin, TooLarge, Uneven, over, Question, Outcome, part, PartOutcome}
use Rattle.meaning.proofs.Lists.{buckets_use, buckets_flat, flat_length}
use Rattle.meaning.proofs.Order.{le_or_lt}
use Rattle.meaning.proofs.Outcome.Outcomes.{Single, Same, one_part_outcome, up_to_when, line_miss, three_parts, refuse_in_part, too_large, no_room, written_out, asked_so_in_part}
use Rattle.checks.specs.Cited.{Tells}
use Rattle.checks.proofs.Buckets.{buckets_count, flat_buckets}
use Rattle.checks.proofs.Checks.{passed, even_some, even_whole}
use Rattle.settle.specs.Cited.{delivering, Placed}
use Rattle.settle.proofs.Placing.{part_after, outside_after}

-- a refusal leaves the table as it is
pub untouched :
    {ask : Question} {at room : ℕ} {table : List ℕ} {code : ℕ}
    → Outcome ask (part at room table) (part at room table) code 0 → PartOutcome ask at room table table code 0
untouched {at = at} {room = room} {table = table} o = record { inside = o; outside = three_parts at room table }

-- only these buckets are the answer
single_delivery : (pairs : List ℕ) → Single (delivering pairs).Answer
unfolding delivering
single_delivery pairs f g e e' = e ∙ sym e'

-- buckets that come out even are handed over
pub delivery_clear : (pairs : List ℕ) → (Uneven 2 pairs → ⊥) → Clear (delivering pairs).operands
unfolding delivering
delivery_clear pairs even r h = even h.1

delivery_right : (pairs : List ℕ) → (delivering pairs).Answer (buckets pairs)
unfolding delivering
delivery_right pairs = refl

module _ (pairs : List ℕ) {even : ℕ} (v : Verdict (LIST when (Uneven 2 pairs)) even) (zero_code : even ≡ 0) where
  evenly : length pairs % 2 ≡ 0
  evenly = even_whole 2 pairs (passed v zero_code)

  clear : Clear (delivering pairs).operands
  clear = delivery_clear pairs (λ h. passed v zero_code LIST (refl, h))

  -- the curve's list is the pairs
  numbers_are : list_of (buckets pairs) ≡ pairs
  unfolding list_of
  numbers_are = flat_buckets pairs evenly

  -- there is something to place
  pub delivery_some : 1 ≤ length pairs
  delivery_some = even_some 2 pairs (passed v zero_code)

-- buckets that are few and in range are not too large
not_large :
    (pairs : List ℕ) {answer : Bool} → length pairs ≤ 128 → Tells (AllWithin 1048576 1099511627776 (buckets pairs)) answer
    → answer ≡ true → TooLarge (buckets pairs) → ⊥
not_large pairs few t fits (inl many) = omega (arith, buckets_use pairs)
not_large pairs {answer} few t fits (inr out_of) = out_of (t.yes_means fits)

module _ (pairs : List ℕ) {at room : ℕ} {table : List ℕ} {even : ℕ} (v : Verdict (LIST when (Uneven 2 pairs)) even) where
  -- there is none, or half of one
  pub delivered_uneven : (even ≡ 0 → ⊥) → PartOutcome (delivering pairs) at room table table even 0
  unfolding delivering number
  delivered_uneven some = refuse_in_part (delivering pairs) at room table (up_to_when LIST (lit≤ tt)) (omega (arith, some)) v

  module _ (zero_code : even ≡ 0) where
    -- there are over 64
    pub delivered_many : 128 < length pairs → PartOutcome (delivering pairs) at room table table (number LARGE) 0
    unfolding number
    delivered_many h =
        untouched (too_large (delivering pairs) _ (clear pairs v zero_code) (delivery_right pairs) (inl (omega (arith, buckets_use pairs, evenly pairs v zero_code))))

    module _ (few : length pairs ≤ 128) {answer : Bool} (t : Tells (AllWithin 1048576 1099511627776 (buckets pairs)) answer) where
      -- one is out of range
      pub delivered_large : answer ≡ false → PartOutcome (delivering pairs) at room table table (number LARGE) 0
      unfolding number
      delivered_large n =
          untouched (too_large (delivering pairs) _ (clear pairs v zero_code) (delivery_right pairs) (inr (t.no_means n)))

      module _
          (fits : answer ≡ true) {after : List ℕ} {code : ℕ} (p : Placed pairs at room table after code)
        where
          -- the part is too short
          pub delivered_short : (code ≡ 0 → ⊥) → PartOutcome (delivering pairs) at room table after code 0
          unfolding number
          delivered_short n =
              rw (p.stays n, p.is_room n)
              (untouched
              (no_room (delivering pairs) _ (clear pairs v zero_code) (delivery_right pairs) (single_delivery pairs) (not_large pairs few t fits)
              (rw (numbers_are pairs v zero_code) (p.short n))))

          -- the curve stands in the part
          pub delivered : code ≡ 0 → PartOutcome (delivering pairs) at room table after 0 (length pairs / 2)
          delivered fine =
              record {
                inside = rw (part_after p fine (delivery_some pairs v zero_code)) stands;
                outside = outside_after p fine (delivery_some pairs v zero_code);
              }
            where
              stands :
                  Outcome (delivering pairs) (part at room table) (over pairs (part at room table)) 0 (length pairs / 2)
              stands =
                  rw (← buckets_count pairs)
                  (rw (numbers_are pairs v zero_code) at
                  (written_out (delivering pairs) (part at room table) (clear pairs v zero_code) (delivery_right pairs) (single_delivery pairs) (not_large pairs few t fits)
                  (rw (numbers_are pairs v zero_code) (p.fits fine))))

-- One outcome for every input: the code, the count and the whole table are fixed.
pub one_delivering :
    (pairs : List ℕ) {at room : ℕ} {table after after' : List ℕ} {code count code' count' : ℕ}
    → PartOutcome (delivering pairs) at room table after code count
    → PartOutcome (delivering pairs) at room table after' code' count' → Same code count code' count' after after'
one_delivering pairs v w = one_part_outcome (single_delivery pairs) v w

-- ---- The answer to a question, handed over.

-- the numbers of some buckets come out even
flat_even : (f : List Bucket) → 1 ≤ length f → Uneven 2 (flat f) → ⊥
flat_even f h (inl none) = omega (arith, flat_length f)
flat_even f h (inr odd) = odd (omega (arith, flat_length f))

-- A question that no operand refuses has one answer, of at least one bucket.
module _
    (ask : Question) (f : List Bucket) (clear : Clear ask.operands) (right : ask.Answer f)
    (only : (g : List Bucket) → ask.Answer g → g ≡ f) (some : 1 ≤ length f)
  where
    module _ {at room : ℕ} {table after : List ℕ} {code count : ℕ} where
      -- handed over, it is what was asked for
      pub handed_over : PartOutcome (delivering (flat f)) at room table after code count → PartOutcome ask at room table after code count
      unfolding delivering
      handed_over =
          asked_so_in_part (delivering (flat f)) ask (delivery_clear (flat f) (flat_even f some)) clear
          (λ g e. rw (e, buckets_flat f) right) (λ g h. only g h ∙ sym (buckets_flat f))

      -- the first 65 of more are too many as well
      cut_short : 64 < length f → PartOutcome (delivering (flat (take 65 f))) at room table after code count → PartOutcome ask at room table after code count
      unfolding number
      cut_short many o =
          let long : length (flat (take 65 f)) ≡ 130 = omega (arith, flat_length (take 65 f), length-take 65 f) in
          let same =
          one_delivering (flat (take 65 f)) o
          (delivered_many (flat (take 65 f)) (line_miss (flat_even (take 65 f) (omega (arith, length-take 65 f)))) refl (omega arith))
          in
          rw (same.code_same, same.figure_same, same.after_same) (untouched (too_large ask _ clear right (inl many)))

      -- so it is enough to hand it over up to its 65th bucket
      pub answered_by :
          PartOutcome (delivering (flat (take 65 f))) at room table after code count → PartOutcome ask at room table after code count
      answered_by o =
          elim (le_or_lt (length f) 64) [
            | inl few ↦ handed_over (rw (take_all 65 f (omega arith)) at o)
            | inr many ↦ cut_short many o
          ]
