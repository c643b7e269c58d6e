-- From raw buckets to the outcome in a part of a table: what the tests say one after the other, and the normal form that is
-- chosen, handed over.
-- Assumes nothing.
use mathlib.Core.Path.{◌≡◌, refl, sym, ◌∙◌, ap, subst}
use mathlib.Core.Bool.{Bool, true, false, not}
use mathlib.Core.Logic.{inl, inr}
use mathlib.Core.List.{List}
use Prim.Native.Nat.{ℕ, ◌/◌, ◌%◌, ◌≤◌}
use native.Mathlib.Omega.{arith}
use lib.Dec.{lit≤}
use lib.ListN.{length}
use Rattle.meaning.specs.Curve.{buckets}
use Rattle.meaning.specs.Computed.{normal}
use Rattle.meaning.specs.Refusal.{LIST, RANGE, LARGE, number, ◌when◌, Clear, Verdict, AllWithin, Uneven, PartOutcome}
use Rattle.meaning.proofs.Order.{not_apart}
use Rattle.meaning.proofs.Curve.Unique.{normal_of_unique}
use Rattle.meaning.proofs.Curve.Normal.{normal_is}
use Rattle.meaning.proofs.Outcome.Outcomes.{Single, Same, one_part_outcome, from_when, up_to_when, up_to_or, line_hit, line_miss, refused_first, refused_then, refuse_in_part, too_large}
use Rattle.checks.specs.Cited.{Tells}
use Rattle.std.specs.Simd.{first_chunks}
use Rattle.std.specs.List.{flat_map}
use Rattle.std.proofs.Common.{Result}
use Rattle.std.specs.Result.{is_ok, is_err}
use Rattle.settle.specs.Order.{buckets_in}
use Rattle.settle.specs.Cited.{AllWide, settling, delivering, Chose}
use Rattle.settle.proofs.Pairs.{pairs_are, numbers_are}
use Rattle.checks.proofs.Checks.{passed}
use Rattle.checks.proofs.Ranges.{within_unless}
use Rattle.settle.proofs.Delivering.{untouched, handed_over}
use Rattle.meaning.proofs.Lists.{buckets_use}

-- ---- The operands.

module _ (raw : List ℕ) {even : ℕ} (v : Verdict (LIST when (Uneven 2 raw)) even) where
  -- there is no bucket, or half of one
  pub refused_uneven : (even ≡ 0 → ⊥) → Verdict (settling raw).operands even
  unfolding settling number
  refused_uneven some =
      refused_first {n = 4} (up_to_when LIST (lit≤ tt)) (from_when RANGE (lit≤ tt)) (omega (arith, some)) v

  module _ (zero_code : even ≡ 0) {answer : Bool} (t : Tells (AllWithin 1048576 2199023255552 (buckets raw)) answer) where
    list_passed : Verdict (LIST when (Uneven 2 raw)) 0
    list_passed = subst (Verdict (LIST when (Uneven 2 raw))) zero_code v

    -- one is too wide
    pub refused_range : answer ≡ false → Verdict (settling raw).operands (number RANGE)
    unfolding settling number
    refused_range n = refused_then list_passed (line_hit RANGE (t.no_means n))

    -- no line holds
    pub refused_not : answer ≡ true → Verdict (settling raw).operands 0
    unfolding settling
    refused_not n = refused_then list_passed (line_miss (λ out. out (t.yes_means n)))

-- There is a bucket, and none is too wide.
pub record Accepted (raw : List ℕ) : Type 0 where
  pub some : 1 ≤ length (buckets raw)
  pub wide : AllWide (buckets raw)
  pub clear : Clear (settling raw).operands

module _ (raw : List ℕ) where
  accepted_clear : Clear (settling raw).operands → Accepted raw
  unfolding settling
  accepted_clear none =
      let even : length raw % 2 ≡ 0 = not_apart (λ odd. none LIST (inl (refl, inr odd))) in
      let filled : length raw ≡ 0 → ⊥ = λ e. none LIST (inl (refl, inl e)) in
      record {
        some = omega (arith, filled, buckets_use raw);
        wide = within_unless (λ out. none RANGE (inr (refl, out)));
        clear = none;
      }

  module _ {code : ℕ} (v : Verdict (settling raw).operands code) where
    pub accept : code ≡ 0 → Accepted raw
    accept e = accepted_clear (passed v e)

    pub wide_pairs :
        code ≡ 0 → {pairs : List (List ℕ)} → pairs ≡ first_chunks 2 (length raw / 2) raw → AllWide (buckets_in pairs)
    wide_pairs e p = rw (p, pairs_are raw) (accept e).wide

    -- an operand is refused
    pub settled_refused :
        {at room : ℕ} {table : List ℕ} → (code ≡ 0 → ⊥) → PartOutcome (settling raw) at room table table code 0
    unfolding settling number
    settled_refused some =
        refuse_in_part (settling raw) _ _ _ (up_to_or (up_to_when LIST (lit≤ tt)) (up_to_when RANGE (lit≤ tt))) (omega (arith, some)) v

  -- a raw list has one normal form
  single : Single (settling raw).Answer
  unfolding settling
  single f g hf hg = normal_of_unique hf hg

  right : Accepted raw → (settling raw).Answer (normal (buckets raw))
  unfolding settling
  right a = normal_is (buckets raw) a.some

-- ---- The outcome.

module _
    (raw : List ℕ) (a : Accepted raw) {pairs : List (List ℕ)} (p : pairs ≡ first_chunks 2 (length raw / 2) raw)
    {chosen : List (List ℕ)} {E : Type 0} {all : Result (Unit {0}) E} (c : Chose (buckets_in pairs) chosen all)
  where
    chose : Chose (buckets raw) chosen all
    chose = rw (p, pairs_are raw) at c

    -- the normal form has too many buckets
    pub settled_many :
        {refused : Bool} → refused ≡ is_err all → refused ≡ true → {at room : ℕ} {table : List ℕ}
        → PartOutcome (settling raw) at room table table (number LARGE) 0
    unfolding number
    settled_many t many = untouched (too_large (settling raw) _ a.clear (right raw a) (inl (chose.over_many (sym t ∙ many))))

    -- what comes of handing its buckets over comes of settling
    pub settled :
        {refused : Bool} → is_ok all ≡ not refused → refused ≡ false → {items : List (List ℕ)} → items ≡ chosen → {list table after : List ℕ} {at room code count : ℕ}
        → list ≡ flat_map (λ (pair : List ℕ). pair) items → PartOutcome (delivering list) at room table after code count
        → PartOutcome (settling raw) at room table after code count
    settled t few same laid o =
        handed_over (settling raw) (normal (buckets raw)) a.clear (right raw a)
        (λ g n. single raw g (normal (buckets raw)) n (right raw a))
        (normal_is (buckets raw) a.some).form.some
        (rw (laid, same, chose.whole (t ∙ ap not few), numbers_are (normal (buckets raw))) at o)

-- One outcome for every input: the code, the count and the whole table are fixed.
pub one_settling :
    (raw : List ℕ) {at room : ℕ} {table after after' : List ℕ} {code count code' count' : ℕ}
    → PartOutcome (settling raw) at room table after code count
    → PartOutcome (settling raw) at room table after' code' count' → Same code count code' count' after after'
one_settling raw v w = one_part_outcome (single raw) v w
