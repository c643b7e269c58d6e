-- The tests for refusals: the lines of the table put together, in the order of their numbers, and what it says of a list that none holds.
-- Assumes nothing.
use mathlib.Core.Path.{◌≡◌, refl, sym, ◌∙◌, subst}
use mathlib.Core.Logic.{◌⊎◌, inl, inr}
use mathlib.Core.Bool.{Bool, true, false}
use mathlib.Core.List.{List}
use Prim.Native.Nat.{ℕ, ◌%◌, ◌^◌, ◌≤◌, ◌<◌, min}
use native.Mathlib.Nat.{min-eq_left, min-eq_right, le_of_lt}
use native.Mathlib.Omega.{arith}
use lib.ListN.{length}
use lib.Dec.{lit≤}
use borrow.Author.Tests.{eq-eqb, ne_eqb}
use Rattle.meaning.specs.Curve.{Bucket, buckets, width, curve_of, NormalForm}
use Rattle.meaning.specs.Refusal.{LIST, COUNT, RANGE, FORM, number, Lines, ◌when◌, ◌or◌, Clear, Verdict, accepted, rejected, AllInRange, Uneven, list_lines, raw_lines, curve_lines}
use Rattle.meaning.specs.CurveQuestions.{link_line}
use Rattle.meaning.specs.Computed.{earlier}
use Rattle.meaning.proofs.Outcome.Outcomes.{number_positive, from_when, up_to_when, up_to_or, line_hit, line_miss, refused_first, refused_then}
use Rattle.meaning.proofs.Outcome.Answers.{link_clear}
use Rattle.checks.specs.Cited.{Tells}
use Rattle.meaning.proofs.Lists.{buckets_use, curve_use}
use Rattle.meaning.proofs.Order.{not_above, not_apart}
use Rattle.meaning.proofs.Outcome.Stable.{range_stable}

-- ---- The lines of a list of buckets, in the order of their numbers.

-- where a test gives 0, none of its lines holds
pub passed : {lines : Lines} {code : ℕ} → Verdict lines code → code ≡ 0 → Clear lines
passed (accepted none e) h = none
passed (rejected r w e) h = absurd (omega (arith, e, number_positive r))

module _ {a b : Lines} (clear : Clear (a or b)) where
  -- no line of the first
  pub clear_first : Clear a
  clear_first r h = clear r (inl h)

  -- no line of the second
  pub clear_second : Clear b
  clear_second r h = clear r (inr h)

-- what LIST says of a list that no line refuses
module _ (numbers : ℕ) (l : List ℕ) (clear : Clear (LIST when (Uneven numbers l))) where
  -- it is not empty,
  pub even_some : 1 ≤ length l
  even_some = not_above (λ h. clear LIST (refl, inl (omega arith)))

  -- and comes out even
  pub even_whole : length l % numbers ≡ 0
  even_whole = not_apart (λ h. clear LIST (refl, inr h))

module _ (numbers : ℕ) (l : List ℕ) (f : List Bucket) {code : ℕ} (v : Verdict (LIST when (Uneven numbers l)) code) where
  -- what LIST or COUNT refuses is refused, whatever the ranges
  short_refused :
      {short : ℕ} → 1 ≤ short → Verdict (LIST when (Uneven numbers l) or COUNT when (64 < length f)) short
      → Verdict (list_lines numbers l f) short
  unfolding number
  short_refused some w =
      refused_first {n = 6} (up_to_or (up_to_when LIST (lit≤ tt)) (up_to_when COUNT (lit≤ tt))) (from_when RANGE (lit≤ tt)) some w

  -- LIST comes first
  pub list_refused : (code ≡ 0 → ⊥) → Verdict (list_lines numbers l f) code
  unfolding number
  list_refused some =
      short_refused (omega (arith, some))
      (refused_first {n = 4} (up_to_when LIST (lit≤ tt)) (from_when COUNT (lit≤ tt)) (omega (arith, some)) v)

  module _ (zero_code : code ≡ 0) where
    -- LIST does not hold
    list_passed : Verdict (LIST when (Uneven numbers l)) 0
    list_passed = subst (Verdict (LIST when (Uneven numbers l))) zero_code v

    -- there are over 64 buckets
    pub list_many : 64 < length f → Verdict (list_lines numbers l f) (number COUNT)
    unfolding number
    list_many h = short_refused (lit≤ tt) (refused_then list_passed (line_hit COUNT h))

    module _ (few : length f ≤ 64) {answer : Bool} (t : Tells (AllInRange f) answer) where
      -- LIST and COUNT do not hold
      count_passed : Verdict (LIST when (Uneven numbers l) or COUNT when (64 < length f)) 0
      count_passed = refused_then list_passed (line_miss (λ h. omega arith))

      -- a rate or burst is out of range
      pub list_out_of_range : answer ≡ false → Verdict (list_lines numbers l f) (number RANGE)
      unfolding number
      list_out_of_range e = refused_then count_passed (line_hit RANGE (t.no_means e))

      -- no line holds
      pub list_right : answer ≡ true → Verdict (list_lines numbers l f) 0
      list_right e = refused_then count_passed (line_miss (λ out. out (t.yes_means e)))

module _ (numbers : ℕ) (l : List ℕ) (f : List Bucket) where
  -- What it says of a list that no line holds:
  module _ (clear : Clear (list_lines numbers l f)) where
    -- every rate and burst is in its range,
    pub list_ranges : AllInRange f
    list_ranges = range_stable (λ out. clear RANGE (inr (refl, out)))

    -- it comes out even,
    pub list_even : length l % numbers ≡ 0
    list_even = even_whole numbers l (clear_first (clear_first clear))

    -- it is not empty,
    pub list_filled : 1 ≤ length l
    list_filled = even_some numbers l (clear_first (clear_first clear))

    -- and there are at most 64 buckets
    pub list_few : length f ≤ 64
    list_few = not_above (λ many. clear COUNT (inl (inr (refl, many))))

-- ---- A raw list, of two numbers for each bucket.

module _ (l : List ℕ) where
  -- the list is empty
  pub even_empty : length l ≡ 0 → Verdict (LIST when (Uneven 2 l)) (number LIST)
  even_empty h = line_hit LIST (inl h)

  -- its length is odd
  pub even_odd : length l % 2 ≡ 1 → Verdict (LIST when (Uneven 2 l)) (number LIST)
  even_odd h = line_hit LIST (inr (λ e. omega arith))

module _ (l : List ℕ) {code : ℕ} (v : Verdict (LIST when (Uneven 2 l)) code) where
  -- it has no bucket, or half of one
  pub raw_uneven : (code ≡ 0 → ⊥) → Verdict (raw_lines l) code
  raw_uneven = list_refused 2 l (buckets l) v

  module _ (zero_code : code ≡ 0) where
    evenly : length l % 2 ≡ 0
    evenly = even_whole 2 l (passed v zero_code)

    -- there are over 64 buckets
    pub raw_many : 128 < length l → Verdict (raw_lines l) (number COUNT)
    raw_many h = list_many 2 l (buckets l) v zero_code (omega (arith, buckets_use l, evenly))

    module _ (few : length l ≤ 128) {answer : Bool} (t : Tells (AllInRange (buckets l)) answer) where
      few_buckets : length (buckets l) ≤ 64
      few_buckets = omega (arith, buckets_use l)

      -- a rate or burst is out of range
      pub raw_out_of_range : answer ≡ false → Verdict (raw_lines l) (number RANGE)
      raw_out_of_range = list_out_of_range 2 l (buckets l) v zero_code few_buckets t

      -- no line holds
      pub raw_right : answer ≡ true → Verdict (raw_lines l) 0
      raw_right = list_right 2 l (buckets l) v zero_code few_buckets t

-- ---- A curve: the lines of its list, then FORM.

-- the list of a curve is one of the same numbers as a raw list
as_raw : (l : List ℕ) {code : ℕ} → Verdict (raw_lines l) code → Verdict (list_lines width l (curve_of l)) code
unfolding curve_of
as_raw l v = v

module _ (l : List ℕ) {code : ℕ} (v : Verdict (raw_lines l) code) where
  -- its list is refused
  pub curve_refused : (code ≡ 0 → ⊥) → Verdict (curve_lines l) code
  unfolding number
  curve_refused some =
      refused_first {n = 6}
      (up_to_or (up_to_or (up_to_when LIST (lit≤ tt)) (up_to_when COUNT (lit≤ tt))) (up_to_when RANGE (lit≤ tt)))
      (from_when FORM (lit≤ tt))
      (omega (arith, some))
      (as_raw l v)

  module _ (zero_code : code ≡ 0) where
    -- its rates and bursts are in range
    pub curve_ranges : AllInRange (curve_of l)
    curve_ranges = list_ranges width l (curve_of l) (passed (as_raw l v) zero_code)

    -- no line of its list holds
    list_accepted : Verdict (list_lines width l (curve_of l)) 0
    list_accepted = subst (Verdict (list_lines width l (curve_of l))) zero_code (as_raw l v)

    -- it is not in normal form
    pub curve_out_of_form : Tells (NormalForm (curve_of l)) false → Verdict (curve_lines l) (number FORM)
    curve_out_of_form t = refused_then list_accepted (line_hit FORM (t.no_means refl))

    -- no line holds
    pub curve_right : Tells (NormalForm (curve_of l)) true → Verdict (curve_lines l) 0
    curve_right t = refused_then list_accepted (line_miss (λ out. out (t.yes_means refl)))

-- What it says of a curve that no line holds:
module _ (l : List ℕ) (clear : Clear (curve_lines l)) where
  list_lines_clear : Clear (list_lines width l (curve_of l))
  list_lines_clear = clear_first clear

  -- every rate and burst is in its range,
  pub curve_ranged : AllInRange (curve_of l)
  curve_ranged = list_ranges width l (curve_of l) list_lines_clear

  -- there is a bucket,
  pub curve_some : 1 ≤ length (curve_of l)
  curve_some = omega (arith, list_filled width l (curve_of l) list_lines_clear, list_even width l (curve_of l) list_lines_clear, curve_use l)

  -- and there are at most 64
  pub curve_few : length (curve_of l) ≤ 64
  curve_few = list_few width l (curve_of l) list_lines_clear

-- ---- A tick, and a link's rate and longest frame.

-- a tick of 2^40 or more
pub tick_refused : {t : ℕ} → 1099511627776 ≤ t → Verdict (RANGE when (2 ^ 40 ≤ t)) (number RANGE)
unfolding number
tick_refused h = line_hit RANGE h

-- a tick below it
pub tick_right : {t : ℕ} → t < 1099511627776 → Verdict (RANGE when (2 ^ 40 ≤ t)) 0
tick_right h = line_miss (λ over. omega arith)

module _ {rate frame : ℕ} where
  -- a link of rate 0, of rate 2^20 or more, or with a frame of 2^40 bits or more
  pub link_refused :
      (rate ≡ 0) ⊎ (((rate ≡ 0 → ⊥) × (1048576 ≤ rate)) ⊎ ((rate ≡ 0 → ⊥) × (rate < 1048576) × (1099511627776 ≤ frame)))
      → Verdict (link_line rate frame) (number RANGE)
  link_refused = elim [
    | inl still ↦ line_hit RANGE (inl still)
    | inr (inl fast) ↦ line_hit RANGE (inr (inl fast.1))
    | inr (inr long) ↦ line_hit RANGE (inr (inr long.2))
  ]

  -- a link with both in range
  pub link_right : (rate ≡ 0 → ⊥) → rate < 1048576 → frame < 1099511627776 → Verdict (link_line rate frame) 0
  link_right some slow short = accepted (link_clear (omega (arith, some)) slow short) refl

pub ruleset number_lines = (tick_refused, tick_right, link_refused, link_right)

-- ---- The smaller of two codes.

module _ {a b : ℕ} where
  -- the first is none
  pub earlier_second : a ≡ 0 → b ≡ earlier a b
  unfolding earlier
  earlier_second h = rw (eq-eqb a 0 h)

  module _ (some : a ≡ 0 → ⊥) where
    -- the second is none
    pub earlier_first : b ≡ 0 → a ≡ earlier a b
    unfolding earlier
    earlier_first h = rw (ne_eqb a 0 some, eq-eqb b 0 h)

    module _ (other : b ≡ 0 → ⊥) where
      -- both are codes
      both : earlier a b ≡ min a b
      unfolding earlier
      both = rw (ne_eqb a 0 some, ne_eqb b 0 other)

      -- the first is no larger
      pub earlier_left : a ≤ b → a ≡ earlier a b
      earlier_left h = sym (both ∙ min-eq_left h)

      -- the second is smaller
      pub earlier_right : b < a → b ≡ earlier a b
      earlier_right h = sym (both ∙ min-eq_right (le_of_lt h))

pub ruleset smaller_code = (earlier_second, earlier_first, earlier_left, earlier_right)
