-- Small laws of lists: what each element has, the numbers of a list of buckets and back, buckets by their positions, buckets in
-- range, and what is written over the start of a list.
-- Assumes nothing.
use mathlib.Core.Path.{◌≡◌, refl, sym, ◌∙◌, ap, subst}
use mathlib.Core.Logic.{inl, inr}
use mathlib.Core.List.Memᴰ
use mathlib.Core.List.{List, [], ◌∷◌, ◌++◌, Memᴰ}
use Prim.Native.Nat.{ℕ, zero, suc, ◌+◌, ◌-◌, ◌*◌, ◌%◌, ◌≤◌, ◌<◌}
use native.Mathlib.Numerals.{unary_clauses}
use native.Mathlib.Omega.{arith}
use lib.ListN.{length, take, drop, get_or, length-append, length-drop}
use lib.Seq.{take-append_seam, drop-append_seam, drop-append-add}
use Rattle.meaning.specs.Curve.{Bucket, ◌∈◌, buckets, flat, width, curve_of, list_of, Falling}
use Rattle.meaning.specs.Refusal.{InRange, AllInRange, over}

-- ---- What each element has.

module _ {A : Type 0} {P : A → Type 0} where
  -- what the first has and each of the others, each has
  pub cons_each : {x : A} {l : List A} → P x → ((k : A) → Memᴰ k l → P k) → (k : A) → Memᴰ k (x ∷ l) → P k
  cons_each first rest k m = elim (Memᴰ.cases_cons m) [ inl e ↦ subst P (sym e) first | inr n ↦ rest k n ]

  -- what each of two lists' elements has, each of both together has
  pub append_each :
      {l r : List A} → ((k : A) → Memᴰ k l → P k) → ((k : A) → Memᴰ k r → P k) → (k : A) → Memᴰ k (l ++ r) → P k
  append_each {l} left right k m = elim (Memᴰ.append_cases l m) [ inl n ↦ left k n | inr n ↦ right k n ]

-- ---- Numbers and buckets.

-- each bucket takes two numbers, and a list of odd length has one more
pub buckets_use : (l : List ℕ) → length l ≡ 2 * length (buckets l) + length l % 2
unfolding buckets
buckets_use [] = refl
buckets_use (r ∷ []) = refl
buckets_use (r ∷ b ∷ l) = omega (arith, buckets_use l)

-- two numbers for each bucket
pub flat_length : (f : List Bucket) → length (flat f) ≡ 2 * length f
unfolding flat
flat_length [] = refl
flat_length (k ∷ f) = omega (arith, flat_length f)

-- the buckets of a list's numbers are the list
pub buckets_flat : (f : List Bucket) → buckets (flat f) ≡ f
unfolding buckets flat
buckets_flat [] = refl
buckets_flat (k ∷ f) = ap (λ (g : List Bucket). k ∷ g) (buckets_flat f)

-- the numbers of the buckets of a list that comes out even are the list
pub flat_buckets : (l : List ℕ) → length l % 2 ≡ 0 → flat (buckets l) ≡ l
unfolding buckets flat
flat_buckets [] even = refl
flat_buckets (r ∷ []) even = absurd (omega arith)
flat_buckets (r ∷ b ∷ l) even = ap (λ (m : List ℕ). r ∷ b ∷ m) (flat_buckets l (omega arith))

-- ---- A curve and its list.

-- each bucket takes its numbers, and a list that does not come out even has more
pub curve_use : (l : List ℕ) → length l ≡ width * length (curve_of l) + length l % width
unfolding curve_of
curve_use l = buckets_use l

-- so many numbers for each bucket
pub list_length : (f : List Bucket) → length (list_of f) ≡ width * length f
unfolding list_of
list_length f = flat_length f

-- the curve of a curve's list is the curve
pub curve_list : (f : List Bucket) → curve_of (list_of f) ≡ f
unfolding curve_of list_of
curve_list f = buckets_flat f

-- the list of a list's curve is the list, where it comes out even
pub list_curve : (l : List ℕ) → length l % width ≡ 0 → list_of (curve_of l) ≡ l
unfolding curve_of list_of
list_curve l even = flat_buckets l even

-- ---- Buckets by their positions.

-- the rate of the bucket numbered i, from 0, is the number at 2 * i
pub flat_rate : (f : List Bucket) (i : ℕ) (k : Bucket) → i < length f → get_or (flat f) (2 * i) 0 ≡ (get_or f i k).rate
unfolding flat
flat_rate [] i k h = absurd (omega arith)
flat_rate (j ∷ f) zero k h = refl
flat_rate (j ∷ f) (suc i) k h = simp unary_clauses (flat_rate f i k (omega arith))

-- the same in a curve's list
pub list_rate : (f : List Bucket) (i : ℕ) (k : Bucket) → i < length f → get_or (list_of f) (width * i) 0 ≡ (get_or f i k).rate
unfolding list_of
list_rate f i k h = flat_rate f i k h

-- ---- Buckets by their positions, counted from 0.

-- the bucket at a position of a list stands in it
pub at_inside : (f : List Bucket) (i : ℕ) (k : Bucket) → i < length f → get_or f i k ∈ f
at_inside [] i k h = absurd (omega arith)
at_inside (j ∷ f) zero k h = Memᴰ.head refl
at_inside (j ∷ f) (suc i) k h = Memᴰ.tail (at_inside f i k (omega arith))

-- and each bucket of a list stands at a position
pub inside_at : (f : List Bucket) {j : Bucket} (k : Bucket) → j ∈ f → (i : ℕ) × (i < length f) × (j ≡ get_or f i k)
inside_at [] {j = j} k m = elim m [ ]
inside_at (j ∷ f) k m =
    elim (Memᴰ.cases_cons m) [
      | inl e ↦ (0, omega arith, e)
      | inr n ↦ let at = inside_at f k n in (suc at.0, omega (arith, at.1), at.2)
    ]

-- where rates fall strictly, the bucket at a later position has the lower rate
pub falling_at :
    (f : List Bucket) → Falling f → (k : Bucket) (i j : ℕ) → i < j → j < length f → (get_or f j k).rate < (get_or f i k).rate
unfolding Falling
falling_at [] h k i j l m = absurd (omega arith)
falling_at (b ∷ f) h k i zero l m = absurd (omega arith)
falling_at (b ∷ f) h k zero (suc j) l m = h.0 (get_or f j k) (at_inside f j k (omega arith))
falling_at (b ∷ f) h k (suc i) (suc j) l m = falling_at f h.1 k i j (omega arith) (omega arith)

-- ---- In range.

-- Each bucket in range, one after the other.
abbrev pub EachInRange : List Bucket → Type 0
EachInRange [] = Unit {0}
EachInRange (k ∷ f) = InRange k × EachInRange f

-- they are then all in range
pub all_in_range : (f : List Bucket) → EachInRange f → AllInRange f
all_in_range [] each k m = elim m [ ]
all_in_range (j ∷ f) each k m = cons_each each.0 (all_in_range f each.1) k m

-- and where all are, each is
pub each_in_range : (f : List Bucket) → AllInRange f → EachInRange f
each_in_range [] all = tt
each_in_range (k ∷ f) all = (all k (Memᴰ.head refl), each_in_range f (λ j m. all j (Memᴰ.tail m)))

-- ---- Written over the start of a list.

module _ (answer before : List ℕ) where
  -- it begins with the answer
  pub over_start : take (length answer) (over answer before) ≡ answer
  unfolding over
  over_start = take-append_seam answer (drop (length answer) before)

  -- numbers beyond it stay
  pub over_beyond : drop (length answer) (over answer before) ≡ drop (length answer) before
  unfolding over
  over_beyond = drop-append_seam answer (drop (length answer) before)

  -- it is as long as it was
  pub over_length : length answer ≤ length before → length (over answer before) ≡ length before
  unfolding over
  over_length h = omega (arith, length-append answer (drop (length answer) before), length-drop (length answer) before)

-- ---- Lists of one length.

-- behind two lists of one length the same numbers follow
pub drop_behind : (x y rest : List ℕ) (n : ℕ) → length x ≡ length y → length x ≤ n → drop n (x ++ rest) ≡ drop n (y ++ rest)
drop_behind x y rest n same h = past x (omega arith) ∙ sym (past y (omega arith))
  where
    past : (l : List ℕ) → n ≡ length l + (n - length x) → drop n (l ++ rest) ≡ drop (n - length x) rest
    past l e = ap (λ (m : ℕ). drop m (l ++ rest)) e ∙ drop-append-add l rest (n - length x)

-- a list of length 0 is empty,
pub empty_is : {A : Type 0} (l : List A) → length l ≡ 0 → l ≡ []
empty_is [] h = refl
empty_is (x ∷ l) h = absurd (omega arith)

-- so two such lists are the same
pub empty_same : (x y : List ℕ) → length x ≡ 0 → length y ≡ 0 → x ≡ y
empty_same x y h h' = empty_is x h ∙ sym (empty_is y h')
