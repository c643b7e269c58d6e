-- Two lists of buckets merged by falling rates: the same buckets, so the same normal form; and the merging step by step.
-- Assumes nothing.
use mathlib.Core.Path.{◌≡◌, refl, sym, ◌∙◌, ap}
use mathlib.Core.Logic.{inl, inr}
use mathlib.Core.Bool.{Bool, true, false, cond}
use mathlib.Core.List.Memᴰ
use mathlib.Core.List.{List, [], ◌∷◌, ◌++◌, map}
use Prim.Native.Nat.{ℕ, ◌+◌, ◌-◌, ◌≤◌, ◌<◌}
use native.Mathlib.Nat.{le_of_lt}
use native.Mathlib.Omega.{arith}
use lib.ListN.{length, drop, length-drop, drop_of_length-le}
use lib.Seq.{drop-drop}
use borrow.Author.Tests.{lt-ltb, le-ltb, le-leb, lt-leb}
use Rattle.meaning.specs.Curve.{Bucket, ◌∈◌}
use Rattle.checks.specs.Cited.{nth}
use Rattle.settle.specs.Cited.{numbers}
use Rattle.checks.proofs.Buckets.{left_from}
use Rattle.operations.specs.Cited.{bucket, comes_first, merged}
use Rattle.operations.proofs.Pushing.{Pushed, pushed_count, pushed_next, pushed_end}

-- ---- Two lists merged have the buckets of both.

-- one step of merging, by the test
merged_step :
    (P : List Bucket → Type 0) (k j : Bucket) (f g : List Bucket) → P (k ∷ merged f (j ∷ g)) → P (j ∷ merged (k ∷ f) g)
    → P (merged (k ∷ f) (j ∷ g))
unfolding merged
merged_step P k j f g first second = by (comes_first k j)
  where
    by : (t : Bool) → P (cond t (k ∷ merged f (j ∷ g)) (j ∷ merged (k ∷ f) g))
    by true = first
    by false = second

-- each of the first is there,
pub merged_left : (f g : List Bucket) (x : Bucket) → x ∈ f → x ∈ merged f g
unfolding merged
merged_left [] g x m = elim m [ ]
merged_left (k ∷ f) [] x m = m
merged_left (k ∷ f) (j ∷ g) x m =
    merged_step (λ (l : List Bucket). x ∈ l) k j f g
    (elim (Memᴰ.cases_cons m) [ inl e ↦ Memᴰ.head e | inr n ↦ Memᴰ.tail (merged_left f (j ∷ g) x n) ])
    (Memᴰ.tail (merged_left (k ∷ f) g x m))

-- each of the second is there,
pub merged_right : (f g : List Bucket) (x : Bucket) → x ∈ g → x ∈ merged f g
unfolding merged
merged_right [] g x m = m
merged_right (k ∷ f) [] x m = elim m [ ]
merged_right (k ∷ f) (j ∷ g) x m =
    merged_step (λ (l : List Bucket). x ∈ l) k j f g
    (Memᴰ.tail (merged_right f (j ∷ g) x m))
    (elim (Memᴰ.cases_cons m) [ inl e ↦ Memᴰ.head e | inr n ↦ Memᴰ.tail (merged_right (k ∷ f) g x n) ])

-- no other is,
pub merged_from : (f g : List Bucket) (x : Bucket) → x ∈ merged f g → x ∈ (f ++ g)
unfolding merged
merged_from [] g x m = m
merged_from (k ∷ f) [] x m = Memᴰ.append_left [] m
merged_from (k ∷ f) (j ∷ g) x m =
    (merged_step (λ (l : List Bucket). x ∈ l → x ∈ (k ∷ f ++ j ∷ g)) k j f g
    (λ m. elim (Memᴰ.cases_cons m) [ inl e ↦ Memᴰ.head e | inr n ↦ Memᴰ.tail (merged_from f (j ∷ g) x n) ])
    (λ m.
    elim (Memᴰ.cases_cons m) [
      | inl e ↦ Memᴰ.append_right (k ∷ f) (Memᴰ.head e)
      | inr n ↦
          elim (Memᴰ.append_cases (k ∷ f) (merged_from (k ∷ f) g x n)) [
            | inl a ↦ Memᴰ.append_left (j ∷ g) a
            | inr b ↦ Memᴰ.append_right (k ∷ f) (Memᴰ.tail b)
          ]
    ]))
    m

pub merged_to : (f g : List Bucket) (x : Bucket) → x ∈ (f ++ g) → x ∈ merged f g
merged_to f g x m =
    elim (Memᴰ.append_cases f m) [ inl a ↦ merged_left f g x a | inr b ↦ merged_right f g x b ]

-- and they are as many
pub merged_length : (f g : List Bucket) → length (merged f g) ≡ length f + length g
unfolding merged
merged_length [] g = omega arith
merged_length (k ∷ f) [] = omega arith
merged_length (k ∷ f) (j ∷ g) =
    merged_step (λ (l : List Bucket). length l ≡ length (k ∷ f) + length (j ∷ g)) k j f g
    (omega (arith, merged_length f (j ∷ g))) (omega (arith, merged_length (k ∷ f) g))

-- ---- The next bucket of two lists merged.

-- with nothing a list is merged to itself
merged_none : (f : List Bucket) → merged f [] ≡ f
unfolding merged
merged_none [] = refl
merged_none (k ∷ f) = refl

-- it is the first one's first
abbrev First : Bucket → List Bucket → List Bucket → Type 0
First a f g = (1 ≤ length f) × (merged f g ≡ a ∷ merged (drop 1 f) g)

-- or the second one's
abbrev Second : Bucket → List Bucket → List Bucket → Type 0
Second b f g = (1 ≤ length g) × (merged f g ≡ b ∷ merged f (drop 1 g))

module _ (f g : List Bucket) {i j : ℕ} where
  -- nothing is left of the second list
  pub next_first_left : {a : Bucket} → a ≡ nth f i → i < length f → length g ≤ j → First a (drop i f) (drop j g)
  next_first_left {a} is left done =
      let none : drop j g ≡ [] = drop_of_length-le g {i = j} done in
      rw (left_from f i left is, none) (omega arith, merged_none _ ∙ ap (λ (l : List Bucket). a ∷ l) (sym (merged_none _)))

  -- nothing is left of the first
  pub next_second_left : {b : Bucket} → b ≡ nth g j → j < length g → length f ≤ i → Second b (drop i f) (drop j g)
  unfolding merged
  next_second_left is left done =
      let none : drop i f ≡ [] = drop_of_length-le f {i = i} done in
      rw (none, left_from g j left is) (omega arith, refl)

  -- or the test decides
  module _ {a b : Bucket} (is : a ≡ nth f i) (is' : b ≡ nth g j) (left : i < length f) (left' : j < length g) where
    by_test_first : comes_first a b ≡ true → First a (drop i f) (drop j g)
    unfolding merged
    by_test_first t = rw (left_from f i left is, left_from g j left' is') (omega arith, rw t refl)

    by_test_second : comes_first a b ≡ false → Second b (drop i f) (drop j g)
    unfolding merged
    by_test_second t = rw (left_from f i left is, left_from g j left' is') (omega arith, rw t refl)

    -- the first is steeper,
    pub next_first_steeper : b.rate < a.rate → First a (drop i f) (drop j g)
    unfolding comes_first
    next_first_steeper h = by_test_first (rw (lt-ltb b.rate a.rate h))

    -- the second is,
    pub next_second_steeper : a.rate < b.rate → Second b (drop i f) (drop j g)
    unfolding comes_first
    next_second_steeper h = by_test_second (rw (le-ltb b.rate a.rate (le_of_lt h), lt-ltb a.rate b.rate h))

    -- or both are as steep, and the lower comes first
    pub next_first_lower : a.rate ≤ b.rate → b.rate ≤ a.rate → a.burst ≤ b.burst → First a (drop i f) (drop j g)
    unfolding comes_first
    next_first_lower h h' low =
        by_test_first (rw (le-ltb b.rate a.rate h, le-ltb a.rate b.rate h', le-leb a.burst b.burst low))

    pub next_second_lower : a.rate ≤ b.rate → b.rate ≤ a.rate → b.burst < a.burst → Second b (drop i f) (drop j g)
    unfolding comes_first
    next_second_lower h h' low =
        by_test_second (rw (le-ltb b.rate a.rate h, le-ltb a.rate b.rate h', lt-leb a.burst b.burst low))

-- ---- The merging step by step.

-- Of the buckets passed, i are the first list's. They stand merged, and those that are left are to be merged behind them.
pub record Merging (f g : List Bucket) (passed i : ℕ) (items : List (List ℕ)) : Type 0 where
  pub taken : i ≤ passed
  pub within : (i ≤ length f) × (passed - i ≤ length g)
  pub pushed : Pushed (merged f g) (merged (drop i f) (drop (passed - i) g)) items

module _ {f g : List Bucket} {passed i : ℕ} {items : List (List ℕ)} (w : Merging f g passed i items) where
  -- there is room for one more
  pub merging_room :
      length f ≤ 64 → length g ≤ 64 → passed < length f + length g → length items < 128
  merging_room few few' more =
      omega (
        arith,
        w.taken,
        pushed_count w.pushed,
        merged_length f g,
        merged_length (drop i f) (drop (passed - i) g),
        length-drop i f,
        length-drop (passed - i) g,
      )

  module _ {rate burst : ℕ} {longer : List (List ℕ)} (one : longer ≡ items ++ (rate ∷ burst ∷ []) ∷ []) where
    -- it is the first list's
    pub merging_first :
        First (bucket rate burst) (drop i f) (drop (passed - i) g) → Merging f g (passed + 1) (i + 1) longer
    merging_first x =
        let same : passed + 1 - (i + 1) ≡ passed - i = omega arith in
        record {
          taken = omega (arith, w.taken);
          within = (omega (arith, x.0, length-drop i f), omega (arith, w.within.1));
          pushed =
              rw (same, ← drop-drop 1 i f) (pushed_next w.pushed x.1 one);
        }

    -- it is the second list's
    pub merging_second :
        Second (bucket rate burst) (drop i f) (drop (passed - i) g) → Merging f g (passed + 1) i longer
    merging_second x =
        let further : passed + 1 - i ≡ passed - i + 1 = omega (arith, w.taken) in
        record {
          taken = omega (arith, w.taken);
          within = (w.within.0, omega (arith, x.0, length-drop (passed - i) g));
          pushed =
              rw (further, ← drop-drop 1 (passed - i) g) (pushed_next w.pushed x.1 one);
        }

  -- all are merged
  pub merging_end : length f + length g ≤ passed → items ≡ map numbers (merged f g)
  unfolding merged
  merging_end all =
      let none : drop i f ≡ [] = drop_of_length-le f {i = i} (omega (arith, w.taken, w.within.1)) in
      let none' : drop (passed - i) g ≡ [] = drop_of_length-le g {i = passed - i} (omega (arith, w.taken, w.within.0)) in
      pushed_end w.pushed (rw (none, none') refl)
