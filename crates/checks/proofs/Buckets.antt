-- From the flat list of numbers to its buckets and back: which bucket is read at an index, how many there are, and what is
-- left of them from an index on.
-- Assumes nothing.
use mathlib.Core.Path.{◌≡◌, refl, sym, ◌∙◌, ap}
use mathlib.Core.List.Memᴰ
use mathlib.Core.List.{List, [], ◌∷◌, ◌++◌}
use Prim.Native.Nat.{ℕ, zero, suc, ◌+◌, ◌*◌, ◌/◌, ◌%◌, ◌≤◌, ◌<◌}
use native.Mathlib.Numerals.{add-one, towards_suc, unary_clauses}
use native.Mathlib.Omega.{arith}
use lib.ListN.{length, get_or, take, drop, length-drop, get_or-eq_default}
use lib.Seq.{drop-cons}
use Rattle.meaning.proofs.Lists.{buckets_use, curve_use}
use Rattle.meaning.specs.Curve.{Bucket, ◌∈◌, buckets, flat, width, curve_of}
use Rattle.meaning.specs.Server.{last}
use Rattle.checks.specs.Cited.{nth}

-- the bucket that is read at an index
abbrev pub list_bucket : List ℕ → ℕ → Bucket
list_bucket l i = record { rate = get_or l i 0; burst = get_or l (i + 1) 0 }

-- ---- How many there are.

-- half as many buckets as numbers
pub buckets_count : (l : List ℕ) → length (buckets l) ≡ length l / 2
buckets_count l = omega (arith, buckets_use l)

-- ---- What is left from an index on.

-- too little is left for a bucket
pub buckets_none : (l : List ℕ) → length l ≤ 1 → buckets l ≡ []
unfolding buckets
buckets_none [] h = refl
buckets_none (r ∷ []) h = refl
buckets_none (r ∷ b ∷ l) h = absurd (omega arith)

-- from an index on, too little is left
pub buckets_end : (l : List ℕ) (i : ℕ) → length l ≤ i + 1 → buckets (drop i l) ≡ []
buckets_end l i h = buckets_none (drop i l) (omega (arith, length-drop i l))

-- two numbers and what follows them
drop_two : (l : List ℕ) (i : ℕ) → i + 1 < length l → drop i l ≡ get_or l i 0 ∷ get_or l (i + 1) 0 ∷ drop (i + 2) l
drop_two l i h =
    drop-cons l i 0 (omega arith)
    ∙ simp towards_suc (ap (λ (m : List ℕ). get_or l i 0 ∷ m) (drop-cons l (suc i) 0 (omega arith)))

-- the bucket at the index, and those from the index after it on
pub buckets_next : (l : List ℕ) (i : ℕ) → i + 1 < length l → buckets (drop i l) ≡ list_bucket l i ∷ buckets (drop (i + 2) l)
unfolding buckets
buckets_next l i h = ap buckets (drop_two l i h)

-- ---- The buckets by their indices.

-- the bucket at an even index is one of the list's
pub bucket_inside : (l : List ℕ) (i : ℕ) → i % 2 ≡ 0 → i + 1 < length l → list_bucket l i ∈ buckets l
unfolding buckets
bucket_inside (r ∷ b ∷ l) zero even h = Memᴰ.head refl
bucket_inside (r ∷ b ∷ l) (suc (suc i)) even h =
    simp towards_suc (Memᴰ.tail (simp towards_suc at (bucket_inside l i (omega arith) (omega arith))))
bucket_inside (r ∷ b ∷ l) (suc zero) even h = absurd (omega arith)
bucket_inside [] i even h = absurd (omega arith)
bucket_inside (r ∷ []) i even h = absurd (omega arith)

-- the bucket numbered n, from 0, is the one at 2 * n
pub bucket_number :
    (l : List ℕ) (n : ℕ) (k : Bucket) → n < length (buckets l) → get_or (buckets l) n k ≡ list_bucket l (2 * n)
unfolding buckets
bucket_number [] n k h = absurd (omega arith)
bucket_number (r ∷ []) n k h = absurd (omega arith)
bucket_number (r ∷ b ∷ l) zero k h = refl
bucket_number (r ∷ b ∷ l) (suc n) k h = bucket_number l n k (omega arith) ∙ simp unary_clauses

-- ---- There and back.

-- the numbers of the buckets of an even list are the list
pub flat_buckets : (l : List ℕ) → length l % 2 ≡ 0 → flat (buckets l) ≡ l
unfolding buckets flat
flat_buckets [] even = refl
flat_buckets (r ∷ []) even = absurd (omega arith)
flat_buckets (r ∷ b ∷ l) even = ap (λ (m : List ℕ). r ∷ b ∷ m) (flat_buckets l (omega arith))

-- ---- Lists put together.

-- after an even list the buckets of the other begin
pub buckets_append : (a b : List ℕ) → length a % 2 ≡ 0 → buckets (a ++ b) ≡ buckets a ++ buckets b
unfolding buckets
buckets_append [] b even = refl
buckets_append (r ∷ []) b even = absurd (omega arith)
buckets_append (r ∷ s ∷ a) b even =
    ap (λ (g : List Bucket). record { rate = r; burst = s } ∷ g) (buckets_append a b (omega arith))

-- the numbers of two lists of buckets together
pub flat_append : (f g : List Bucket) → flat (f ++ g) ≡ flat f ++ flat g
unfolding flat
flat_append [] g = refl
flat_append (k ∷ f) g = ap (λ (m : List ℕ). k.rate ∷ k.burst ∷ m) (flat_append f g)

-- one bucket more is passed
pub buckets_passed :
    (l : List ℕ) (i : ℕ) → i % 2 ≡ 0 → i + 1 < length l → buckets (take (i + 2) l) ≡ buckets (take i l) ++ list_bucket l i ∷ []
unfolding buckets
buckets_passed (r ∷ b ∷ l) zero even h = refl
buckets_passed (r ∷ b ∷ l) (suc (suc i)) even h =
    simp towards_suc
    (ap (λ (g : List Bucket). record { rate = r; burst = b } ∷ g) (simp towards_suc at (buckets_passed l i (omega arith) (omega arith))))
buckets_passed (r ∷ b ∷ l) (suc zero) even h = absurd (omega arith)
buckets_passed [] i even h = absurd (omega arith)
buckets_passed (r ∷ []) i even h = absurd (omega arith)

-- ---- A curve's list, bucket by bucket.

-- so many buckets as its numbers come to
pub curve_count : (l : List ℕ) → length l / width ≡ length (curve_of l)
curve_count l = omega (arith, curve_use l)

module _ (l : List ℕ) {k : ℕ} where
  -- past the last there is none
  pub nth_none : length l / width ≤ k → record { rate = 0; burst = 0 } ≡ nth (curve_of l) k
  nth_none h = sym (get_or-eq_default (curve_of l) _ (omega (arith, curve_count l)))

  -- its numbers are its rate and burst
  pub nth_is : k < length l / width → list_bucket l (width * k) ≡ nth (curve_of l) k
  unfolding curve_of
  nth_is h = sym (bucket_number l k _ (omega (arith, curve_count l)))

-- the last bucket by its number
pub last_numbered : (f : List Bucket) (n : ℕ) → n + 1 ≡ length f → nth f n ≡ last f
unfolding last
last_numbered [] n e = absurd (omega arith)
last_numbered (k ∷ []) n e = let none : n ≡ 0 = omega arith in rw none
last_numbered (k ∷ j ∷ f) zero e = absurd (omega arith)
last_numbered (k ∷ j ∷ f) (suc n) e = last_numbered (j ∷ f) n (omega arith)

-- from the bucket numbered k on there is that one, and then those from the next on
pub left_from : (f : List Bucket) (k : ℕ) {here : Bucket} → k < length f → here ≡ nth f k → drop k f ≡ here ∷ drop (k + 1) f
left_from f k h is = rw add-one (drop-cons f k _ h ∙ ap (λ (j : Bucket). j ∷ drop (suc k) f) (sym is))

-- so where what is left is known, the next one is, and what is left after it
pub left_is :
    (f : List Bucket) (k : ℕ) {here : Bucket} {rest : List Bucket} → k < length f → drop k f ≡ here ∷ rest
    → (here ≡ nth f k) × (drop (k + 1) f ≡ rest)
left_is f k {here} {rest} h e =
    let known : nth f k ∷ drop (k + 1) f ≡ here ∷ rest = sym (left_from f k h refl) ∙ e in
    (cc (known), cc (known))

pub ruleset nths = (curve_count, nth_none, nth_is)
