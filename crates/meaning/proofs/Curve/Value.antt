-- A curve's value at p/q is the least of its buckets' values there: no bucket is below it, and one of them has it.
-- Every other law reads a value through these, and never through the recursion.
-- Assumes nothing.
use mathlib.Core.Path.{◌≡◌, refl, sym, ◌∙◌, ap}
use mathlib.Core.Logic.{inl, inr}
use mathlib.Core.List.Memᴰ
use mathlib.Core.List.{List, [], ◌∷◌}
use Prim.Native.Nat.{ℕ, ◌≤◌, min}
use native.Mathlib.Nat.{le_trans, le_of_eq, min-le_left, min-le_right, le_antisymm}
use native.Mathlib.Omega.{arith}
use lib.ListN.{length}
use Rattle.meaning.specs.Curve.{Bucket, ◌∈◌, bucket_at, value_at}
use Rattle.meaning.proofs.Order.{min_is}

-- the same bucket has the same rate
pub same_rate : {k j : Bucket} → k ≡ j → k.rate ≡ j.rate
same_rate e = ap (λ (x : Bucket). x.rate) e

-- and the same value
pub same_bucket_at : {k j : Bucket} (p q : ℕ) → k ≡ j → bucket_at k p q ≡ bucket_at j p q
same_bucket_at p q e = ap (λ (x : Bucket). bucket_at x p q) e

-- one bucket's is the value of a list of its own
pub value_one : (k : Bucket) (p q : ℕ) → value_at (k ∷ []) p q ≡ bucket_at k p q
unfolding value_at
value_one k p q = refl

-- with one bucket more the value is the smaller of its and the others'
pub value_more : (k j : Bucket) (f : List Bucket) (p q : ℕ) → value_at (k ∷ j ∷ f) p q ≡ min (bucket_at k p q) (value_at (j ∷ f) p q)
unfolding value_at
value_more k j f p q = refl

-- no bucket is below the value
pub value_least : (f : List Bucket) (p q : ℕ) {k : Bucket} → k ∈ f → value_at f p q ≤ bucket_at k p q
unfolding value_at
value_least [] p q {k = k} m = elim m [ ]
value_least (j ∷ []) p q m = le_of_eq (same_bucket_at p q (sym (Memᴰ.eq_of_singleton m)))
value_least (j ∷ i ∷ f) p q m =
    elim (Memᴰ.cases_cons m) [
      | inl e ↦ le_trans (min-le_left _ _) (le_of_eq (same_bucket_at p q (sym e)))
      | inr n ↦ le_trans (min-le_right _ _) (value_least (i ∷ f) p q n)
    ]

-- A bucket that has the value.
pub record Reached (f : List Bucket) (p q : ℕ) : Type 0 where
  pub bucket : Bucket
  pub inside : bucket ∈ f
  pub value_is : value_at f p q ≡ bucket_at bucket p q

-- one of the buckets has it
pub value_reached : (f : List Bucket) (p q : ℕ) → 1 ≤ length f → Reached f p q
unfolding value_at
value_reached [] p q h = absurd (omega arith)
value_reached (k ∷ []) p q h = record { bucket = k; inside = Memᴰ.head refl; value_is = refl }
value_reached (k ∷ j ∷ f) p q h =
    let r = value_reached (j ∷ f) p q (omega arith) in
    elim (min_is (bucket_at k p q) (value_at (j ∷ f) p q)) [
      | inl e ↦ record { bucket = k; inside = Memᴰ.head refl; value_is = e }
      | inr e ↦ record { bucket = r.bucket; inside = Memᴰ.tail r.inside; value_is = e ∙ r.value_is }
    ]

-- a list that has a bucket is not empty
pub some : {f : List Bucket} {k : Bucket} → k ∈ f → 1 ≤ length f
some (Memᴰ.head e) = omega arith
some (Memᴰ.tail m) = omega arith

-- What is below every bucket of a list
module _ (f : List Bucket) (p q : ℕ) {v : ℕ} (least : (k : Bucket) → k ∈ f → v ≤ bucket_at k p q) where
  -- is below its value,
  pub below_value : 1 ≤ length f → v ≤ value_at f p q
  below_value h =
      let r = value_reached f p q h in
      le_trans (least r.bucket r.inside) (le_of_eq (sym r.value_is))

  -- and is the value where one bucket has it
  pub value_unique : {k : Bucket} → k ∈ f → v ≡ bucket_at k p q → value_at f p q ≡ v
  value_unique m e = le_antisymm (le_trans (value_least f p q m) (le_of_eq (sym e))) (below_value (some m))
