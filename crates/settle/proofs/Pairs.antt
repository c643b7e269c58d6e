-- A list of numbers lent as pairs: the buckets of the pairs are the list's, what a pair more adds to those before it, and the pairs
-- of some buckets, laid out, are their numbers.
-- Assumes nothing.
use mathlib.Core.Path.{◌≡◌, refl, ap}
use mathlib.Core.List.{List, [], ◌∷◌, map}
use Prim.Native.Nat.{ℕ, zero, suc, ◌+◌, ◌/◌, ◌<◌}
use native.Mathlib.Numerals.{add-one}
use native.Mathlib.Omega.{arith}
use lib.ListN.{length, get_or, drop}
use lib.Seq.{drop-cons}
use Rattle.std.specs.Simd.{first_chunks}
use Rattle.std.specs.List.{flat_map}
use Rattle.meaning.specs.Curve.{Bucket, buckets, flat}
use Rattle.settle.specs.Order.{bucket_in, buckets_in}
use Rattle.settle.specs.Cited.{numbers}

-- as many pairs as come out of a list have its buckets
chunks_are : (n : ℕ) (l : List ℕ) → n ≡ length l / 2 → buckets_in (first_chunks 2 n l) ≡ buckets l
unfolding buckets
chunks_are zero [] h = refl
chunks_are zero (r ∷ []) h = refl
chunks_are zero (r ∷ b ∷ l) h = absurd (omega arith)
chunks_are (suc n) [] h = absurd (omega arith)
chunks_are (suc n) (r ∷ []) h = absurd (omega arith)
chunks_are (suc n) (r ∷ b ∷ l) h =
    ap (λ (f : List Bucket). record { rate = r; burst = b } ∷ f) (chunks_are n l (omega arith))

pub pairs_are : (l : List ℕ) → buckets_in (first_chunks 2 (length l / 2) l) ≡ buckets l
pairs_are l = chunks_are (length l / 2) l refl

-- the numbers of some buckets, pair by pair
pub numbers_are : (f : List Bucket) → flat_map (λ (pair : List ℕ). pair) (map numbers f) ≡ flat f
unfolding flat
numbers_are [] = refl
numbers_are (k ∷ f) = ap (λ (l : List ℕ). k.rate ∷ k.burst ∷ l) (numbers_are f)

-- the buckets from one pair on begin with its bucket
pub pairs_from :
    (pairs : List (List ℕ)) (i : ℕ) (d : List ℕ) → i < length pairs
    → buckets_in (drop i pairs) ≡ bucket_in (get_or pairs i d) ∷ buckets_in (drop (i + 1) pairs)
pairs_from pairs i d h = rw add-one (ap buckets_in (drop-cons pairs i d h))
