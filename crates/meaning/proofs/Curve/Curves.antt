-- What lower and sum are: the minimum of the two curves and their sum, at every non-negative fraction. Neither depends on the order
-- of its operands, for a value depends on which buckets a list has and on nothing else.
-- Assumes nothing.
use mathlib.Core.Path.{◌≡◌, refl, sym, ◌∙◌, ap}
use mathlib.Core.Logic.{inl, inr}
use mathlib.Core.List.Memᴰ
use mathlib.Core.List.{List, [], ◌∷◌, ◌++◌, map}
use Prim.Native.Nat.{ℕ, ◌+◌, ◌*◌, ◌≤◌, ◌<◌, min}
use native.Mathlib.Nat.{le_antisymm}
use native.Mathlib.Omega.{arith}
use lib.ListN.{length, length-append, length-map}
use Rattle.meaning.specs.Curve.{Bucket, ◌∈◌, bucket_at, value_at, NormalOf, Lower, added, pairs, Sum}
use Rattle.meaning.proofs.Order.{min_is}
use Rattle.meaning.proofs.Lists.{append_each}
use Rattle.meaning.proofs.Curve.Value.{same_bucket_at, value_least, value_reached, value_unique, below_value}
use Rattle.meaning.proofs.Curve.Lowest.{same_bucket}

-- a list that has the buckets of another, if that has any, is nowhere above it
pub more_not_above :
    (f g : List Bucket) (p q : ℕ) → ((k : Bucket) → k ∈ f → k ∈ g) → 1 ≤ length f → value_at g p q ≤ value_at f p q
more_not_above f g p q more h = below_value f p q (λ k m. value_least g p q (more k m)) h

-- lists with the same buckets have the same value
pub same_buckets_value :
    (f g : List Bucket) → ((k : Bucket) → k ∈ f → k ∈ g) → ((k : Bucket) → k ∈ g → k ∈ f)
    → (p q : ℕ) → value_at f p q ≡ value_at g p q
same_buckets_value [] [] to back p q = refl
same_buckets_value [] (k ∷ g) to back p q = absurd (Memᴰ.not-nil (back k (Memᴰ.head refl)))
same_buckets_value (k ∷ f) [] to back p q = absurd (Memᴰ.not-nil (to k (Memᴰ.head refl)))
same_buckets_value (k ∷ f) (j ∷ g) to back p q =
    le_antisymm (more_not_above (j ∷ g) (k ∷ f) p q back (omega arith)) (more_not_above (k ∷ f) (j ∷ g) p q to (omega arith))

-- the value of two lists together is the smaller of theirs
pub value_both :
    (f g : List Bucket) (p q : ℕ) → 1 ≤ length f → 1 ≤ length g
    → value_at (f ++ g) p q ≡ min (value_at f p q) (value_at g p q)
value_both f g p q hf hg =
    elim (min_is (value_at f p q) (value_at g p q)) [
      | inl e ↦
          let r = value_reached f p q hf in
          value_unique (f ++ g) p q least (Memᴰ.append_left g r.inside) (e ∙ r.value_is)
      | inr e ↦
          let r = value_reached g p q hg in
          value_unique (f ++ g) p q least (Memᴰ.append_right f r.inside) (e ∙ r.value_is)
    ]
  where
    least : (k : Bucket) → k ∈ (f ++ g) → min (value_at f p q) (value_at g p q) ≤ bucket_at k p q
    least = append_each {l = f} (λ k n. omega (arith, value_least f p q n)) (λ k n. omega (arith, value_least g p q n))

-- the value of an added bucket
pub added_at : (k j : Bucket) (p q : ℕ) → bucket_at (added k j) p q ≡ bucket_at k p q + bucket_at j p q
unfolding bucket_at added
added_at k j p q = omega arith

-- added either way round
pub added_order : (k j : Bucket) → added k j ≡ added j k
unfolding added
added_order k j = same_bucket (omega arith) (omega arith)

-- a bucket of each list gives one of the pairs
pub pairs_has : {k j : Bucket} {f g : List Bucket} → k ∈ f → j ∈ g → added k j ∈ pairs f g
unfolding pairs
pairs_has {j = j} {g = g} (Memᴰ.head {x = i} {xs = f} e) n =
    Memᴰ.append_left (pairs f g) (Memᴰ.cast (ap (λ (x : Bucket). added x j) e) (Memᴰ.map (added i) n))
pairs_has {g = g} (Memᴰ.tail {x = i} m) n = Memᴰ.append_right (map (added i) g) (pairs_has m n)

-- One of the pairs, and the two buckets that it is made of.
pub record PairOf (f g : List Bucket) (k : Bucket) : Type 0 where
  pub left : Bucket
  pub right : Bucket
  pub left_inside : left ∈ f
  pub right_inside : right ∈ g
  pub pair_is : k ≡ added left right

-- each of the pairs is made of a bucket of each list
pub pairs_from : (f g : List Bucket) {k : Bucket} → k ∈ pairs f g → PairOf f g k
unfolding pairs
pairs_from [] g m = absurd (Memᴰ.not-nil m)
pairs_from (i ∷ f) g m =
    elim (Memᴰ.append_cases (map (added i) g) m) [
      | inl n ↦
          let t = Memᴰ.of_map (added i) g n in
          record { left = i; right = t.0; left_inside = Memᴰ.head refl; right_inside = t.1; pair_is = sym t.2 }
      | inr n ↦
          let r = pairs_from f g n in
          record {
            left = r.left;
            right = r.right;
            left_inside = Memᴰ.tail r.left_inside;
            right_inside = r.right_inside;
            pair_is = r.pair_is;
          }
    ]

-- the pairs either way round
pub pairs_order : (f g : List Bucket) {k : Bucket} → k ∈ pairs f g → k ∈ pairs g f
pairs_order f g m =
    let r = pairs_from f g m in
    Memᴰ.cast (r.pair_is ∙ added_order r.left r.right) (pairs_has r.right_inside r.left_inside)

-- how many pairs there are
pub pairs_length : (f g : List Bucket) → length (pairs f g) ≡ length f * length g
unfolding pairs
pairs_length [] g = omega arith
pairs_length (k ∷ f) g =
    length-append (map (added k) g) (pairs f g)
    ∙ omega (arith, length-map g (added k), pairs_length f g)

-- the value of the pairs is the sum of the values
pub value_pairs :
    (f g : List Bucket) (p q : ℕ) → 1 ≤ length f → 1 ≤ length g
    → value_at (pairs f g) p q ≡ value_at f p q + value_at g p q
value_pairs f g p q hf hg =
    let i = value_reached f p q hf in
    let j = value_reached g p q hg in
    value_unique (pairs f g) p q least (pairs_has i.inside j.inside)
    (omega (arith, i.value_is, j.value_is, added_at i.bucket j.bucket p q))
  where
    least : (k : Bucket) → k ∈ pairs f g → value_at f p q + value_at g p q ≤ bucket_at k p q
    least k m =
        let r = pairs_from f g m in
        omega (arith, value_least f p q r.left_inside, value_least g p q r.right_inside, added_at r.left r.right p q, same_bucket_at p q r.pair_is)

-- lists with the same buckets have the same normal form
pub same_buckets_normal :
    {f g h : List Bucket} → ((k : Bucket) → k ∈ f → k ∈ g) → ((k : Bucket) → k ∈ g → k ∈ f) → NormalOf f h
    → NormalOf g h
same_buckets_normal {f} {g} to back n =
    record { form = n.form; same = λ p q hq. same_buckets_value g f back to p q ∙ n.same p q hq }

-- two lists together, either way round
pub both_order : (f g : List Bucket) {k : Bucket} → k ∈ (f ++ g) → k ∈ (g ++ f)
both_order f g m =
    elim (Memᴰ.append_cases f m) [ inl n ↦ Memᴰ.append_right g n | inr n ↦ Memᴰ.append_left f n ]

module _ (f g : List Bucket) {h : List Bucket} where
  -- lower is the minimum of the two
  pub lower_value :
      1 ≤ length f → 1 ≤ length g → Lower f g h → (p q : ℕ) → 0 < q
      → value_at h p q ≡ min (value_at f p q) (value_at g p q)
  lower_value hf hg l p q hq = sym (l.same p q hq) ∙ value_both f g p q hf hg

  -- sum is the sum of the two
  pub sum_value :
      1 ≤ length f → 1 ≤ length g → Sum f g h → (p q : ℕ) → 0 < q
      → value_at h p q ≡ value_at f p q + value_at g p q
  sum_value hf hg s p q hq = sym (s.same p q hq) ∙ value_pairs f g p q hf hg

  -- lower does not depend on the order of the two,
  pub lower_order : Lower f g h → Lower g f h
  lower_order l = same_buckets_normal (λ k m. both_order f g m) (λ k m. both_order g f m) l

  -- nor does sum
  pub sum_order : Sum f g h → Sum g f h
  sum_order s = same_buckets_normal (λ k m. pairs_order f g m) (λ k m. pairs_order g f m) s
