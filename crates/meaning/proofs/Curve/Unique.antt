-- A curve has one normal form: lists in normal form whose values agree at all positive fractions do not differ.
-- A bucket of the one is strictly lowest at some time, and so lowest at a time shortly before and at one shortly after. A bucket
-- of the other that has the value in between is nowhere below the common value, so it has the same rate and the same burst.
-- So the buckets of a normal form are among those of the raw list.
-- Assumes nothing.
use mathlib.Core.Path.{◌≡◌, refl, sym, ◌∙◌, ap}
use mathlib.Core.Logic.{inl, inr}
use mathlib.Core.List.Memᴰ
use mathlib.Core.List.{List, [], ◌∷◌}
use Prim.Native.Nat.{ℕ, ◌+◌, ◌-◌, ◌*◌, ◌≤◌, ◌<◌}
use native.Mathlib.Nat.{le_of_eq, le_of_lt, le_trans, le_antisymm, mul-pos, mul-le-mul_left}
use native.Mathlib.Omega.{arith}
use lib.ListN.{length}
use Rattle.meaning.specs.Curve.{Bucket, ◌∈◌, bucket_at, value_at, Falling, Useful, NormalForm, NormalOf}
use Rattle.meaning.proofs.Curve.Value.{Reached, same_rate, value_least, value_reached, value_unique}
use Rattle.meaning.proofs.Curve.Lowest.{least_of_others, rates_below, bucket_later, meet_same}

-- of two lists with falling rates, each holding the other's first bucket, the first buckets are the same
falling_same_first :
    (k j : Bucket) (f g : List Bucket) → Falling (k ∷ f) → Falling (j ∷ g) → k ∈ (j ∷ g) → j ∈ (k ∷ f) → k ≡ j
unfolding Falling
falling_same_first k j f g hf hg m n =
    elim (Memᴰ.cases_cons m) [
      | inl e ↦ e
      | inr a ↦ elim (Memᴰ.cases_cons n) [ inl e ↦ sym e | inr b ↦ absurd (omega (arith, hf.0 j b, hg.0 k a)) ]
    ]

-- the buckets after the first are then among those after the first
falling_rest :
    (k j : Bucket) (f g : List Bucket) → k ≡ j → Falling (k ∷ f) → ((i : Bucket) → i ∈ (k ∷ f) → i ∈ (j ∷ g)) → (i : Bucket)
    → i ∈ f → i ∈ g
unfolding Falling
falling_rest k j f g e hf all i m =
    elim (Memᴰ.cases_cons (all i (Memᴰ.tail m))) [
      | inl d ↦ absurd (omega (arith, hf.0 i m, same_rate e, same_rate d))
      | inr n ↦ n
    ]

-- two lists with strictly falling rates and the same buckets are the same
pub falling_same_members :
    (f g : List Bucket) → Falling f → Falling g → ((k : Bucket) → k ∈ f → k ∈ g) → ((k : Bucket) → k ∈ g → k ∈ f) → f ≡ g
unfolding Falling
falling_same_members [] [] hf hg to from = refl
falling_same_members [] (j ∷ g) hf hg to from = elim (from j (Memᴰ.head refl)) [ ]
falling_same_members (k ∷ f) [] hf hg to from = elim (to k (Memᴰ.head refl)) [ ]
falling_same_members (k ∷ f) (j ∷ g) hf hg to from =
    let e = falling_same_first k j f g hf hg (to k (Memᴰ.head refl)) (from j (Memᴰ.head refl)) in
    let rest = falling_same_members f g hf.1 hg.1 (falling_rest k j f g e hf to) (falling_rest j k g f (sym e) hg from) in
    cc

-- the value at (N·p - 1)/(N·q)
bucket_earlier : (k : Bucket) (n p q s : ℕ) → s + 1 ≡ n * p → bucket_at k s (n * q) + k.rate ≡ n * bucket_at k p q
unfolding bucket_at
bucket_earlier k n p q s e = omega (arith, ap (λ (t : ℕ). k.rate * t) e)

-- a bucket strictly below at p/q, and of a rate that N exceeds, is not above at (N·p + 1)/(N·q)
stays_below_later :
    (k j : Bucket) (n p q : ℕ) → k.rate < n → bucket_at k p q < bucket_at j p q
    → bucket_at k (n * p + 1) (n * q) ≤ bucket_at j (n * p + 1) (n * q)
stays_below_later k j n p q h l = omega (arith, bucket_later k n p q, bucket_later j n p q, mul-le-mul_left n l)

-- nor at (N·p - 1)/(N·q), if N exceeds the rate of the other
stays_below_earlier :
    (k j : Bucket) (n p q s : ℕ) → s + 1 ≡ n * p → j.rate < n → bucket_at k p q < bucket_at j p q
    → bucket_at k s (n * q) ≤ bucket_at j s (n * q)
stays_below_earlier k j n p q s e h l =
    omega (arith, bucket_earlier k n p q s e, bucket_earlier j n p q s e, mul-le-mul_left n l)

-- buckets that meet at p/q, neither of which falls below the other before or after, are the same
same_around :
    (k j : Bucket) (n p q s : ℕ) → 0 < q → s + 1 ≡ n * p → bucket_at k p q ≡ bucket_at j p q
    → bucket_at k (n * p + 1) (n * q) ≤ bucket_at j (n * p + 1) (n * q) → bucket_at k s (n * q) ≤ bucket_at j s (n * q) → k ≡ j
same_around k j n p q s hq e now later earlier =
    let scaled = ap (λ (v : ℕ). n * v) now in
    let rise : k.rate ≤ j.rate = omega (arith, bucket_later k n p q, bucket_later j n p q) in
    let fall : j.rate ≤ k.rate = omega (arith, bucket_earlier k n p q s e, bucket_earlier j n p q s e) in
    meet_same p q hq (le_antisymm rise fall) now

-- Two lists whose values agree at all positive fractions.
module _ {f g : List Bucket} (same : (p q : ℕ) → 0 < p → 0 < q → value_at f p q ≡ value_at g p q) where
  -- what is lowest of the one list is not above any bucket of the other
  lowest_not_above :
      (p q : ℕ) → 0 < p → 0 < q → {k : Bucket} → k ∈ f
      → ((j : Bucket) → j ∈ f → (j ≡ k → ⊥) → bucket_at k p q ≤ bucket_at j p q) → (j : Bucket) → j ∈ g
      → bucket_at k p q ≤ bucket_at j p q
  lowest_not_above p q hp hq m others j n =
      let value = value_unique f p q (least_of_others f p q others) m refl in
      le_trans (le_of_eq (sym value ∙ same p q hp hq)) (value_least g p q n)

  -- What is useful in the one list, strictly lowest there at p/q,
  module _ {k : Bucket} (m : k ∈ f) (u : Useful f k) (n : ℕ) (above : (j : Bucket) → j ∈ f → j.rate + 1 < n) where
    -- is not above any bucket of the other at p/q
    useful_now : (j : Bucket) → j ∈ g → bucket_at k u.p u.q ≤ bucket_at j u.p u.q
    useful_now =
        lowest_not_above u.p u.q u.p_positive u.q_positive m (λ j i other. le_of_lt (u.below j i other))

    -- nor shortly after, at (N·p + 1)/(N·q)
    useful_later : (j : Bucket) → j ∈ g → bucket_at k (n * u.p + 1) (n * u.q) ≤ bucket_at j (n * u.p + 1) (n * u.q)
    useful_later =
        lowest_not_above (n * u.p + 1) (n * u.q) (omega arith) (mul-pos (omega (arith, above k m)) u.q_positive) m
        (λ j i other. stays_below_later k j n u.p u.q (omega (arith, above k m)) (u.below j i other))

    -- nor shortly before, at (N·p - 1)/(N·q)
    useful_earlier :
        (s : ℕ) → s + 1 ≡ n * u.p → (j : Bucket) → j ∈ g → bucket_at k s (n * u.q) ≤ bucket_at j s (n * u.q)
    useful_earlier s e =
        lowest_not_above s (n * u.q) (omega (arith, far)) (mul-pos (omega (arith, above k m)) u.q_positive) m
        (λ j i other. stays_below_earlier k j n u.p u.q s e (omega (arith, above j i)) (u.below j i other))
      where
        far : 2 ≤ n * u.p
        far = omega (arith, above k m, mul-le-mul_left n u.p_positive)

    -- so it is the bucket of the other that has the value at p/q
    useful_shared : Reached g u.p u.q → k ∈ g
    useful_shared r =
        Memᴰ.cast
        (same_around k r.bucket n u.p u.q (n * u.p - 1) u.q_positive before now
        (useful_later r.bucket r.inside)
        (useful_earlier (n * u.p - 1) before r.bucket r.inside))
        r.inside
      where
        before : n * u.p - 1 + 1 ≡ n * u.p
        before = omega (arith, above k m, mul-le-mul_left n u.p_positive)

        reached : bucket_at r.bucket u.p u.q ≡ value_at f u.p u.q
        reached = sym (same u.p u.q u.p_positive u.q_positive ∙ r.value_is)

        now : bucket_at k u.p u.q ≡ bucket_at r.bucket u.p u.q
        now =
            le_antisymm (useful_now r.bucket r.inside) (le_trans (le_of_eq reached) (value_least f u.p u.q m))

  -- a useful bucket of the one list is a bucket of the other
  useful_in_both : {k : Bucket} → k ∈ f → Useful f k → 1 ≤ length g → k ∈ g
  useful_in_both m u h =
      let b = rates_below f in
      useful_shared m u (b.over + 1) (λ j i. omega (arith, b.above j i)) (value_reached g u.p u.q h)

-- lists in normal form whose values agree at all positive fractions do not differ
pub normal_unique :
    {f g : List Bucket} → NormalForm f → NormalForm g
    → ((p q : ℕ) → 0 < p → 0 < q → value_at f p q ≡ value_at g p q) → f ≡ g
normal_unique {f} {g} hf hg same =
    falling_same_members f g hf.falling hg.falling
    (λ k m. useful_in_both same m (hf.useful k m) hg.some)
    (λ k m. useful_in_both (λ p q hp hq. sym (same p q hp hq)) m (hg.useful k m) hf.some)

-- the buckets of a normal form are buckets of the raw list
pub normal_inside : {raw f : List Bucket} {k : Bucket} → 1 ≤ length raw → NormalOf raw f → k ∈ f → k ∈ raw
normal_inside filled n m = useful_in_both (λ p q hp hq. sym (n.same p q hq)) m (n.form.useful _ m) filled

-- a list has one normal form
pub normal_of_unique : {raw f g : List Bucket} → NormalOf raw f → NormalOf raw g → f ≡ g
normal_of_unique hf hg = normal_unique hf.form hg.form (λ p q hp hq. sym (hf.same p q hq) ∙ hg.same p q hq)
