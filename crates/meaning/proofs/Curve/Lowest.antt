-- At every non-negative fraction the value of a list is had by a useful bucket of it. With N above every rate, the bucket that
-- is lowest a little later, at (N·p + 1)/(N·q), is lowest at p/q too, and no other bucket is as low at that later time.
-- Assumes nothing.
use mathlib.Core.Path.{◌≡◌, refl, sym, ap}
use mathlib.Core.Logic.Dec
use mathlib.Core.Logic.{inl, inr}
use mathlib.Core.List.{List, [], ◌∷◌}
use Prim.Native.Nat.{ℕ, ◌+◌, ◌*◌, ◌≤◌, ◌<◌}
use native.Mathlib.Nat.{le_of_eq, le_of_lt, le_trans, le_antisymm, lt_of_mul-lt-mul_left, eq_of_mul-eq-mul_right, eq-or-lt_of_le, mul-pos}
use native.Mathlib.Decide.{ℕ_discrete, map_dec}
use native.Mathlib.Omega.{arith}
use lib.ListN.{length}
use Rattle.meaning.specs.Curve.{Bucket, ◌∈◌, bucket_at, value_at, Useful}
use Rattle.meaning.proofs.Lists.{cons_each}
use Rattle.meaning.proofs.Curve.Value.{Reached, same_rate, same_bucket_at, value_least, value_reached, value_unique}

-- buckets of the same rate and the same burst are the same
pub same_bucket : {k j : Bucket} → k.rate ≡ j.rate → k.burst ≡ j.burst → k ≡ j
same_bucket r b = λ i. record { rate = r i; burst = b i }

-- two buckets are the same or not
pub same_or_other : (k j : Bucket) → Dec (k ≡ j)
same_or_other k j =
    map_dec (λ e. same_bucket e.0 e.1) (λ e. (same_rate e, ap (λ (x : Bucket). x.burst) e))
    (Dec.and (ℕ_discrete k.rate j.rate) (ℕ_discrete k.burst j.burst))

-- buckets of different rates are not the same
pub other_rate : {k j : Bucket} → j.rate < k.rate → k ≡ j → ⊥
other_rate falls e = omega (arith, same_rate e)

-- what is not above the others of a list is not above any bucket of it
pub least_of_others :
    (f : List Bucket) (p q : ℕ) {k : Bucket}
    → ((j : Bucket) → j ∈ f → (j ≡ k → ⊥) → bucket_at k p q ≤ bucket_at j p q) → (j : Bucket) → j ∈ f
    → bucket_at k p q ≤ bucket_at j p q
least_of_others f p q {k} others j m =
    elim (same_or_other j k) [ yes e ↦ le_of_eq (same_bucket_at p q (sym e)) | no other ↦ others j m other ]

-- what is useful is useful in another list too, if it is below every other bucket of that at the same time
unfoldable pub useful_there :
    {f g : List Bucket} {k : Bucket} (u : Useful f k)
    → ((j : Bucket) → j ∈ g → (j ≡ k → ⊥) → bucket_at k u.p u.q < bucket_at j u.p u.q) → Useful g k
useful_there u below =
    record { p = u.p; q = u.q; p_positive = u.p_positive; q_positive = u.q_positive; below = below }

-- so it is useful among fewer
unfoldable pub useful_fewer : {f g : List Bucket} {k : Bucket} → ((j : Bucket) → j ∈ g → j ∈ f) → Useful f k → Useful g k
unfolding useful_there
useful_fewer fewer u = useful_there u (λ j m other. u.below j (fewer j m) other)

-- a useful bucket is not above any at the time at which it is useful
pub useful_least :
    {f : List Bucket} {k : Bucket} (u : Useful f k) (j : Bucket) → j ∈ f
    → bucket_at k u.p u.q ≤ bucket_at j u.p u.q
useful_least {f} u = least_of_others f u.p u.q (λ j m other. le_of_lt (u.below j m other))

-- A number above every rate of a list.
pub record RatesBelow (f : List Bucket) : Type 0 where
  pub over : ℕ
  pub above : (k : Bucket) → k ∈ f → k.rate < over

-- there is one
pub rates_below : (f : List Bucket) → RatesBelow f
rates_below [] = record { over = 0; above = λ k m. elim m [ ] }
rates_below (k ∷ f) =
    let r = rates_below f in
    record { over = k.rate + 1 + r.over; above = cons_each (omega arith) (λ j m. omega (arith, r.above j m)) }

-- the value at (N·p + 1)/(N·q)
pub bucket_later : (k : Bucket) (n p q : ℕ) → bucket_at k (n * p + 1) (n * q) ≡ n * bucket_at k p q + k.rate
unfolding bucket_at
bucket_later k n p q = omega arith

-- buckets of the same rate that meet are the same
pub meet_same :
    {k j : Bucket} (p q : ℕ) → 0 < q → k.rate ≡ j.rate → bucket_at k p q ≡ bucket_at j p q → k ≡ j
unfolding bucket_at
meet_same p q hq rates e =
    same_bucket rates (eq_of_mul-eq-mul_right q hq _ _ (omega (arith, ap (λ (r : ℕ). r * p) rates)))

-- what is not above at (N·p + 1)/(N·q) is not above at p/q
later_not_above :
    (k j : Bucket) (n p q : ℕ) → j.rate < n → bucket_at k (n * p + 1) (n * q) ≤ bucket_at j (n * p + 1) (n * q)
    → bucket_at k p q ≤ bucket_at j p q
later_not_above k j n p q h l =
    let a = bucket_later k n p q in
    let b = bucket_later j n p q in
    let near : bucket_at k p q < bucket_at j p q + 1 = lt_of_mul-lt-mul_left n (omega arith) in
    omega arith

-- buckets that meet at (N·p + 1)/(N·q) are the same
later_same :
    (k j : Bucket) (n p q : ℕ) → 0 < q → k.rate < n → j.rate < n
    → bucket_at k (n * p + 1) (n * q) ≡ bucket_at j (n * p + 1) (n * q) → k ≡ j
later_same k j n p q hq hk hj e =
    let down = later_not_above k j n p q hj (le_of_eq e) in
    let up = later_not_above j k n p q hk (le_of_eq (sym e)) in
    let now = le_antisymm down up in
    let scaled = ap (λ (v : ℕ). n * v) now in
    meet_same p q hq (omega (arith, bucket_later k n p q, bucket_later j n p q)) now

-- A useful bucket that has the value at p/q.
pub record Lowest (f : List Bucket) (p q : ℕ) : Type 0 where
  pub bucket : Bucket
  pub inside : bucket ∈ f
  pub value_is : value_at f p q ≡ bucket_at bucket p q
  pub useful : Useful f bucket

-- With N above every rate, take the bucket that has the value at (N·p + 1)/(N·q).
module _ {f : List Bucket} (p q : ℕ) (hq : 0 < q) (b : RatesBelow f) (r : Reached f (b.over * p + 1) (b.over * q)) where
  -- no bucket is below it there
  later_least :
      (j : Bucket) → j ∈ f
      → bucket_at r.bucket (b.over * p + 1) (b.over * q) ≤ bucket_at j (b.over * p + 1) (b.over * q)
  later_least j m = le_trans (le_of_eq (sym r.value_is)) (value_least f _ _ m)

  -- no other bucket is as low there
  later_useful : Useful f r.bucket
  later_useful =
      record {
        p = b.over * p + 1;
        q = b.over * q;
        p_positive = omega arith;
        q_positive = mul-pos (omega (arith, b.above _ r.inside)) hq;
        below = below;
      }
    where
      below :
          (j : Bucket) → j ∈ f → (j ≡ r.bucket → ⊥)
          → bucket_at r.bucket (b.over * p + 1) (b.over * q) < bucket_at j (b.over * p + 1) (b.over * q)
      below j m other =
          elim (eq-or-lt_of_le (later_least j m)) [
            | inl e ↦ absurd (other (sym (later_same r.bucket j b.over p q hq (b.above _ r.inside) (b.above j m) e)))
            | inr l ↦ l
          ]

  -- it has the value at p/q
  later_lowest : Lowest f p q
  later_lowest =
      record {
        bucket = r.bucket;
        inside = r.inside;
        value_is = value_unique f p q now r.inside refl;
        useful = later_useful;
      }
    where
      now : (j : Bucket) → j ∈ f → bucket_at r.bucket p q ≤ bucket_at j p q
      now j m = later_not_above r.bucket j b.over p q (b.above j m) (later_least j m)

-- at every non-negative fraction a useful bucket has the value
pub lowest : (f : List Bucket) (p q : ℕ) → 0 < q → 1 ≤ length f → Lowest f p q
lowest f p q hq h = let b = rates_below f in later_lowest p q hq b (value_reached f (b.over * p + 1) (b.over * q) h)
