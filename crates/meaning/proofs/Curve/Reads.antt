-- What is read of a curve at a tick: at 0 its burst, and later its value, which itself is 0 at 0. The burst of a curve in normal form
-- is the first bucket's.
-- Assumes nothing.
use mathlib.Core.Path.{◌≡◌, refl}
use mathlib.Core.List.Memᴰ
use mathlib.Core.List.{List, ◌∷◌}
use Prim.Native.Nat.{ℕ, zero, suc, ◌≤◌, ◌<◌}
use native.Mathlib.Nat.{le_antisymm, le_of_lt, mul-le-mul_left}
use native.Mathlib.Omega.{arith}
use lib.ListN.{length}
use Rattle.meaning.specs.Curve.{Bucket, ◌∈◌, bucket_at, reads, value, Burst, Useful, NormalForm, Falling}
use Rattle.meaning.proofs.Lists.{cons_each}
use Rattle.meaning.proofs.Curve.Value.{same_rate, value_least, value_reached}
use Rattle.meaning.proofs.Curve.Neighbours.{below_rises}

-- at 0 it is the burst,
pub reads_at_zero : (f : List Bucket) → 1 ≤ length f → Burst f (reads f 0)
unfolding bucket_at reads
reads_at_zero f h =
    let r = value_reached f 0 1 h in
    record {
      lowest = r.bucket;
      inside = r.inside;
      reached = omega (arith, r.value_is);
      smallest = λ k m. omega (arith, value_least f 0 1 m);
    }

-- at every other tick the value,
pub reads_later : (f : List Bucket) (t : ℕ) → 1 ≤ t → reads f t ≡ value f t
unfolding value reads
reads_later f zero h = absurd (omega arith)
reads_later f (suc t) h = refl

-- which at 0 is 0
pub value_at_zero : (f : List Bucket) → value f 0 ≡ 0
unfolding value
value_at_zero f = refl

-- what is read does not fall
pub reads_rise : (f : List Bucket) {t u : ℕ} → 1 ≤ length f → t ≤ u → reads f t ≤ reads f u
unfolding reads bucket_at
reads_rise f {t} {u} filled h =
    let r = value_reached f u 1 filled in
    omega (arith, r.value_is, value_least f t 1 r.inside, mul-le-mul_left r.bucket.rate h)

-- nor does the value, from 0 on
pub value_rises : (f : List Bucket) (t u : ℕ) → 1 ≤ length f → t ≤ u → value f t ≤ value f u
unfolding value reads
value_rises f zero u filled h = omega arith
value_rises f (suc t) zero filled h = absurd (omega arith)
value_rises f (suc t) (suc u) filled h = reads_rise f {t = suc t} {u = suc u} filled h

-- a curve has one burst
pub one_burst : {f : List Bucket} {m n : ℕ} → Burst f m → Burst f n → m ≡ n
one_burst b c =
    le_antisymm (omega (arith, c.reached, b.smallest c.lowest c.inside))
    (omega (arith, b.reached, c.smallest b.lowest b.inside))

-- a useful bucket is at its time below each bucket of another rate
pub below_other :
    {f : List Bucket} {k j : Bucket} (u : Useful f k) → j ∈ f → (j.rate ≡ k.rate → ⊥)
    → bucket_at k u.p u.q < bucket_at j u.p u.q
below_other u m other = u.below _ m (λ e. other (same_rate e))

-- a useful bucket is lower at 0 than a flatter one,
pub burst_below : {f : List Bucket} {k j : Bucket} → Useful f k → j ∈ f → j.rate < k.rate → k.burst < j.burst
burst_below {k = k} {j} u m h = below_rises k j u.p u.q (le_of_lt h) (below_other u m (omega arith))

-- so the burst is that of the first bucket
pub first_burst : {k : Bucket} {g : List Bucket} → NormalForm (k ∷ g) → Burst (k ∷ g) k.burst
unfolding Falling
first_burst {k} n =
    let first = Memᴰ.head refl in
    record {
      lowest = k;
      inside = first;
      reached = refl;
      smallest = cons_each (omega arith) (λ j i. le_of_lt (burst_below (n.useful k first) (Memᴰ.tail i) (n.falling.0 j i)));
    }
