-- Traffic curves: what a list of token buckets means, what it gives at a time, normal form, and the operations on curves.
-- (docs/SCOPE.md, "Curves".) A time is a fraction p/q; values at p/q stand multiplied by q, so that they are whole numbers. At a
-- tick q is 1.
-- Assumes nothing.
use Rattle.std.specs.Prelude.{◌≡◌, ℕ, zero, suc, ◌+◌, ◌-◌, ◌*◌, ◌≤◌, ◌<◌, min, length, get_or}
use mathlib.Core.List.{List, [], ◌∷◌, ◌++◌, map, Memᴰ}

infix 50 ◌∈◌
-- A bucket: so many bits a tick, and so many at once.
pub record Bucket : Type 0 where
  pub rate : ℕ
  pub burst : ℕ

-- A bucket stands in a list.
abbrev pub ◌∈◌ : Bucket → List Bucket → Type 0
k ∈ f = Memᴰ k f

-- The buckets of a raw list of numbers, which has rate then burst for each.
unfoldable pub buckets : List ℕ → List Bucket
buckets [] = []
buckets (r ∷ []) = []
buckets (r ∷ b ∷ l) = record { rate = r; burst = b } ∷ buckets l

-- The same the other way round: the numbers of a list of buckets.
unfoldable pub flat : List Bucket → List ℕ
flat [] = []
flat (k ∷ f) = k.rate ∷ k.burst ∷ flat f

-- A curve's list has so many numbers for each bucket,
abbrev pub width : ℕ
width = 2

-- rate then burst: the curve of a list,
unfoldable pub curve_of : List ℕ → List Bucket
curve_of l = buckets l

-- and the list of a curve.
unfoldable pub list_of : List Bucket → List ℕ
list_of f = flat f

-- What a bucket lets through by p/q: r·p/q + b.
unfoldable pub bucket_at : Bucket → ℕ → ℕ → ℕ
bucket_at k p q = k.rate * p + k.burst * q

-- What a curve lets through by p/q: as much as its lowest bucket. (No curve is empty; an empty list has 0.)
unfoldable pub value_at : List Bucket → ℕ → ℕ → ℕ
unfolding bucket_at
value_at [] p q = 0
value_at (k ∷ []) p q = bucket_at k p q
value_at (k ∷ j ∷ f) p q = min (bucket_at k p q) (value_at (j ∷ f) p q)

-- What backlog, delay, the curve behind and the law of residual read of a curve: what may have come by a tick. At 0 that is the
-- smallest burst, which may come at once; later it is the value.
unfoldable pub reads : List Bucket → ℕ → ℕ
reads f t = value_at f t 1

-- value: what is answered for a tick. In no time nothing comes: at 0 it is 0.
unfoldable pub value : List Bucket → ℕ → ℕ
value f zero = 0
value f (suc t) = value_at f (suc t) 1

-- burst: the smallest burst of a curve's buckets.
pub record Burst (f : List Bucket) (n : ℕ) : Type 0 where
  pub lowest : Bucket
  pub inside : lowest ∈ f
  pub reached : n ≡ lowest.burst
  pub smallest : (k : Bucket) → k ∈ f → n ≤ k.burst

-- Each bucket's rate is below those of the buckets before it.
unfoldable pub Falling : List Bucket → Type 0
Falling [] = Unit {0}
Falling (k ∷ f) = ((j : Bucket) → j ∈ f → j.rate < k.rate) × Falling f

-- A bucket is of use: at some time after 0 it lies strictly below all the others.
pub record Useful (f : List Bucket) (k : Bucket) : Type 0 where
  pub p : ℕ
  pub q : ℕ
  pub p_positive : 0 < p
  pub q_positive : 0 < q
  pub below : (j : Bucket) → j ∈ f → (j ≡ k → ⊥) → bucket_at k p q < bucket_at j p q

-- Normal form: at least one bucket, rates in falling order, each bucket of use.
pub record NormalForm (f : List Bucket) : Type 0 where
  pub some : 1 ≤ length f
  pub falling : Falling f
  pub useful : (k : Bucket) → k ∈ f → Useful f k

-- Two lists let through the same by every time from 0 on.
abbrev pub SameCurve : List Bucket → List Bucket → Type 0
SameCurve f g = (p q : ℕ) → 0 < q → value_at f p q ≡ value_at g p q

-- normalise: in normal form, and lets through what the raw list does.
pub record NormalOf (raw f : List Bucket) : Type 0 where
  pub form : NormalForm f
  pub same : SameCurve raw f

-- The bucket numbered i, counted from 1.
abbrev pub numbered : List Bucket → ℕ → Bucket
numbered f i = get_or f (i - 1) (record { rate = 0; burst = 0 })

-- The crossing numbered k, from 2 on: the time p/q at which bucket k and the one before it have one value.
pub record Crossing (f : List Bucket) (k p q : ℕ) : Type 0 where
  pub from_second : 2 ≤ k
  pub inside : k ≤ length f
  pub q_positive : 0 < q
  pub meets : bucket_at (numbered f (k - 1)) p q ≡ bucket_at (numbered f k) p q

-- lower: the two lists of buckets put together, in normal form.
abbrev pub Lower : List Bucket → List Bucket → List Bucket → Type 0
Lower f g = NormalOf (f ++ g)

-- Two buckets added, rate to rate and burst to burst.
unfoldable pub added : Bucket → Bucket → Bucket
added k j = record { rate = k.rate + j.rate; burst = k.burst + j.burst }

-- Each bucket of the one curve added to each of the other.
unfoldable pub pairs : List Bucket → List Bucket → List Bucket
unfolding added
pairs [] g = []
pairs (k ∷ f) g = map (added k) g ++ pairs f g

-- sum: all those, in normal form.
abbrev pub Sum : List Bucket → List Bucket → List Bucket → Type 0
Sum f g = NormalOf (pairs f g)

-- The bucket of a link of rate D, with frames of up to L bits, is (D, L): a frame has come when its last bit is in, so that the whole
-- of one is handed over at once. Where L is 0 the bits come one by one.
abbrev pub link_bucket : ℕ → ℕ → Bucket
link_bucket d l = record { rate = d; burst = l }

-- shape: the curve held down by the link's bucket.
abbrev pub Shape : List Bucket → Bucket → List Bucket → Type 0
Shape f link = Lower f (link ∷ [])
