-- Servers joined and servers left over: the joined server serves by each tick the least, over all ways to split the tick,
-- of what the first serves by the first part and the next by the rest; the order of joining does not matter; a quotient
-- rounded up is the smallest number that suffices; and what the server left beside a cross curve serves, with that curve, the server had.
-- Assumes nothing.
use mathlib.Core.Path.{◌≡◌, refl, sym, ◌∙◌, ap}
use mathlib.Core.Logic.{inl, inr}
use mathlib.Core.List.Memᴰ
use mathlib.Core.List.{List, [], ◌∷◌}
use Prim.Native.Nat.{ℕ, ◌+◌, ◌-◌, ◌*◌, ◌≤◌, ◌<◌, min}
use native.Mathlib.Nat.{le_antisymm, le_of_eq, le_of_lt, min_comm, min-eq_left, min-eq_right, min-le_left, min-le_right, add_comm, mul-le-mul_left, mul-le-mul_right, lt-div-mul-add, div-lt_iff_lt-mul}
use native.Mathlib.Omega.{arith}
use lib.ListN.{length}
use Rattle.meaning.specs.Curve.{Bucket, ◌∈◌, bucket_at, Falling, reads}
use Rattle.meaning.specs.Server.{RateLatency, Instant, by_rate, join_rated, Smallest, last, ResidualRated}
use Rattle.meaning.specs.Computed.{rounded_up, residual}
use Rattle.meaning.proofs.Order.{le_or_lt}
use Rattle.meaning.proofs.Curve.Value.{same_rate, value_least}

-- two servers of the same rate and latency are the same
pub same_server : {s next : RateLatency} → s.rate ≡ next.rate → s.latency ≡ next.latency → s ≡ next
same_server p q = λ i. record { rate = p i; latency = q i }

-- what is served by a tick that is y past the latency
pub served_past : (s : RateLatency) {u : ℕ} (y : ℕ) → u ≡ s.latency + y → by_rate s u ≡ s.rate * y
unfolding by_rate
served_past s {u} y e = let past : u - s.latency ≡ y = omega arith in ap (λ x. s.rate * x) past

-- n is the least of a(y) + b(t-y) over the whole y up to t.
pub record Convolution (a b : Instant → ℕ) (t n : ℕ) : Type 0 where
  pub at : Instant
  pub inside : at ≤ t
  pub reached : n ≡ a at + b (t - at)
  pub least : (y : Instant) → y ≤ t → n ≤ a y + b (t - y)

-- a rate at most each of two serves no more in a time than the two in its parts
slower_serves_less : {m r r' u : ℕ} (v w : ℕ) → m ≤ r → m ≤ r' → u ≤ v + w → m * u ≤ r * v + r' * w
slower_serves_less {m} v w h h' fits =
    omega (arith, mul-le-mul_left m fits, mul-le-mul_right v h, mul-le-mul_right w h')

-- one of two serves all, the other nothing
serves_alone : {m r u v w : ℕ} (r' : ℕ) → m ≡ r → u ≡ v → w ≡ 0 → m * u ≡ r * v + r' * w
serves_alone r' e e' none = rw (e, e', none) (omega arith)

-- the joined server serves by each tick the min-plus convolution of what the two serve
pub rated_join_convolution : (s next : RateLatency) (t : ℕ) → Convolution (by_rate s) (by_rate next) t (by_rate (join_rated s next) t)
unfolding by_rate join_rated
rated_join_convolution s next t =
    elim (le_or_lt s.rate next.rate) [
      | inl h ↦
          record {
            at = t - next.latency;
            inside = omega arith;
            reached = serves_alone next.rate (min-eq_left h) (omega arith) (omega arith);
            least = every;
          }
      | inr h ↦
          record {
            at = min s.latency t;
            inside = omega arith;
            reached = serves_alone s.rate (min-eq_right (le_of_lt h)) (omega arith) (omega arith) ∙ add_comm _ _;
            least = every;
          }
    ]
  where
    every :
        (y : ℕ) → y ≤ t
        → min s.rate next.rate * (t - (s.latency + next.latency))
        ≤ s.rate * (y - s.latency) + next.rate * (t - y - next.latency)
    every y h =
        slower_serves_less (y - s.latency) (t - y - next.latency) (min-le_left _ _) (min-le_right _ _) (omega arith)

-- joining in the other order gives the same server
pub rated_join_order : (s next : RateLatency) → join_rated s next ≡ join_rated next s
unfolding join_rated
rated_join_order s next = same_server (min_comm _ _) (add_comm _ _)

-- joining three servers gives the same from either end
pub rated_join_assoc : (s next third : RateLatency) → join_rated (join_rated s next) third ≡ join_rated s (join_rated next third)
unfolding join_rated
rated_join_assoc s next third = same_server (omega arith) (omega arith)

-- the smallest number is one number
pub smallest_unique : {P : ℕ → Type 0} {m n : ℕ} → Smallest P m → Smallest P n → m ≡ n
smallest_unique a b = le_antisymm (a.smallest _ b.suffices) (b.smallest _ a.suffices)

-- the quotient rounded up is the smallest number whose product suffices
pub rounded_up_is : (b r : ℕ) → 1 ≤ r → Smallest (λ x. b ≤ r * x) (rounded_up b r)
unfolding rounded_up
rounded_up_is b r h =
    record {
      suffices = omega (arith, lt-div-mul-add {a = b + r - 1} h);
      smallest = λ m enough. omega (arith, (div-lt_iff_lt-mul {x = b + r - 1} {y = m + 1} h).1 (omega arith));
    }

-- a curve's last bucket is one of its buckets
pub last_inside : (f : List Bucket) → 1 ≤ length f → last f ∈ f
unfolding last
last_inside [] h = absurd (omega arith)
last_inside (k ∷ []) h = Memᴰ.head refl
last_inside (k ∷ j ∷ f) h = Memᴰ.tail (last_inside (j ∷ f) (omega arith))

-- no bucket's rate is below the last one's
pub last_slowest : (f : List Bucket) → Falling f → {k : Bucket} → k ∈ f → (last f).rate ≤ k.rate
unfolding Falling last
last_slowest [] falling {k = k} m = elim m [ ]
last_slowest (j ∷ []) falling m = le_of_eq (sym (same_rate (Memᴰ.eq_of_singleton m)))
last_slowest (j ∷ i ∷ f) falling m =
    elim (Memᴰ.cases_cons m) [
      | inl e ↦ rw e (le_of_lt (falling.0 (last (i ∷ f)) (last_inside (i ∷ f) (omega arith))))
      | inr n ↦ last_slowest (i ∷ f) falling.1 n
    ]

-- the computed server is the one left beside the cross curve
pub residual_is : (cross : List Bucket) (s : RateLatency) → 1 ≤ s.rate → ResidualRated cross s (residual cross s)
unfolding residual
residual_is cross s h =
    record { rate_is = refl; quotient = _; is_rounded_up = rounded_up_is (last cross).burst s.rate h; latency_is = refl }

-- one server is left beside a cross curve
pub residual_unique :
    {cross : List Bucket} {s left other : RateLatency} → ResidualRated cross s left → ResidualRated cross s other → left ≡ other
residual_unique a b =
    same_server (a.rate_is ∙ sym b.rate_is) (omega (arith, smallest_unique a.is_rounded_up b.is_rounded_up))

-- where rates `rest` and r' make up r, and r serves a burst b in time x, r serves in x + u what `rest` and the bucket (r', b)
-- take in u
shares :
    {r y : ℕ} (rest r' b x u : ℕ) → r ≡ rest + r' → y ≡ x + u → b ≤ r * x → rest * u + (r' * u + b * 1) ≤ r * y
shares {r} rest r' b x u e e' enough = rw (e, e') (omega (arith, rw e at enough))

-- past the latency of the server left: what it has served, and what the cross curve lets come since, are within what the whole one has
pub residual_law :
    {cross : List Bucket} {s left : RateLatency} → 1 ≤ length cross → ResidualRated cross s left → (last cross).rate < s.rate → (t : ℕ)
    → left.latency ≤ t → by_rate left t + reads cross (t - left.latency) ≤ s.rate * (t - s.latency)
unfolding by_rate reads bucket_at
residual_law {cross} {s} {left} some r bounded t past =
    omega (arith, value_least cross (t - left.latency) 1 (last_inside cross some), together)
  where
    together :
        left.rate * (t - left.latency) + ((last cross).rate * (t - left.latency) + (last cross).burst * 1)
        ≤ s.rate * (t - s.latency)
    together = shares _ _ _ r.quotient _ (omega arith) (omega arith) r.is_rounded_up.suffices
