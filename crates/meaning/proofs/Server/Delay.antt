-- The delay of a curve at a rate-latency server: 0 for a curve that carries nothing by tick 1, and otherwise T + M/R, the quotient
-- rounded up, where M is the greatest of reads(s) - R·s. With one tick less it fails: what is carried by tick 1 needs the latency, and
-- the tick at which M is reached needs the quotient besides.
-- Assumes nothing.
use mathlib.Core.Path.{◌≡◌, refl, ap}
use mathlib.Core.List.{List, [], ◌∷◌}
use Prim.Native.Nat.{ℕ, ◌+◌, ◌-◌, ◌*◌, ◌≤◌, ◌<◌}
use native.Mathlib.Nat.{lt_of_mul-lt-mul_left, mul-le-mul_left}
use native.Mathlib.Decide.{ℕ_discrete}
use native.Mathlib.Omega.{arith}
use borrow.Author.Tests.{eq-eqb, ne_eqb}
use Rattle.meaning.specs.Curve.{Bucket, bucket_at, value_at, NormalForm, reads}
use Rattle.meaning.specs.Server.{RateLatency, rated, by_rate, Smallest, Excess, DelayRated, last}
use Rattle.meaning.specs.Computed.{held, delay}
use Rattle.meaning.proofs.Curve.Value.{value_least, value_reached}
use Rattle.meaning.proofs.Server.Joining.{served_past, rounded_up_is}
use Rattle.meaning.proofs.Server.Excess.{excess_is}

-- a curve that carries nothing by some time 1/q carries nothing by any time p/r,
pub carries_nothing_ever : (f : List Bucket) (q : ℕ) → 0 < q → value_at f 1 q ≡ 0 → (p r : ℕ) → value_at f p r ≡ 0
unfolding bucket_at value_at
carries_nothing_ever [] q h none p r = refl
carries_nothing_ever (k ∷ f) q h none p r =
    let l = value_reached (k ∷ f) 1 q (omega arith) in
    let idle : l.bucket.rate ≡ 0 = omega (arith, l.value_is) in
    let empty : l.bucket.burst ≡ 0 = omega (arith, l.value_is, mul-le-mul_left l.bucket.burst h) in
    omega (arith, value_least (k ∷ f) p r l.inside, ap (λ x. x * p) idle, ap (λ x. x * r) empty)

-- so, by tick 1, by any tick
pub carries_nothing : (f : List Bucket) → reads f 1 ≡ 0 → (t : ℕ) → reads f t ≡ 0
unfolding reads
carries_nothing f none t = carries_nothing_ever f 1 (omega arith) none t 1

-- so it has no delay
pub rated_delay_of_nothing : (f : List Bucket) (s : RateLatency) → reads f 1 ≡ 0 → DelayRated f s 0
rated_delay_of_nothing f s none =
    record { suffices = λ t. omega (arith, carries_nothing f none t); smallest = λ d enough. omega arith }

-- Any other curve, with M the greatest of reads(s) - R·s, and x the quotient M/R rounded up:
module _
    (f : List Bucket) (s : RateLatency) {m : ℕ} (x : ℕ) (e : Excess f s.rate m) (rounded : Smallest (λ y. m ≤ s.rate * y) x)
  where
    -- latency and quotient suffice
    suffice : (t : ℕ) → reads f t ≤ by_rate s (t + (s.latency + x))
    suffice t = omega (arith, e.greatest t, rounded.suffices, served_past s {u = t + (s.latency + x)} (t + x) (omega arith))

    -- a number that suffices is not below the latency, by tick 1,
    latency_needed : (reads f 1 ≡ 0 → ⊥) → (d : ℕ) → reads f 1 ≤ by_rate s (1 + d) → s.latency ≤ d
    unfolding by_rate
    latency_needed some d enough =
        omega (arith, lt_of_mul-lt-mul_left s.rate {m = 0} {n = 1 + d - s.latency} (omega arith))

    -- nor is what is over the latency below the quotient, by the tick at which M is reached
    quotient_needed : (y : ℕ) → reads f e.at ≤ by_rate s (e.at + (s.latency + y)) → x ≤ y
    quotient_needed y enough =
        rounded.smallest y
        (omega (arith, e.reached, served_past s {u = e.at + (s.latency + y)} (e.at + y) (omega arith)))

    -- so they are the delay
    pub delay_from_excess : (reads f 1 ≡ 0 → ⊥) → DelayRated f s (s.latency + x)
    delay_from_excess some = record { suffices = λ t. omega (arith, suffice t); smallest = smallest }
      where
        smallest : (d : ℕ) → ((t : ℕ) → reads f t ≤ by_rate s (t + d)) → s.latency + x ≤ d
        smallest d enough =
            let past = latency_needed some d (enough 1) in
            let sum : s.latency + (d - s.latency) ≡ d = omega arith in
            omega (arith, quotient_needed (d - s.latency) (rw sum (enough e.at)))

-- the computed number is the delay
pub rated_delay_is : {f : List Bucket} (s : RateLatency) → NormalForm f → (last f).rate ≤ s.rate → 1 ≤ s.rate → DelayRated f s (delay f (rated s))
unfolding delay held reads
rated_delay_is {f} s n slow some =
    elim (ℕ_discrete (reads f 1) 0) [
      | yes e ↦ rw (eq-eqb (reads f 1) 0 e) (rated_delay_of_nothing f s e)
      | no e ↦
          rw (ne_eqb (reads f 1) 0 e)
          (delay_from_excess f s _ (excess_is s.rate n slow) (rounded_up_is _ s.rate some) e)
    ]
