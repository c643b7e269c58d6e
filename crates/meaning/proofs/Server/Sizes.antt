-- How large value, backlog and delay can be for a curve and a server in range: no 64-bit number is too small for one of them.
-- Assumes nothing.
use mathlib.Core.List.{List}
use Prim.Native.Nat.{ℕ, ◌+◌, ◌-◌, ◌*◌, ◌^◌, ◌≤◌, ◌<◌}
use native.Mathlib.Nat.{mul-le-mul, mul-le-mul_left, mul-le-mul_right}
use native.Mathlib.Omega.{arith}
use Rattle.meaning.specs.Curve.{Bucket, ◌∈◌, bucket_at, reads}
use Rattle.meaning.specs.Server.{RateLatency, rated, by_rate, Excess, Backlog, DelayRated}
use Rattle.meaning.specs.Refusal.{InRange}
use Rattle.meaning.specs.ServerQuestions.{RatedInRange}
use Rattle.meaning.proofs.Curve.Value.{value_least}
use Rattle.meaning.proofs.Server.Joining.{served_past}

-- the value at a tick below 2^40
pub value_fits : (f : List Bucket) {k : Bucket} (t : ℕ) → k ∈ f → InRange k → t < 2 ^ 40 → reads f t < 2 ^ 61
unfolding bucket_at reads
value_fits f {k} t inside ranged early =
    omega (arith, value_least f t 1 inside, ranged.rate_fits, ranged.burst_fits, mul-le-mul {n₁ = k.rate} {m₁ = t} {n₂ = 2 ^ 20} {m₂ = 2 ^ 40} (omega (arith, ranged.rate_fits)) (omega arith))

-- the greatest of reads(s) - R·s is at most the burst of any bucket of rate at most R
pub excess_bound : (f : List Bucket) {rate m : ℕ} {k : Bucket} → k ∈ f → k.rate ≤ rate → Excess f rate m → m ≤ k.burst
unfolding reads bucket_at
excess_bound f inside slow e =
    omega (arith, e.reached, value_least f e.at 1 inside, mul-le-mul_right e.at slow)

-- A bucket of the curve that is no faster than the server bounds both figures.
module _ (f : List Bucket) (s : RateLatency) {k : Bucket} (inside : k ∈ f) (slow : k.rate ≤ s.rate) (some : 1 ≤ s.rate) where
  -- the bucket rises no faster than what is served past the latency
  rises : (u y : ℕ) → u ≤ s.latency + y → k.rate * u ≤ k.rate * s.latency + s.rate * y
  rises u y h = omega (arith, mul-le-mul_left k.rate h, mul-le-mul_right y slow)

  -- the backlog is at most the bucket's value at the latency
  pub backlog_bound : {n : ℕ} → Backlog f (rated s) n → n ≤ k.burst + k.rate * s.latency
  unfolding by_rate reads bucket_at
  backlog_bound b =
      omega (arith, b.reached, value_least f b.at 1 inside, rises b.at (b.at - s.latency) (omega arith))

  -- the delay is at most the latency and a tick for each bit of the burst
  pub delay_bound : {d : ℕ} → DelayRated f s d → d ≤ s.latency + k.burst
  unfolding reads bucket_at
  delay_bound d =
      d.smallest (s.latency + k.burst)
      (λ t. omega (
        arith,
        served_past s {u = t + (s.latency + k.burst)} (t + k.burst) (omega arith),
        value_least f t 1 inside,
        mul-le-mul_right t slow,
        mul-le-mul_right k.burst some,
      ))

-- So both fit 64 bits, for a curve and a server in range that are not UNBOUNDED.
module _ (f : List Bucket) (s : RateLatency) {k : Bucket} (inside : k ∈ f) (ranged : InRange k) (in_range : RatedInRange s) (slow : k.rate ≤ s.rate) where
  pub rated_backlog_fits : {n : ℕ} → Backlog f (rated s) n → n < 2 ^ 41
  rated_backlog_fits b =
      omega (
        arith,
        backlog_bound f s inside slow in_range.rate_some b,
        ranged.burst_fits,
        mul-le-mul {n₁ = k.rate} {m₁ = s.latency} {n₂ = 2 ^ 20} {m₂ = 2 ^ 20} (omega (arith, ranged.rate_fits)) (omega (arith, in_range.latency_fits)),
      )

  pub rated_delay_fits : {d : ℕ} → DelayRated f s d → d < 2 ^ 41
  rated_delay_fits d =
      omega (arith, delay_bound f s inside slow in_range.rate_some d, ranged.burst_fits, in_range.latency_fits)
