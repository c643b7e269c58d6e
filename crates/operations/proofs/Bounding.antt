-- Backlog and delay from M, the greatest of reads(s) - R·s.
-- Assumes nothing.
use mathlib.Core.Path.{◌≡◌, sym}
use mathlib.Core.Bool.{Bool, true, false}
use mathlib.Core.Logic.{inl, inr}
use mathlib.Core.List.{List}
use Prim.Native.Nat.{ℕ, ◌+◌, ◌*◌, ◌^◌, ◌≤◌, ◌<◌, min}
use native.Mathlib.Nat.{le_of_lt, le_trans, le_of_eq, le_antisymm, zero-add, mul_comm, mul-le-mul, mul-le-mul_left, div-le_self}
use native.Mathlib.Omega.{arith}
use mir.Syntax.{w64}
use mir.Val.{Fits}
use lib.ListN.{length}
use Rattle.meaning.specs.Curve.{Bucket, ◌∈◌, bucket_at, reads}
use Rattle.meaning.specs.Server.{Excess, Backlog, Delay, Smallest, last, port}
use Rattle.meaning.proofs.Lists.{at_inside, inside_at}
use Rattle.meaning.proofs.Order.{le_or_lt}
use Rattle.meaning.proofs.Curve.Value.{same_bucket_at, same_rate}
use Rattle.meaning.proofs.Server.Cut.{cut_at, by_line, by_slow, cut_line, cut_slow, cut_reached}
use Rattle.meaning.proofs.Server.Behind.{cut_gap}
use Rattle.meaning.proofs.Server.Joining.{last_inside}
use Rattle.meaning.proofs.Server.Delay.{rated_delay_of_nothing, delay_from_excess}
use Rattle.meaning.proofs.Server.Sizes.{excess_bound}
use Rattle.checks.specs.Cited.{Tells}
use Rattle.std.specs.Int.{div_ceil}
use Rattle.std.proofs.lemmas.Grind.{div_ceil_times}
use Rattle.operations.specs.Cited.{TestedPort, LeastOf}
use Rattle.operations.specs.Walks.{FirstSlow}
use Rattle.operations.proofs.Turning.{nowhere, slow_from}

-- M is below 2^40: the last bucket's burst is
pub excess_small : (f : List Bucket) {rate latency m : ℕ} → TestedPort f rate latency → Excess f rate m → m < 2 ^ 40
excess_small f w e =
    let last_in = last_inside f w.curve.form.some in
    omega (arith, excess_bound f last_in w.bounded e, (w.curve.ranged (last f) last_in).burst_fits)

-- ---- Backlog.

module _
    {f : List Bucket} {rate latency first m v : ℕ} (w : TestedPort f rate latency) (s : FirstSlow f rate first)
    (e : Excess f rate m) (l : LeastOf f latency first (length f) v)
  where
    -- the cut by the line R·t + M is at the latency the smaller of the line and of the buckets of rate at most R
    cut_is : cut_at f rate m latency 1 ≡ min (rate * latency + m) v
    cut_is =
        le_antisymm (omega (arith, cut_line rate m latency 1 f, reached))
        (elim (cut_reached rate m latency 1 f) [
          | by_line c ↦ omega (arith, c)
          | by_slow k inside slow c ↦ omega (arith, c, below k inside slow)
        ])
      where
        reached : cut_at f rate m latency 1 ≤ v
        reached =
            le_trans
            (cut_slow rate m latency 1 (at_inside f l.at nowhere l.before_end)
            (slow_from w.curve s l.at l.from_on l.before_end))
            (le_of_eq (sym l.reached))

        below : (k : Bucket) → k ∈ f → k.rate ≤ rate → v ≤ bucket_at k latency 1
        below k inside slow =
            let at = inside_at f nowhere inside in
            elim (le_or_lt first at.0) [
              | inl late ↦ le_trans (l.smallest at.0 late at.1) (le_of_eq (sym (same_bucket_at latency 1 at.2)))
              | inr early ↦ absurd (omega (arith, s.steeper at.0 early, same_rate at.2))
            ]

    pub least_backlog : Backlog f (port rate latency) (min (rate * latency + m) v)
    least_backlog = rw (← cut_is) (simp zero-add at (cut_gap f (record { rate = rate; latency = latency }) m e 0 w.curve.form.some))

module _ {f : List Bucket} {rate latency : ℕ} (w : TestedPort f rate latency) where
  product : rate * latency ≤ 2 ^ 40
  product = omega (arith, mul-le-mul (le_of_lt w.server.rate_fits) (le_of_lt w.server.latency_fits))

  pub line_product_fits : Fits w64 (rate * latency)
  line_product_fits = record { fits = omega (arith, product) }

  pub line_fits : {m : ℕ} → Excess f rate m → Fits w64 (rate * latency + m)
  line_fits e = record { fits = omega (arith, product, excess_small f w e) }

  -- what the least value at the latency needs
  pub port_latency : latency ≤ 2 ^ 40
  port_latency = omega (arith, w.server.latency_fits)

-- ---- A quotient rounded up.

-- it is the smallest number whose product suffices
pub quotient_is : (a b : ℕ) {x : ℕ} → 1 ≤ b → x ≡ div_ceil a b → Smallest (λ y. a ≤ b * y) x
quotient_is a b {x} some is =
    rw is
    (record {
      suffices = omega (arith, times.0, mul_comm (div_ceil a b) b);
      smallest = λ m enough.
          elim (le_or_lt (div_ceil a b) m) [
            | inl h ↦ h
            | inr more ↦ absurd (omega (arith, times.1, enough, mul_comm (div_ceil a b) b, mul-le-mul_left b (above m more)))
          ];
    })
  where
    times : (a ≤ div_ceil a b * b) × (div_ceil a b * b < a + b)
    times = div_ceil_times a b some

    above : (m : ℕ) → m < div_ceil a b → m + 1 ≤ div_ceil a b
    above m more = omega arith

-- and no more than the dividend and one
pub quotient_small : (a b : ℕ) {x : ℕ} → x ≡ div_ceil a b → x ≤ a + 1
quotient_small a b is = omega (arith, is, div-le_self a b)

-- ---- Delay.

module _ {f : List Bucket} {rate latency m : ℕ} (w : TestedPort f rate latency) (e : Excess f rate m) where
  module _ {answer : Bool} (t : Tells (reads f 1 ≡ 0) answer) where
    -- the curve carries nothing
    pub delay_none : answer ≡ true → Delay f (port rate latency) 0
    delay_none told = Delay.of_rate (rated_delay_of_nothing f (record { rate = rate; latency = latency }) (t.yes_means told))

    -- it carries something
    pub delay_some : {x : ℕ} → answer ≡ false → x ≡ div_ceil m rate → Delay f (port rate latency) (latency + x)
    delay_some told is =
        Delay.of_rate
        (delay_from_excess f (record { rate = rate; latency = latency }) _ e (quotient_is m rate w.server.rate_some is)
        (t.no_means told))

  pub delay_fits : {x : ℕ} → x ≡ div_ceil m rate → Fits w64 (latency + x)
  delay_fits is =
      record { fits = omega (arith, quotient_small m rate is, excess_small f w e, w.server.latency_fits) }
