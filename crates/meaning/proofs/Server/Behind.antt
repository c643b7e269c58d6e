-- The curve behind a server and the backlog in it. Behind, by tick t, is the greatest gap between what has come by t+u and what the
-- server has done by u, for whole u; the backlog is that gap at tick 0; and the computed curve and number are they.
-- Assumes nothing.
use mathlib.Core.Path.{◌≡◌, refl, sym, ◌∙◌, ap}
use mathlib.Core.Logic.{inl, inr}
use mathlib.Core.List.{List}
use Prim.Native.Nat.{ℕ, ◌+◌, ◌-◌, ◌*◌, ◌≤◌, min}
use native.Mathlib.Nat.{le_of_lt, le_refl, mul-one, add_assoc, zero-add, mul-le-mul_left, mul-le-mul_right}
use native.Mathlib.Omega.{arith}
use lib.ListN.{length}
use Rattle.meaning.specs.Curve.{Bucket, bucket_at, value_at, NormalForm, reads}
use Rattle.meaning.specs.Server.{RateLatency, rated, by_rate, served, GreatestGap, Excess, BehindRated, Backlog, last}
use Rattle.meaning.specs.Computed.{excess, behind, backlog}
use Rattle.meaning.proofs.Order.{le_or_lt}
use Rattle.meaning.proofs.Curve.Value.{value_least}
use Rattle.meaning.proofs.Server.Joining.{served_past}
use Rattle.meaning.proofs.Curve.Normal.{normal_is}
use Rattle.meaning.proofs.Server.Cut.{cut_filled, cut_at, by_line, by_slow, cut_reached, cut_early, cut_late, behind_cut}
use Rattle.meaning.proofs.Server.Excess.{excess_is}

-- a line of rate r at most R is at t+u at most R·y above what it is at t+T, where y is at least u-T
line_on :
    {r rate : ℕ} (b t u latency y : ℕ) → r ≤ rate → u ≤ y + latency → r * (t + u) + b ≤ rate * y + (r * (t + latency) + b)
line_on {r} b t u latency y slow h = omega (arith, mul-le-mul_left r h, mul-le-mul_right y slow)

-- The cut of a curve by the line R·t + M, M the greatest of reads(s) - R·s, read a latency after t.
abbrev cut_later : List Bucket → RateLatency → ℕ → ℕ → ℕ
cut_later f s m t = cut_at f s.rate m (t + s.latency) 1

module _ (f : List Bucket) (s : RateLatency) (m : ℕ) (e : Excess f s.rate m) (t : ℕ) where
  -- the curve at t+u is no more above it than what is served by u:
  -- the line, or the bucket of rate at most R, that has the cut's value is not below the curve, and rises no faster than R
  cut_over : (u : ℕ) → reads f (t + u) ≤ by_rate s u + cut_later f s m t
  unfolding by_rate reads bucket_at
  cut_over u =
      elim (cut_reached s.rate m (t + s.latency) 1 f) [
        | by_line c ↦
            omega (arith, e.greatest (t + u), line_on m t u s.latency (u - s.latency) (le_refl s.rate) (omega arith))
        | by_slow k n slow c ↦
            omega (arith, value_least f (t + u) 1 n, line_on (k.burst * 1) t u s.latency (u - s.latency) slow (omega arith))
      ]

  -- where M is reached y after t+T, the curve is as much above it at T+y,
  cut_at_excess :
      (y : ℕ) → t + s.latency + y ≡ e.at → reads f (t + (s.latency + y)) ≡ by_rate s (s.latency + y) + cut_later f s m t
  cut_at_excess y sum =
      ap (reads f) (sym (add_assoc _ _ _) ∙ sum) ∙ omega (arith, e.reached, on_line, by_then, ap (λ u. s.rate * u) sum)
    where
      on_line : cut_later f s m t ≡ s.rate * (t + s.latency) + m * 1
      on_line = cut_early f s.rate m e.at e.reached (t + s.latency) 1 (omega arith)

      by_then : by_rate s (s.latency + y) ≡ s.rate * y
      by_then = served_past s y refl

  -- and where M is reached before t+T, at T
  cut_at_latency :
      1 ≤ length f → e.at ≤ t + s.latency → reads f (t + s.latency) ≡ by_rate s s.latency + cut_later f s m t
  unfolding reads
  cut_at_latency has h = omega (arith, e.greatest (t + s.latency), on_curve, by_then)
    where
      on_curve : cut_later f s m t ≡ min (value_at f (t + s.latency) 1) (s.rate * (t + s.latency) + m * 1)
      on_curve = cut_late f s.rate m e.at e.reached has (t + s.latency) 1 (omega arith)

      by_then : by_rate s s.latency ≡ s.rate * 0
      by_then = served_past s 0 (omega arith)

  -- so it is the greatest difference
  pub cut_gap : 1 ≤ length f → GreatestGap (λ u. reads f (t + u)) (served (rated s)) (cut_at f s.rate m (t + s.latency) 1)
  cut_gap has =
      elim (le_or_lt (t + s.latency) e.at) [
        | inl h ↦
            let y = e.at - (t + s.latency) in
            record { at = s.latency + y; reached = cut_at_excess y (omega arith); greatest = cut_over }
        | inr h ↦ record { at = s.latency; reached = cut_at_latency has (le_of_lt h); greatest = cut_over }
      ]

-- behind, by tick t, is the greatest gap between what has come by t+u and what the server has done by u, for whole u
pub rated_behind_greatest :
    {f g : List Bucket} {s : RateLatency} → 1 ≤ length f → BehindRated f s g → (t : ℕ)
    → GreatestGap (λ u. reads f (t + u)) (served (rated s)) (reads g t)
unfolding reads
rated_behind_greatest {f} {g} {s} has b t =
    rw (behind_cut b t 1 (omega arith), mul-one s.latency) (cut_gap f s b.m b.excess t has)

-- the backlog is the burst of the curve behind
pub rated_backlog_behind : {f g : List Bucket} {s : RateLatency} → 1 ≤ length f → BehindRated f s g → Backlog f (rated s) (reads g 0)
rated_backlog_behind has b = simp zero-add at (rated_behind_greatest has b 0)

-- the computed curve is the one behind
pub rated_behind_is : (f : List Bucket) (s : RateLatency) → NormalForm f → (last f).rate ≤ s.rate → BehindRated f s (behind f (rated s))
unfolding behind
rated_behind_is f s n slow =
    record {
      m = excess f s.rate;
      excess = excess_is s.rate n slow;
      normal = normal_is _ (cut_filled f s _);
    }

-- the computed number is the backlog
pub rated_backlog_is : (f : List Bucket) (s : RateLatency) → NormalForm f → (last f).rate ≤ s.rate → Backlog f (rated s) (backlog f (rated s))
unfolding backlog
rated_backlog_is f s n slow = rated_backlog_behind n.some (rated_behind_is f s n slow)
