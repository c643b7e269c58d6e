-- The first bucket of rate at most R, and M, the greatest of reads(s) - R·s: where it is reached, and which buckets have the value
-- there.
-- Assumes nothing.
use mathlib.Core.Path.{◌≡◌, refl, sym, ◌∙◌, ap}
use mathlib.Core.Logic.{inl, inr}
use mathlib.Core.List.Memᴰ
use mathlib.Core.List.{List, [], ◌∷◌, ◌++◌}
use Prim.Native.Nat.{ℕ, ◌+◌, ◌-◌, ◌*◌, ◌/◌, ◌^◌, ◌≤◌, ◌<◌, max}
use native.Mathlib.Nat.{le_of_lt, le_trans, le_of_eq, mul-le-mul, div-le_self}
use native.Mathlib.Omega.{arith}
use mir.Syntax.{w64}
use mir.Val.{Fits}
use lib.ListN.{length, take, drop, take-append-drop, length-take}
use lib.Seq.{get_or-take}
use Rattle.meaning.specs.Curve.{Bucket, ◌∈◌, bucket_at, NormalForm, reads}
use Rattle.meaning.specs.Server.{Excess}
use Rattle.meaning.specs.Computed.{excess_at}
use Rattle.meaning.proofs.Lists.{append_each, at_inside, inside_at, falling_at}
use Rattle.meaning.proofs.Order.{le_or_lt}
use Rattle.meaning.proofs.Curve.Value.{same_bucket_at, value_unique}
use Rattle.meaning.proofs.Curve.Reads.{burst_below}
use Rattle.meaning.proofs.Server.Excess.{Turn, before_lowest, first_lowest, turn_excess, starting_excess}
use Rattle.checks.specs.Cited.{nth}
use Rattle.checks.proofs.Buckets.{left_from}
use Rattle.operations.specs.Cited.{bucket, Tested, LeastOf, CrossingAt, tick_of}
use Rattle.operations.specs.Walks.{FirstSlow}
use Rattle.operations.specs.declared.crossings.Crossing.{Crossing}

-- What is read past the last bucket.
abbrev pub nowhere : Bucket
nowhere = record { rate = 0; burst = 0 }

-- ---- Where two neighbours cross.

module _ {f : List Bucket} {k : ℕ} (w : Tested f) (h : (0 < k) × (k < length f)) where
  crossing_before : (nth f k).rate < (nth f (k - 1)).rate
  crossing_before = falling_at f w.form.falling _ (k - 1) k (omega arith) h.1

  crossing_rises : (nth f (k - 1)).burst < (nth f k).burst
  crossing_rises =
      burst_below (w.form.useful _ (at_inside f (k - 1) _ (omega arith))) (at_inside f k _ h.1) crossing_before

  module _ {rate burst rate_before burst_before : ℕ} (before : bucket rate_before burst_before ≡ nth f (k - 1)) (is : bucket rate burst ≡ nth f k) where
    -- bursts rise and rates fall
    pub crossing_burst : burst_before ≤ burst
    crossing_burst = le_of_lt (rw (← before, ← is) at crossing_rises)

    pub crossing_rate : rate ≤ rate_before
    crossing_rate = le_of_lt (rw (← before, ← is) at crossing_before)

  module _ {c : Crossing} (x : CrossingAt f k c) where
    -- that is not past every other,
    pub crossing_some : 0 < c.fall
    crossing_some = omega (arith, x.fall_is, crossing_before)

    -- and both numbers are in the range of what they are taken from
    pub crossing_rise_fits : c.rise < 2 ^ 40
    crossing_rise_fits = omega (arith, x.rise_is, (w.ranged (nth f k) (at_inside f k _ h.1)).burst_fits)

    pub crossing_fall_fits : c.fall < 2 ^ 20
    crossing_fall_fits = omega (arith, x.fall_is, (w.ranged (nth f (k - 1)) (at_inside f (k - 1) _ (omega arith))).rate_fits)

-- ---- The whole tick up to a crossing.

pub tick_is : {f : List Bucket} {k : ℕ} {c : Crossing} → CrossingAt f k c → c.rise / c.fall ≡ tick_of f k
unfolding tick_of
tick_is x = rw (x.rise_is, x.fall_is)

-- ---- Where the greatest of reads(s) - R·s is reached.

-- at tick 0, where no bucket is steeper than R
starting : (f : List Bucket) {rate : ℕ} → NormalForm f → (nth f 0).rate ≤ rate → Excess f rate (nth f 0).burst
starting [] n slow = absurd (omega (arith, n.some))
starting (k ∷ f) n slow = starting_excess n slow

module _ {f : List Bucket} {rate first : ℕ} (w : Tested f) (s : FirstSlow f rate first) where
  pub excess_start : first ≡ 0 → {here_rate burst : ℕ} → bucket here_rate burst ≡ nth f 0 → Excess f rate burst
  excess_start none is =
      rw (ap (λ (j : Bucket). j.burst) is) (starting f w.form (rw none at s.slow))

  -- from the first on, all are of rate at most R
  pub slow_from : (i : ℕ) → first ≤ i → i < length f → (nth f i).rate ≤ rate
  slow_from i late inside =
      elim (le_or_lt i first) [
        | inl this ↦ let e : i ≡ first = omega arith in rw e s.slow
        | inr later ↦ le_trans (le_of_lt (falling_at f w.form.falling nowhere first i later inside)) s.slow
      ]

  module _ (some : first ≡ 0 → ⊥) where
    -- the first bucket of rate at most R and the one before it
    unfoldable turn : Turn f rate
    turn =
        record {
          passed = take (first - 1) f;
          before = nth f (first - 1);
          first = nth f first;
          rest = drop (first + 1) f;
          whole =
              sym (take-append-drop (first - 1) f)
              ∙ ap (λ (g : List Bucket). take (first - 1) f ++ g) (left_from f (first - 1) (omega (arith, some, s.inside)) refl ∙ next);
          steeper = append_each passed neighbour;
          flat = s.slow;
        }
      where
        next : nth f (first - 1) ∷ drop (first - 1 + 1) f ≡ nth f (first - 1) ∷ nth f first ∷ drop (first + 1) f
        next =
            let e : first - 1 + 1 ≡ first = omega (arith, some) in
            rw e (ap (λ (g : List Bucket). nth f (first - 1) ∷ g) (left_from f first s.inside refl))

        passed : (j : Bucket) → j ∈ take (first - 1) f → rate < j.rate
        passed j m =
            let at = inside_at (take (first - 1) f) nowhere m in
            let low : at.0 < first - 1 = omega (arith, at.1, length-take (first - 1) f) in
            rw (at.2 ∙ get_or-take (first - 1) f at.0 nowhere low) (s.steeper at.0 (omega arith))

        neighbour : (j : Bucket) → j ∈ (nth f (first - 1) ∷ []) → rate < j.rate
        neighbour j m = rw (Memᴰ.eq_of_singleton m) (s.steeper (first - 1) (omega (arith, some)))

    module _ {tick : ℕ} (is : tick ≡ tick_of f first) where
      -- the tick is below 2^40
      pub turn_tick : tick + 1 ≤ 2 ^ 40
      unfolding tick_of
      turn_tick =
          omega (
            arith,
            is,
            div-le_self ((nth f first).burst - (nth f (first - 1)).burst) ((nth f (first - 1)).rate - (nth f first).rate),
            (w.ranged (nth f first) (at_inside f first nowhere s.inside)).burst_fits,
          )

      pub turn_small : tick ≤ 2 ^ 40
      turn_small = omega (arith, turn_tick)

      pub turn_next_fits : Fits w64 (tick + 1)
      turn_next_fits = record { fits = omega (arith, turn_tick) }

      -- at it the value is had by a bucket before the first of rate at most R,
      value_up_to : {least : ℕ} → LeastOf f tick 0 first least → least ≡ reads f tick
      unfolding reads tick_of turn
      value_up_to {least} l =
          sym (value_unique f tick 1 below (at_inside f l.at nowhere (omega (arith, l.before_end, s.inside))) l.reached)
        where
          below : (j : Bucket) → j ∈ f → least ≤ bucket_at j tick 1
          below j m =
              let at = inside_at f nowhere m in
              elim (le_or_lt first at.0) [
                | inl late ↦
                    le_trans (l.smallest (first - 1) (omega arith) (omega (arith, some)))
                    (rw is (before_lowest w.form turn j m (rw at.2 (slow_from at.0 late at.1))))
                | inr early ↦
                    le_trans (l.smallest at.0 (omega arith) early) (le_of_eq (sym (same_bucket_at tick 1 at.2)))
              ]

      -- and at the tick after it by one from that on
      value_after : {least : ℕ} → LeastOf f (tick + 1) first (length f) least → least ≡ reads f (tick + 1)
      unfolding reads tick_of turn
      value_after {least} l =
          sym (value_unique f (tick + 1) 1 below (at_inside f l.at nowhere l.before_end) l.reached)
        where
          below : (j : Bucket) → j ∈ f → least ≤ bucket_at j (tick + 1) 1
          below j m =
              let at = inside_at f nowhere m in
              elim (le_or_lt first at.0) [
                | inl late ↦
                    le_trans (l.smallest at.0 late at.1) (le_of_eq (sym (same_bucket_at (tick + 1) 1 at.2)))
                | inr early ↦
                    le_trans (l.smallest first (omega arith) s.inside)
                    (rw is (first_lowest w.form turn j m (rw at.2 (s.steeper at.0 early))))
              ]

      -- so the larger of the two differences is the greatest
      pub excess_turn :
          {a b until after m : ℕ} → LeastOf f tick 0 first a → until ≡ a - rate * tick
          → LeastOf f (tick + 1) first (length f) b → after ≡ b - rate * (tick + 1) → m ≡ max until after → Excess f rate m
      unfolding tick_of excess_at turn
      excess_turn {until = until} {after = after} la ea lb eb em =
          rw (em ∙ larger) (turn_excess w.form turn)
        where
          larger : max until after ≡ excess_at f rate (tick_of f first)
          larger = rw (ea, eb, value_up_to la, value_after lb, is)

      module _ (ranged : rate < 2 ^ 20) where
        pub turn_product_fits : Fits w64 (rate * tick)
        turn_product_fits = record { fits = omega (arith, mul-le-mul (le_of_lt ranged) turn_tick) }

        pub turn_after_fits : Fits w64 (rate * (tick + 1))
        turn_after_fits = record { fits = omega (arith, mul-le-mul (le_of_lt ranged) turn_tick) }
