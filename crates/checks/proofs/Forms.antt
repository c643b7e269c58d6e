-- Normal form, tested by neighbours, step by step: what holds whenever the loop's test is reached is that the crossing passed
-- last and the buckets left decide about the whole list; each way out gives the answer that follows.
-- Assumes nothing.
use mathlib.Core.Path.{◌≡◌, sym, ◌∙◌, ap}
use mathlib.Core.Logic.{◌⊎◌, inl, inr}
use mathlib.Core.Bool.{Bool, true, false, ◌&&◌}
use mathlib.Core.List.{List}
use Prim.Native.Nat.{ℕ, ◌+◌, ◌-◌, ◌*◌, ◌^◌, ◌≤◌, ◌<◌}
use native.Mathlib.Nat.{le_of_lt, mul-le-mul, sub-eq-zero_of_le}
use native.Mathlib.Omega.{arith}
use lib.ListN.{length, drop, drop_of_length-le}
use lib.Seq.{drop-cons}
use lib.Dec.{ltb}
use borrow.Author.Tests.{lt-ltb, le-ltb}
use mir.Syntax.{w64}
use mir.Val.{Fits}
use Rattle.meaning.specs.Curve.{Bucket, NormalForm}
use Rattle.meaning.specs.Refusal.{InRange, AllInRange}
use Rattle.meaning.specs.Computed.{crossings_rise, is_normal}
use Rattle.meaning.proofs.Curve.Neighbours.{neighbours_sound, neighbours_refute}
use Rattle.meaning.proofs.Lists.{at_inside, empty_is}
use Rattle.checks.specs.Cited.{Tells, nth}
use Rattle.checks.proofs.Buckets.{left_from}

-- the neighbours' test tells normal form
tells_normal : (f : List Bucket) (answer : Bool) → answer ≡ is_normal f → Tells (NormalForm f) answer
tells_normal f answer e =
    record { yes_means = λ t. neighbours_sound f (sym e ∙ t); no_means = λ t. neighbours_refute f (sym e ∙ t) }

-- The bucket of two numbers.
abbrev pub bucket : ℕ → ℕ → Bucket
bucket rate burst = record { rate = rate; burst = burst }

-- Of the buckets f, n in all, those before k are passed: x/y is the crossing of the last of them with the one before it, and with
-- it the buckets from k on decide.
pub record Rising (f : List Bucket) (n x y : ℕ) (before : Bucket) (k : ℕ) : Type 0 where
  pub counted : n ≡ length f
  pub inside : k ≤ n
  pub x_fits : x < 2 ^ 40
  pub y_fits : y < 2 ^ 20
  pub ranges : AllInRange f
  pub before_ranged : InRange before
  pub decides : crossings_rise before x y (drop k f) ≡ is_normal f

module _ {f : List Bucket} {n : ℕ} (counted : n ≡ length f) where
  -- a list without a bucket is out of normal form
  pub rise_none : n ≡ 0 → Tells (NormalForm f) false
  unfolding is_normal
  rise_none h = tells_normal f false (rw (empty_is f (sym counted ∙ h)))

  module _ (some : n ≡ 0 → ⊥) (all : AllInRange f) {first : Bucket} (is : first ≡ nth f 0) where
    -- after the first bucket, with crossing 0/1
    pub rise_start : Rising f n 0 1 first 1
    unfolding is_normal
    rise_start =
        let filled : 0 < length f = omega (arith, some, counted) in
        record {
          counted = counted;
          inside = omega (arith, some);
          x_fits = omega arith;
          y_fits = omega arith;
          ranges = all;
          before_ranged = rw is (all (nth f 0) (at_inside f 0 _ filled));
          decides = rw is (ap is_normal (sym (drop-cons f 0 _ filled)));
        }

module _ {f : List Bucket} {n x y k rate_before burst_before : ℕ} (w : Rising f n x y (bucket rate_before burst_before) k) where
  -- no bucket is left
  pub rise_end : n ≤ k → Tells (NormalForm f) true
  unfolding crossings_rise
  rise_end h =
      let all : length f ≤ k = omega (arith, w.counted) in
      tells_normal f true (rw (drop_of_length-le f all) at w.decides)

  module _ (more : k < n) {rate burst : ℕ} (is : bucket rate burst ≡ nth f k) where
    inside : k < length f
    inside = omega (arith, w.counted)

    -- the neighbours' test at the bucket at hand
    one_crossing :
        (ltb (rate) (rate_before)
        && ltb (x * (rate_before - rate)) ((burst - burst_before) * y)
        && crossings_rise (bucket rate burst) (burst - burst_before) (rate_before - rate) (drop (k + 1) f))
        ≡ is_normal f
    unfolding crossings_rise
    one_crossing = ap (crossings_rise (bucket rate_before burst_before) x y) (sym (left_from f k inside is)) ∙ w.decides

    here_ranged : InRange (bucket rate burst)
    here_ranged = rw is (w.ranges (nth f k) (at_inside f k _ inside))

    -- a rise is below 2^40 and a fall below 2^20, so that the products stay below 2^60
    pub rise_by_y_fits : Fits w64 ((burst - burst_before) * y)
    rise_by_y_fits =
        let rises : burst - burst_before ≤ 2 ^ 40 = omega (arith, here_ranged.burst_fits) in
        record { fits = omega (arith, mul-le-mul rises (le_of_lt w.y_fits)) }

    pub x_by_fall_fits : Fits w64 (x * (rate_before - rate))
    x_by_fall_fits =
        let falls : rate_before - rate ≤ 2 ^ 20 = omega (arith, w.before_ranged.rate_fits) in
        record { fits = omega (arith, mul-le-mul (le_of_lt w.x_fits) falls) }

    -- the rate does not fall
    pub rise_rate : rate_before ≤ rate → Tells (NormalForm f) false
    rise_rate stays = tells_normal f false (rw (le-ltb _ _ stays) at one_crossing)

    module _ (falls : rate < rate_before) where
      -- the crossing is no later than the one before
      pub rise_crossing :
          (burst - burst_before) * y ≤ x * (rate_before - rate) → Tells (NormalForm f) false
      rise_crossing stays = tells_normal f false (rw (lt-ltb _ _ falls, le-ltb _ _ stays) at one_crossing)

      -- the burst does not rise
      pub rise_burst : burst ≤ burst_before → Tells (NormalForm f) false
      rise_burst stays = rise_crossing (rw (sub-eq-zero_of_le stays) (omega arith))

      -- the crossing is later
      pub rise_step :
          x * (rate_before - rate) < (burst - burst_before) * y
          → Rising f n (burst - burst_before) (rate_before - rate) (bucket rate burst) (k + 1)
      rise_step later =
          record {
            counted = w.counted;
            inside = omega arith;
            x_fits = omega (arith, here_ranged.burst_fits);
            y_fits = omega (arith, w.before_ranged.rate_fits);
            ranges = w.ranges;
            before_ranged = here_ranged;
            decides = rw (lt-ltb _ _ falls, lt-ltb _ _ later) at one_crossing;
          }

    -- the rate does not fall or the burst does not rise
    pub rise_neither :
        (rate_before ≤ rate) ⊎ ((rate < rate_before) × (burst ≤ burst_before)) → Tells (NormalForm f) false
    rise_neither = elim [ inl stays ↦ rise_rate stays | inr h ↦ rise_burst h.0 h.1 ]

pub ruleset rising = (rise_none, rise_start, rise_neither, rise_crossing, rise_step, rise_by_y_fits, x_by_fall_fits, rise_end)
