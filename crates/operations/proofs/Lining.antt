-- The raw buckets of a curve behind a server, pushed one after the other: the line first, then each bucket of rate at most R, seen a
-- latency later.
-- Assumes nothing.
use mathlib.Core.Path.{◌≡◌, refl, ◌∙◌, ap}
use mathlib.Core.List.{List, [], ◌∷◌, ◌++◌, map}
use Prim.Native.Nat.{ℕ, zero, suc, ◌+◌, ◌-◌, ◌*◌, ◌^◌, ◌≤◌, ◌<◌}
use native.Mathlib.Nat.{le_of_lt, mul-le-mul}
use native.Mathlib.Omega.{arith}
use mir.Syntax.{w64}
use mir.Val.{Fits}
use lib.ListN.{length, drop, length-map, length-drop, drop_of_length-le}
use lib.Seq.{get_or-drop}
use Rattle.meaning.specs.Curve.{Bucket}
use Rattle.meaning.specs.Server.{later}
use Rattle.meaning.specs.Refusal.{InRange}
use Rattle.meaning.proofs.Lists.{at_inside}
use Rattle.checks.specs.Cited.{nth}
use Rattle.settle.specs.Cited.{numbers}
use Rattle.checks.proofs.Buckets.{left_from}
use Rattle.operations.specs.Cited.{Tested, line_and_later}
use Rattle.operations.proofs.Pushing.{Pushed, pushed_start, pushed_count, pushed_next, pushed_end}

-- ---- The buckets by their numbers.

-- there is the line, and a bucket for each that is left
pub line_length :
    (f : List Bucket) (first rate burst latency : ℕ) → length (line_and_later f first rate burst latency) ≡ length f - first + 1
unfolding line_and_later
line_length f first rate burst latency = omega (arith, length-map (drop first f) (later latency), length-drop first f)

later_nth : (l : List Bucket) (latency i : ℕ) → i < length l → nth (map (later latency) l) i ≡ later latency (nth l i)
later_nth [] latency i h = absurd (omega arith)
later_nth (k ∷ l) latency zero h = refl
later_nth (k ∷ l) latency (suc i) h = later_nth l latency i (omega arith)

-- the one numbered k, from 1, is the one numbered first + k - 1 of the curve, a latency later
pub line_nth :
    (f : List Bucket) (first rate burst latency k : ℕ) → 1 ≤ k → first + k - 1 < length f
    → nth (line_and_later f first rate burst latency) k ≡ later latency (nth f (first + k - 1))
unfolding line_and_later
line_nth f first rate burst latency zero some h = absurd (omega arith)
line_nth f first rate burst latency (suc k) some h =
    later_nth (drop first f) latency k (omega (arith, length-drop first f))
    ∙ ap (later latency) (get_or-drop first f k _ ∙ ap (nth f) (omega arith))

-- ---- Step by step.

-- The line and the buckets before k are pushed.
pub record Lining (f : List Bucket) (first rate burst latency k : ℕ) (items : List (List ℕ)) : Type 0 where
  pub inside : (first ≤ k) × (k ≤ length f)
  pub pushed : Pushed (line_and_later f first rate burst latency) (map (later latency) (drop k f)) items

-- the line is pushed
pub lining_start :
    (f : List Bucket) {first rate burst latency : ℕ} {items longer : List (List ℕ)} → first ≤ length f → items ≡ []
    → longer ≡ items ++ (rate ∷ burst ∷ []) ∷ [] → Lining f first rate burst latency first longer
unfolding line_and_later
lining_start f {first} {rate} {burst} {latency} inside none one =
    record {
      inside = (omega arith, inside);
      pushed = pushed_next (pushed_start (line_and_later f first rate burst latency) none) refl one;
    }

module _ {f : List Bucket} {first rate burst latency k : ℕ} {items : List (List ℕ)} (w : Lining f first rate burst latency k items) where
  -- all are pushed
  pub lining_end : length f ≤ k → items ≡ map numbers (line_and_later f first rate burst latency)
  lining_end end = pushed_end w.pushed (ap (map (later latency)) (drop_of_length-le f {i = k} end))

  module _ (more : k < length f) where
    -- there is room for one more
    pub lining_room : length f ≤ 64 → length items < 65
    lining_room few =
        omega (
          arith,
          pushed_count w.pushed,
          line_length f first rate burst latency,
          length-map (drop k f) (later latency),
          length-drop k f,
        )

    -- it is pushed
    pub lining_step :
        {here : Bucket} {longer : List (List ℕ)} → here ≡ nth f k
        → longer ≡ items ++ (here.rate ∷ (here.burst + here.rate * latency) ∷ []) ∷ []
        → Lining f first rate burst latency (k + 1) longer
    unfolding later
    lining_step is one =
        record {
          inside = (omega (arith, w.inside.0), omega arith);
          pushed = pushed_next w.pushed (ap (map (later latency)) (left_from f k more is)) one;
        }

-- the numbers of a bucket a latency later fit
module _ {f : List Bucket} {k latency : ℕ} {here : Bucket} (t : Tested f) (more : k < length f) (small : latency < 2 ^ 20) (is : here ≡ nth f k) where
  here_ranged : InRange here
  here_ranged = rw is (t.ranged (nth f k) (at_inside f k _ more))

  pub lining_product_fits : Fits w64 (here.rate * latency)
  lining_product_fits = record { fits = omega (arith, mul-le-mul (le_of_lt here_ranged.rate_fits) (le_of_lt small)) }

  pub lining_later_fits : Fits w64 (here.burst + here.rate * latency)
  lining_later_fits =
      record { fits = omega (arith, mul-le-mul (le_of_lt here_ranged.rate_fits) (le_of_lt small), here_ranged.burst_fits) }
