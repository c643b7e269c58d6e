-- A curve at a pure delay: its raw buckets behind it, and backlog and delay there.
-- Assumes nothing.
use mathlib.Core.Path.{◌≡◌, refl, ap}
use mathlib.Core.Bool.{Bool, true, false}
use mathlib.Core.List.Memᴰ
use mathlib.Core.List.{List, [], ◌∷◌, map}
use mathlib.Core.Logic.{inl, inr}
use Prim.Native.Nat.{ℕ, ◌+◌, ◌*◌, ◌^◌, ◌≤◌, ◌<◌}
use native.Mathlib.Nat.{le_of_lt, mul-le-mul}
use native.Mathlib.Omega.{arith}
use mir.Syntax.{w64}
use mir.Val.{Fits}
use lib.ListN.{length, length-map}
use Rattle.meaning.specs.Curve.{Bucket, ◌∈◌, flat, curve_of, reads, NormalOf}
use Rattle.meaning.specs.Server.{pure_delay, later, Behind, Backlog, Delay}
use Rattle.meaning.specs.Refusal.{InRange, Clear, PartOutcome, curve_lines}
use Rattle.meaning.specs.ServerQuestions.{port_lines, passing}
use Rattle.meaning.proofs.Lists.{at_inside}
use Rattle.meaning.proofs.Curve.Reads.{reads_rise}
use Rattle.meaning.proofs.Server.PureDelay.{delay_late, delay_past}
use Rattle.meaning.proofs.Server.BothKinds.{delay_of_nothing}
use Rattle.meaning.proofs.Order.{le_or_lt}
use Rattle.meaning.proofs.Outcome.Demands.{port_curve, port_server}
use Rattle.checks.specs.Cited.{Tells, nth}
use Rattle.checks.proofs.Checks.{curve_ranged, curve_some}
use Rattle.settle.specs.Cited.{AllWide, settling}
use Rattle.operations.specs.Cited.{bucket, Tested, LeastOf, line_and_later}
use Rattle.operations.proofs.Valuing.{tested}
use Rattle.operations.proofs.Walking.{least_of_all}
use Rattle.operations.proofs.Asking.{settled}

-- ---- The buckets, each read a latency later.

-- with the first in the line's place they are all there
pub lined_later :
    (f : List Bucket) {rate burst : ℕ} (latency : ℕ) → 1 ≤ length f → bucket rate burst ≡ nth f 0
    → line_and_later f 1 rate (burst + rate * latency) latency ≡ map (later latency) f
unfolding line_and_later later
lined_later [] latency some is = absurd (omega arith)
lined_later (k ∷ f) latency some is = ap (λ (j : Bucket). later latency j ∷ map (later latency) f) is

module _ {latency : ℕ} (small : latency < 2 ^ 20) where
  -- none is too wide
  later_wide : (k : Bucket) → InRange k → (k.rate < 2 ^ 20) × (k.burst + k.rate * latency < 2 ^ 41)
  later_wide k ranged =
      (ranged.rate_fits, omega (arith, ranged.burst_fits, mul-le-mul (le_of_lt ranged.rate_fits) (le_of_lt small)))

  module _ (f : List ℕ) (clear : Clear (curve_lines f)) {rate burst : ℕ} (is : bucket rate burst ≡ nth (curve_of f) 0) where
    first_ranged : InRange (bucket rate burst)
    first_ranged = rw is (curve_ranged f clear (nth (curve_of f) 0) (at_inside (curve_of f) 0 _ (curve_some f clear)))

    pub first_product_fits : Fits w64 (rate * latency)
    first_product_fits = record { fits = omega (arith, (later_wide (bucket rate burst) first_ranged).1) }

    pub first_later_fits : Fits w64 (burst + rate * latency)
    first_later_fits = record { fits = omega (arith, (later_wide (bucket rate burst) first_ranged).1) }

-- ---- How long it holds a curve.

module _ {f : List Bucket} (latency : ℕ) {answer : Bool} (t : Tells (reads f 1 ≡ 0) answer) where
  -- one that carries nothing for no time,
  pub held_none : answer ≡ true → Delay f (pure_delay latency) 0
  held_none told = delay_of_nothing f (pure_delay latency) (t.yes_means told)

  -- any other for its latency
  pub held_some : answer ≡ false → Delay f (pure_delay latency) latency
  held_some told =
      Delay.of_delay
      (record { something = λ u some. refl; nothing = λ none. absurd (t.no_means told (none 1)) })

-- ---- A curve and a pure delay that no line refuses.

module _ (f : List ℕ) {latency : ℕ} (clear : Clear (port_lines f (pure_delay latency))) where
  curve : Tested (curve_of f)
  curve = tested f (port_curve f (pure_delay latency) clear)

  -- what the least value at the latency needs, and the raw buckets
  pub held_small : latency < 2 ^ 20
  held_small = port_server f (pure_delay latency) clear

  pub held_tick : latency ≤ 2 ^ 40
  held_tick = omega (arith, held_small)

  -- the least value there is the backlog
  pub held_backlog : {n : ℕ} → LeastOf (curve_of f) latency 0 (length (curve_of f)) n → Backlog (curve_of f) (pure_delay latency) n
  held_backlog {n} least =
      let is = least_of_all (curve_of f) least in
      record {
        at = latency;
        reached = rw (delay_late latency {t = latency} (omega arith)) (omega (arith, is));
        greatest = λ u.
            elim (le_or_lt u latency) [
              | inl h ↦
                  rw (delay_late latency h)
                  (omega (arith, is, reads_rise (curve_of f) {t = u} {u = latency} curve.form.some h))
              | inr h ↦ rw (delay_past latency h) tt
            ];
      }

  -- none of the buckets read later is too wide
  all_wide : AllWide (map (later latency) (curve_of f))
  unfolding later
  all_wide = wide_from (curve_of f) (λ k m. curve.ranged k m)
    where
      wide_from : (l : List Bucket) → ((k : Bucket) → k ∈ l → InRange k) → AllWide (map (later latency) l)
      wide_from [] all k m = elim m [ ]
      wide_from (j ∷ l) all k m =
          elim (Memᴰ.cases_cons m) [
            | inl e ↦
                let ranged = later_wide held_small j (all j (Memᴰ.head refl)) in
                rw e (record { rate_fits = ranged.0; burst_fits = ranged.1 })
            | inr n ↦ wide_from l (λ i h. all i (Memᴰ.tail h)) k n
          ]

  -- what `settle` leaves is the outcome of behind
  pub passed_later :
      {at room : ℕ} {before after : List ℕ} {code count : ℕ}
      → PartOutcome (settling (flat (map (later latency) (curve_of f)))) at room before after code count
      → PartOutcome (passing f (pure_delay latency)) at room before after code count
  unfolding passing
  passed_later =
      settled (passing f (pure_delay latency)) (map (later latency) (curve_of f)) (λ g n. Behind.of_delay n) (λ g b. only b)
      clear (omega (arith, length-map (curve_of f) (later latency), curve.form.some)) all_wide
    where
      only : {g : List Bucket} → Behind (curve_of f) (pure_delay latency) g → NormalOf (map (later latency) (curve_of f)) g
      only (Behind.of_delay n) = n
