-- Whether every rate and every burst of a list is below its end: what is left of the list decides, and the first bucket that
-- is not below says no.
-- Assumes nothing.
use mathlib.Core.Path.{◌≡◌, refl, sym, subst}
use mathlib.Core.Logic.{◌⊎◌, inl, inr}
use mathlib.Core.Bool.{Bool, true, false, true≢false}
use mathlib.Core.List.Memᴰ
use mathlib.Core.List.{List, [], ◌∷◌}
use Prim.Native.Nat.{ℕ, ◌+◌, ◌*◌, ◌/◌, ◌≤◌, ◌<◌}
use native.Mathlib.Nat.{lt_of_not-le}
use native.Mathlib.Omega.{arith}
use lib.ListN.{length, get_or, drop}
use Rattle.meaning.specs.Curve.{Bucket, ◌∈◌, buckets}
use Rattle.meaning.specs.Refusal.{Within, AllWithin}
use Rattle.checks.specs.Cited.{Tells}
use Rattle.std.specs.Simd.{first_chunks}
use Rattle.checks.proofs.Buckets.{list_bucket, buckets_next, buckets_end}
use Rattle.checks.proofs.Pairs.{pair_numbers}

-- a yes and a no
pub tells_yes : {P : Type 0} → P → Tells P true
tells_yes x = record { yes_means = λ e. x; no_means = λ e p. absurd (true≢false e) }

pub tells_no : {P : Type 0} → (P → ⊥) → Tells P false
tells_no never = record { yes_means = λ e. absurd (true≢false (sym e)); no_means = λ e. never }

-- no other answer tells the same: a yes and a no exclude each other
pub one_answer : {P : Type 0} {answer answer' : Bool} → Tells P answer → Tells P answer' → answer ≡ answer'
one_answer {answer = true} {answer' = true} t u = refl
one_answer {answer = true} {answer' = false} t u = absurd (u.no_means refl (t.yes_means refl))
one_answer {answer = false} {answer' = true} t u = absurd (t.no_means refl (u.yes_means refl))
one_answer {answer = false} {answer' = false} t u = refl

-- buckets that are not out of their ranges are in them
pub within_unless :
    {rates bursts : ℕ} {f : List Bucket} → ((AllWithin rates bursts f → ⊥) → ⊥) → AllWithin rates bursts f
within_unless none k m =
    record {
      rate_fits = lt_of_not-le (λ over. none (λ all. omega (arith, (all k m).rate_fits)));
      burst_fits = lt_of_not-le (λ over. none (λ all. omega (arith, (all k m).burst_fits)));
    }

-- The buckets from index i on decide.
pub record Ranged (rates bursts : ℕ) (l : List ℕ) (i : ℕ) : Type 0 where
  pub inside : i ≤ length l
  pub to : AllWithin rates bursts (buckets l) → AllWithin rates bursts (buckets (drop i l))
  pub back : AllWithin rates bursts (buckets (drop i l)) → AllWithin rates bursts (buckets l)

pub ranged_start : {rates bursts : ℕ} {l : List ℕ} → Ranged rates bursts l 0
ranged_start = record { inside = omega arith; to = λ all. all; back = λ all. all }

module _ {rates bursts : ℕ} {l : List ℕ} {i : ℕ} (w : Ranged rates bursts l i) where
  -- none is left
  pub ranged_end : length l ≤ i + 1 → Tells (AllWithin rates bursts (buckets l)) true
  ranged_end h =
      tells_yes (w.back (rw (buckets_end l i h) (λ k m. absurd (Memᴰ.not-nil m))))

  module _ (more : i + 1 < length l) where
    -- the bucket at the index
    here : AllWithin rates bursts (buckets l) → Within rates bursts (list_bucket l i)
    here all = (rw (buckets_next l i more) at (w.to all)) (list_bucket l i) (Memᴰ.head refl)

    pub ranged_rate : rates ≤ get_or l i 0 → Tells (AllWithin rates bursts (buckets l)) false
    ranged_rate h = tells_no (λ all. omega (arith, (here all).rate_fits))

    pub ranged_burst : bursts ≤ get_or l (i + 1) 0 → Tells (AllWithin rates bursts (buckets l)) false
    ranged_burst h = tells_no (λ all. omega (arith, (here all).burst_fits))

    pub ranged_step : get_or l i 0 < rates → get_or l (i + 1) 0 < bursts → Ranged rates bursts l (i + 2)
    ranged_step hr hb = record { inside = omega arith; to = later; back = λ all. w.back (rw (buckets_next l i more) (both all)) }
      where
        later : AllWithin rates bursts (buckets l) → AllWithin rates bursts (buckets (drop (i + 2) l))
        later all k m = (rw (buckets_next l i more) at (w.to all)) k (Memᴰ.tail m)

        split :
            AllWithin rates bursts (buckets (drop (i + 2) l)) → (k : Bucket)
            → (k ≡ list_bucket l i) ⊎ (k ∈ buckets (drop (i + 2) l)) → Within rates bursts k
        split all k (inl e) = subst (Within rates bursts) (sym e) (record { rate_fits = hr; burst_fits = hb })
        split all k (inr m) = all k m

        both :
            AllWithin rates bursts (buckets (drop (i + 2) l))
            → AllWithin rates bursts (list_bucket l i ∷ buckets (drop (i + 2) l))
        both all k m = split all k (Memᴰ.cases_cons m)

-- The same where the list is lent as pairs, of which n are passed.
module _ {rates bursts : ℕ} {l : List ℕ} {n : ℕ} (w : Ranged rates bursts l (2 * n)) (pairs : List (List ℕ)) (count : length pairs ≡ length l / 2) where
  -- none is left
  pub paired_end : length pairs ≤ n → Tells (AllWithin rates bursts (buckets l)) true
  paired_end h = ranged_end w (omega (arith, count))

  module _ (are : pairs ≡ first_chunks 2 (length l / 2) l) (more : n < length pairs) where
    left : 2 * n + 1 < length l
    left = omega (arith, count)

    here_is : (get_or (get_or pairs n []) 0 0 ≡ get_or l (2 * n) 0) × (get_or (get_or pairs n []) 1 0 ≡ get_or l (2 * n + 1) 0)
    here_is = rw are (pair_numbers l (length l / 2) n (omega (arith, count)) (omega arith))

    -- the pair at hand is out of its range
    pub paired_over :
        (rates ≤ get_or (get_or pairs n []) 0 0)
        ⊎ ((get_or (get_or pairs n []) 0 0 < rates) × (bursts ≤ get_or (get_or pairs n []) 1 0))
        → Tells (AllWithin rates bursts (buckets l)) false
    paired_over = elim [
      | inl h ↦ ranged_rate w left (rw (here_is.0) at h)
      | inr h ↦ ranged_burst w left (rw (here_is.1) at (h.1))
    ]

    -- it is within
    pub paired_step :
        get_or (get_or pairs n []) 0 0 < rates → get_or (get_or pairs n []) 1 0 < bursts → Ranged rates bursts l (2 * (n + 1))
    paired_step hr hb =
        let e : 2 * (n + 1) ≡ 2 * n + 2 = omega arith in
        rw e (ranged_step w left (rw (here_is.0) at hr) (rw (here_is.1) at hb))

pub ruleset ranging = (ranged_start, paired_end, paired_over, paired_step)
