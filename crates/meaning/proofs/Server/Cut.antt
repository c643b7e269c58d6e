-- A curve cut by a line: the least of the line rate·t + m and of the curve's buckets whose rate is at most the line's.
-- A curve behind a server is such a cut, seen one latency later; and a cut by a line that meets the curve at a whole tick is the line up to
-- that tick, and the lower of the two from there on.
-- Assumes nothing.
use mathlib.Core.Path.{◌≡◌, refl, sym, ◌∙◌, ap}
use mathlib.Core.Bool.{Bool, true, false, cond}
use mathlib.Core.Logic.{inl, inr}
use mathlib.Core.List.Memᴰ
use mathlib.Core.List.{List, [], ◌∷◌, ◌++◌}
use Prim.Native.Nat.{ℕ, ◌*◌, ◌+◌, ◌≤◌, ◌<◌, min}
use native.Mathlib.Nat.{le_trans, le_of_eq, le_of_lt, min-le_left, min-le_right, le-min, le_antisymm, mul-le-mul_left}
use native.Mathlib.Omega.{arith}
use lib.ListN.{length}
use lib.Dec.{leb}
use borrow.Author.Tests.{leb-true, le-leb}
use Rattle.meaning.specs.Curve.{Bucket, ◌∈◌, bucket_at, value_at, reads}
use Rattle.meaning.specs.Server.{RateLatency, later, slower, BehindRated}
use Rattle.meaning.proofs.Order.{le_or_lt, crosswise}
use Rattle.meaning.proofs.Curve.Value.{some, same_bucket_at, value_least, value_reached, below_value, value_unique}

-- ---- The raw list of behind.

-- a bucket seen a latency later has the value that it had a latency before
pub later_at : (latency : ℕ) (k : Bucket) (p q : ℕ) → bucket_at (later latency k) p q ≡ bucket_at k (p + latency * q) q
unfolding later bucket_at
later_at latency k p q = omega arith

-- the same bucket is slow as well
same_rate_below : {k j : Bucket} {n : ℕ} → k ≡ j → k.rate ≤ n → j.rate ≤ n
same_rate_below e h = rw (← e) h

-- `slower` holds each bucket that is slow enough, seen a latency later
pub slower_has : (s : RateLatency) {k : Bucket} {f : List Bucket} → k ∈ f → k.rate ≤ s.rate → later s.latency k ∈ slower s f
unfolding slower
slower_has s (Memᴰ.head {x = j} e) h =
    rw (le-leb j.rate s.rate (same_rate_below e h)) (Memᴰ.head (ap (later s.latency) e))
slower_has s {k = k} (Memᴰ.tail {x = j} {xs = f} m) h = wanted_or_not (leb j.rate s.rate) (slower_has s m h)
  where
    wanted_or_not : (b : Bool) → later s.latency k ∈ slower s f → later s.latency k ∈ cond b (later s.latency j ∷ slower s f) (slower s f)
    wanted_or_not true n = Memᴰ.tail n
    wanted_or_not false n = n

-- A bucket seen a latency later, of a list's slow enough ones.
pub record Slowed (s : RateLatency) (f : List Bucket) (k : Bucket) : Type 0 where
  pub bucket : Bucket
  pub inside : bucket ∈ f
  pub slow : bucket.rate ≤ s.rate
  pub is_later : k ≡ later s.latency bucket

-- and nothing else
pub slower_from : (s : RateLatency) (f : List Bucket) {k : Bucket} → k ∈ slower s f → Slowed s f k
unfolding slower
slower_from s [] m = elim m [ ]
slower_from s (j ∷ f) {k} m = wanted_or_not (leb j.rate s.rate) refl (λ n. further (slower_from s f n)) m
  where
    further : Slowed s f k → Slowed s (j ∷ f) k
    further r = record { bucket = r.bucket; inside = Memᴰ.tail r.inside; slow = r.slow; is_later = r.is_later }

    wanted_or_not :
        (b : Bool) → leb j.rate s.rate ≡ b → (k ∈ slower s f → Slowed s (j ∷ f) k)
        → k ∈ cond b (later s.latency j ∷ slower s f) (slower s f) → Slowed s (j ∷ f) k
    wanted_or_not true t rest n =
        elim (Memᴰ.cases_cons n) [
          | inl e ↦ record { bucket = j; inside = Memᴰ.head refl; slow = leb-true _ _ t; is_later = e }
          | inr i ↦ rest i
        ]
    wanted_or_not false t rest n = rest n

-- (R, B), B = R·T + M.
abbrev pub line_bucket : RateLatency → ℕ → Bucket
line_bucket s m = record { rate = s.rate; burst = s.rate * s.latency + m }

-- The raw list of behind.
abbrev pub cut_list : List Bucket → RateLatency → ℕ → List Bucket
cut_list f s m = slower s f ++ line_bucket s m ∷ []

-- it has a bucket, (R, B) at least
pub cut_filled : (f : List Bucket) (s : RateLatency) (m : ℕ) → 1 ≤ length (cut_list f s m)
cut_filled f s m = some (Memᴰ.append_right (slower s f) (Memᴰ.head refl))

-- (R, B) has, a latency before, the line's value
line_at : (s : RateLatency) (m p q : ℕ) → bucket_at (line_bucket s m) p q ≡ s.rate * (p + s.latency * q) + m * q
unfolding bucket_at
line_at s m p q = omega arith

-- ---- The cut.

-- A server with no latency.
abbrev at_once : ℕ → RateLatency
at_once rate = record { rate = rate; latency = 0 }

-- The cut at p/q, times q: the least of rate·p + m·q and of the values of the buckets with rates up to `rate`. That is the value
-- of the raw list of behind with no latency.
unfoldable pub cut_at : List Bucket → ℕ → ℕ → ℕ → ℕ → ℕ
cut_at f rate m p q = value_at (cut_list f (at_once rate) m) p q

-- What the cut is at a time: the line's value or a slow bucket's.
pub data CutReached (f : List Bucket) (rate m p q : ℕ) : Type 0 where
  by_line : cut_at f rate m p q ≡ rate * p + m * q → CutReached f rate m p q
  by_slow : (k : Bucket) → k ∈ f → k.rate ≤ rate → cut_at f rate m p q ≡ bucket_at k p q → CutReached f rate m p q

module _ (rate m p q : ℕ) where
  -- the line is not below the cut
  pub cut_line : (f : List Bucket) → cut_at f rate m p q ≤ rate * p + m * q
  unfolding cut_at bucket_at
  cut_line f = omega (arith, value_least (cut_list f (at_once rate) m) p q (Memᴰ.append_right (slower (at_once rate) f) (Memᴰ.head refl)))

  -- and no slow bucket is
  pub cut_slow : {f : List Bucket} {k : Bucket} → k ∈ f → k.rate ≤ rate → cut_at f rate m p q ≤ bucket_at k p q
  unfolding cut_at bucket_at later
  cut_slow {f} n h = omega (arith, value_least (cut_list f (at_once rate) m) p q (Memᴰ.append_left _ (slower_has (at_once rate) n h)))

  -- one of them has it
  pub cut_reached : (f : List Bucket) → CutReached f rate m p q
  unfolding cut_at bucket_at later
  cut_reached f =
      let s = at_once rate in
      let r = value_reached (cut_list f s m) p q (cut_filled f s m) in
      elim (Memᴰ.append_cases (slower s f) r.inside) [
        | inl i ↦
            let k = slower_from s f i in
            by_slow k.bucket k.inside k.slow (omega (arith, r.value_is, same_bucket_at p q k.is_later))
        | inr i ↦ by_line (omega (arith, r.value_is, same_bucket_at p q (Memᴰ.eq_of_singleton i)))
      ]

-- the raw list's value is the cut's, a latency later
pub cut_list_lem : (f : List Bucket) (s : RateLatency) (m p q : ℕ) → value_at (cut_list f s m) p q ≡ cut_at f s.rate m (p + s.latency * q) q
cut_list_lem f s m p q =
    elim (cut_reached s.rate m (p + s.latency * q) q f) [
      | by_line e ↦
          value_unique (cut_list f s m) p q below (Memᴰ.append_right (slower s f) (Memᴰ.head refl)) (e ∙ sym (line_at s m p q))
      | by_slow k n h e ↦
          value_unique (cut_list f s m) p q below (Memᴰ.append_left _ (slower_has s n h)) (e ∙ sym (later_at _ _ _ _))
    ]
  where
    below : (k : Bucket) → k ∈ cut_list f s m → cut_at f s.rate m (p + s.latency * q) q ≤ bucket_at k p q
    below k n =
        elim (Memᴰ.append_cases (slower s f) n) [
          | inl i ↦
              let r = slower_from s f i in
              le_trans (cut_slow _ _ _ _ r.inside r.slow)
              (le_of_eq (sym (same_bucket_at p q r.is_later ∙ later_at _ _ _ _)))
          | inr i ↦
              le_trans (cut_line _ _ _ _ f) (le_of_eq (sym (same_bucket_at p q (Memᴰ.eq_of_singleton i) ∙ line_at s m p q)))
        ]

-- a curve behind a server is the cut, a latency later
pub behind_cut :
    {f g : List Bucket} {s : RateLatency} (b : BehindRated f s g) (p q : ℕ) → 0 < q
    → value_at g p q ≡ cut_at f s.rate b.m (p + s.latency * q) q
behind_cut {f} {g} {s} b p q h = sym (b.normal.same p q h) ∙ cut_list_lem f s b.m p q

-- ---- The cut by a line that meets the curve.

-- A line rate·t + m that is not above a bucket at whole tick s:
module _ (k : Bucket) (rate m s : ℕ) (above : rate * s + m ≤ bucket_at k s 1) (p q : ℕ) where
  -- if the bucket is the flatter of the two, neither is the line above it before s,
  pub flatter_before : k.rate ≤ rate → p ≤ s * q → rate * p + m * q ≤ bucket_at k p q
  unfolding bucket_at
  flatter_before flat h = omega (arith, mul-le-mul_left q above, crosswise flat h)

  -- and if the bucket is the steeper, neither after s
  pub steeper_after : rate ≤ k.rate → s * q ≤ p → rate * p + m * q ≤ bucket_at k p q
  unfolding bucket_at
  steeper_after steep h = omega (arith, mul-le-mul_left q above, crosswise steep h)

-- The line meets the curve at whole tick s.
module _ (f : List Bucket) (rate m s : ℕ) (meets : reads f s ≡ rate * s + m) where
  -- no bucket is below the line there
  not_below : {k : Bucket} → k ∈ f → rate * s + m ≤ bucket_at k s 1
  unfolding reads
  not_below n = le_trans (le_of_eq (sym meets)) (value_least f s 1 n)

  -- up to s the cut is the line
  pub cut_early : (p q : ℕ) → p ≤ s * q → cut_at f rate m p q ≡ rate * p + m * q
  cut_early p q h =
      elim (cut_reached rate m p q f) [
        | by_line e ↦ e
        | by_slow k n slow e ↦
            le_antisymm (cut_line rate m p q f) (le_trans (flatter_before k rate m s (not_below n) p q slow h) (le_of_eq (sym e)))
      ]

  -- from s on it is the smaller of curve and line
  pub cut_late : 1 ≤ length f → (p q : ℕ) → s * q ≤ p → cut_at f rate m p q ≡ min (value_at f p q) (rate * p + m * q)
  cut_late some p q h =
      le_antisymm (le-min (below_value f p q below some) (cut_line rate m p q f))
      (elim (cut_reached rate m p q f) [
        | by_line e ↦ le_trans (min-le_right _ _) (le_of_eq (sym e))
        | by_slow k n slow e ↦ le_trans (min-le_left _ _) (le_trans (value_least f p q n) (le_of_eq (sym e)))
      ])
    where
      below : (k : Bucket) → k ∈ f → cut_at f rate m p q ≤ bucket_at k p q
      below k n =
          elim (le_or_lt k.rate rate) [
            | inl slow ↦ cut_slow rate m p q n slow
            | inr fast ↦ le_trans (cut_line rate m p q f) (steeper_after k rate m s (not_below n) p q (le_of_lt fast) h)
          ]
