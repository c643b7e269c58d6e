-- A pure delay. Behind it a curve is read T ticks later, and that is what stands behind a rate-latency server of the same latency
-- whose rate is not below any of the curve's: so what is known of those servers is known of pure delays. The delay is not that of a
-- fast server, which takes a tick for a burst however fast it is: it is T, where anything comes. Every larger number suffices, and no
-- smaller one does; over all fractions of a tick, that says which number it is.
-- Assumes nothing.
use mathlib.Core.Path.{◌≡◌, refl, sym, ◌∙◌, ap, ap₂}
use mathlib.Core.Logic.{inl, inr, ◌≢◌}
use mathlib.Core.List.Memᴰ
use mathlib.Core.List.{List, [], ◌∷◌, map}
use Prim.Native.Nat.{ℕ, ◌+◌, ◌*◌, ◌≤◌, ◌<◌, min, max}
use native.Mathlib.Nat.{le_refl, mul-one, mul_assoc, mul-le-mul_right}
use native.Mathlib.Decide.{ℕ_discrete}
use native.Mathlib.Omega.{arith}
use lib.ListN.{length}
use borrow.Author.Tests.{eq-eqb, ne_eqb, le-leb, lt-leb}
use Rattle.meaning.specs.Curve.{Bucket, ◌∈◌, bucket_at, value_at, NormalOf, reads}
use Rattle.meaning.specs.Server.{RateLatency, pure_delay, Amount, up_to, no_limit, ◌within◌, served, later, GreatestGap, Excess, BehindRated, Suffices, HeldFor}
use Rattle.meaning.specs.Computed.{held, delay}
use Rattle.meaning.proofs.Order.{le_or_lt}
use Rattle.meaning.proofs.Curve.Value.{same_rate, value_least, value_reached}
use Rattle.meaning.proofs.Curve.Reads.{reads_rise}
use Rattle.meaning.proofs.Server.Excess.{gap_unique}
use Rattle.meaning.proofs.Server.Cut.{later_at, cut_list, cut_list_lem}
use Rattle.meaning.proofs.Server.HopByHop.{Flat, cut_flat}
use Rattle.meaning.proofs.Server.Delay.{carries_nothing_ever, carries_nothing}

-- ---- What it serves.

-- up to T nothing is served,
pub delay_late : (latency : ℕ) {t : ℕ} → t ≤ latency → served (pure_delay latency) t ≡ up_to 0
delay_late latency {t} h = rw (le-leb t latency h)

-- and past T there is no limit
pub delay_past : (latency : ℕ) {t : ℕ} → latency < t → served (pure_delay latency) t ≡ no_limit
delay_past latency {t} h = rw (lt-leb t latency h)

-- nothing is within what is served, whatever that is
pub nothing_within : (x : Amount) → 0 within x
nothing_within (up_to n) = omega arith
nothing_within no_limit = tt

-- ---- The curve behind it.

-- the buckets of a curve read a latency later give what the curve gives then
pub later_value : (latency : ℕ) (f : List Bucket) (p q : ℕ) → value_at (map (later latency) f) p q ≡ value_at f (p + latency * q) q
unfolding value_at
later_value latency [] p q = refl
later_value latency (k ∷ []) p q = later_at latency k p q
later_value latency (k ∷ j ∷ f) p q = ap₂ min (later_at latency k p q) (later_value latency (j ∷ f) p q)

-- so, by a tick, the curve behind has given what the curve has given a latency later
pub reads_later :
    (f : List Bucket) {g : List Bucket} (latency : ℕ) → NormalOf (map (later latency) f) g → (t : ℕ)
    → reads g t ≡ reads f (t + latency)
unfolding reads
reads_later f latency n t =
    sym (n.same t 1 (omega arith)) ∙ later_value latency f t 1 ∙ ap (λ (x : ℕ). value_at f (t + x) 1) (mul-one latency)

-- that is the greatest gap between what has come by t+u and what is served by u, for whole u
pub delay_greatest :
    (f : List Bucket) {g : List Bucket} (latency : ℕ) → 1 ≤ length f → NormalOf (map (later latency) f) g → (t : ℕ)
    → GreatestGap (λ u. reads f (t + u)) (served (pure_delay latency)) (reads g t)
delay_greatest f latency some n t =
    let same = reads_later f latency n t in
    record {
      at = latency;
      reached = rw (delay_late latency (le_refl latency)) (omega (arith, same));
      greatest = λ u.
          elim (le_or_lt u latency) [
            | inl h ↦ rw (delay_late latency h) (omega (arith, same, reads_rise f {t = t + u} {u = t + latency} some (omega arith)))
            | inr h ↦ rw (delay_past latency h) tt
          ];
    }

-- ---- As a fast server.

-- No bucket of a list is faster than a rate.
abbrev pub NoFaster : List Bucket → ℕ → Type 0
NoFaster f rate = (k : Bucket) → k ∈ f → k.rate ≤ rate

-- The greatest rate of a list,
unfoldable pub steepest : List Bucket → ℕ
steepest [] = 0
steepest (k ∷ f) = max k.rate (steepest f)

-- than which none of its buckets is faster
pub none_steeper : (f : List Bucket) → NoFaster f (steepest f)
unfolding steepest
none_steeper [] k m = elim m [ ]
none_steeper (j ∷ f) k (Memᴰ.head e) = omega (arith, same_rate e)
none_steeper (j ∷ f) k (Memᴰ.tail m) = omega (arith, none_steeper f k m)

-- The server of that latency and of a rate.
abbrev pub fast : ℕ → ℕ → RateLatency
fast rate latency = record { rate = rate; latency = latency }

module _ (f : List Bucket) (rate : ℕ) (some : 1 ≤ length f) (slow : NoFaster f rate) where
  -- a curve none of whose buckets is faster than a rate is never above the line of that rate from its burst,
  slow_flat : Flat f rate
  unfolding reads bucket_at
  slow_flat p q h =
      let r = value_reached f 0 1 some in
      let burst : reads f 0 * q ≡ r.bucket.burst * q = ap (λ x. x * q) (omega (arith, r.value_is)) in
      omega (arith, value_least f p q r.inside, burst, mul-le-mul_right p (slow r.bucket r.inside))

  -- so it is most ahead of the rate by its burst
  slow_excess : Excess f rate (reads f 0)
  unfolding reads
  slow_excess =
      record { at = 0; reached = omega arith; greatest = λ u. omega (arith, slow_flat u 1 (omega arith)) }

  module _ (latency : ℕ) where
    -- (R, B) is never below the buckets read later
    fast_cut :
        (p q : ℕ) → 0 < q → value_at (cut_list f (fast rate latency) (reads f 0)) p q ≡ value_at (map (later latency) f) p q
    fast_cut p q h =
        cut_list_lem f (fast rate latency) (reads f 0) p q
        ∙ cut_flat f rate some slow_excess slow_flat (p + latency * q) q h
        ∙ sym (later_value latency f p q)

    module _ {g : List Bucket} where
      -- what stands behind the pure delay stands behind the fast server,
      pub as_fast : NormalOf (map (later latency) f) g → BehindRated f (fast rate latency) g
      as_fast n =
          record {
            m = reads f 0;
            excess = slow_excess;
            normal = record { form = n.form; same = λ p q h. fast_cut p q h ∙ n.same p q h };
          }

      -- and the other way round
      pub from_fast : BehindRated f (fast rate latency) g → NormalOf (map (later latency) f) g
      from_fast b =
          let burst = gap_unique b.excess slow_excess in
          record {
            form = b.normal.form;
            same = λ p q h. sym (fast_cut p q h) ∙ rw burst at (b.normal.same p q h);
          }

-- ---- Its delay.

-- a curve that carries anything by any time p/r does so by tick 1
pub carries_by_one : (f : List Bucket) (p r : ℕ) → 0 < value_at f p r → 0 < reads f 1
unfolding reads
carries_by_one f p r h =
    elim (le_or_lt 1 (reads f 1)) [
      | inl some ↦ some
      | inr none ↦ absurd (omega (arith, carries_nothing_ever f 1 (omega arith) (omega (arith, none)) p r))
    ]

-- the computed number is the delay
pub held_is : (f : List Bucket) (latency : ℕ) → HeldFor f latency (delay f (pure_delay latency))
unfolding delay held reads
held_is f latency =
    elim (ℕ_discrete (reads f 1) 0) [
      | yes e ↦
          rw (eq-eqb (reads f 1) 0 e)
          (record { something = λ t h. absurd (omega (arith, carries_nothing f e t)); nothing = λ h. refl })
      | no e ↦
          rw (ne_eqb (reads f 1) 0 e) (record { something = λ t h. refl; nothing = λ h. absurd (e (h 1)) })
    ]

module _ {f : List Bucket} {latency d : ℕ} (x : HeldFor f latency d) where
  -- it is never above T
  pub held_most : d ≤ latency
  held_most =
      elim (ℕ_discrete (reads f 1) 0) [
        | yes none ↦ omega (arith, x.nothing (carries_nothing f none))
        | no some ↦ omega (arith, x.something 1 (omega (arith, some)))
      ]

  -- every larger number suffices, at every whole tick,
  pub held_suffices : (m : ℕ) → d < m → Suffices f (pure_delay latency) m
  held_suffices m more t =
      elim (ℕ_discrete (reads f t) 0) [
        | yes none ↦ rw none (nothing_within (served (pure_delay latency) (t + m)))
        | no some ↦ rw (delay_past latency {t = t + m} (omega (arith, x.something t (omega (arith, some))))) tt
      ]

  -- and, for a curve that carries anything, no smaller one does: what has come by tick 1 is not served by then
  pub held_needed : (u : ℕ) → 0 < reads f u → (m : ℕ) → m < d → Suffices f (pure_delay latency) m → ⊥
  unfolding reads
  held_needed u some m less enough =
      let served_not = delay_late latency {t = 1 + m} (omega (arith, x.something u some)) in
      omega (arith, carries_by_one f u 1 some, rw served_not at (enough 1))

  -- It may itself be a tick short: where anything comes at once it does not suffice.
  pub held_short : 0 < reads f 0 → Suffices f (pure_delay latency) d → ⊥
  held_short some enough =
      let served_not = delay_late latency {t = 0 + d} (omega (arith, x.something 0 some)) in
      omega (arith, rw served_not at (enough 0))

-- ---- Over all fractions of a tick, the delay is an infimum.

-- y/q ticks suffice at every fraction: where anything has come by a time p/r, p/r and y/q together are past T, and all is served.
abbrev pub PastBy : List Bucket → ℕ → ℕ → ℕ → Type 0
PastBy f latency y q = (p r : ℕ) → 0 < r → 0 < value_at f p r → latency * (q * r) < p * q + y * r

-- d is the infimum of the fractions of which P holds: of all above it P holds, and of none below it.
pub record Infimum (P : ℕ → ℕ → Type 0) (d : ℕ) : Type 0 where
  pub above : (y q : ℕ) → 0 < q → d * q < y → P y q
  pub none_below : (y q : ℕ) → 0 < q → y < d * q → P y q → ⊥

-- one whole number is: a half more than the smaller of two would have to suffice, and not to
pub infimum_unique : {P : ℕ → ℕ → Type 0} {d e : ℕ} → Infimum P d → Infimum P e → d ≡ e
infimum_unique {P} x y = omega (arith, not_less x y, not_less y x)
  where
    not_less : {d e : ℕ} → Infimum P d → Infimum P e → e ≤ d
    not_less {d} {e} x y =
        elim (le_or_lt e d) [
          | inl h ↦ h
          | inr h ↦ absurd (y.none_below (1 + d * 2) 2 (omega arith) (omega arith) (x.above (1 + d * 2) 2 (omega arith) (omega arith)))
        ]

-- the delay of a pure delay is it: a larger fraction is past T by itself, and with a smaller one y/q what has come by 1/q is not past T
pub held_infimum : {f : List Bucket} {latency d : ℕ} → HeldFor f latency d → Infimum (PastBy f latency) d
unfolding reads
held_infimum {f} {latency} {d} x =
    record {
      above = λ y q h more p r h' comes.
          let is = x.something 1 (carries_by_one f p r comes) in
          let wide : (1 + latency * q) * r ≤ y * r = mul-le-mul_right r (omega (arith, ap (λ n. n * q) is)) in
          omega (arith, wide, mul_assoc latency q r);
      none_below = λ y q h less past.
          let some : 0 < value_at f 1 q = omega (arith, comes_soon y q h less) in
          let is = x.something 1 (carries_by_one f 1 q some) in
          let late : (1 + y) * q ≤ latency * q * q = mul-le-mul_right q (omega (arith, less, ap (λ n. n * q) is)) in
          omega (arith, late, mul_assoc latency q q, past 1 q h some);
    }
  where
    comes_soon : (y q : ℕ) → 0 < q → y < d * q → value_at f 1 q ≢ 0
    comes_soon y q h less none =
        omega (arith, less, ap (λ n. n * q) (x.nothing (λ t. carries_nothing_ever f q h none t 1)))

-- so it is one number
pub held_unique : {f : List Bucket} {latency d e : ℕ} → HeldFor f latency d → HeldFor f latency e → d ≡ e
held_unique x y = infimum_unique (held_infimum x) (held_infimum y)
