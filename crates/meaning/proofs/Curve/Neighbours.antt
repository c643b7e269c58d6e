-- Two buckets that cross: which of them is below, before the crossing and after it. And neighbours are enough to check normal
-- form: a list is in normal form exactly when rates fall strictly and the crossings of neighbours come one strictly after the
-- other, the first after time 0. A bucket is then strictly lowest between its crossing with the bucket before it and its crossing
-- with the bucket after it.
-- Assumes nothing.
use mathlib.Core.Path.{◌≡◌, refl, sym, ◌∙◌, ap}
use mathlib.Core.Logic.{◌↔◌}
use mathlib.Core.Bool.{true, false, true≢false, and-eq-true_iff}
use mathlib.Core.List.Memᴰ
use mathlib.Core.List.{List, [], ◌∷◌}
use Prim.Native.Nat.{ℕ, ◌+◌, ◌-◌, ◌*◌, ◌≤◌, ◌<◌}
use native.Mathlib.Nat.{le_of_lt, lt_trans, lt_of_mul-lt-mul_left, lt_of_mul-lt-mul_right, mul-le-mul_left, mul-le-mul_right, mul-lt-mul_of_pos_left, mul-pos, sub-eq-zero_of_le, add-sub_of_le}
use native.Mathlib.Omega.{arith}
use borrow.Author.Tests.{ltb-true, lt-ltb}
use Rattle.meaning.specs.Curve.{Bucket, ◌∈◌, bucket_at, Falling, Useful, NormalForm}
use Rattle.meaning.specs.Computed.{crossings_rise, is_normal}
use Rattle.meaning.proofs.Order.{not_above}
use Rattle.meaning.proofs.Lists.{cons_each}
use Rattle.meaning.proofs.Curve.Lowest.{other_rate, useful_least, useful_there, useful_fewer}

-- p/q ≤ x/y and x/y < u/v give p/q < u/v
pub earlier_trans : (p q x y u v : ℕ) → 0 < q → p * y ≤ x * q → x * v < u * y → p * v < u * q
earlier_trans p q x y u v hq h l =
    lt_of_mul-lt-mul_left y (omega (arith, mul-le-mul_left v h, mul-lt-mul_of_pos_left l hq))

-- the mediant of two times is after the earlier one
mediant_after : (x y u v : ℕ) → x * v < u * y → x * (y + v) < (x + u) * y
mediant_after x y u v h = omega arith

-- and before the later one
mediant_before : (x y u v : ℕ) → x * v < u * y → (x + u) * v < u * (y + v)
mediant_before x y u v h = omega arith

-- Two buckets (r + v, b) and (r, b + u) meet at u/v.
pub record Meet (k j : Bucket) (u v : ℕ) : Type 0 where
  pub rates : j.rate + v ≡ k.rate
  pub bursts : k.burst + u ≡ j.burst

-- so do two buckets of which the second has the smaller rate and the larger burst
pub meet : (k j : Bucket) → j.rate ≤ k.rate → k.burst ≤ j.burst → Meet k j (j.burst - k.burst) (k.rate - j.rate)
meet k j falls rises = record { rates = add-sub_of_le falls; bursts = add-sub_of_le rises }

module _ {k j : Bucket} {u v : ℕ} (c : Meet k j u v) (p q : ℕ) where
  -- by how much the first is below the second, or above it
  apart : bucket_at k p q + u * q ≡ bucket_at j p q + p * v
  unfolding bucket_at
  apart = omega (arith, ap (λ (r : ℕ). r * p) c.rates, ap (λ (b : ℕ). b * q) c.bursts)

  -- they have one value exactly at the crossing
  pub meet_at : bucket_at k p q ≡ bucket_at j p q ↔ (u * q ≡ v * p)
  meet_at = (λ e. omega (arith, apart), λ e. omega (arith, apart))

  -- before the crossing the first is below
  pub below_if_before : p * v < u * q → bucket_at k p q < bucket_at j p q
  below_if_before h = omega (arith, apart)

  -- and only there
  pub before_if_below : bucket_at k p q < bucket_at j p q → p * v < u * q
  before_if_below h = omega (arith, apart)

  -- after the crossing the second is below
  pub below_if_after : u * q < p * v → bucket_at j p q < bucket_at k p q
  below_if_after h = omega (arith, apart)

  -- and only there
  pub after_if_below : bucket_at j p q < bucket_at k p q → u * q < p * v
  after_if_below h = omega (arith, apart)

-- where a bucket is below one that is no steeper, its burst is the smaller
pub below_rises : (k j : Bucket) (p q : ℕ) → j.rate ≤ k.rate → bucket_at k p q < bucket_at j p q → k.burst < j.burst
unfolding bucket_at
below_rises k j p q flat h = lt_of_mul-lt-mul_right q (omega (arith, mul-le-mul_right p flat))

-- One step of the test: bucket k, the crossing x/y before it, the next bucket j and the buckets f after that.
pub record Step (k : Bucket) (x y : ℕ) (j : Bucket) (f : List Bucket) : Type 0 where
  pub falls : j.rate < k.rate
  pub later : x * (k.rate - j.rate) < (j.burst - k.burst) * y
  pub rest : crossings_rise j (j.burst - k.burst) (k.rate - j.rate) f ≡ true

-- what passes the test makes the step
pub step_of : (k : Bucket) (x y : ℕ) (j : Bucket) (f : List Bucket) → crossings_rise k x y (j ∷ f) ≡ true → Step k x y j f
unfolding crossings_rise
step_of k x y j f h =
    let a = (and-eq-true_iff _ _).0 h in
    let b = (and-eq-true_iff _ _).0 a.0 in
    record { falls = ltb-true _ _ b.0; later = ltb-true _ _ b.1; rest = a.1 }

-- a step passes the test
pub step_to : (k : Bucket) (x y : ℕ) (j : Bucket) (f : List Bucket) → Step k x y j f → crossings_rise k x y (j ∷ f) ≡ true
unfolding crossings_rise
step_to k x y j f s = rw (lt-ltb _ _ s.falls, lt-ltb _ _ s.later) s.rest

module _ {k : Bucket} {x y : ℕ} {j : Bucket} {f : List Bucket} (s : Step k x y j f) where
  -- the two buckets of a step meet
  pub step_meet : Meet k j (j.burst - k.burst) (k.rate - j.rate)
  step_meet =
      meet k j (le_of_lt s.falls) (not_above (λ h. omega (arith, rw (sub-eq-zero_of_le (le_of_lt h)) at s.later)))

  -- before the crossing the first bucket is below the second, and so below what the second is below
  pub step_below :
      (p q : ℕ) → p * (k.rate - j.rate) < (j.burst - k.burst) * q
      → ((l : Bucket) → l ∈ f → bucket_at j p q < bucket_at l p q) → (l : Bucket) → l ∈ (j ∷ f)
      → bucket_at k p q < bucket_at l p q
  step_below p q earlier rest =
      let next = below_if_before step_meet p q earlier in
      cons_each next (λ l n. lt_trans next (rest l n))

-- up to the crossing before it a bucket is below every later one
pub rising_below :
    (f : List Bucket) (k : Bucket) (x y p q : ℕ) → 0 < q → crossings_rise k x y f ≡ true → p * y ≤ x * q → (l : Bucket)
    → l ∈ f → bucket_at k p q < bucket_at l p q
rising_below [] k x y p q hq h early l m = elim m [ ]
rising_below (j ∷ f) k x y p q hq h early l m =
    let s = step_of k x y j f h in
    let next = earlier_trans p q x y _ _ hq early s.later in
    step_below s p q next (rising_below f j _ _ p q hq s.rest (le_of_lt next)) l m

-- what passes the test has falling rates
rising_falling : (f : List Bucket) (k : Bucket) (x y : ℕ) → crossings_rise k x y f ≡ true → Falling (k ∷ f)
unfolding Falling
rising_falling [] k x y h = (λ l m. elim m [ ], tt)
rising_falling (j ∷ f) k x y h =
    let s = step_of k x y j f h in
    let rest = rising_falling f j _ _ s.rest in
    (cons_each s.falls (λ l n. lt_trans (rest.0 l n) s.falls), rest)

-- A bucket is useful at a time after x/y.
record UsefulAfter (x y : ℕ) (f : List Bucket) (k : Bucket) : Type 0 where
  useful : Useful f k
  after : x * useful.q < useful.p * y

-- a bucket below every bucket after it is useful
useful_first :
    (k : Bucket) (f : List Bucket) (x y p q : ℕ) → 0 < q → x * q < p * y
    → ((l : Bucket) → l ∈ f → bucket_at k p q < bucket_at l p q) → UsefulAfter x y (k ∷ f) k
useful_first k f x y p q hq after below =
    record {
      useful =
          record {
            p = p;
            q = q;
            p_positive = lt_of_mul-lt-mul_right y (omega arith);
            q_positive = hq;
            below = cons_each (λ other. absurd (other refl)) (λ l n other. below l n);
          };
      after = after;
    }

-- the first bucket is lowest between the crossing before it and the one after it
rising_first :
    (f : List Bucket) (k : Bucket) (x y : ℕ) → 0 < y → crossings_rise k x y f ≡ true → UsefulAfter x y (k ∷ f) k
rising_first [] k x y hy h = useful_first k [] x y (x + y) y hy (omega (arith, mul-pos hy hy)) (λ l m. elim m [ ])
rising_first (j ∷ f) k x y hy h =
    let s = step_of k x y j f h in
    let before = mediant_before x y _ _ s.later in
    let positive : 0 < y + (k.rate - j.rate) = omega arith in
    useful_first k (j ∷ f) x y _ _ positive (mediant_after x y _ _ s.later)
    (step_below s _ _ before (rising_below f j _ _ _ _ positive s.rest (le_of_lt before)))

-- a bucket lowest of all from the second on, at a time after the second's crossing with the first, is below the first too
rising_later :
    {k : Bucket} {x y : ℕ} {j : Bucket} {f : List Bucket} → Step k x y j f → 0 < y → (i : Bucket)
    → UsefulAfter (j.burst - k.burst) (k.rate - j.rate) (j ∷ f) i → UsefulAfter x y (k ∷ j ∷ f) i
unfolding useful_there
rising_later {j = j} s hy i w =
    let u = w.useful in
    let second = below_if_after (step_meet s) u.p u.q w.after in
    record {
      useful = useful_there u (cons_each (λ other. omega (arith, useful_least u j (Memᴰ.head refl), second)) u.below);
      after = earlier_trans _ _ _ _ u.p u.q hy (le_of_lt s.later) w.after;
    }

-- every bucket is lowest at some time after the crossing before the first
rising_useful :
    (f : List Bucket) (k : Bucket) (x y : ℕ) → 0 < y → crossings_rise k x y f ≡ true → (i : Bucket) → i ∈ (k ∷ f)
    → UsefulAfter x y (k ∷ f) i
rising_useful [] k x y hy h = cons_each (rising_first [] k x y hy h) (λ l n. absurd (Memᴰ.not-nil n))
rising_useful (j ∷ f) k x y hy h =
    let s = step_of k x y j f h in
    cons_each (rising_first (j ∷ f) k x y hy h)
    (λ l n. rising_later s hy l (rising_useful f j _ _ (omega (arith, s.falls)) s.rest l n))

-- the neighbours' test passes only lists in normal form
pub neighbours_sound : (f : List Bucket) → is_normal f ≡ true → NormalForm f
unfolding is_normal
neighbours_sound [] h = absurd (true≢false (sym h))
neighbours_sound (k ∷ f) h =
    record {
      some = omega arith;
      falling = rising_falling f k 0 1 h;
      useful = λ i m. (rising_useful f k 0 1 (omega arith) h i m).useful;
    }

-- Two neighbours with falling rates, the first useful at a time after x/y.
module _ {k : Bucket} {x y : ℕ} {j : Bucket} {f : List Bucket} (falls : j.rate < k.rate)
    (w : UsefulAfter x y (k ∷ j ∷ f) k) where
  -- it is below the second there
  useful_below : bucket_at k w.useful.p w.useful.q < bucket_at j w.useful.p w.useful.q
  useful_below = w.useful.below j (Memᴰ.tail (Memᴰ.head refl)) (λ e. other_rate falls (sym e))

  -- so they meet
  useful_meet : Meet k j (j.burst - k.burst) (k.rate - j.rate)
  useful_meet = meet k j (le_of_lt falls) (le_of_lt (below_rises k j _ _ (le_of_lt falls) useful_below))

  -- their crossing is after x/y
  useful_later : 0 < y → x * (k.rate - j.rate) < (j.burst - k.burst) * y
  useful_later hy =
      let before = before_if_below useful_meet w.useful.p w.useful.q useful_below in
      earlier_trans x y _ _ _ _ hy (le_of_lt w.after) before

  -- and the second, if useful, is so after their crossing
  useful_next : Useful (k ∷ j ∷ f) j → UsefulAfter (j.burst - k.burst) (k.rate - j.rate) (j ∷ f) j
  unfolding useful_fewer
  useful_next u =
      let below = u.below k (Memᴰ.head refl) (other_rate falls) in
      record { useful = useful_fewer (λ i m. Memᴰ.tail m) u; after = after_if_below useful_meet u.p u.q below }

-- useful buckets by falling rates cross one after the other
useful_rising :
    (f : List Bucket) (k : Bucket) (x y : ℕ) → 0 < y → Falling (k ∷ f) → UsefulAfter x y (k ∷ f) k
    → ((i : Bucket) → i ∈ f → Useful (k ∷ f) i) → crossings_rise k x y f ≡ true
unfolding crossings_rise Falling
useful_rising [] k x y hy falling w others = refl
useful_rising (j ∷ f) k x y hy falling w others =
    let falls = falling.0 j (Memᴰ.head refl) in
    let next = useful_next falls w (others j (Memᴰ.head refl)) in
    step_to k x y j f
    (record {
      falls = falls;
      later = useful_later falls w hy;
      rest = useful_rising f j _ _ (omega arith) falling.1 next (λ i m. useful_fewer (λ l n. Memᴰ.tail n) (others i (Memᴰ.tail m)));
    })

-- every list in normal form passes the test
pub neighbours_complete : (f : List Bucket) → NormalForm f → is_normal f ≡ true
unfolding is_normal
neighbours_complete [] n = absurd (omega (arith, n.some))
neighbours_complete (k ∷ f) n =
    let u = n.useful k (Memᴰ.head refl) in
    useful_rising f k 0 1 (omega arith) n.falling (record { useful = u; after = omega (arith, u.p_positive) })
    (λ i m. n.useful i (Memᴰ.tail m))

-- what fails the test is not in normal form
pub neighbours_refute : (f : List Bucket) → is_normal f ≡ false → NormalForm f → ⊥
neighbours_refute f h n = true≢false (sym (neighbours_complete f n) ∙ h)
