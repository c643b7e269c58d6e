-- The greatest of reads(s) - R·s over whole s: there is one, and it is known where it is reached. Where the first bucket's rate is
-- at most R that is tick 0. Otherwise it is the whole tick up to the crossing with the first bucket of rate at most R, or the
-- tick after: up to that tick the value is had by a bucket of rate above R, and from the tick after on by one of rate at most R.
-- Assumes nothing.
use mathlib.Core.Path.{◌≡◌, refl, sym, ◌∙◌}
use mathlib.Core.Logic.{◌⊎◌, inl, inr}
use mathlib.Core.List.Memᴰ
use mathlib.Core.List.{List, [], ◌∷◌, ◌++◌}
use Prim.Native.Nat.{ℕ, suc, ◌+◌, ◌-◌, ◌*◌, ◌/◌, ◌≤◌, ◌<◌}
use native.Mathlib.Nat.{mul-le-mul_right, le_trans, le_of_eq, le_of_lt, le_antisymm, lt_of_mul-lt-mul_right, lt-div-mul-add, div-mul-le_self}
use native.Mathlib.Omega.{arith}
use lib.ListN.{length, take, get_or, length-append}
use lib.Seq.{append_snoc, take_at, get_or_at}
use borrow.Author.Tests.{le-leb, lt-leb}
use Rattle.meaning.specs.Curve.{Bucket, ◌∈◌, bucket_at, Falling, Useful, NormalForm, Crossing, reads}
use Rattle.meaning.specs.Server.{Amount, up_to, no_limit, ◌within◌, ◌fill◌, ◌plus◌, GreatestGap, Excess, last}
use Rattle.meaning.specs.Computed.{excess_at, excess_from, excess}
use Rattle.meaning.proofs.Order.{le_or_lt, not_above, crosswise}
use Rattle.meaning.proofs.Lists.{cons_each, append_each}
use Rattle.meaning.proofs.Curve.Value.{same_rate, same_bucket_at, value_least, value_unique, Reached, value_reached}
use Rattle.meaning.proofs.Server.Joining.{last_slowest}
use Rattle.meaning.proofs.Curve.Neighbours.{Meet, meet, meet_at, before_if_below, after_if_below}
use Rattle.meaning.proofs.Curve.Reads.{below_other, burst_below, first_burst}

-- what is all of an amount and m bits more is within it and n more only if n is not below m
pub filled_least : (x : Amount) (a m n : ℕ) → a fill (x plus m) → a within (x plus n) → m ≤ n
filled_least (up_to k) a m n all inside = omega arith
filled_least no_limit a m n all inside = absurd all

-- the greatest gap is one number
pub gap_unique : {a : ℕ → ℕ} {b : ℕ → Amount} {m n : ℕ} → GreatestGap a b m → GreatestGap a b n → m ≡ n
gap_unique {a} {b} {m} {n} g h =
    le_antisymm (filled_least (b g.at) (a g.at) m n g.reached (h.greatest g.at))
    (filled_least (b h.at) (a h.at) n m h.reached (g.greatest h.at))

-- What is read less R·tick is at tick s at most what it is at tick x.
abbrev pub NotAbove : List Bucket → ℕ → ℕ → ℕ → Type 0
NotAbove f rate s x = reads f s + rate * x ≤ reads f x + rate * s

module _ {f : List Bucket} {rate x : ℕ} (r : Reached f x 1) where
  -- before a tick whose value is had by a bucket of rate at least R it is not above
  rises_to : rate ≤ r.bucket.rate → (s : ℕ) → s ≤ x → NotAbove f rate s x
  unfolding reads bucket_at
  rises_to steep s h = omega (arith, r.value_is, value_least f s 1 r.inside, crosswise steep h)

  -- after a tick whose value is had by a bucket of rate at most R it is not above
  pub falls_from : r.bucket.rate ≤ rate → (s : ℕ) → x ≤ s → NotAbove f rate s x
  unfolding reads bucket_at
  falls_from flat s h = omega (arith, r.value_is, value_least f s 1 r.inside, crosswise flat h)

-- What is read less R·tick is the number m at tick x or at the tick after.
abbrev pub AtOrAfter : List Bucket → ℕ → ℕ → ℕ → Type 0
AtOrAfter f rate m x = (reads f x ≡ rate * x + m) ⊎ (reads f (x + 1) ≡ rate * (x + 1) + m)

-- Where the value is had by a bucket of rate at least R at x, and of rate at most R at the tick after,
module _
    {f : List Bucket} {rate x : ℕ} (r : Reached f x 1) (r' : Reached f (x + 1) 1) (steep : rate ≤ r.bucket.rate)
    (flat : r'.bucket.rate ≤ rate)
  where
    -- the larger of the two differences is reached at one of the two,
    turning_reached : AtOrAfter f rate (excess_at f rate x) x
    unfolding excess_at
    turning_reached =
        elim (le_or_lt (reads f (x + 1) - rate * (x + 1)) (reads f x - rate * x)) [
          | inl h ↦ inl (omega (arith, rises_to r steep 0 (omega arith)))
          | inr h ↦ inr (omega arith)
        ]

    -- and no tick has a greater one
    turning_greatest : (s : ℕ) → reads f s ≤ rate * s + excess_at f rate x
    unfolding excess_at
    turning_greatest s =
        elim (le_or_lt s x) [
          | inl h ↦ omega (arith, rises_to r steep s h)
          | inr h ↦ omega (arith, falls_from r' flat s (omega arith))
        ]

    -- so that is the greatest
    turning : Excess f rate (excess_at f rate x)
    turning =
        elim turning_reached [
          | inl e ↦ record { at = x; reached = e; greatest = turning_greatest }
          | inr e ↦ record { at = x + 1; reached = e; greatest = turning_greatest }
        ]

-- A bucket k strictly below a bucket j at p/q is so at tick x too,
module _ (k j : Bucket) (p q x : ℕ) (below : bucket_at k p q < bucket_at j p q) where
  -- if j gains on k, or loses nothing to it, from p/q to x:
  carried : j.rate * p + k.rate * (x * q) ≤ j.rate * (x * q) + k.rate * p → bucket_at k x 1 < bucket_at j x 1
  unfolding bucket_at
  carried h = lt_of_mul-lt-mul_right q (omega arith)

  -- earlier, if j is the flatter,
  earlier_below : j.rate ≤ k.rate → x * q ≤ p → bucket_at k x 1 < bucket_at j x 1
  earlier_below flat h = carried (omega (arith, crosswise flat h))

  -- and later, if j is the steeper
  later_below : k.rate ≤ j.rate → p ≤ x * q → bucket_at k x 1 < bucket_at j x 1
  later_below steep h = carried (omega (arith, crosswise steep h))

-- A useful bucket between a steeper and a flatter one:
module _
    {f : List Bucket} {k steep flat : Bucket} (u : Useful f k) (has : steep ∈ f) (has' : flat ∈ f) (over : k.rate < steep.rate)
    (under : flat.rate < k.rate) (x : ℕ)
  where
    -- up to its time it is below the flatter,
    early : x * u.q ≤ u.p → bucket_at k x 1 < bucket_at flat x 1
    early h = earlier_below k flat _ _ x (below_other u has' (omega arith)) (le_of_lt under) h

    -- from then on below the steeper,
    late : u.p < x * u.q → bucket_at k x 1 < bucket_at steep x 1
    late h = later_below k steep _ _ x (below_other u has (omega arith)) (le_of_lt over) (le_of_lt h)

    -- so while the steeper is not above it, it is below the flatter,
    pub below_flat : bucket_at steep x 1 ≤ bucket_at k x 1 → bucket_at k x 1 < bucket_at flat x 1
    below_flat h =
        elim (le_or_lt (x * u.q) u.p) [ inl before ↦ early before | inr after ↦ absurd (omega (arith, late after)) ]

    -- and once the flatter is not above it, it is below the steeper
    pub below_steep : bucket_at flat x 1 ≤ bucket_at k x 1 → bucket_at k x 1 < bucket_at steep x 1
    below_steep h =
        elim (le_or_lt (x * u.q) u.p) [ inl before ↦ absurd (omega (arith, early before)) | inr after ↦ late after ]

-- Where every bucket is of one kind or of the other, and one of the first kind is not above any of the other, one of the first
-- kind has the value.
module _ {f : List Bucket} {p q : ℕ} {k : Bucket} (One Other : Bucket → Type 0) (kinds : (j : Bucket) → One j ⊎ Other j) where
  had_by_one :
      1 ≤ length f → k ∈ f → One k → ((j : Bucket) → j ∈ f → Other j → bucket_at k p q ≤ bucket_at j p q)
      → (r : Reached f p q) × One r.bucket
  had_by_one some m one low =
      let r = value_reached f p q some in
      elim (kinds r.bucket) [
        | inl h ↦ (r, h)
        | inr h ↦
            let value = le_antisymm (value_least f p q m) (le_trans (low _ r.inside h) (le_of_eq (sym r.value_is))) in
            (record { bucket = k; inside = m; value_is = value }, one)
      ]

-- Where a bucket stands to two neighbours of a list whose rates fall.
data Place (before first j : Bucket) : Type 0 where
  is_steeper : before.rate < j.rate → Place before first j
  is_before : j ≡ before → Place before first j
  is_first : j ≡ first → Place before first j
  is_flatter : j.rate < first.rate → Place before first j

place :
    (passed rest : List Bucket) {before first : Bucket} → Falling (passed ++ before ∷ first ∷ rest)
    → (j : Bucket) → j ∈ (passed ++ before ∷ first ∷ rest) → Place before first j
unfolding Falling
place [] rest h = cons_each (is_before refl) (cons_each (is_first refl) (λ j n. is_flatter (h.1.0 j n)))
place (k ∷ passed) rest {before} h =
    cons_each (is_steeper (h.0 before (Memᴰ.append_right passed (Memᴰ.head refl)))) (place passed rest h.1)

-- The first bucket of rate at most R and the one before it, where it is not the first of the list.
pub record Turn (f : List Bucket) (rate : ℕ) : Type 0 where
  pub passed : List Bucket
  pub before : Bucket
  pub first : Bucket
  pub rest : List Bucket
  pub whole : f ≡ passed ++ before ∷ first ∷ rest
  pub steeper : (j : Bucket) → j ∈ (passed ++ before ∷ []) → rate < j.rate
  pub flat : first.rate ≤ rate

-- Their crossing is at rise/fall, and the whole tick up to it is their quotient.
abbrev pub rise : {f : List Bucket} {rate : ℕ} → Turn f rate → ℕ
rise w = w.first.burst - w.before.burst

abbrev pub fall : {f : List Bucket} {rate : ℕ} → Turn f rate → ℕ
fall w = w.before.rate - w.first.rate

abbrev pub tick : {f : List Bucket} {rate : ℕ} → Turn f rate → ℕ
tick w = rise w / fall w

-- In normal form:
module _ {f : List Bucket} {rate : ℕ} (n : NormalForm f) (w : Turn f rate) where
  before_steep : rate < w.before.rate
  before_steep = w.steeper w.before (Memᴰ.append_right w.passed (Memᴰ.head refl))

  pub before_inside : w.before ∈ f
  before_inside = rw w.whole (Memᴰ.append_right w.passed (Memᴰ.head refl))

  pub first_inside : w.first ∈ f
  first_inside = rw w.whole (Memᴰ.append_right w.passed (Memᴰ.tail (Memᴰ.head refl)))

  placed : {j : Bucket} → j ∈ f → Place w.before w.first j
  placed {j} m = place w.passed w.rest (rw w.whole at n.falling) j (rw w.whole at m)

  pub turns : w.first.rate < w.before.rate
  turns = omega (arith, before_steep, w.flat)

  -- the one before is the lower at 0, so they meet at the crossing
  pub crosses : Meet w.before w.first (rise w) (fall w)
  crosses = meet _ _ (le_of_lt turns) (le_of_lt (burst_below (n.useful _ before_inside) first_inside turns))

  -- at the whole tick up to the crossing the one before is not above a bucket of rate at most R
  pub before_lowest : (j : Bucket) → j ∈ f → j.rate ≤ rate → bucket_at w.before (tick w) 1 ≤ bucket_at j (tick w) 1
  before_lowest j m slow =
      elim (placed m) [
        | is_steeper h ↦ absurd (omega (arith, before_steep))
        | is_before e ↦ le_of_eq (sym (same_bucket_at _ _ e))
        | is_first e ↦ le_trans ahead (le_of_eq (sym (same_bucket_at _ _ e)))
        | is_flatter h ↦
            le_trans ahead (le_of_lt (below_flat (n.useful _ first_inside) before_inside m turns h (tick w) ahead))
      ]
    where
      ahead : bucket_at w.before (tick w) 1 ≤ bucket_at w.first (tick w) 1
      ahead = not_above (λ h. omega (arith, after_if_below crosses (tick w) 1 h, div-mul-le_self (rise w) (fall w)))

  -- at the tick after it the first is not above a bucket of rate above R
  pub first_lowest : (j : Bucket) → j ∈ f → rate < j.rate → bucket_at w.first (tick w + 1) 1 ≤ bucket_at j (tick w + 1) 1
  first_lowest j m fast =
      elim (placed m) [
        | is_steeper h ↦
            le_trans past (le_of_lt (below_steep (n.useful _ before_inside) m first_inside h turns (tick w + 1) past))
        | is_before e ↦ le_trans past (le_of_eq (sym (same_bucket_at _ _ e)))
        | is_first e ↦ le_of_eq (sym (same_bucket_at _ _ e))
        | is_flatter h ↦ absurd (omega (arith, w.flat))
      ]
    where
      reaches : rise w < rise w / fall w * fall w + fall w
      reaches = lt-div-mul-add (omega (arith, turns))

      past : bucket_at w.first (tick w + 1) 1 ≤ bucket_at w.before (tick w + 1) 1
      past = not_above (λ h. omega (arith, before_if_below crosses (tick w + 1) 1 h, reaches))

  -- so the value is had there by a bucket of rate at least R,
  steep_there : (r : Reached f (tick w) 1) × (rate ≤ r.bucket.rate)
  steep_there =
      had_by_one (λ j. rate ≤ j.rate) (λ j. j.rate < rate) (λ j. le_or_lt rate j.rate) n.some before_inside
      (le_of_lt before_steep) (λ j m h. before_lowest j m (le_of_lt h))

  -- and at the tick after by one of rate at most R
  flat_next : (r : Reached f (tick w + 1) 1) × (r.bucket.rate ≤ rate)
  flat_next =
      had_by_one (λ j. j.rate ≤ rate) (λ j. rate < j.rate) (λ j. le_or_lt j.rate rate) n.some first_inside
      w.flat first_lowest

  -- and the greatest is at one of the two
  turn_reached : AtOrAfter f rate (excess_at f rate (tick w)) (tick w)
  turn_reached = turning_reached steep_there.0 flat_next.0 steep_there.1 flat_next.1

  pub turn_excess : Excess f rate (excess_at f rate (tick w))
  turn_excess = turning steep_there.0 flat_next.0 steep_there.1 flat_next.1

-- the search for the first bucket of rate at most R, past some that are above R, ends at one
find_turn :
    {f : List Bucket} (rate : ℕ) (passed : List Bucket) (before : Bucket) (rest : List Bucket) → f ≡ passed ++ before ∷ rest
    → ((j : Bucket) → j ∈ (passed ++ before ∷ []) → rate < j.rate) → (last (before ∷ rest)).rate ≤ rate
    → (w : Turn f rate) × (excess_from f rate before rest ≡ excess_at f rate (tick w))
unfolding last excess_from
find_turn rate passed before [] e steep slow =
    absurd (omega (arith, steep before (Memᴰ.append_right passed (Memᴰ.head refl))))
find_turn rate passed before (k ∷ g) e steep slow =
    elim (le_or_lt k.rate rate) [
      | inl h ↦ (
        record { passed = passed; before = before; first = k; rest = g; whole = e; steeper = steep; flat = h },
        rw (le-leb k.rate rate h),
      )
      | inr h ↦
          rw (lt-leb k.rate rate h)
          (find_turn rate (passed ++ before ∷ []) k g (e ∙ sym (append_snoc passed before (k ∷ g)))
          (append_each {r = k ∷ []} steep (λ j n. omega (arith, same_rate (Memᴰ.eq_of_singleton n)))) slow)
    ]

-- Where the first bucket's rate is at most R, and rates fall, tick 0 has the greatest.
module _ {k : Bucket} {g : List Bucket} {rate : ℕ} (n : NormalForm (k ∷ g)) (slow : k.rate ≤ rate) where
  -- the first bucket has what is read at 0
  first_has : Reached (k ∷ g) 0 1
  unfolding bucket_at
  first_has =
      record {
        bucket = k;
        inside = Memᴰ.head refl;
        value_is = value_unique (k ∷ g) 0 1 (λ j i. omega (arith, (first_burst n).smallest j i)) (Memᴰ.head refl) refl;
      }

  start_value : reads (k ∷ g) 0 ≡ k.burst
  unfolding reads bucket_at first_has
  start_value = omega (arith, first_has.value_is)

  pub starting_excess : Excess (k ∷ g) rate k.burst
  unfolding first_has
  starting_excess =
      record {
        at = 0;
        reached = omega (arith, start_value);
        greatest = λ u. omega (arith, start_value, falls_from first_has slow u (omega arith));
      }

-- Which of the two it is, and what is computed then.
data Kind (rate : ℕ) : List Bucket → Type 0 where
  starts : {k : Bucket} {g : List Bucket} → k.rate ≤ rate → excess (k ∷ g) rate ≡ k.burst → Kind rate (k ∷ g)
  turns_at : {f : List Bucket} (w : Turn f rate) → excess f rate ≡ excess_at f rate (tick w) → Kind rate f

kind : (f : List Bucket) (rate : ℕ) → 1 ≤ length f → (last f).rate ≤ rate → Kind rate f
unfolding excess
kind [] rate some slow = absurd (omega arith)
kind (k ∷ g) rate some slow =
    elim (le_or_lt k.rate rate) [
      | inl h ↦ starts {k = k} {g = g} h (rw (le-leb k.rate rate h))
      | inr h ↦
          let t = find_turn rate [] k g refl (λ j m. rw (Memᴰ.eq_of_singleton m) h) slow in
          turns_at t.0 (rw (lt-leb k.rate rate h) t.1)
    ]

-- the greatest of reads(s) - R·s exists where the last rate is at most R, and the computed number is it
pub excess_is : {f : List Bucket} (rate : ℕ) → NormalForm f → (last f).rate ≤ rate → Excess f rate (excess f rate)
excess_is {f} rate n slow = cases n (kind f rate n.some slow)
  where
    cases : {f : List Bucket} → NormalForm f → Kind rate f → Excess f rate (excess f rate)
    cases n (starts h e) = rw e (starting_excess n h)
    cases n (turns_at w e) = rw e (turn_excess n w)

-- a curve that has an excess for a rate has a bucket of at most that rate: at a late tick no other is that low
pub slow_bucket : {f : List Bucket} {rate m : ℕ} → 1 ≤ length f → Excess f rate m → (k : Bucket) × (k ∈ f) × (k.rate ≤ rate)
unfolding reads bucket_at
slow_bucket {f} {rate} {m} some e =
    let r = value_reached f (suc m) 1 some in (
      r.bucket,
      r.inside,
      not_above (λ h. omega (arith, r.value_is, e.greatest (suc m), mul-le-mul_right (suc m) h)),
    )

-- in normal form that is the last, so its rate is at most that rate
pub excess_bounded : {f : List Bucket} {rate m : ℕ} → NormalForm f → Excess f rate m → (last f).rate ≤ rate
excess_bounded {f} n e = let k = slow_bucket n.some e in le_trans (last_slowest f n.falling k.1) k.2

-- The bucket numbered k, buckets counted from 1.
abbrev pub numbered : List Bucket → ℕ → Bucket
numbered f k = get_or f (k - 1) (record { rate = 0; burst = 0 })

-- The bucket numbered k is the first of rate at most R, it is not the first of all, and its crossing is at p/q.
-- The greatest difference m is reached at the whole tick up to the crossing, or at the tick after.
pub record AtCrossing (f : List Bucket) (rate m : ℕ) : Type 0 where
  pub k : ℕ
  pub not_first : 1 < k
  pub inside : k ≤ length f
  pub steeper : (j : Bucket) → j ∈ take (k - 1) f → rate < j.rate
  pub flat : (numbered f k).rate ≤ rate
  pub p : ℕ
  pub q : ℕ
  pub q_positive : 0 < q
  pub crossing : Crossing f k p q
  pub reached : AtOrAfter f rate m (p / q)

-- Where the greatest difference is reached: at tick 0 if the first bucket's rate is at most R, and else at the crossing.
pub data ReachedAt (f : List Bucket) (rate m : ℕ) : Type 0 where
  at_start : (numbered f 1).rate ≤ rate → reads f 0 ≡ m → ReachedAt f rate m
  at_crossing : AtCrossing f rate m → ReachedAt f rate m

-- The two neighbours by their numbers.
module _ {f : List Bucket} {rate : ℕ} (w : Turn f rate) where
  regrouped : f ≡ (w.passed ++ w.before ∷ []) ++ w.first ∷ w.rest
  regrouped = w.whole ∙ sym (append_snoc w.passed w.before (w.first ∷ w.rest))

  before_length : length (w.passed ++ w.before ∷ []) ≡ length w.passed + 1
  before_length = simp length-append

  before_at : numbered f (length w.passed + 2 - 1) ≡ w.before
  before_at = rw w.whole (get_or_at w.passed _ _ _ _ (omega arith))

  first_at : numbered f (length w.passed + 2) ≡ w.first
  first_at = rw regrouped (get_or_at (w.passed ++ w.before ∷ []) _ _ _ _ (omega (arith, before_length)))

  taken : take (length w.passed + 2 - 1) f ≡ w.passed ++ w.before ∷ []
  taken = rw regrouped (take_at (w.passed ++ w.before ∷ []) _ (length w.passed + 2 - 1) (omega (arith, before_length)))

  enough : length w.passed + 2 ≤ length f
  enough = rw regrouped (simp length-append (omega (arith, before_length)))

-- together they say where the crossing is
at_turn :
    {f : List Bucket} {rate m : ℕ} (n : NormalForm f) (w : Turn f rate) → excess_at f rate (tick w) ≡ m → AtCrossing f rate m
at_turn {f} {rate} {m} n w e =
    record {
      k = length w.passed + 2;
      not_first = omega arith;
      inside = enough w;
      steeper = λ j i. w.steeper j (rw (taken w) at i);
      flat = rw (first_at w) w.flat;
      p = rise w;
      q = fall w;
      q_positive = omega (arith, turns n w);
      crossing =
          record {
            from_second = omega arith;
            inside = enough w;
            q_positive = omega (arith, turns n w);
            meets =
                same_bucket_at _ _ (before_at w)
                ∙ (meet_at (crosses n w) (rise w) (fall w)).1 (omega arith)
                ∙ sym (same_bucket_at _ _ (first_at w));
          };
      reached = rw (← e) (turn_reached n w);
    }

-- the greatest difference is reached where it is said
pub excess_reached : {f : List Bucket} {rate m : ℕ} → NormalForm f → (last f).rate ≤ rate → Excess f rate m → ReachedAt f rate m
excess_reached {f} {rate} n slow e = cases n e (kind f rate n.some slow)
  where
    cases : {f : List Bucket} {m : ℕ} → NormalForm f → Excess f rate m → Kind rate f → ReachedAt f rate m
    cases n e (starts h e') = at_start h (start_value n h ∙ gap_unique (starting_excess n h) e)
    cases n e (turns_at w e') = at_crossing (at_turn n w (gap_unique (turn_excess n w) e))
