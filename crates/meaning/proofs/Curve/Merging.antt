-- The sum by merging. Two curves in normal form are walked once, from crossing to crossing, and each bucket on the way is the sum of
-- the two that are lowest there. Its crossings are those of the two curves, so they rise as theirs do: by the neighbours' test it is in
-- normal form. And at every time it has the two lowest buckets added, so it is the sum.
-- Assumes nothing.
use mathlib.Core.Path.{◌≡◌, refl, sym, ◌∙◌, ap₂}
use mathlib.Core.Logic.{inl, inr}
use mathlib.Core.Bool.{Bool, true, false, cond}
use mathlib.Core.List.Memᴰ
use mathlib.Core.List.{List, [], ◌∷◌}
use Prim.Native.Nat.{ℕ, ◌+◌, ◌-◌, ◌*◌, ◌≤◌, ◌<◌, min}
use native.Mathlib.Nat.{le_refl, le_of_lt, le_of_eq, min-eq_left, le_antisymm, lt_of_mul-lt-mul_left, mul-le-mul_left, mul-lt-mul_of_pos_left}
use native.Mathlib.Omega.{arith}
use borrow.Author.Tests.{ltb-true, ltb-false}
use lib.ListN.{length}
use Rattle.meaning.specs.Curve.{Bucket, bucket_at, value_at, NormalForm, numbered, added, Sum}
use Rattle.meaning.specs.Server.{last}
use Rattle.meaning.specs.Computed.{crossings_rise, is_normal, crosses_before, sum_after, merged_sum}
use Rattle.meaning.proofs.Order.{le_or_lt}
use Rattle.meaning.proofs.Curve.Value.{value_least, below_value, value_one, value_more}
use Rattle.meaning.proofs.Curve.Neighbours.{earlier_trans, Meet, before_if_below, Step, step_of, step_to, step_meet, step_below, rising_below, neighbours_sound, neighbours_complete}
use Rattle.meaning.proofs.Curve.Curves.{added_at, value_pairs}

-- ---- Which crossing comes first.

-- the three ways on: the first curve's crossing comes first, the second's does, or they come together
pub by_crossing :
    (P : List Bucket → Type 0) (k l : Bucket) (f : List Bucket) (j i : Bucket) (g : List Bucket)
    → ((l.burst - k.burst) * (j.rate - i.rate) < (i.burst - j.burst) * (k.rate - l.rate)
    → P (added l j ∷ sum_after l f j (i ∷ g)))
    → ((i.burst - j.burst) * (k.rate - l.rate) < (l.burst - k.burst) * (j.rate - i.rate)
    → P (added k i ∷ sum_after k (l ∷ f) i g))
    → ((l.burst - k.burst) * (j.rate - i.rate) ≡ (i.burst - j.burst) * (k.rate - l.rate)
    → P (added l i ∷ sum_after l f i g))
    → P (sum_after k (l ∷ f) j (i ∷ g))
unfolding sum_after crosses_before
by_crossing P k l f j i g before after together = split _ _ refl refl
  where
    split :
        (t s : Bool) → crosses_before k l j i ≡ t → crosses_before j i k l ≡ s
        → P (cond t (added l j ∷ sum_after l f j (i ∷ g)) (cond s (added k i ∷ sum_after k (l ∷ f) i g) (added l i ∷ sum_after l f i g)))
    split true s e d = before (ltb-true _ _ e)
    split false true e d = after (ltb-true _ _ d)
    split false false e d = together (le_antisymm (ltb-false _ _ d) (ltb-false _ _ e))

-- ---- The crossings rise.

-- crossings that come after a time come after every earlier one
pub rising_earlier :
    (f : List Bucket) (k : Bucket) (p q x y : ℕ) → 0 < q → crossings_rise k x y f ≡ true → p * y ≤ x * q
    → crossings_rise k p q f ≡ true
unfolding crossings_rise
rising_earlier [] k p q x y hq h early = refl
rising_earlier (j ∷ f) k p q x y hq h early =
    let s = step_of k x y j f h in
    step_to k p q j f (record { falls = s.falls; later = earlier_trans p q x y _ _ hq early s.later; rest = s.rest })

-- one bucket more, that the first meets at u/v
rising_met :
    {k j : Bucket} {u v : ℕ} (x y : ℕ) (f : List Bucket) → Meet k j u v → 0 < v → x * v < u * y → crossings_rise j u v f ≡ true
    → crossings_rise k x y (j ∷ f) ≡ true
rising_met {k} {j} {u} {v} x y f c positive later rest =
    let rise : j.burst - k.burst ≡ u = omega (arith, c.bursts) in
    let fall : k.rate - j.rate ≡ v = omega (arith, c.rates) in
    step_to k x y j f (record { falls = omega (arith, c.rates); later = rw (rise, fall) later; rest = rw (rise, fall) rest })

-- crossings that rise, the first of which comes after another time
pub rising_after :
    {j i : Bucket} {g : List Bucket} {x y : ℕ} (u v : ℕ) → Step j x y i g → u * (j.rate - i.rate) < (i.burst - j.burst) * v
    → crossings_rise j u v (i ∷ g) ≡ true
rising_after u v t later = step_to _ u v _ _ (record { falls = t.falls; later = later; rest = t.rest })

-- a bucket added to two that meet: they meet when they did
meet_first : {k l : Bucket} {u v : ℕ} (j : Bucket) → Meet k l u v → Meet (added k j) (added l j) u v
unfolding added
meet_first j c = record { rates = omega (arith, c.rates); bursts = omega (arith, c.bursts) }

meet_second : {j i : Bucket} {u v : ℕ} (k : Bucket) → Meet j i u v → Meet (added k j) (added k i) u v
unfolding added
meet_second k c = record { rates = omega (arith, c.rates); bursts = omega (arith, c.bursts) }

-- two that meet added to two that meet
pub meet_both :
    {k l j i : Bucket} {u v u' v' : ℕ} → Meet k l u v → Meet j i u' v' → Meet (added k j) (added l i) (u + u') (v + v')
unfolding added
meet_both c d = record { rates = omega (arith, c.rates, d.rates); bursts = omega (arith, c.bursts, d.bursts) }

-- the crossings of the sum rise
sum_rising :
    (k : Bucket) (f : List Bucket) (j : Bucket) (g : List Bucket) (x y : ℕ) → crossings_rise k x y f ≡ true
    → crossings_rise j x y g ≡ true → crossings_rise (added k j) x y (sum_after k f j g) ≡ true
unfolding crossings_rise sum_after
sum_rising k [] j [] x y h h' = refl
sum_rising k (l ∷ f) j [] x y h h' =
    let s = step_of k x y l f h in
    rising_met x y (sum_after l f j []) (meet_first j (step_meet s)) (omega (arith, s.falls)) s.later (sum_rising l f j [] _ _ s.rest refl)
sum_rising k [] j (i ∷ g) x y h h' =
    let t = step_of j x y i g h' in
    rising_met x y (sum_after k [] i g) (meet_second k (step_meet t)) (omega (arith, t.falls)) t.later (sum_rising k [] i g _ _ refl t.rest)
sum_rising k (l ∷ f) j (i ∷ g) x y h h' =
    let s = step_of k x y l f h in
    let t = step_of j x y i g h' in
    let x' : ℕ = l.burst - k.burst + (i.burst - j.burst) in
    let y' : ℕ = k.rate - l.rate + (j.rate - i.rate) in
    let some : 0 < y' = omega (arith, s.falls) in
    by_crossing (λ (r : List Bucket). crossings_rise (added k j) x y r ≡ true) k l f j i g
    (λ before.
    rising_met x y (sum_after l f j (i ∷ g)) (meet_first j (step_meet s)) (omega (arith, s.falls)) s.later
    (sum_rising l f j (i ∷ g) _ _ s.rest (rising_after _ _ t before)))
    (λ before.
    rising_met x y (sum_after k (l ∷ f) i g) (meet_second k (step_meet t)) (omega (arith, t.falls)) t.later
    (sum_rising k (l ∷ f) i g _ _ (rising_after _ _ s before) t.rest))
    (λ e.
    rising_met x y (sum_after l f i g) (meet_both (step_meet s) (step_meet t)) some (omega (arith, s.later, t.later))
    (sum_rising l f i g x' y' (rising_earlier f l x' y' _ _ some s.rest (omega arith))
    (rising_earlier g i x' y' _ _ some t.rest (omega arith))))

-- ---- Its value is the sum.

-- where one curve's crossing comes no later than the other's, and the one has not come to its own, nor has the other
below_too :
    {k l j i : Bucket} {f g : List Bucket} {x y : ℕ} → Step k x y l f → Step j x y i g
    → (l.burst - k.burst) * (j.rate - i.rate) ≤ (i.burst - j.burst) * (k.rate - l.rate) → (p q : ℕ) → 0 < q
    → bucket_at k p q < value_at (l ∷ f) p q → bucket_at j p q ≤ value_at (i ∷ g) p q
below_too {k} {l} {j} {i} {f} {g} s t order p q hq below =
    below_value (i ∷ g) p q
    (λ m n. le_of_lt (step_below t p q before (rising_below g i _ _ p q hq t.rest (le_of_lt before)) m n)) (omega arith)
  where
    first : p * (k.rate - l.rate) < (l.burst - k.burst) * q
    first =
        before_if_below (step_meet s) p q (omega (arith, below, value_least (l ∷ f) p q {k = l} (Memᴰ.head refl)))

    some : 0 < j.rate - i.rate
    some = omega (arith, t.falls)

    before : p * (j.rate - i.rate) < (i.burst - j.burst) * q
    before =
        lt_of_mul-lt-mul_left (k.rate - l.rate)
        (omega (arith, mul-lt-mul_of_pos_left first some, mul-le-mul_left q order))

-- A step of the walk in numbers: a and c are what the buckets at hand let through, b and d what those behind them do, A and B the curves.
module _ {sum a b c d A B : ℕ} (first : A ≡ min a b) (second : B ≡ min c d) where
  -- a step in the first list, where the second is at its lowest,
  step_first : sum ≡ min (a + c) (b + B) → (a < b → c ≤ d) → sum ≡ A + B
  step_first e h = elim (le_or_lt b a) [ inl l ↦ omega arith | inr l ↦ omega (arith, h l) ]

  -- in the second list, where the first is,
  step_second : sum ≡ min (a + c) (A + d) → (c < d → a ≤ b) → sum ≡ A + B
  step_second e h = elim (le_or_lt d c) [ inl l ↦ omega arith | inr l ↦ omega (arith, h l) ]

  -- or in both, which go on together
  step_both : sum ≡ min (a + c) (b + d) → (a < b → c ≤ d) → (c < d → a ≤ b) → sum ≡ A + B
  step_both e h h' =
      elim (le_or_lt b a) [
        | inl l ↦ elim (le_or_lt d c) [ inl m ↦ omega arith | inr m ↦ omega (arith, h' m) ]
        | inr l ↦ omega (arith, h l)
      ]

-- what the sum lets through is what the two let through
sum_after_value :
    (k : Bucket) (f : List Bucket) (j : Bucket) (g : List Bucket) (x y : ℕ) → crossings_rise k x y f ≡ true
    → crossings_rise j x y g ≡ true → (p q : ℕ) → 0 < q
    → value_at (added k j ∷ sum_after k f j g) p q ≡ value_at (k ∷ f) p q + value_at (j ∷ g) p q
unfolding crossings_rise sum_after
sum_after_value k [] j [] x y h h' p q hq =
    value_one (added k j) p q ∙ added_at k j p q ∙ sym (ap₂ ◌+◌ (value_one k p q) (value_one j p q))
sum_after_value k (l ∷ f) j [] x y h h' p q hq =
    let s = step_of k x y l f h in
    step_first (value_more k l f p q) (value_one j p q ∙ sym (min-eq_left (le_refl _)))
    (value_more (added k j) (added l j) _ p q
    ∙ ap₂ min (added_at k j p q) (sum_after_value l f j [] _ _ s.rest refl p q hq))
    (λ below. le_refl _)
sum_after_value k [] j (i ∷ g) x y h h' p q hq =
    let t = step_of j x y i g h' in
    step_second (value_one k p q ∙ sym (min-eq_left (le_refl _))) (value_more j i g p q)
    (value_more (added k j) (added k i) _ p q
    ∙ ap₂ min (added_at k j p q) (sum_after_value k [] i g _ _ refl t.rest p q hq))
    (λ below. le_refl _)
sum_after_value k (l ∷ f) j (i ∷ g) x y h h' p q hq =
    let s = step_of k x y l f h in
    let t = step_of j x y i g h' in
    by_crossing
    (λ (r : List Bucket). value_at (added k j ∷ r) p q ≡ value_at (k ∷ l ∷ f) p q + value_at (j ∷ i ∷ g) p q) k l f j i g
    (λ before.
    step_first (value_more k l f p q) (value_more j i g p q)
    (value_more (added k j) (added l j) _ p q
    ∙ ap₂ min (added_at k j p q) (sum_after_value l f j (i ∷ g) _ _ s.rest (rising_after _ _ t before) p q hq))
    (below_too s t (le_of_lt before) p q hq))
    (λ before.
    step_second (value_more k l f p q) (value_more j i g p q)
    (value_more (added k j) (added k i) _ p q
    ∙ ap₂ min (added_at k j p q) (sum_after_value k (l ∷ f) i g _ _ (rising_after _ _ s before) t.rest p q hq))
    (below_too t s (le_of_lt before) p q hq))
    (λ e.
    step_both (value_more k l f p q) (value_more j i g p q)
    (value_more (added k j) (added l i) _ p q
    ∙ ap₂ min (added_at k j p q)
    (sum_after_value l f i g _ _ s.rest (rising_earlier g i _ _ _ _ (omega (arith, s.falls)) t.rest (le_of_eq e)) p q hq))
    (below_too s t (le_of_eq e) p q hq) (below_too t s (le_of_eq (sym e)) p q hq))

-- ---- The law.

-- two curves in normal form, merged so, are their sum
pub merged_sum_lem : (f g : List Bucket) → NormalForm f → NormalForm g → Sum f g (merged_sum f g)
unfolding merged_sum is_normal
merged_sum_lem [] g n n' = absurd (omega (arith, n.some))
merged_sum_lem (k ∷ f) [] n n' = absurd (omega (arith, n'.some))
merged_sum_lem (k ∷ f) (j ∷ g) n n' =
    let h = neighbours_complete (k ∷ f) n in
    let h' = neighbours_complete (j ∷ g) n' in
    record {
      form = neighbours_sound _ (sum_rising k f j g 0 1 h h');
      same = λ p q hq.
          value_pairs (k ∷ f) (j ∷ g) p q (omega arith) (omega arith) ∙ sym (sum_after_value k f j g 0 1 h h' p q hq);
    }

-- ---- Its size.

-- after the first there are at most as many as are left of both
after_count : (k : Bucket) (f : List Bucket) (j : Bucket) (g : List Bucket) → length (sum_after k f j g) ≤ length f + length g
unfolding sum_after
after_count k [] j [] = omega arith
after_count k (l ∷ f) j [] = omega (arith, after_count l f j [])
after_count k [] j (i ∷ g) = omega (arith, after_count k [] i g)
after_count k (l ∷ f) j (i ∷ g) =
    by_crossing (λ (r : List Bucket). length r ≤ length (l ∷ f) + length (i ∷ g)) k l f j i g
    (λ before. omega (arith, after_count l f j (i ∷ g)))
    (λ before. omega (arith, after_count k (l ∷ f) i g))
    (λ e. omega (arith, after_count l f i g))

-- in the end the two last are added
after_last :
    (k : Bucket) (f : List Bucket) (j : Bucket) (g : List Bucket)
    → last (added k j ∷ sum_after k f j g) ≡ added (last (k ∷ f)) (last (j ∷ g))
unfolding sum_after last
after_last k [] j [] = refl
after_last k (l ∷ f) j [] = after_last l f j []
after_last k [] j (i ∷ g) = after_last k [] i g
after_last k (l ∷ f) j (i ∷ g) =
    by_crossing (λ (r : List Bucket). last (added k j ∷ r) ≡ added (last (l ∷ f)) (last (i ∷ g))) k l f j i g
    (λ before. after_last l f j (i ∷ g))
    (λ before. after_last k (l ∷ f) i g)
    (λ e. after_last l f i g)

-- the sum has fewer buckets than the two together,
pub merged_count : (f g : List Bucket) → 1 ≤ length f → 1 ≤ length g → length (merged_sum f g) < length f + length g
unfolding merged_sum
merged_count [] g h h' = absurd (omega arith)
merged_count (k ∷ f) [] h h' = absurd (omega arith)
merged_count (k ∷ f) (j ∷ g) h h' = omega (arith, after_count k f j g)

-- its first is the two first added,
pub merged_first : (f g : List Bucket) → 1 ≤ length f → 1 ≤ length g → numbered (merged_sum f g) 1 ≡ added (numbered f 1) (numbered g 1)
unfolding merged_sum
merged_first [] g h h' = absurd (omega arith)
merged_first (k ∷ f) [] h h' = absurd (omega arith)
merged_first (k ∷ f) (j ∷ g) h h' = refl

-- and its last the two last
pub merged_last : (f g : List Bucket) → 1 ≤ length f → 1 ≤ length g → last (merged_sum f g) ≡ added (last f) (last g)
unfolding merged_sum
merged_last [] g h h' = absurd (omega arith)
merged_last (k ∷ f) [] h h' = absurd (omega arith)
merged_last (k ∷ f) (j ∷ g) h h' = after_last k f j g
