-- Where a sum turns: a curve turns at a time if two of its neighbours cross there, and the sum of two curves in normal form turns exactly
-- where one of the two does.
-- Assumes nothing.
use mathlib.Core.Path.{◌≡◌, refl, ap, subst}
use mathlib.Core.Logic.{◌⊎◌, inl, inr, ◌↔◌}
use mathlib.Core.Bool.{true}
use mathlib.Core.List.{List, [], ◌∷◌}
use Prim.Native.Nat.{ℕ, zero, suc, ◌-◌, ◌*◌, ◌<◌}
use native.Mathlib.Nat.{le_of_eq, eq_of_mul-eq-mul_left}
use native.Mathlib.Numerals.{unary_clauses}
use native.Mathlib.Omega.{arith}
use Rattle.meaning.specs.Curve.{Bucket, bucket_at, NormalForm, Crossing, added, Sum}
use Rattle.meaning.specs.Computed.{crossings_rise, is_normal, sum_after, merged_sum}
use Rattle.meaning.proofs.Curve.Unique.{normal_of_unique}
use Rattle.meaning.proofs.Curve.Neighbours.{Meet, meet_at, Step, step_of, step_meet, neighbours_complete}
use Rattle.meaning.proofs.Curve.Curves.{added_at}
use Rattle.meaning.proofs.Curve.Merging.{by_crossing, rising_after, rising_earlier, meet_both, merged_sum_lem}

-- A curve turns at p/q: one of its crossings is there.
abbrev pub Turns : List Bucket → ℕ → ℕ → Type 0
Turns f p q = (k : ℕ) × Crossing f k p q

-- The same from a bucket on: it crosses the next there, or one of those after it does.
TurnsFrom : Bucket → List Bucket → ℕ → ℕ → Type 0
TurnsFrom k [] p q = ⊥
TurnsFrom k (l ∷ f) p q = (bucket_at k p q ≡ bucket_at l p q) ⊎ TurnsFrom l f p q

-- a crossing from the second bucket on is one of the list with another before it
crossing_behind : {k : Bucket} {f : List Bucket} {p q : ℕ} → Turns f p q → Turns (k ∷ f) p q
crossing_behind {k} {f} (suc zero, c) = absurd (omega (arith, c.from_second))
crossing_behind {k} {f} (zero, c) = absurd (omega (arith, c.from_second))
crossing_behind {k} {f} (suc (suc n), c) = (
  suc (suc (suc n)),
  record {
    from_second = omega arith;
    inside = omega (arith, c.inside);
    q_positive = c.q_positive;
    meets = simp unary_clauses (simp unary_clauses at c.meets);
  },
)

turns_to : (k : Bucket) (f : List Bucket) {p q : ℕ} → 0 < q → TurnsFrom k f p q → Turns (k ∷ f) p q
unfolding TurnsFrom
turns_to k [] hq h = absurd h
turns_to k (l ∷ f) hq (inl e) = (2, record { from_second = omega arith; inside = omega arith; q_positive = hq; meets = e })
turns_to k (l ∷ f) hq (inr t) = crossing_behind (turns_to l f hq t)

turns_of : (k : Bucket) (f : List Bucket) {p q : ℕ} (n : ℕ) → Crossing (k ∷ f) n p q → TurnsFrom k f p q
unfolding TurnsFrom
turns_of k f zero c = absurd (omega (arith, c.from_second))
turns_of k f (suc zero) c = absurd (omega (arith, c.from_second))
turns_of k [] (suc (suc n)) c = absurd (omega (arith, c.inside))
turns_of k (l ∷ f) (suc (suc zero)) c = inl c.meets
turns_of k (l ∷ f) (suc (suc (suc n))) c =
    inr
    (turns_of l f (suc (suc n))
    (record {
      from_second = omega arith;
      inside = omega (arith, c.inside);
      q_positive = c.q_positive;
      meets = simp unary_clauses (simp unary_clauses at c.meets);
    }))

-- ---- Two curves merged.

-- a bucket added to both leaves two buckets' crossing where it is
added_first : (k l j : Bucket) (p q : ℕ) → (bucket_at (added k j) p q ≡ bucket_at (added l j) p q) ↔ (bucket_at k p q ≡ bucket_at l p q)
added_first k l j p q =
    (λ e. omega (arith, added_at k j p q, added_at l j p q), λ e. omega (arith, added_at k j p q, added_at l j p q))

added_second : (k j i : Bucket) (p q : ℕ) → (bucket_at (added k j) p q ≡ bucket_at (added k i) p q) ↔ (bucket_at j p q ≡ bucket_at i p q)
added_second k j i p q =
    (λ e. omega (arith, added_at k j p q, added_at k i p q), λ e. omega (arith, added_at k j p q, added_at k i p q))

-- two that meet at u/v and two that meet at u'/v', where that is one time, have one value at the same times
met_together :
    {k l j i : Bucket} {u v u' v' : ℕ} → Meet k l u v → Meet j i u' v' → 0 < v → u * v' ≡ u' * v → (p q : ℕ)
    → bucket_at k p q ≡ bucket_at l p q → bucket_at j p q ≡ bucket_at i p q
met_together {v = v} {v' = v'} c d some e p q h =
    (meet_at d p q).1
    (eq_of_mul-eq-mul_left v some _ _ (omega (arith, ap (λ (n : ℕ). n * q) e, ap (λ (n : ℕ). v' * n) ((meet_at c p q).0 h))))

-- Two neighbours of each list, whose crossings come together:
module _
    {k l j i : Bucket} {f g : List Bucket} {x y : ℕ} (s : Step k x y l f) (t : Step j x y i g)
    (e : (l.burst - k.burst) * (j.rate - i.rate) ≡ (i.burst - j.burst) * (k.rate - l.rate)) (p q : ℕ)
  where
    falls : 0 < k.rate - l.rate
    falls = omega (arith, s.falls)

    -- where the sums have one value, the two of each list have
    first_with_both : (bucket_at (added k j) p q ≡ bucket_at (added l i) p q) ↔ (bucket_at k p q ≡ bucket_at l p q)
    first_with_both = (
      met_together (meet_both (step_meet s) (step_meet t)) (step_meet s) (omega (arith, falls)) (omega (arith, e)) p q,
      met_together (step_meet s) (meet_both (step_meet s) (step_meet t)) falls (omega (arith, e)) p q,
    )

    second_with_both : (bucket_at (added k j) p q ≡ bucket_at (added l i) p q) ↔ (bucket_at j p q ≡ bucket_at i p q)
    second_with_both = (
      met_together (meet_both (step_meet s) (step_meet t)) (step_meet t) (omega (arith, falls)) (omega (arith, e)) p q,
      met_together (step_meet t) (meet_both (step_meet s) (step_meet t)) (omega (arith, t.falls)) (omega (arith, e)) p q,
    )

-- Where a step is in the first list, its turn is the first's; in the second list, the second's; in both, of either.
module _ {A B R T S : Type 0} where
  once_first : (A ↔ B) → (R ↔ (T ⊎ S)) → (A ⊎ R) ↔ ((B ⊎ T) ⊎ S)
  once_first turn rest = (
    λ w. elim w [ inl a ↦ inl (inl (turn.0 a)) | inr r ↦ elim (rest.0 r) [ inl t ↦ inl (inr t) | inr s ↦ inr s ] ],
    λ w. elim w [ inl (inl b) ↦ inl (turn.1 b) | inl (inr t) ↦ inr (rest.1 (inl t)) | inr s ↦ inr (rest.1 (inr s)) ],
  )

  once_second : (A ↔ B) → (R ↔ (T ⊎ S)) → (A ⊎ R) ↔ (T ⊎ (B ⊎ S))
  once_second turn rest = (
    λ w. elim w [ inl a ↦ inr (inl (turn.0 a)) | inr r ↦ elim (rest.0 r) [ inl t ↦ inl t | inr s ↦ inr (inr s) ] ],
    λ w. elim w [ inl t ↦ inr (rest.1 (inl t)) | inr (inl b) ↦ inl (turn.1 b) | inr (inr s) ↦ inr (rest.1 (inr s)) ],
  )

  once_both : {B' : Type 0} → (A ↔ B) → (A ↔ B') → (R ↔ (T ⊎ S)) → (A ⊎ R) ↔ ((B ⊎ T) ⊎ (B' ⊎ S))
  once_both turn turn' rest = (
    λ w. elim w [ inl a ↦ inl (inl (turn.0 a)) | inr r ↦ elim (rest.0 r) [ inl t ↦ inl (inr t) | inr s ↦ inr (inr s) ] ],
    λ w.
        elim w [
          | inl (inl b) ↦ inl (turn.1 b)
          | inl (inr t) ↦ inr (rest.1 (inl t))
          | inr (inl b) ↦ inl (turn'.1 b)
          | inr (inr s) ↦ inr (rest.1 (inr s))
        ],
  )

-- the sum turns where one of the two does, from two buckets on
sum_turns_from :
    (k : Bucket) (f : List Bucket) (j : Bucket) (g : List Bucket) (x y : ℕ) → crossings_rise k x y f ≡ true
    → crossings_rise j x y g ≡ true → (p q : ℕ)
    → TurnsFrom (added k j) (sum_after k f j g) p q ↔ (TurnsFrom k f p q ⊎ TurnsFrom j g p q)
unfolding TurnsFrom crossings_rise sum_after
sum_turns_from k [] j [] x y h h' p q = (λ t. absurd t, λ t. elim t [ inl a ↦ a | inr b ↦ b ])
sum_turns_from k (l ∷ f) j [] x y h h' p q =
    let s = step_of k x y l f h in
    once_first (added_first k l j p q) (sum_turns_from l f j [] _ _ s.rest refl p q)
sum_turns_from k [] j (i ∷ g) x y h h' p q =
    let t = step_of j x y i g h' in
    once_second (added_second k j i p q) (sum_turns_from k [] i g _ _ refl t.rest p q)
sum_turns_from k (l ∷ f) j (i ∷ g) x y h h' p q =
    let s = step_of k x y l f h in
    let t = step_of j x y i g h' in
    by_crossing
    (λ (r : List Bucket). TurnsFrom (added k j) r p q ↔ (TurnsFrom k (l ∷ f) p q ⊎ TurnsFrom j (i ∷ g) p q)) k l f j i g
    (λ before. once_first (added_first k l j p q) (sum_turns_from l f j (i ∷ g) _ _ s.rest (rising_after _ _ t before) p q))
    (λ before. once_second (added_second k j i p q) (sum_turns_from k (l ∷ f) i g _ _ (rising_after _ _ s before) t.rest p q))
    (λ e.
    once_both (first_with_both s t e p q) (second_with_both s t e p q)
    (sum_turns_from l f i g _ _ s.rest (rising_earlier g i _ _ _ _ (falls s t e p q) t.rest (le_of_eq e)) p q))

-- ---- The law.

-- the sum of two curves in normal form turns exactly where one of the two does
pub sum_turns :
    (f g : List Bucket) {h : List Bucket} → NormalForm f → NormalForm g → Sum f g h → (p q : ℕ) → 0 < q
    → Turns h p q ↔ (Turns f p q ⊎ Turns g p q)
unfolding is_normal merged_sum
sum_turns [] g n n' s p q hq = absurd (omega (arith, n.some))
sum_turns (k ∷ f) [] n n' s p q hq = absurd (omega (arith, n'.some))
sum_turns (k ∷ f) (j ∷ g) {h} n n' s p q hq =
    subst (λ (r : List Bucket). Turns r p q ↔ (Turns (k ∷ f) p q ⊎ Turns (j ∷ g) p q)) same (to, back)
  where
    same : merged_sum (k ∷ f) (j ∷ g) ≡ h
    same = normal_of_unique (merged_sum_lem (k ∷ f) (j ∷ g) n n') s

    from : TurnsFrom (added k j) (sum_after k f j g) p q ↔ (TurnsFrom k f p q ⊎ TurnsFrom j g p q)
    from = sum_turns_from k f j g 0 1 (neighbours_complete (k ∷ f) n) (neighbours_complete (j ∷ g) n') p q

    to : Turns (merged_sum (k ∷ f) (j ∷ g)) p q → Turns (k ∷ f) p q ⊎ Turns (j ∷ g) p q
    to (m, c) =
        elim (from.0 (turns_of (added k j) (sum_after k f j g) m c)) [ inl a ↦ inl (turns_to k f hq a) | inr b ↦ inr (turns_to j g hq b) ]

    back : Turns (k ∷ f) p q ⊎ Turns (j ∷ g) p q → Turns (merged_sum (k ∷ f) (j ∷ g)) p q
    back (inl (m, c)) = turns_to (added k j) (sum_after k f j g) hq (from.1 (inl (turns_of k f m c)))
    back (inr (m, c)) = turns_to (added k j) (sum_after k f j g) hq (from.1 (inr (turns_of j g m c)))
