-- Hop by hop is one step: what stands behind two servers, one after the other, stands behind the joined server. So one step
-- through the joined server gives the same list, and so does the other order; and the joined server's delay is at most the
-- two hops' delays together. All of it is said over the definition of behind.
-- Behind the first server the curve is a cut, and behind the next a cut of that cut: a single cut, as follows. If the next
-- server is no slower, it leaves the curve as it is. If it is slower, its line meets the first curve no earlier than the
-- first server's line does: either at the first latency or later, and then the cut of the cut is the cut by its line;
-- or before that latency, and then the curve is below its line ever after, and both cuts are the curve itself.
-- Assumes nothing.
use mathlib.Core.Path.{◌≡◌, refl, sym, ◌∙◌, ap}
use mathlib.Core.Logic.{inl, inr}
use mathlib.Core.List.Memᴰ
use mathlib.Core.List.{List}
use Prim.Native.Nat.{ℕ, suc, zero, ◌*◌, ◌+◌, ◌-◌, ◌≤◌, ◌<◌, min}
use native.Mathlib.Nat.{le_trans, le_of_eq, le_of_lt, le-suc_iff, min-eq_left, min-eq_right, mul-le-mul_left, mul-le-mul_right}
use native.Mathlib.Omega.{arith}
use lib.ListN.{length}
use Rattle.meaning.specs.Curve.{Bucket, ◌∈◌, bucket_at, value_at, reads}
use Rattle.meaning.specs.Server.{RateLatency, Instant, by_rate, later, slower, join_rated, Excess, BehindRated, DelayRated}
use Rattle.meaning.proofs.Order.{le_or_lt, not_above, crosswise}
use Rattle.meaning.proofs.Curve.Value.{same_rate, value_least, value_reached, some, Reached}
use Rattle.meaning.proofs.Curve.Reads.{reads_rise}
use Rattle.meaning.proofs.Curve.Unique.{normal_inside, normal_of_unique}
use Rattle.meaning.proofs.Server.Excess.{gap_unique, NotAbove, falls_from, slow_bucket}
use Rattle.meaning.proofs.Server.Behind.{rated_behind_greatest}
use Rattle.meaning.proofs.Server.Cut.{cut_at, slower_from, cut_filled, by_line, by_slow, cut_line, cut_slow, cut_reached, cut_list, cut_list_lem, behind_cut, cut_early, cut_late, flatter_before, steeper_after}

-- n is the greatest of a(u) minus b(u) over the instants up to `end`.
record GreatestUpTo (a b : Instant → ℕ) (end n : ℕ) : Type 0 where
  at : Instant
  reached : a at ≡ b at + n
  greatest : (u : Instant) → u ≤ end → a u ≤ b u + n

-- up to any instant there is a greatest gap, if there is one at 0
greatest_up_to : (a b : Instant → ℕ) → b 0 ≤ a 0 → (end : ℕ) → (n : ℕ) × GreatestUpTo a b end n
greatest_up_to a b h zero =
    (a 0 - b 0, record { at = 0; reached = omega arith; greatest = λ u l. let e : u ≡ 0 = omega arith in rw e (omega arith) })
greatest_up_to a b h (suc end) = next (greatest_up_to a b h end)
  where
    next : (n : ℕ) × GreatestUpTo a b end n → (n : ℕ) × GreatestUpTo a b (suc end) n
    next (n, r) =
        elim (le_or_lt (a (suc end)) (b (suc end) + n)) [
          | inl l ↦ (n, record { at = r.at; reached = r.reached; greatest = last n (omega arith) l })
          | inr l ↦
              let m = a (suc end) - b (suc end) in
              (m, record { at = suc end; reached = omega arith; greatest = last m (omega arith) (omega arith) })
        ]
      where
        last : (m : ℕ) → n ≤ m → a (suc end) ≤ b (suc end) + m → (u : Instant) → u ≤ suc end → a u ≤ b u + m
        last m l h u i = elim (le-suc_iff.0 i) [ inl e ↦ omega (arith, r.greatest u e) | inr e ↦ rw e h ]

-- The curve has a bucket whose rate is at most `rate`.
module _ (f : List Bucket) (rate : ℕ) {k : Bucket} (m : k ∈ f) (slow : k.rate ≤ rate) where
  -- then the gap no longer grows past that bucket's burst: from there on no faster bucket is below this one
  no_growth : (u : Instant) → k.burst ≤ u → NotAbove f rate u k.burst
  unfolding reads bucket_at
  no_growth u h =
      let r = value_reached f k.burst 1 (some m) in
      elim (le_or_lt r.bucket.rate rate) [
        | inl l ↦ falls_from r l u h
        | inr l ↦ omega (arith, r.value_is, value_least f u 1 m, mul-le-mul_right u slow, mul-le-mul_right k.burst l)
      ]

  -- and so there is a greatest gap
  pub excess_exists : (n : ℕ) × Excess f rate n
  excess_exists =
      let g = greatest_up_to (reads f) (λ u. rate * u) (omega arith) k.burst in
      (g.0, record { at = g.1.at; reached = g.1.reached; greatest = within g.1 })
    where
      within : {n : ℕ} → GreatestUpTo (reads f) (λ u. rate * u) k.burst n → (u : Instant) → reads f u ≤ rate * u + n
      within r u =
          elim (le_or_lt u k.burst) [
            | inl h ↦ r.greatest u h
            | inr h ↦ omega (arith, r.greatest k.burst (omega arith), no_growth u (le_of_lt h))
          ]

-- At no time is the curve above the line of that rate from its burst.
abbrev pub Flat : List Bucket → ℕ → Type 0
Flat a rate = (p q : ℕ) → 0 < q → value_at a p q ≤ rate * p + reads a 0 * q

-- Such a curve, with its excess for that rate.
module _ (a : List Bucket) (rate : ℕ) {m : ℕ} (filled : 1 ≤ length a) (e : Excess a rate m) (flat : Flat a rate) where
  -- the excess is the burst
  flat_excess : reads a 0 ≡ rate * 0 + m
  unfolding reads
  flat_excess = omega (arith, e.reached, e.greatest 0, flat e.at 1 (omega arith))

  -- and the curve is its own cut
  pub cut_flat : (p q : ℕ) → 0 < q → cut_at a rate m p q ≡ value_at a p q
  cut_flat p q h =
      cut_late a rate m 0 flat_excess filled p q (omega arith) ∙ min-eq_left (omega (arith, flat p q h, ap (λ x. x * q) flat_excess))

-- a curve below a bucket seen a latency later, of that burst, is flat by any rate above the bucket's
below_bucket_flat :
    (a : List Bucket) (k : Bucket) (latency : ℕ) {rate : ℕ} → k.rate ≤ rate → reads a 0 ≡ bucket_at k (0 + latency * 1) 1
    → ((p q : ℕ) → 0 < q → value_at a p q ≤ bucket_at k (p + latency * q) q) → Flat a rate
unfolding bucket_at
below_bucket_flat a k latency slow start below p q h = omega (arith, below p q h, ap (λ x. x * q) start, mul-le-mul_right p slow)

module _ {f a : List Bucket} {s : RateLatency} (b : BehindRated f s a) {rate : ℕ} where
  -- a curve behind a server is flat by a rate if a bucket of no greater rate gives its burst
  by_bucket_flat :
      {k : Bucket} → k ∈ f → k.rate ≤ s.rate → k.rate ≤ rate → reads a 0 ≡ bucket_at k (0 + s.latency * 1) 1 → Flat a rate
  by_bucket_flat {k} n slow flat start =
      below_bucket_flat a k s.latency flat start
      (λ p q h. le_trans (le_of_eq (behind_cut b p q h)) (cut_slow s.rate b.m (p + s.latency * q) q n slow))

  -- and by every rate that is at least the server's, whatever gives the burst
  server_flat : s.rate ≤ rate → Flat a rate
  unfolding reads bucket_at
  server_flat flat =
      elim (cut_reached s.rate b.m (0 + s.latency * 1) 1 f) [
        | by_line e ↦
            below_bucket_flat a (record { rate = s.rate; burst = b.m }) s.latency flat (behind_cut b 0 1 (omega arith) ∙ e)
            (λ p q h. le_trans (le_of_eq (behind_cut b p q h)) (cut_line s.rate b.m (p + s.latency * q) q f))
        | by_slow k n slow e ↦ by_bucket_flat n slow (le_trans slow flat) (behind_cut b 0 1 (omega arith) ∙ e)
      ]

-- The cut of a, which stands a latency behind f, is a cut of f itself.
record OneCut (f a : List Bucket) (latency rate next m : ℕ) : Type 0 where
  n : ℕ
  excess : Excess f rate n
  same : (p q : ℕ) → 0 < q → cut_at a next m p q ≡ cut_at f rate n (p + latency * q) q

-- the next server is no slower: it leaves the curve as it is
next_faster :
    {f a : List Bucket} {s : RateLatency} (b : BehindRated f s a) {next m : ℕ} → Excess a next m → s.rate ≤ next
    → OneCut f a s.latency s.rate next m
next_faster {a = a} b {next} e h =
    record {
      n = b.m;
      excess = b.excess;
      same = λ p q l. cut_flat a next b.normal.form.some e (server_flat b h) p q l ∙ behind_cut b p q l;
    }

-- Two lines over one curve, the first the steeper.
module _
    (f : List Bucket) (filled : 1 ≤ length f) {r₁ m₁ r₂ m₂ : ℕ} (e₁ : Excess f r₁ m₁) (e₂ : Excess f r₂ m₂)
    (steeper : r₂ < r₁) where
  -- the first is met no later
  met_in_order : e₁.at ≤ e₂.at
  met_in_order =
      not_above (λ h.
      omega (arith, crosswise steeper h, e₁.reached, e₂.reached, e₁.greatest e₂.at, e₂.greatest e₁.at))

  -- from there on it is the upper one
  upper_after : (p q : ℕ) → e₂.at * q ≤ p → r₂ * p + m₂ * q ≤ r₁ * p + m₁ * q
  unfolding bucket_at
  upper_after p q h =
      let above : r₂ * e₂.at + m₂ ≤ r₁ * e₂.at + m₁ * 1 = omega (arith, e₂.reached, e₁.greatest e₂.at) in
      steeper_after (record { rate = r₁; burst = m₁ }) r₂ m₂ e₂.at above p q (le_of_lt steeper) h

  -- the cut by the first is at no tick above the second line
  cut_under : (v : Instant) → cut_at f r₁ m₁ v 1 ≤ r₂ * v + m₂
  unfolding reads bucket_at
  cut_under v =
      elim (le_or_lt v e₁.at) [
        | inl h ↦
            let above : r₁ * e₁.at + m₁ ≤ r₂ * e₁.at + m₂ * 1 = omega (arith, e₁.reached, e₂.greatest e₁.at) in
            let flat = flatter_before (record { rate = r₂; burst = m₂ }) r₁ m₁ e₁.at above v 1 (le_of_lt steeper) (omega arith) in
            omega (arith, cut_line r₁ m₁ v 1 f)
        | inr h ↦ omega (arith, cut_late f r₁ m₁ e₁.at e₁.reached filled v 1 (omega arith), e₂.greatest v)
      ]

  -- both cuts, one after the other, are the second where both lines have been met
  nested_cut : (p q : ℕ) → e₂.at * q ≤ p → min (cut_at f r₁ m₁ p q) (r₂ * p + m₂ * q) ≡ cut_at f r₂ m₂ p q
  nested_cut p q h =
      omega (
        arith,
        cut_late f r₁ m₁ e₁.at e₁.reached filled p q (le_trans (mul-le-mul_right q met_in_order) h),
        cut_late f r₂ m₂ e₂.at e₂.reached filled p q h,
        upper_after p q h,
      )

-- a curve with an excess behind a faster server comes from one that has a slow bucket
behind_slow_bucket :
    {f a : List Bucket} {s : RateLatency} (b : BehindRated f s a) {next m : ℕ} → Excess a next m → next < s.rate
    → (k : Bucket) × (k ∈ f) × (k.rate ≤ next)
unfolding later
behind_slow_bucket {f} {s = s} b e h =
    let k = slow_bucket b.normal.form.some e in
    elim (Memᴰ.append_cases (slower s f) (normal_inside (cut_filled f s b.m) b.normal k.1)) [
      | inl i ↦ let r = slower_from s f i in (r.bucket, r.inside, omega (arith, k.2, same_rate r.is_later))
      | inr i ↦ absurd (omega (arith, k.2, same_rate (Memᴰ.eq_of_singleton i)))
    ]

-- The next server is slower, and n is the excess over the first curve for its rate.
module _
    {f a : List Bucket} {s : RateLatency} (filled : 1 ≤ length f) (b : BehindRated f s a) {next n : ℕ} (e : Excess f next n)
    (slower : next < s.rate) where
  -- The next server's line meets the first curve w ticks past the latency.
  module _ (w : ℕ) (after : w + s.latency ≡ e.at) where
    -- then it meets the curve behind the first server at w
    met_behind : reads a w ≡ next * w + (next * s.latency + n)
    unfolding reads
    met_behind =
        omega (
          arith,
          behind_cut b w 1 (omega arith),
          cut_under f filled b.excess e slower (w + s.latency * 1),
          nested_cut f filled b.excess e slower (w + s.latency * 1) 1 (omega arith),
          cut_early f next n e.at e.reached (w + s.latency * 1) 1 (omega arith),
        )

    -- and is nowhere below it
    excess_behind : Excess a next (next * s.latency + n)
    unfolding reads
    excess_behind =
        record {
          at = w;
          reached = met_behind;
          greatest = λ u. omega (arith, behind_cut b u 1 (omega arith), cut_under f filled b.excess e slower (u + s.latency * 1));
        }

    -- and the cut by it there is the cut of the first curve
    same_after : (p q : ℕ) → 0 < q → cut_at a next (next * s.latency + n) p q ≡ cut_at f next n (p + s.latency * q) q
    same_after p q h =
        elim (le_or_lt p (w * q)) [
          | inl l ↦
              omega (
                arith,
                cut_early a next (next * s.latency + n) w met_behind p q l,
                cut_early f next n e.at e.reached (p + s.latency * q) q (omega (arith, ap (λ x. x * q) after)),
              )
          | inr l ↦
              omega (
                arith,
                cut_late a next (next * s.latency + n) w met_behind b.normal.form.some p q (le_of_lt l),
                behind_cut b p q h,
                nested_cut f filled b.excess e slower (p + s.latency * q) q (omega (arith, ap (λ x. x * q) after)),
              )
        ]

  -- The next server's line meets the first curve before the latency; a bucket gives the first curve's value at the latency.
  module _ (before : e.at < s.latency) (r : Reached f (0 + s.latency * 1) 1) where
    -- that bucket is no faster than the next server: it has come down to the line or below since they met
    latency_bucket_slow : r.bucket.rate ≤ next
    unfolding reads bucket_at
    latency_bucket_slow =
        not_above (λ h.
        omega
        (arith, crosswise h before, r.value_is, e.greatest (0 + s.latency * 1), e.reached, value_least f e.at 1 r.inside))

    -- (every time past the latency is past the meeting)
    met_before : (p q : ℕ) → e.at * q ≤ p + s.latency * q
    met_before p q = omega (arith, mul-le-mul_right q (le_of_lt before))

    -- so past the latency the curve is not above the line,
    below_line : (p q : ℕ) → value_at f (p + s.latency * q) q ≤ next * (p + s.latency * q) + n * q
    unfolding reads bucket_at
    below_line p q =
        let k = r.bucket in
        let high : k.rate * s.latency + k.burst ≤ next * s.latency + n = omega (arith, r.value_is, e.greatest (0 + s.latency * 1)) in
        omega
        (arith, value_least f (p + s.latency * q) q r.inside, mul-le-mul_left q high, mul-le-mul_right p latency_bucket_slow)

    -- the cut by the line is the curve,
    cut_is_curve : (p q : ℕ) → cut_at f next n (p + s.latency * q) q ≡ value_at f (p + s.latency * q) q
    cut_is_curve p q =
        cut_late f next n e.at e.reached filled (p + s.latency * q) q (met_before p q) ∙ min-eq_left (below_line p q)

    -- the curve behind the first server is the curve,
    behind_is_curve : (p q : ℕ) → 0 < q → value_at a p q ≡ value_at f (p + s.latency * q) q
    behind_is_curve p q h =
        behind_cut b p q h
        ∙ cut_late f s.rate b.m b.excess.at b.excess.reached filled (p + s.latency * q) q
        (le_trans (mul-le-mul_right q (met_in_order f filled b.excess e slower)) (met_before p q))
        ∙ min-eq_left (le_trans (below_line p q) (upper_after f filled b.excess e slower (p + s.latency * q) q (met_before p q)))

    -- and it is flat by the next server's rate
    latency_flat : Flat a next
    unfolding reads
    latency_flat =
        by_bucket_flat b r.inside (le_trans latency_bucket_slow (le_of_lt slower)) latency_bucket_slow
        (behind_is_curve 0 1 (omega arith) ∙ r.value_is)

  -- so in either case the two cuts are one
  next_slower : {m : ℕ} → Excess a next m → OneCut f a s.latency next next m
  next_slower {m} d =
      elim (le_or_lt s.latency e.at) [
        | inl h ↦
            let w = e.at - s.latency in
            let same_excess : m ≡ next * s.latency + n = gap_unique d (excess_behind w (omega arith)) in
            record { n = n; excess = e; same = rw same_excess (same_after w (omega arith)) }
        | inr h ↦
            let r = value_reached f (0 + s.latency * 1) 1 filled in
            record {
              n = n;
              excess = e;
              same = λ p q l.
                  cut_flat a next b.normal.form.some d (latency_flat h r) p q l ∙ behind_is_curve h r p q l ∙ sym (cut_is_curve h r p q);
            }
      ]

-- whichever server is the slower, the two cuts are one
one_cut :
    {f a : List Bucket} {s : RateLatency} → 1 ≤ length f → (b : BehindRated f s a) {next m : ℕ} → Excess a next m
    → OneCut f a s.latency (min s.rate next) next m
one_cut {f} {s = s} filled b {next} e =
    elim (le_or_lt s.rate next) [
      | inl h ↦ rw (min-eq_left h) (next_faster b e h)
      | inr h ↦
          let slow = behind_slow_bucket b e h in
          rw (min-eq_right (le_of_lt h)) (next_slower filled b (excess_exists f next slow.1 slow.2).1 h e)
    ]

-- what stands behind two servers, one after the other, stands behind the joined server
pub rated_hop_by_hop : {f a g : List Bucket} {s next : RateLatency} → 1 ≤ length f → BehindRated f s a → BehindRated a next g → BehindRated f (join_rated s next) g
unfolding join_rated
rated_hop_by_hop {f} {a} {g} {s} {next} filled first second =
    record { m = c.n; excess = c.excess; normal = record { form = second.normal.form; same = same } }
  where
    c : OneCut f a s.latency (min s.rate next.rate) next.rate second.m
    c = one_cut filled first second.excess

    same : (p q : ℕ) → 0 < q → value_at (cut_list f (join_rated s next) c.n) p q ≡ value_at g p q
    same p q h =
        let times : p + (s.latency + next.latency) * q ≡ p + next.latency * q + s.latency * q = omega arith in
        cut_list_lem f (join_rated s next) c.n p q ∙ ap (λ x. cut_at f (min s.rate next.rate) c.n x q) times
        ∙ sym (c.same (p + next.latency * q) q h) ∙ sym (behind_cut second p q h)

-- there is one list behind a server
pub rated_behind_unique : {f g h : List Bucket} {s : RateLatency} → BehindRated f s g → BehindRated f s h → g ≡ h
rated_behind_unique {f} {g} {h} {s} x y = normal_of_unique x.normal (rw (gap_unique y.excess x.excess) at y.normal)

-- at no tick is a curve above what stands behind a server at any tick and what is served from a latency past that tick on
behind_above :
    {f a : List Bucket} {s : RateLatency} → 1 ≤ length f → BehindRated f s a → (v t : Instant)
    → reads f t ≤ reads a v + s.rate * (t - (v + s.latency))
unfolding reads by_rate
behind_above {f} {s = s} filled b v t =
    let past : t - (v + s.latency) ≡ t - v - s.latency = omega arith in
    rw past (omega (arith, reads_rise f {t = t} {u = v + (t - v)} filled (omega arith), (rated_behind_greatest filled b v).greatest (t - v)))

-- the joined server's delay is at most the delays of the two hops together
pub rated_joined_delay :
    {f a : List Bucket} {s : RateLatency} (next : RateLatency) {d e n : ℕ}
    → 1 ≤ length f → BehindRated f s a → DelayRated f s d → DelayRated a next e → DelayRated f (join_rated s next) n → n ≤ d + e
unfolding join_rated by_rate
rated_joined_delay {f} {a} {s} next {d} {e} filled b first second joined =
    joined.smallest (d + e) (λ t.
    elim (le_or_lt s.rate next.rate) [
      | inl h ↦ rw (min-eq_left h) (first_slower t _ refl)
      | inr h ↦ rw (min-eq_right (le_of_lt h)) (second_slower t _ refl)
    ])
  where
    -- by any tick v behind the first server: the curve's value at t is served by the first in y ticks and by the next in z
    between : (t v y z : ℕ) → t - (v + s.latency) ≤ y → v + e - next.latency ≤ z → reads f t ≤ s.rate * y + next.rate * z
    between t v y z h l =
        omega
        (arith, behind_above filled b v t, second.suffices v, mul-le-mul_left s.rate h, mul-le-mul_left next.rate l)

    first_slower : (t x : ℕ) → t + (d + e) - (s.latency + next.latency) ≡ x → reads f t ≤ s.rate * x
    first_slower t x h =
        elim (le_or_lt next.latency e) [
          | inl l ↦ le_trans (first.suffices t) (mul-le-mul_left s.rate (omega arith))
          | inr l ↦ omega (arith, between t (next.latency - e) x 0 (omega arith) (omega arith))
        ]

    second_slower : (t x : ℕ) → t + (d + e) - (s.latency + next.latency) ≡ x → reads f t ≤ next.rate * x
    second_slower t x h =
        elim (le_or_lt s.latency (t + d)) [
          | inl l ↦ omega (arith, between t (t - s.latency) 0 x (omega arith) (omega arith))
          | inr l ↦
              let nothing : t + d - s.latency ≤ 0 = omega arith in
              omega (arith, first.suffices t, mul-le-mul_left s.rate nothing)
        ]
