-- Along a curve in normal form the values at a tick fall from bucket to bucket and then rise. So a walk that stops at the first
-- bucket that does not go lower has the least value of all on its way, and of all that it did not come to.
-- Assumes nothing.
use mathlib.Core.Path.{◌≡◌, sym, ◌∙◌, ap}
use mathlib.Core.Bool.{Bool, true≢false, ◌&&◌}
use Rattle.std.proofs.lemmas.Bool.{eqb-true}
use borrow.Author.Tests.{eq-eqb, ne_eqb}
use mathlib.Core.Logic.{inl, inr}
use mathlib.Core.List.{List}
use Prim.Native.Nat.{ℕ, ◌+◌, ◌-◌, ◌*◌, ◌^◌, ◌≤◌, ◌<◌}
use native.Mathlib.Nat.{le_of_lt, le_trans, le_of_eq, mul-le-mul}
use native.Mathlib.Omega.{arith}
use native.Mathlib.Decide.{ℕ_discrete}
use mir.Syntax.{w64}
use mir.Val.{Fits}
use lib.Dec.{eqb}
use lib.ListN.{length}
use Rattle.meaning.specs.Curve.{Bucket, ◌∈◌, bucket_at, NormalForm, reads}
use Rattle.meaning.specs.Refusal.{InRange, AllInRange}
use Rattle.meaning.specs.Server.{last}
use Rattle.meaning.proofs.Lists.{at_inside, inside_at, falling_at}
use Rattle.meaning.proofs.Order.{le_or_lt}
use Rattle.meaning.proofs.Curve.Value.{same_rate, same_bucket_at, value_unique, value_least, value_reached}
use Rattle.meaning.proofs.Server.Excess.{below_flat, below_steep}
use Rattle.meaning.proofs.Server.Joining.{last_inside, last_slowest}
use Rattle.checks.specs.Cited.{Tells, nth}
use Rattle.checks.proofs.Buckets.{last_numbered}
use Rattle.operations.specs.Cited.{bucket, LeastOf}

-- ---- One bucket's value.

-- a bucket's value at a tick stays below 2^61
module _
    (f : List Bucket) {k rate burst : ℕ} (t : ℕ) (all : AllInRange f) (inside : k < length f) (small : t ≤ 2 ^ 40)
    (is : bucket rate burst ≡ nth f k)
  where
    here_ranged : InRange (bucket rate burst)
    here_ranged = rw is (all (nth f k) (at_inside f k _ inside))

    pub value_product_fits : Fits w64 (rate * t)
    value_product_fits = record { fits = omega (arith, mul-le-mul (le_of_lt here_ranged.rate_fits) small) }

    pub value_sum_fits : Fits w64 (rate * t + burst)
    value_sum_fits =
        record { fits = omega (arith, mul-le-mul (le_of_lt here_ranged.rate_fits) small, here_ranged.burst_fits) }

    pub value_of_is : rate * t + burst ≡ bucket_at (nth f k) t 1
    unfolding bucket_at
    value_of_is = rw (← is) (omega arith)

-- ---- The values fall, and then rise.

module _ (f : List Bucket) (n : NormalForm f) (t i j l : ℕ) (before : i < j) (after : j < l) (inside : l < length f) where
  -- where a bucket is not below the one before it, those after it are above it
  then_rises : bucket_at (nth f i) t 1 ≤ bucket_at (nth f j) t 1 → bucket_at (nth f j) t 1 < bucket_at (nth f l) t 1
  then_rises h =
      below_flat (n.useful _ (at_inside f j _ (omega arith))) (at_inside f i _ (omega arith)) (at_inside f l _ inside)
      (falling_at f n.falling _ i j before (omega arith)) (falling_at f n.falling _ j l after inside) t h

  -- where a bucket is not below the one after it, those before it are above it
  first_fell : bucket_at (nth f l) t 1 ≤ bucket_at (nth f j) t 1 → bucket_at (nth f j) t 1 < bucket_at (nth f i) t 1
  first_fell h =
      below_steep (n.useful _ (at_inside f j _ (omega arith))) (at_inside f i _ (omega arith)) (at_inside f l _ inside)
      (falling_at f n.falling _ i j before (omega arith)) (falling_at f n.falling _ j l after inside) t h

-- ---- Walking from a bucket on.

-- Those from `from` to before k were read, and the last of them has the least value.
pub record Onwards (f : List Bucket) (t from k found : ℕ) : Type 0 where
  pub from_on : from < k
  pub inside : k ≤ length f
  pub found_is : found ≡ bucket_at (nth f (k - 1)) t 1
  pub lowest : (i : ℕ) → from ≤ i → i < k → found ≤ bucket_at (nth f i) t 1

-- where the next bucket is not lower, none after it is
pub onwards_stop :
    {f : List Bucket} {t from k found next : ℕ} → NormalForm f → Onwards f t from k found → k < length f
    → next ≡ bucket_at (nth f k) t 1 → found ≤ next → LeastOf f t from (length f) found
onwards_stop {f} {t} {from} {k} {found} form w more is stays =
    record {
      at = k - 1;
      from_on = omega (arith, w.from_on);
      before_end = omega (arith, w.from_on, w.inside);
      reached = w.found_is;
      smallest = smallest;
    }
  where
    rises : (i : ℕ) → k < i → i < length f → found ≤ bucket_at (nth f i) t 1
    rises i past inside =
        omega (arith, then_rises f form t (k - 1) k i (omega (arith, w.from_on)) past inside (omega (arith, w.found_is)))

    smallest : (i : ℕ) → from ≤ i → i < length f → found ≤ bucket_at (nth f i) t 1
    smallest i low high =
        elim (le_or_lt k i) [
          | inl past ↦
              elim (le_or_lt i k) [
                | inl last ↦ let e : i ≡ k = omega arith in rw e (le_trans stays (le_of_eq is))
                | inr further ↦ rises i further high
              ]
          | inr read ↦ w.lowest i low read
        ]

-- ---- Walking back from a bucket.

-- Of the buckets before `end`, those from k on were read, and the one numbered k has the least value of them.
pub record Backwards (f : List Bucket) (t end k found : ℕ) : Type 0 where
  pub before_end : k < end
  pub found_is : found ≡ bucket_at (nth f k) t 1
  pub lowest : (i : ℕ) → k ≤ i → i < end → found ≤ bucket_at (nth f i) t 1

-- where the next bucket is not lower, none before it is
pub backwards_stop :
    {f : List Bucket} {t end k found next : ℕ} → NormalForm f → end ≤ length f → Backwards f t end k found → 0 < k
    → next ≡ bucket_at (nth f (k - 1)) t 1 → found ≤ next → LeastOf f t 0 end found
backwards_stop {f} {t} {end} {k} {found} form end_inside w more is stays =
    record {
      at = k;
      from_on = omega arith;
      before_end = w.before_end;
      reached = w.found_is;
      smallest = smallest;
    }
  where
    fell : (i : ℕ) → i < k - 1 → found ≤ bucket_at (nth f i) t 1
    fell i past =
        omega (
          arith,
          first_fell f form t i (k - 1) k past (omega arith) (omega (arith, w.before_end, end_inside)) (omega (arith, w.found_is)),
        )

    smallest : (i : ℕ) → 0 ≤ i → i < end → found ≤ bucket_at (nth f i) t 1
    smallest i low high =
        elim (le_or_lt k i) [
          | inl read ↦ w.lowest i read high
          | inr past ↦
              elim (le_or_lt (k - 1) i) [
                | inl last ↦ let e : i ≡ k - 1 = omega arith in rw e (le_trans stays (le_of_eq is))
                | inr further ↦ fell i further
              ]
        ]

-- ---- The whole curve.

-- the least value of all buckets is the curve's
pub least_of_all : (f : List Bucket) {t v : ℕ} → LeastOf f t 0 (length f) v → v ≡ reads f t
unfolding reads
least_of_all f {t} {v} l = sym (value_unique f t 1 below (at_inside f l.at _ l.before_end) l.reached)
  where
    below : (j : Bucket) → j ∈ f → v ≤ bucket_at j t 1
    below j m =
        let at = inside_at f _ m in
        le_trans (l.smallest at.0 (omega arith) at.1) (le_of_eq (sym (same_bucket_at t 1 at.2)))

-- ---- A curve that carries nothing.

module _ (f : List Bucket) (form : NormalForm f) {last_rate last_burst : ℕ} (is : bucket last_rate last_burst ≡ last f) where
  -- a curve that carries nothing by tick 1 has the last bucket (0, 0)
  nothing_last : reads f 1 ≡ 0 → (last_rate ≡ 0) × (last_burst ≡ 0)
  unfolding reads bucket_at
  nothing_last none =
      let r = value_reached f 1 1 form.some in
      let at = inside_at f (bucket 0 0) r.inside in
      let flat : last_rate ≤ 0 = omega (arith, r.value_is, last_slowest f form.falling r.inside, same_rate is) in
      let end : at.0 + 1 ≡ length f =
      elim (le_or_lt (length f) (at.0 + 1)) [
        | inl e ↦ omega (arith, at.1)
        | inr more ↦
            absurd
            (omega (
              arith,
              r.value_is,
              same_rate at.2,
              falling_at f form.falling (bucket 0 0) at.0 (length f - 1) (omega arith) (omega arith),
            ))
      ]
      in
      let e : bucket last_rate last_burst ≡ r.bucket = is ∙ sym (last_numbered f at.0 end) ∙ sym at.2 in
      (omega arith, omega (arith, r.value_is, ap (λ (j : Bucket). j.burst) e))

  -- and whether the last one is (0, 0) tells
  pub carries_none : {answer : Bool} → answer ≡ eqb last_rate 0 && eqb last_burst 0 → Tells (reads f 1 ≡ 0) answer
  unfolding reads bucket_at
  carries_none e =
      elim (ℕ_discrete last_rate 0) [
        | no some ↦
            rw (e, ne_eqb last_rate 0 some)
            (record { yes_means = λ t. absurd (true≢false (sym t)); no_means = λ t none. some (nothing_last none).0 })
        | yes flat ↦
            rw (e, eq-eqb last_rate 0 flat)
            (record {
              yes_means =
                  λ t.
                  omega (
                    arith,
                    flat,
                    eqb-true last_burst 0 t,
                    value_least f 1 1 (last_inside f form.some),
                    same_rate is,
                    ap (λ (j : Bucket). j.burst) is,
                  );
              no_means = λ t none. true≢false (sym (eq-eqb last_burst 0 (nothing_last none).1) ∙ t);
            })
      ]
