-- The search over one candidate decides whether it is useful. Between two ends lie the times at which the candidate is strictly
-- below every bucket seen so far: a bucket more narrows them as its crossing says, and some time lies between them exactly where
-- their cross products say so.
-- Assumes nothing.
use mathlib.Core.Path.{◌≡◌, refl, sym, ◌∙◌, ap}
use mathlib.Core.Bool.{Bool, true, false, true≢false, and-eq-true_iff, cond}
use mathlib.Core.Logic.{◌⊎◌, inl, inr}
use mathlib.Core.List.Memᴰ
use mathlib.Core.List.{List, [], ◌∷◌}
use Prim.Native.Nat.{ℕ, ◌+◌, ◌-◌, ◌*◌, ◌≤◌, ◌<◌}
use native.Mathlib.Nat.{le_of_lt, mul-pos, mul-le-mul_left, mul-lt-mul_of_pos_left, lt_of_mul-lt-mul_left, le_antisymm, eq-or-lt_of_le}
use native.Mathlib.Omega.{arith}
use lib.Dec.{ltb}
use borrow.Author.Tests.{ltb-true, ltb-false, lt-ltb}
use Rattle.meaning.specs.Curve.{Bucket, ◌∈◌, bucket_at, Useful}
use Rattle.meaning.specs.Computed.{Ends, every_time, after_steeper, before_flatter, beside_equal, narrowed, is_open, stays_open, is_useful}
use Rattle.meaning.proofs.Order.{le_or_lt}
use Rattle.meaning.proofs.Lists.{cons_each}
use Rattle.meaning.proofs.Curve.Lowest.{same_bucket, other_rate}
use Rattle.meaning.proofs.Curve.Neighbours.{earlier_trans, below_rises}

-- what is picked of two by a test has what each of them has where the test picks it
pub cond_holds {ℓ} :
    {X : Type ℓ} (P : X → Type 0) {x y : X} (t : Bool) → (t ≡ true → P x) → (t ≡ false → P y) → P (cond t x y)
cond_holds P true first second = first refl
cond_holds P false first second = second refl

-- the same where the test compares two numbers
pub picked {ℓ} :
    {X : Type ℓ} (P : X → Type 0) {x y : X} (a b : ℕ) → (a < b → P x) → (b ≤ a → P y) → P (cond (ltb a b) x y)
picked P a b first second =
    cond_holds P (ltb a b) (λ t. first (ltb-true a b t)) (λ t. second (ltb-false a b t))

-- a product that is more than something has no factor 0
left_some : (a b : ℕ) {n : ℕ} → n < a * b → 0 < a
left_some a b h = lt_of_mul-lt-mul_left b (omega arith)

right_some : (a b : ℕ) {n : ℕ} → n < a * b → 0 < b
right_some a b h = lt_of_mul-lt-mul_left a (omega arith)

-- The time p/q lies between the ends.
pub record Between (e : Ends) (p q : ℕ) : Type 0 where
  pub after : e.low * q < p * e.low_over
  pub before : p * e.high_over < e.high * q

-- Such a time is positive:
module _ {e : Ends} {p q : ℕ} (t : Between e p q) where
  -- its numerator is,
  pub time_positive : 0 < p
  time_positive = left_some p e.low_over t.after

  -- and its denominator
  pub over_positive : 0 < q
  over_positive = right_some e.high q t.before

module _ (x y u v p q : ℕ) where
  -- x·p + y·q is less than u·p + v·q where (y - v)·q is less than p·(u - x)
  less : (y - v) * q < p * (u - x) → x * p + y * q < u * p + v * q
  less h = crossed (u - x) (y - v) (omega (arith, right_some p (u - x) h)) (omega arith) h
    where
      crossed : (n b : ℕ) → u ≡ x + n → y ≤ v + b → b * q < p * n → x * p + y * q < u * p + v * q
      crossed n b e l h = rw e (omega (arith, mul-le-mul_left q l))

  -- and only there, if x is less than u and p positive
  less_only : x < u → 0 < p → x * p + y * q < u * p + v * q → (y - v) * q < p * (u - x)
  less_only steeper some h =
      elim (le_or_lt y v) [
        | inl l ↦
            let none : y - v ≡ 0 = omega arith in
            let gap : 0 < u - x = omega arith in
            rw none (omega (arith, mul-pos some gap))
        | inr l ↦ crossed (u - x) (y - v) (omega arith) (omega arith)
      ]
    where
      crossed : (n b : ℕ) → u ≡ x + n → y ≡ v + b → b * q < p * n
      crossed n b e l = omega (arith, simp (e, l) at h)

-- Of the times between the ends e, those of which a statement holds are left between the other ends.
pub record Leaves (e left : Ends) (Holds : ℕ → ℕ → Type 0) : Type 0 where
  pub stays : {p q : ℕ} → Between left p q → Between e p q
  pub holds : {p q : ℕ} → Between left p q → Holds p q
  pub keeps : {p q : ℕ} → Between e p q → Holds p q → Between left p q

-- the same times are left by a statement that says the same of positive times
same_left :
    {e left : Ends} {P Q : ℕ → ℕ → Type 0} → ((p q : ℕ) → 0 < p → 0 < q → P p q → Q p q)
    → ((p q : ℕ) → 0 < p → 0 < q → Q p q → P p q) → Leaves e left P → Leaves e left Q
same_left to back l =
    record {
      stays = l.stays;
      holds = λ {p} {q} t. to p q (time_positive t) (over_positive t) (l.holds t);
      keeps = λ {p} {q} t h. l.keeps t (back p q (time_positive t) (over_positive t) h);
    }

-- other ends on one side
abbrev with_low : Ends → ℕ → ℕ → Ends
with_low e b n = record { low = b; low_over = n; high = e.high; high_over = e.high_over }

abbrev with_high : Ends → ℕ → ℕ → Ends
with_high e b n = record { low = e.low; low_over = e.low_over; high = b; high_over = n }

module _ (e : Ends) (b n : ℕ) (some : 0 < n) where
  -- the later of the lower end and b/n leaves the times past b/n
  past : Leaves e (cond (ltb (e.low * n) (b * e.low_over)) (with_low e b n) e) (λ p q. b * q < p * n)
  past = picked (λ left. Leaves e left (λ p q. b * q < p * n)) _ _ raised kept
    where
      raised : e.low * n < b * e.low_over → Leaves e (with_low e b n) (λ p q. b * q < p * n)
      raised l =
          record {
            stays = λ {p} {q} m.
                let some_over : 0 < e.low_over = right_some b e.low_over l in
                omega (arith, earlier_trans e.low e.low_over b n p q some_over (le_of_lt l) m.after);
            holds = λ m. m.after;
            keeps = λ m h. omega arith;
          }

      kept : b * e.low_over ≤ e.low * n → Leaves e e (λ p q. b * q < p * n)
      kept l =
          record {
            stays = λ m. m;
            holds = λ {p} {q} m. earlier_trans b n e.low e.low_over p q some l m.after;
            keeps = λ m h. m;
          }

  -- the earlier of the upper end and b/n leaves the times up to b/n
  up_to : Leaves e (cond (ltb (b * e.high_over) (e.high * n)) (with_high e b n) e) (λ p q. p * n < b * q)
  up_to = picked (λ left. Leaves e left (λ p q. p * n < b * q)) _ _ lowered kept
    where
      lowered : b * e.high_over < e.high * n → Leaves e (with_high e b n) (λ p q. p * n < b * q)
      lowered l =
          record {
            stays = λ {p} {q} m.
                let some_high : 0 < e.high = left_some e.high n l in
                omega (arith, earlier_trans e.high_over e.high n b q p some_high (omega arith) (omega (arith, m.before)));
            holds = λ m. m.before;
            keeps = λ m h. omega arith;
          }

      kept : e.high * n ≤ b * e.high_over → Leaves e e (λ p q. p * n < b * q)
      kept l =
          record {
            stays = λ m. m;
            holds = λ {p} {q} m.
                let product : 0 < b * e.high_over = omega (arith, mul-pos (left_some e.high q m.before) some) in
                omega (arith, earlier_trans n b e.high_over e.high q p (left_some b e.high_over product) (omega arith) (omega (arith, m.before)));
            keeps = λ m h. m;
          }

-- The candidate c is strictly below the bucket j, if that is another one.
abbrev pub Under : Bucket → Bucket → ℕ → ℕ → Type 0
Under c j p q = (j ≡ c → ⊥) → bucket_at c p q < bucket_at j p q

-- Seeing the bucket j, with the candidate c and the ends e:
module _ (c j : Bucket) (e : Ends) where
  -- a steeper bucket, a flatter one, one of the same rate
  sees_steeper : c.rate < j.rate → Leaves e (after_steeper c j e) (Under c j)
  unfolding after_steeper bucket_at
  sees_steeper h =
      same_left (λ p q sp sq m other. less c.rate c.burst j.rate j.burst p q m)
      (λ p q sp sq u. less_only c.rate c.burst j.rate j.burst p q h sp (u (other_rate h)))
      (past e (c.burst - j.burst) (j.rate - c.rate) (omega arith))

  sees_flatter : j.rate < c.rate → Leaves e (before_flatter c j e) (Under c j)
  unfolding before_flatter bucket_at
  sees_flatter h =
      same_left (λ p q sp sq m other. omega (arith, less c.burst c.rate j.burst j.rate q p (omega (arith, m))))
      (λ p q sp sq u. until p q sq (u (λ e. other_rate h (sym e))))
      (up_to e (j.burst - c.burst) (c.rate - j.rate) (omega arith))
    where
      until :
          (p q : ℕ) → 0 < q → bucket_at c p q < bucket_at j p q
          → p * (c.rate - j.rate) < (j.burst - c.burst) * q
      until p q sq l =
          omega (arith, less_only c.burst c.rate j.burst j.rate q p (below_rises c j p q (omega arith) l) sq (omega arith))

  sees_equal : c.rate ≡ j.rate → Leaves e (beside_equal c j e) (Under c j)
  unfolding beside_equal bucket_at
  sees_equal h = picked (λ left. Leaves e left (Under c j)) _ _ never always
    where
      never : j.burst < c.burst → Leaves e (with_high e 0 1) (Under c j)
      never l =
          record {
            stays = λ m. absurd (omega (arith, m.before));
            holds = λ m. absurd (omega (arith, m.before));
            keeps = λ {p} {q} m u. absurd (omega (arith, below_rises c j p q (omega arith) (u (λ e. omega (arith, ap (λ (x : Bucket). x.burst) e)))));
          }

      always : c.burst ≤ j.burst → Leaves e e (Under c j)
      always l =
          record {
            stays = λ m. m;
            holds = λ {p} {q} m other. above p (over_positive m) other (eq-or-lt_of_le l);
            keeps = λ m u. m;
          }
        where
          above :
              (p : ℕ) {q : ℕ} → 0 < q → (j ≡ c → ⊥) → (c.burst ≡ j.burst) ⊎ (c.burst < j.burst)
              → bucket_at c p q < bucket_at j p q
          above p some other (inl b) = absurd (other (same_bucket (sym h) (sym b)))
          above p some other (inr b) = omega (arith, mul-lt-mul_of_pos_left b some, ap (λ x. x * p) h)

  -- seeing a bucket leaves the times at which the candidate is strictly below it
  pub sees : Leaves e (narrowed c j e) (Under c j)
  unfolding narrowed
  sees =
      picked (λ left. Leaves e left (Under c j)) _ _ sees_steeper
      (λ l. picked (λ left. Leaves e left (Under c j)) _ _ sees_flatter (λ g. sees_equal (le_antisymm g l)))

module _ {e : Ends} where
  -- open ends have a time between them: the mediant
  pub open_has : is_open e ≡ true → Between e (e.low + e.high) (e.low_over + e.high_over)
  unfolding is_open
  open_has o = let l = ltb-true (e.low * e.high_over) (e.high * e.low_over) o in omega arith

  -- and only they have one
  pub open_for : {p q : ℕ} → Between e p q → is_open e ≡ true
  unfolding is_open
  open_for {p} {q} t = lt-ltb _ _ (lt_of_mul-lt-mul_left q crossed)
    where
      some : 0 < e.low_over
      some = right_some p e.low_over t.after

      crossed : q * (e.low * e.high_over) < q * (e.high * e.low_over)
      crossed = omega (arith, mul-le-mul_left e.high_over t.after, mul-lt-mul_of_pos_left t.before some)

-- The candidate is strictly below every other bucket of the list.
abbrev pub Below : List Bucket → Bucket → ℕ → ℕ → Type 0
Below f c p q = (j : Bucket) → j ∈ f → Under c j p q

-- A time between the ends at which the candidate is strictly below every other bucket of a list.
pub record Left (c : Bucket) (e : Ends) (f : List Bucket) : Type 0 where
  pub p : ℕ
  pub q : ℕ
  pub between : Between e p q
  pub below : Below f c p q

-- where the search stays open, a time is left
pub stays_left : (c : Bucket) (e : Ends) (f : List Bucket) → is_open e ≡ true → stays_open c e f ≡ true → Left c e f
unfolding stays_open
stays_left c e [] o s = record { p = _; q = _; between = open_has o; below = λ j m. absurd (Memᴰ.not-nil m) }
stays_left c e (j ∷ f) o s =
    let both = (and-eq-true_iff _ _).0 s in
    let l = stays_left c (narrowed c j e) f both.0 both.1 in
    record {
      p = l.p;
      q = l.q;
      between = (sees c j e).stays l.between;
      below = cons_each ((sees c j e).holds l.between) l.below;
    }

-- where a time is left, the search stays open
pub left_stays :
    (c : Bucket) (e : Ends) (f : List Bucket) {p q : ℕ} → Between e p q → Below f c p q → stays_open c e f ≡ true
unfolding stays_open
left_stays c e [] t b = refl
left_stays c e (j ∷ f) {p} {q} t b =
    (and-eq-true_iff _ _).1 (open_for left, left_stays c (narrowed c j e) f left (λ i m. b i (Memᴰ.tail m)))
  where
    left : Between (narrowed c j e) p q
    left = (sees c j e).keeps t (b j (Memᴰ.head refl))

-- a bucket that the test takes is useful
pub useful_sound : (f : List Bucket) (c : Bucket) → is_useful f c ≡ true → Useful f c
unfolding is_useful every_time is_open
useful_sound f c u =
    let l = stays_left c every_time f refl u in
    record {
      p = l.p;
      q = l.q;
      p_positive = time_positive l.between;
      q_positive = over_positive l.between;
      below = l.below;
    }

-- a useful bucket is taken
pub useful_taken : (f : List Bucket) (c : Bucket) → Useful f c → is_useful f c ≡ true
unfolding is_useful every_time
useful_taken f c u = left_stays c every_time f {p = u.p} {q = u.q} (omega (arith, u.p_positive, u.q_positive)) u.below

-- a bucket that the test refuses is not useful
pub useful_complete : (f : List Bucket) (c : Bucket) → is_useful f c ≡ false → Useful f c → ⊥
useful_complete f c n u = true≢false (sym (useful_taken f c u) ∙ n)
