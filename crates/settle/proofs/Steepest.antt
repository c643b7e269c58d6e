-- The first bucket by falling rates, and by rising bursts among those of one rate, of the buckets with a rate below a bound: it
-- is found in one pass, the better of the one found so far and the next one staying.
-- Assumes nothing.
use mathlib.Core.Path.{◌≡◌, refl, sym, ◌∙◌, ap, subst}
use mathlib.Core.Logic.{◌⊎◌, inl, inr}
use mathlib.Core.Bool.{Bool, true, false}
use mathlib.Core.List.Memᴰ
use mathlib.Core.List.{List, [], ◌∷◌, ◌++◌}
use Prim.Native.Nat.{ℕ, ◌+◌, ◌≤◌, ◌<◌}
use native.Mathlib.Nat.{le_of_lt}
use native.Mathlib.Omega.{arith}
use borrow.Author.Tests.{leb-true, leb-false, ltb-true, ltb-false, eqb-true, eqb-false}
use lib.Dec.{eqb, leb, ltb}
use lib.ListN.{length, get_or, take}
use lib.Seq.{take_all}
use Rattle.std.proofs.Common.{Option, Some, None, MatchOption}
use Rattle.std.proofs.lemmas.Bool.{cond_both}
use Rattle.std.proofs.lemmas.List.{map_more}
use Rattle.meaning.specs.Curve.{Bucket, ◌∈◌}
use Rattle.checks.specs.Cited.{Tells, bucket_of}
use Rattle.settle.specs.Order.{bucket_in, buckets_in, Ahead, is_ahead, First, Best, Keeps}
use Rattle.checks.specs.declared.Bucket as held
use Rattle.meaning.proofs.Order.{not_above}

-- ---- The order.

pub ahead_same : {c k : Bucket} → k ≡ c → Ahead c k
ahead_same e =
    let r = ap (λ (x : Bucket). x.rate) e in
    let b = ap (λ (x : Bucket). x.burst) e in
    record { steeper = omega arith; lower = λ same. omega arith }

ahead_steeper : {c k : Bucket} → k.rate < c.rate → Ahead c k
ahead_steeper h = record { steeper = omega arith; lower = λ same. absurd (omega arith) }

ahead_lower : {c k : Bucket} → k.rate ≤ c.rate → c.burst ≤ k.burst → Ahead c k
ahead_lower h l = record { steeper = h; lower = λ same. l }

pub ahead_further : {a b c : Bucket} → Ahead a b → Ahead b c → Ahead a c
ahead_further ab bc =
    record { steeper = omega arith; lower = λ same. omega (arith, ab.lower (omega arith), bc.lower (omega arith)) }

-- what the test of the two tells
module _ {c k : Bucket} where
  tells_lower : k.rate ≡ c.rate → Tells (Ahead c k) (leb c.burst k.burst)
  tells_lower same =
      record {
        yes_means = λ t. record { steeper = omega arith; lower = λ e. leb-true c.burst k.burst t };
        no_means = λ t a. omega (arith, leb-false c.burst k.burst t, a.lower same);
      }

  tells_steeper : (k.rate ≡ c.rate → ⊥) → Tells (Ahead c k) (ltb k.rate c.rate)
  tells_steeper apart =
      record {
        yes_means = λ t. record { steeper = le_of_lt (ltb-true k.rate c.rate t); lower = λ e. absurd (apart e) };
        no_means = λ t a. apart (omega (arith, ltb-false k.rate c.rate t, a.steeper));
      }

  pub tells_ahead : Tells (Ahead c k) (is_ahead c k)
  unfolding is_ahead
  tells_ahead =
      cond_both (eqb k.rate c.rate) _ _ (Tells (Ahead c k)) (λ e. tells_lower (eqb-true k.rate c.rate e))
      (λ e. tells_steeper (eqb-false k.rate c.rate e))

-- of two buckets one is ahead
ahead_other : {c k : Bucket} → (Ahead c k → ⊥) → Ahead k c
ahead_other never =
    record {
      steeper = not_above (λ h. never (ahead_steeper h));
      lower = λ same. not_above (λ h. never (ahead_lower (omega arith) (le_of_lt h)));
    }

-- ---- One bucket more.

-- a rate that is not below the bound is not below it
not_below : {n bound : ℕ} {P : Type 0} → bound ≤ n → n < bound → P
not_below h l = absurd (omega arith)

-- what is so of each bucket of a list, and of one more, is so of each of the longer list
pub longer :
    (P : Bucket → Type 0) {f : List Bucket} {j : Bucket} → ((k : Bucket) → k ∈ f → P k) → P j
    → (k : Bucket) → k ∈ (f ++ j ∷ []) → P k
longer P {f} {j} all one k m = split (Memᴰ.append_cases f m)
  where
    split : (k ∈ f) ⊎ (k ∈ (j ∷ [])) → P k
    split (inl n) = all k n
    split (inr n) = subst P (sym (Memᴰ.eq_of_singleton n)) one

module _ {bound : ℕ} {f : List Bucket} where
  none_of : Best bound f None → (k : Bucket) → k ∈ f → bound ≤ k.rate
  none_of b = b.told

  first_of : {c : held.Bucket} → Best bound f (Some c) → First bound f (bucket_of c)
  first_of b = b.told

  -- the first stays the first, unless the next one is below the bound and ahead of it
  first_more : {c j : Bucket} → First bound f c → (j.rate < bound → Ahead c j) → First bound (f ++ j ∷ []) c
  first_more {c} first ahead =
      record {
        inside = Memᴰ.append_left _ first.inside;
        below = first.below;
        ahead = longer (λ (k : Bucket). k.rate < bound → Ahead c k) first.ahead ahead;
      }

  -- the next one is the first
  first_next :
      {j : Bucket} → j.rate < bound → ((k : Bucket) → k ∈ f → k.rate < bound → Ahead j k) → First bound (f ++ j ∷ []) j
  first_next {j} l ahead =
      record {
        inside = Memᴰ.append_right f (Memᴰ.head refl);
        below = l;
        ahead = longer (λ (k : Bucket). k.rate < bound → Ahead j k) ahead (λ h. ahead_same refl);
      }

module _ {bound : ℕ} {next : held.Bucket} where
  -- the next one is not below the bound
  pub keeps_past : {best : Option held.Bucket} → bound ≤ next.rate → Keeps bound best next best
  keeps_past {best} h = record { added = λ f b. record { told = split best f b.told } }
    where
      split :
          (x : Option held.Bucket) (f : List Bucket)
          → MatchOption x ((k : Bucket) → k ∈ f → bound ≤ k.rate) (λ c. First bound f (bucket_of c))
          → MatchOption x ((k : Bucket) → k ∈ (f ++ bucket_of next ∷ []) → bound ≤ k.rate)
          (λ c. First bound (f ++ bucket_of next ∷ []) (bucket_of c))
      split None f none = longer (λ (k : Bucket). bound ≤ k.rate) none h
      split (Some c) f first = first_more first (λ l. absurd (omega arith))

  module _ (l : next.rate < bound) {best : Option held.Bucket} where
    -- it is the first that is below the bound
    pub takes_first : best ≡ None → Keeps bound best next (Some next)
    takes_first e =
        record { added = λ f b. record { told = first_next l (λ k m h. not_below (none_of (rw e at b) k m) h) } }

    module _ {first : held.Bucket} (s : best ≡ Some first) {told : Bool} (t : told ≡ is_ahead (bucket_of first) (bucket_of next)) where
      -- it is not ahead of the one found, as the test of the two tells
      pub keeps_told : told ≡ true → Keeps bound best next (Some first)
      keeps_told e =
          record {
            added = λ f b.
                record { told = first_more (first_of (rw s at b)) (λ l. tells_ahead.yes_means (sym t ∙ e)) };
          }

      -- it is ahead of the one found
      pub takes_told : told ≡ false → Keeps bound best next (Some next)
      takes_told e =
          record {
            added = λ f b.
                record {
                  told = first_next l
                      (λ k m h.
                      ahead_further (ahead_other (tells_ahead.no_means (sym t ∙ e)))
                      ((first_of (rw s at b)).ahead k m h));
                };
          }

pub ruleset bettering = (keeps_past, keeps_told, takes_first, takes_told)

-- ---- One pass.

-- The best of the first i buckets.
pub record Sought (bound : ℕ) (pairs : List (List ℕ)) (best : Option held.Bucket) (i : ℕ) : Type 0 where
  pub best_is : Best bound (buckets_in (take i pairs)) best

module _ {bound : ℕ} {pairs : List (List ℕ)} {best : Option held.Bucket} {i : ℕ} (w : Sought bound pairs best i) where
  pub sought_step :
      {pair : List ℕ} {next : held.Bucket} {after : Option held.Bucket} → i < length pairs → pair ≡ get_or pairs i pair
      → bucket_of next ≡ bucket_in pair → Keeps bound best next after → Sought bound pairs after (i + 1)
  sought_step {pair} {next} {after} more is of kept =
      let e : buckets_in (take (i + 1) pairs) ≡ buckets_in (take i pairs) ++ bucket_of next ∷ [] =
      map_more bucket_in pairs i pair more ∙ ap (λ (k : Bucket). buckets_in (take i pairs) ++ k ∷ []) (ap bucket_in (sym is) ∙ sym of)
      in
      record { best_is = rw e (kept.added _ w.best_is) }

  pub sought_end : length pairs ≤ i → Best bound (buckets_in pairs) best
  sought_end h = rw (take_all i pairs h) at w.best_is
