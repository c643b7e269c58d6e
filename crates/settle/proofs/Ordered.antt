-- Buckets in order, by falling rates, and by rising bursts among those of one rate: neighbours tell it, and then the first bucket
-- with a rate below a bound is the first by that order too.
-- Assumes nothing.
use mathlib.Core.Path.{◌≡◌, refl, sym, ◌∙◌, ap, subst}
use mathlib.Core.Logic.{◌⊎◌, inl, inr}
use mathlib.Core.Bool.{Bool, true, false}
use mathlib.Core.List.Memᴰ
use mathlib.Core.List.{List, [], ◌∷◌}
use Prim.Native.Nat.{ℕ, zero, suc, ◌+◌, ◌≤◌, ◌<◌}
use native.Mathlib.Numerals.{unary_clauses}
use native.Mathlib.Omega.{arith}
use lib.ListN.{length, get_or}
use Rattle.std.proofs.Common.{Some, None}
use Rattle.std.specs.List.{IsAllAdjacentAnswer}
use Rattle.meaning.specs.Curve.{Bucket, ◌∈◌}
use Rattle.checks.specs.Cited.{Tells, bucket_of}
use Rattle.checks.specs.declared.Bucket as held
use Rattle.checks.proofs.Ranges.{tells_yes, tells_no}
use Rattle.settle.specs.Order.{bucket_in, buckets_in, Ahead, is_ahead, InOrder, Leave}
use Rattle.settle.specs.Cited.{Comes}
use Rattle.settle.specs.declared.candidates.Candidates.{Candidates}
use Rattle.meaning.proofs.Order.{not_above}
use Rattle.settle.proofs.Steepest.{ahead_same, ahead_further, tells_ahead}

-- ---- All neighbours.

-- in front of ordered buckets one that is ahead of the first
in_order_more : (k j : Bucket) (f : List Bucket) → Ahead k j → InOrder (j ∷ f) → InOrder (k ∷ j ∷ f)
unfolding InOrder
in_order_more k j f a o = (λ i m. split i (Memᴰ.cases_cons m), o)
  where
    split : (i : Bucket) → (i ≡ j) ⊎ (i ∈ f) → Ahead k i
    split i (inl e) = subst (Ahead k) (sym e) a
    split i (inr m) = ahead_further a (o.0 i m)

-- the test of two pairs
abbrev pub pair_ahead : List ℕ → List ℕ → Bool
pair_ahead a b = is_ahead (bucket_in a) (bucket_in b)

in_order_from :
    (pairs : List (List ℕ))
    → ((k : ℕ) (d : List ℕ) → k + 1 < length pairs → true ≡ pair_ahead (get_or pairs k d) (get_or pairs (k + 1) d))
    → InOrder (buckets_in pairs)
unfolding InOrder
in_order_from [] h = tt
in_order_from (a ∷ []) h = (λ j m. absurd (Memᴰ.not-nil m), tt)
in_order_from (a ∷ b ∷ l) h =
    in_order_more (bucket_in a) (bucket_in b) (buckets_in l) (tells_ahead.yes_means (sym (h 0 a (omega arith))))
    (in_order_from (b ∷ l) (λ k d m. simp unary_clauses (simp unary_clauses at (h (suc k) d (omega arith)))))

in_order_pair :
    (pairs : List (List ℕ)) (k : ℕ) (d : List ℕ) → InOrder (buckets_in pairs) → k + 1 < length pairs
    → Ahead (bucket_in (get_or pairs k d)) (bucket_in (get_or pairs (k + 1) d))
unfolding InOrder
in_order_pair [] k d o h = absurd (omega arith)
in_order_pair (a ∷ []) k d o h = absurd (omega arith)
in_order_pair (a ∷ b ∷ l) zero d o h = o.0 (bucket_in b) (Memᴰ.head refl)
in_order_pair (a ∷ b ∷ l) (suc k) d o h = simp unary_clauses (simp unary_clauses at (in_order_pair (b ∷ l) k d o.1 (omega arith)))

-- so the answer for all neighbours tells
pub tells_in_order :
    (pairs : List (List ℕ)) (answer : Bool) → IsAllAdjacentAnswer (λ a b r. r ≡ pair_ahead a b) pairs answer
    → Tells (InOrder (buckets_in pairs)) answer
tells_in_order pairs true all = tells_yes (in_order_from pairs all)
tells_in_order pairs false (k, inside, apart) =
    tells_no (λ o. tells_ahead.no_means (sym (apart [])) (in_order_pair pairs k [] o inside))

-- ---- The next one below the bound.

-- The candidates once some that are not below the bound are passed.
pub record Passing (start now : Candidates) : Type 0 where
  pub in_order : now.ordered ≡ true
  pub same : now.bound ≡ start.bound
  pub left : Leave start.bound (buckets_in start.left.now) (buckets_in now.left.now)

pub leave_all : {bound : ℕ} {f : List Bucket} → Leave bound f f
leave_all = record { among = λ k m. m; kept = λ k m b. m }

pub passing_start : {start : Candidates} → start.ordered ≡ true → Passing start start
passing_start o = record { in_order = o; same = refl; left = leave_all }

-- where buckets are in order, those behind the first one are
pub in_order_rest :
    {pairs : List (List ℕ)} {first : List ℕ} {rest : List (List ℕ)} → pairs ≡ first ∷ rest → InOrder (buckets_in pairs)
    → InOrder (buckets_in rest)
unfolding InOrder
in_order_rest {first = first} {rest = rest} e o =
    let l : InOrder (buckets_in (first ∷ rest)) = rw e at o in l.1

module _ {start now : Candidates} (w : Passing start now) where
  -- none is left
  pub comes_none : now.left.now ≡ [] → Comes start None now
  comes_none e =
      record {
        best = record {
          told = λ k m. not_above (λ b. Memᴰ.not-nil (subst (λ (l : List (List ℕ)). k ∈ buckets_in l) e (w.left.kept k m b)));
        };
        left = w.left;
      }

  module _
      {first : List ℕ} {rest : List (List ℕ)} (e : now.left.now ≡ first ∷ rest) {next : held.Bucket}
      (is : bucket_of next ≡ bucket_in first)
    where
      begins : buckets_in now.left.now ≡ bucket_of next ∷ buckets_in rest
      begins = ap buckets_in e ∙ ap (λ (k : Bucket). k ∷ buckets_in rest) (sym is)

      first_ahead : (j : Bucket) → j ∈ buckets_in rest → Ahead (bucket_of next) j
      unfolding InOrder
      first_ahead = (subst InOrder begins (now.in_order w.in_order)).0

      -- the first that is left is below the bound
      pub comes_first_lem : next.rate < now.bound → Comes start (Some next) now
      comes_first_lem below =
          record {
            best = record {
              told = record {
                inside = w.left.among _ (rw begins (Memᴰ.head refl));
                below = omega (arith, w.same);
                ahead = λ k m b. split k (Memᴰ.cases_cons (rw begins at (w.left.kept k m b)));
              };
            };
            left = w.left;
          }
        where
          split : (k : Bucket) → (k ≡ bucket_of next) ⊎ (k ∈ buckets_in rest) → Ahead (bucket_of next) k
          split k (inl s) = ahead_same s
          split k (inr m) = first_ahead k m

      -- it is not
      pub passing_step :
          now.bound ≤ next.rate → {after : Candidates} → after.bound ≡ now.bound → after.ordered ≡ now.ordered
          → after.left.now ≡ rest → Passing start after
      passing_step past {after} b o l =
          record {
            in_order = o ∙ w.in_order;
            same = b ∙ w.same;
            left = record {
              among = λ k m. w.left.among k (rw begins (Memᴰ.tail (rw l at m)));
              kept = λ k m below. rw l (split k below (Memᴰ.cases_cons (rw begins at (w.left.kept k m below))));
            };
          }
        where
          split : (k : Bucket) → k.rate < start.bound → (k ≡ bucket_of next) ⊎ (k ∈ buckets_in rest) → k ∈ buckets_in rest
          split k below (inl s) = absurd (omega (arith, w.same, ap (λ (x : Bucket). x.rate) s))
          split k below (inr m) = m

pub ruleset passing = (passing_start, in_order_rest, comes_none, comes_first_lem, passing_step)
