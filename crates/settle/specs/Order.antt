-- The order of candidates, by falling rates, and by rising bursts among those of one rate.
-- Assumes nothing.
use Rattle.std.specs.Prelude.{◌≡◌, Bool, cond, eqb, leb, ltb, map, List, [], ◌∷◌, ◌++◌, ℕ, ◌≤◌, ◌<◌, get_or, Option, MatchOption}
use Rattle.std.specs.Coded.{×_prop, Π_prop, →_prop, Unit-prop}
use Rattle.std.proofs.Props.{props}
use Rattle.meaning.specs.Curve.{Bucket, ◌∈◌}
use Rattle.checks.specs.Cited.{bucket_of}
use Rattle.checks.specs.declared.Bucket as held_bucket

-- The bucket of two numbers, its rate and then its burst.
abbrev pub bucket_in : List ℕ → Bucket
bucket_in pair = record { rate = get_or pair 0 0; burst = get_or pair 1 0 }

-- The buckets of a list that has two numbers for each.
abbrev pub buckets_in : List (List ℕ) → List Bucket
buckets_in pairs = map bucket_in pairs

-- By falling rates, and by rising bursts among those of one rate, c is not behind k.
pub record Ahead (c k : Bucket) : Type 0 where
  pub steeper : k.rate ≤ c.rate
  pub lower : k.rate ≡ c.rate → c.burst ≤ k.burst

-- The same as a test.
unfoldable pub is_ahead : Bucket → Bucket → Bool
is_ahead c k = cond (eqb k.rate c.rate) (leb c.burst k.burst) (ltb k.rate c.rate)

-- Buckets that stand in that order: rates never rise, and among those of one rate bursts never fall.
unfoldable pub InOrder : List Bucket → Type 0
InOrder [] = Unit {0}
InOrder (k ∷ f) = ((j : Bucket) → j ∈ f → Ahead k j) × InOrder f

-- That they do has one proof at most.
pub Ahead-prop : (c k : Bucket) → IsProp (Ahead c k)
Ahead-prop c k = Prim.hlevel props

pub InOrder-prop : (f : List Bucket) → IsProp (InOrder f)
unfolding InOrder
InOrder-prop [] = Unit-prop
InOrder-prop (k ∷ f) = ×_prop (Π_prop (λ j. →_prop (Ahead-prop k j))) (InOrder-prop f)

-- Of the buckets with a rate below the bound c is the first by that order.
pub record First (bound : ℕ) (f : List Bucket) (c : Bucket) : Type 0 where
  pub inside : c ∈ f
  pub below : c.rate < bound
  pub ahead : (k : Bucket) → k ∈ f → k.rate < bound → Ahead c k

-- The first of them is found, or that there is none.
pub record Best (bound : ℕ) (f : List Bucket) (found : Option held_bucket.Bucket) : Type 0 where
  pub told : MatchOption found ((k : Bucket) → k ∈ f → bound ≤ k.rate) (λ c. First bound f (bucket_of c))

-- Of every list of which the one is the best, the other is the best once the next bucket is added.
pub record Keeps (bound : ℕ) (best : Option held_bucket.Bucket) (next : held_bucket.Bucket) (after : Option held_bucket.Bucket) : Type 0 where
  pub added : (f : List Bucket) → Best bound f best → Best bound (f ++ bucket_of next ∷ []) after

-- Some buckets are left of a list, all with a rate below the bound among them.
pub record Leave (bound : ℕ) (f left : List Bucket) : Type 0 where
  pub among : (k : Bucket) → k ∈ left → k ∈ f
  pub kept : (k : Bucket) → k ∈ f → k.rate < bound → k ∈ left
