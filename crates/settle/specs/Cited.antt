-- What the contracts of this crate's own functions cite, beside the definitions of the crate meaning.
-- Assumes nothing.
use Rattle.std.specs.Prelude.{◌≡◌, false, cond, ltb, map, List, [], ◌∷◌, ◌++◌, ℕ, ◌-◌, ◌*◌, ◌^◌, ◌≤◌, ◌<◌, length, take, drop, Option, Some, MatchOption, Result, IsOk, IsErr}
use Rattle.meaning.specs.Curve.{Bucket, buckets, NormalOf}
use Rattle.meaning.specs.Computed.{Ends, is_open, normal}
use Rattle.meaning.specs.Refusal.{LIST, RANGE, ROOM, number, ◌when◌, ◌or◌, Within, AllWithin, Uneven, Question, over, part}
use Rattle.checks.specs.declared.Bucket as held_bucket
use Rattle.settle.specs.Order.{buckets_in, Best, Leave}
use Rattle.settle.specs.declared.candidates.Candidates.{Candidates}
use Rattle.settle.specs.declared.ends.Ends as held_ends
use Rattle.settle.specs.declared.ends.Time.{Time}

-- Raw buckets of a question, before normal form is taken: a burst may be up to twice its range, as it is behind a server.
abbrev pub Wide : Bucket → Type 0
Wide = Within (2 ^ 20) (2 ^ 41)

-- Every bucket of a list is.
abbrev pub AllWide : List Bucket → Type 0
AllWide = AllWithin (2 ^ 20) (2 ^ 41)

-- The normal form of some raw buckets, two numbers for each, of which there is at least one and none is wider than that.
unfoldable pub settling : List ℕ → Question
settling raw =
    record { operands = LIST when (Uneven 2 raw) or RANGE when (AllWide (buckets raw) → ⊥); Answer = NormalOf (buckets raw) }

-- Some buckets, two numbers for each, as they stand.
unfoldable pub delivering : List ℕ → Question
delivering pairs = record { operands = LIST when (Uneven 2 pairs); Answer = λ f. f ≡ buckets pairs }

-- ---- The search over one candidate.

-- Ends by the two times that code holds, and the ends that it holds.
abbrev pub between : Time → Time → Ends
between low high = record { low = low.ticks; low_over = low.over; high = high.ticks; high_over = high.over }

abbrev pub ends_of : held_ends.Ends → Ends
ends_of e = between e.low e.high

-- A steeper bucket comes up to a flatter one at that time.
pub record Crosses (steeper flatter : Bucket) (t : Time) : Type 0 where
  pub ticks_are : t.ticks ≡ flatter.burst - steeper.burst
  pub over_is : t.over ≡ steeper.rate - flatter.rate

-- The ends once only what is after a time is left of them, or only what is before it.
abbrev pub after : held_ends.Ends → Time → Ends
after e t = cond (ltb (e.low.ticks * t.over) (t.ticks * e.low.over)) (between t e.high) (ends_of e)

abbrev pub before : held_ends.Ends → Time → Ends
before e t = cond (ltb (t.ticks * e.high.over) (e.high.ticks * t.over)) (between e.low t) (ends_of e)

-- The ends, if some time is left between them.
pub record Leaves (e : Ends) (x : Option held_ends.Ends) : Type 0 where
  pub told : MatchOption x (is_open e ≡ false) (λ left. ends_of left ≡ e)

-- ---- The candidates.

-- The candidates of the pairs are sought, from the first on.
pub record Starts (pairs : List (List ℕ)) (x : Candidates) : Type 0 where
  pub all : x.left.now ≡ pairs
  pub bound_is : x.bound ≡ 2 ^ 20

-- The next candidate comes, and all buckets with a rate below the bound are still among those that are left.
pub record Comes (before : Candidates) (found : Option held_bucket.Bucket) (after : Candidates) : Type 0 where
  pub best : Best before.bound (buckets_in before.left.now) found
  pub left : Leave before.bound (buckets_in before.left.now) (buckets_in after.left.now)

-- Its rate is the next bound.
pub record Bounds (found : Option held_bucket.Bucket) (after : Candidates) : Type 0 where
  pub bound_is : (c : held_bucket.Bucket) → found ≡ Some c → after.bound ≡ c.rate

-- ---- What is written.

-- The two numbers of a bucket.
abbrev pub numbers : Bucket → List ℕ
numbers k = k.rate ∷ k.burst ∷ []

-- The pairs chosen are the normal form's, or it has over 64 buckets.
pub record Chose {Refused : Type 0} (raw : List Bucket) (chosen : List (List ℕ)) (all : Result (Unit {0}) Refused) : Type 0 where
  pub whole : IsOk all → chosen ≡ map numbers (normal raw)
  pub over_many : IsErr all → 64 < length (normal raw)

-- The answer stands in the part of the table; or the part is too short for it, which is ROOM, and the table stays.
pub record Placed (answer : List ℕ) (at room : ℕ) (before after : List ℕ) (code : ℕ) : Type 0 where
  pub fits : code ≡ 0 → length answer ≤ length (part at room before)
  pub stands : code ≡ 0 → after ≡ take at before ++ over answer (drop at before)
  pub short : (code ≡ 0 → ⊥) → length (part at room before) < length answer
  pub is_room : (code ≡ 0 → ⊥) → code ≡ number ROOM
  pub stays : (code ≡ 0 → ⊥) → after ≡ before
