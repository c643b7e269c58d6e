-- What the contracts of tests cite.
-- Assumes nothing.
use Rattle.std.specs.Prelude.{◌≡◌, Bool, true, false, List, ℕ, get_or}
use Rattle.meaning.specs.Curve.{Bucket}
use Rattle.checks.specs.declared.Bucket as held_bucket

-- The answer is true exactly where P holds.
pub record Tells (P : Type 0) (answer : Bool) : Type 0 where
  pub yes_means : answer ≡ true → P
  pub no_means : answer ≡ false → P → ⊥

-- The bucket that code holds.
abbrev pub bucket_of : held_bucket.Bucket → Bucket
bucket_of k = record { rate = k.rate; burst = k.burst }

-- The bucket numbered k, from 0, of a curve; (0, 0) where there is none.
abbrev pub nth : List Bucket → ℕ → Bucket
nth f k = get_or f k (record { rate = 0; burst = 0 })
