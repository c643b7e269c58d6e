-- Walks over a curve's buckets.
-- Assumes nothing.
use Rattle.std.specs.Prelude.{List, ℕ, ◌≤◌, ◌<◌, length}
use Rattle.meaning.specs.Curve.{Bucket}
use Rattle.checks.specs.Cited.{nth}

-- The number, from 0, of the first bucket of rate at most R: those before it are steeper.
pub record FirstSlow (f : List Bucket) (rate first : ℕ) : Type 0 where
  pub inside : first < length f
  pub steeper : (k : ℕ) → k < first → rate < (nth f k).rate
  pub slow : (nth f first).rate ≤ rate
