-- What the contracts and laws of this crate cite, beside the definitions of the crate meaning.
-- Assumes nothing.
use Rattle.std.specs.Prelude.{◌≡◌, Bool, true, false, cond, List, [], ◌∷◌, map, ℕ, ◌+◌, ◌-◌, ◌/◌, ◌≤◌, ◌<◌, leb, ltb, length, drop}
use Rattle.meaning.specs.Curve.{Bucket, bucket_at, NormalForm, added}
use Rattle.meaning.specs.Computed.{merged_sum}
use Rattle.meaning.specs.Refusal.{AllInRange}
use Rattle.meaning.specs.Server.{later, last, port}
use Rattle.meaning.specs.ServerQuestions.{ServerInRange}
use Rattle.checks.specs.Cited.{bucket_of, nth}
use Rattle.operations.specs.declared.adding.Step.{Step}
use Rattle.operations.specs.declared.crossings.Crossing.{Crossing}
use Rattle.operations.specs.declared.gather.Next.{Next}
use Rattle.operations.specs.declared.gather.Next.TheVariants.{First, Second}

-- The bucket of two numbers.
abbrev pub bucket : ℕ → ℕ → Bucket
bucket rate burst = record { rate = rate; burst = burst }

-- A curve that no line refuses.
pub record Tested (f : List Bucket) : Type 0 where
  pub form : NormalForm f
  pub ranged : AllInRange f
  pub few : length f ≤ 64

-- Such a curve at a server (rate, latency), which no line refuses either.
pub record TestedPort (f : List Bucket) (rate latency : ℕ) : Type 0 where
  pub curve : Tested f
  pub bounded : (last f).rate ≤ rate
  pub server : ServerInRange (port rate latency)

-- The least value at a tick of the buckets numbered, from 0, `from` and on and before `end`.
pub record LeastOf (f : List Bucket) (t from end least : ℕ) : Type 0 where
  pub at : ℕ
  pub from_on : from ≤ at
  pub before_end : at < end
  pub reached : least ≡ bucket_at (nth f at) t 1
  pub smallest : (k : ℕ) → from ≤ k → k < end → least ≤ bucket_at (nth f k) t 1

-- The crossing of the bucket numbered k, from 0, with the one before it, as rise over fall.
pub record CrossingAt (f : List Bucket) (k : ℕ) (c : Crossing) : Type 0 where
  pub rise_is : c.rise ≡ (nth f k).burst - (nth f (k - 1)).burst
  pub fall_is : c.fall ≡ (nth f (k - 1)).rate - (nth f k).rate

-- The whole tick up to the crossing of the bucket numbered k, from 0, with the one before it.
unfoldable pub tick_of : List Bucket → ℕ → ℕ
tick_of f k = ((nth f k).burst - (nth f (k - 1)).burst) / ((nth f (k - 1)).rate - (nth f k).rate)

-- By falling rates, and among those of one rate by rising bursts, the first comes no later than the second.
unfoldable pub comes_first : Bucket → Bucket → Bool
comes_first k j = cond (ltb j.rate k.rate) true (cond (ltb k.rate j.rate) false (leb k.burst j.burst))

-- Two lists of buckets merged in that order.
unfoldable pub merged : List Bucket → List Bucket → List Bucket
unfolding comes_first
merged [] g = g
merged (k ∷ f) [] = k ∷ f
merged (k ∷ f) (j ∷ g) = cond (comes_first k j) (k ∷ merged f (j ∷ g)) (j ∷ merged (k ∷ f) g)

-- The raw buckets of a curve behind a server: the line (rate, burst), then (r, b + r·T) for each bucket from `first` on.
unfoldable pub line_and_later : List Bucket → ℕ → ℕ → ℕ → ℕ → List Bucket
line_and_later f first rate burst latency = bucket rate burst ∷ map (later latency) (drop first f)

-- The next bucket of two lists merged is the first of the one list or of the other, and the rest are merged behind it.
abbrev pub NextOf : List Bucket → List Bucket → Next → Type 0
NextOf f g (First k) = (1 ≤ length f) × (merged f g ≡ bucket_of k ∷ merged (drop 1 f) g)
NextOf f g (Second k) = (1 ≤ length g) × (merged f g ≡ bucket_of k ∷ merged f (drop 1 g))

-- When a curve goes over from the bucket numbered i, from 0, to the next: at their crossing; where it is the last, after every time,
-- as 1/0.
pub record TurnAfter (f : List Bucket) (i : ℕ) (c : Crossing) : Type 0 where
  pub next : i + 1 < length f → CrossingAt f (i + 1) c
  pub last : length f ≤ i + 1 → (c.rise ≡ 1) × (c.fall ≡ 0)

-- Of two curves the buckets at hand, numbered i and j from 0; these are not both the last.
pub record AtHand (f g : List Bucket) (i j : ℕ) : Type 0 where
  pub first_inside : i < length f
  pub second_inside : j < length g
  pub not_last : i + j + 2 < length f + length g

-- Where the two are merged to their sum: by how many buckets the walk goes on in each.
pub record StepOf (f g : List Bucket) (i j : ℕ) (step : Step) : Type 0 where
  pub inside : (i + step.first < length f) × (j + step.second < length g)
  pub next :
      merged_sum (drop i f) (drop j g) ≡ added (nth f i) (nth g j) ∷ merged_sum (drop (i + step.first) f) (drop (j + step.second) g)
