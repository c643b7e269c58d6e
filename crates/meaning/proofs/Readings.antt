-- Readings of the definitions, for a reader who has other words in mind. Normal form by positions: "every other bucket" is every
-- bucket at another position. A server serves nothing up to its latency, and its rate by the tick from then on, or without limit. A
-- greatest gap is the greatest of the differences, each 0 where it would be negative. The crossing numbered k is at the time
-- (b_k - b_{k-1}) / (r_{k-1} - r_k). The byte counts of profile files.
-- Assumes nothing.
use mathlib.Core.Path.{◌≡◌, refl, sym, ◌∙◌, ap}
use mathlib.Core.Logic.{inl, inr, ◌↔◌}
use mathlib.Core.List.Memᴰ
use mathlib.Core.List.{List, [], ◌∷◌}
use Prim.Native.Nat.{ℕ, suc, ◌+◌, ◌-◌, ◌*◌, ◌≤◌, ◌<◌}
use native.Mathlib.Nat.{le_of_lt}
use native.Mathlib.Omega.{arith}
use lib.ListN.{length, get_or}
use Rattle.meaning.specs.Curve.{Bucket, ◌∈◌, bucket_at, Falling, Useful, NormalForm, Crossing, reads, numbered}
use Rattle.meaning.specs.Server.{RateLatency, Server, rated, pure_delay, numbers_of, Instant, Amount, up_to, no_limit, ◌within◌, ◌fill◌, ◌plus◌, by_rate, served, GreatestGap, Excess, Backlog}
use Rattle.meaning.specs.Profile.{written, curve}
use Rattle.meaning.proofs.Order.{le_or_lt, lt_or_eq_or_gt}
use Rattle.meaning.proofs.Lists.{at_inside, falling_at}
use Rattle.meaning.proofs.Curve.Value.{same_rate}
use Rattle.meaning.proofs.Curve.Neighbours.{meet, meet_at, below_rises}
use Rattle.meaning.proofs.Server.Joining.{served_past}
use Rattle.meaning.proofs.Server.PureDelay.{delay_late, delay_past}
use Rattle.meaning.proofs.Profile.Files.{curve_bytes_lem}

-- ---- Normal form: every other bucket is every bucket at another position.

-- The bucket at a position, positions counted from 0.
abbrev pub bucket : List Bucket → ℕ → Bucket
bucket f i = get_or f i (record { rate = 0; burst = 0 })

-- What stands in a list has a position.
record Position (f : List Bucket) (k : Bucket) : Type 0 where
  i : ℕ
  inside : i < length f
  there : k ≡ bucket f i

position : {k : Bucket} {f : List Bucket} → k ∈ f → Position f k
position (Memᴰ.head e) = record { i = 0; inside = omega arith; there = e }
position (Memᴰ.tail m) =
    let t = position m in
    record { i = suc t.i; inside = omega arith; there = t.there }

-- Rates fall strictly: the bucket at a later position has the lower rate.
abbrev pub FallingAt : List Bucket → Type 0
FallingAt f = (i j : ℕ) → i < j → j < length f → (bucket f j).rate < (bucket f i).rate

at_falling : (f : List Bucket) → FallingAt f → Falling f
unfolding Falling
at_falling [] h = tt
at_falling (k ∷ f) h = (later, at_falling f (λ i j l m. h (suc i) (suc j) (omega arith) (omega arith)))
  where
    later : (j : Bucket) → j ∈ f → j.rate < k.rate
    later j m = let t = position m in rw t.there (h 0 (suc t.i) (omega arith) (omega arith))

-- rates fall strictly exactly when they do by positions
pub falling_by_position : (f : List Bucket) → Falling f ↔ FallingAt f
falling_by_position f = (λ h. falling_at f h _, at_falling f)

-- where rates fall strictly, buckets at different positions are different
pub other_by_position :
    (f : List Bucket) → Falling f → (i j : ℕ) → i < length f → j < length f → (j ≡ i → ⊥) → bucket f j ≡ bucket f i → ⊥
other_by_position f h i j l m other e =
    elim (lt_or_eq_or_gt i j) [
      | inl before ↦ omega (arith, (falling_by_position f).0 h i j before m, same_rate e)
      | inr (inl same) ↦ other (sym same)
      | inr (inr after) ↦ omega (arith, (falling_by_position f).0 h j i after l, same_rate e)
    ]

-- There is a positive time p/q at which the bucket at a position lies strictly below the bucket at every other position.
pub record UsefulAt (f : List Bucket) (i : ℕ) : Type 0 where
  pub p : ℕ
  pub q : ℕ
  pub p_positive : 0 < p
  pub q_positive : 0 < q
  pub below : (j : ℕ) → j < length f → (j ≡ i → ⊥) → bucket_at (bucket f i) p q < bucket_at (bucket f j) p q

-- where rates fall strictly, a bucket is useful exactly when it is so by its position
pub useful_by_position : (f : List Bucket) → Falling f → (i : ℕ) → i < length f → Useful f (bucket f i) ↔ UsefulAt f i
useful_by_position f h i l = (to, from)
  where
    to : Useful f (bucket f i) → UsefulAt f i
    to u =
        record {
          p = u.p;
          q = u.q;
          p_positive = u.p_positive;
          q_positive = u.q_positive;
          below = λ j m other. u.below (bucket f j) (at_inside f j _ m) (other_by_position f h i j l m other);
        }

    from : UsefulAt f i → Useful f (bucket f i)
    from u = record { p = u.p; q = u.q; p_positive = u.p_positive; q_positive = u.q_positive; below = below }
      where
        below :
            (j : Bucket) → j ∈ f → (j ≡ bucket f i → ⊥) → bucket_at (bucket f i) u.p u.q < bucket_at j u.p u.q
        below j m other =
            let t = position m in
            rw t.there (u.below t.i t.inside (λ e. other (t.there ∙ ap (bucket f) e)))

-- Normal form by positions.
pub record NormalAt (f : List Bucket) : Type 0 where
  pub some : 1 ≤ length f
  pub falling : FallingAt f
  pub useful : (i : ℕ) → i < length f → UsefulAt f i

-- a list is in normal form exactly when it is so by positions
pub normal_by_position : (f : List Bucket) → NormalForm f ↔ NormalAt f
normal_by_position f = (to, from)
  where
    to : NormalForm f → NormalAt f
    to n =
        record {
          some = n.some;
          falling = falling_at f n.falling _;
          useful = λ i h. (useful_by_position f n.falling i h).0 (n.useful (bucket f i) (at_inside f i _ h));
        }

    from : NormalAt f → NormalForm f
    from n = record { some = n.some; falling = falls; useful = useful }
      where
        falls : Falling f
        falls = at_falling f n.falling

        useful : (k : Bucket) → k ∈ f → Useful f k
        useful k m =
            let t = position m in
            rw t.there ((useful_by_position f falls t.i t.inside).1 (n.useful t.i t.inside))

-- ---- Service: nothing up to the latency, then the rate for each tick, or without limit.

-- up to its latency a server serves nothing,
pub served_late : (s : Server) (t : ℕ) → t ≤ (numbers_of s).latency → served s t ≡ up_to 0
unfolding by_rate
served_late (rated s) t h = let none : t - s.latency ≡ 0 = omega arith in rw none (ap up_to (omega arith))
served_late (pure_delay latency) t h = delay_late latency h

-- a rate-latency server, u ticks past it, R·u,
pub served_then : (s : RateLatency) (u : ℕ) → served (rated s) (s.latency + u) ≡ up_to (s.rate * u)
served_then s u = ap up_to (served_past s u refl)

-- and a pure delay, past it, without limit
pub served_past_delay : (latency t : ℕ) → latency < t → served (pure_delay latency) t ≡ no_limit
served_past_delay latency t h = delay_past latency h

-- ---- Greatest: the greatest of the differences, each 0 where it would be negative.

infix 60 ◌less◌
-- So many bits less an amount; less one without limit it is 0.
abbrev pub ◌less◌ : ℕ → Amount → ℕ
a less up_to m = a - m
a less no_limit = 0

-- n is the greatest of a(u) less b(u), where a difference is 0 if it would be negative.
pub record GreatestDifference (a : Instant → ℕ) (b : Instant → Amount) (n : ℕ) : Type 0 where
  pub at : Instant
  pub reached : n ≡ a at less b at
  pub greatest : (u : Instant) → a u less b u ≤ n

-- what is all of an amount and n bits more is n more than it,
filled_more : (x : Amount) (a n : ℕ) → a fill (x plus n) → n ≡ a less x
filled_more (up_to m) a n h = omega arith
filled_more no_limit a n h = absurd h

-- what is within them is at most n more,
within_more : (x : Amount) (a n : ℕ) → a within (x plus n) → a less x ≤ n
within_more (up_to m) a n h = omega arith
within_more no_limit a n h = omega arith

-- and the other way round
more_within : (x : Amount) (a n : ℕ) → a less x ≤ n → a within (x plus n)
more_within (up_to m) a n h = omega arith
more_within no_limit a n h = tt

more_filled : (x : Amount) (a n : ℕ) → 1 ≤ n → n ≡ a less x → a fill (x plus n)
more_filled (up_to m) a n some e = omega arith
more_filled no_limit a n some e = absurd (omega arith)

module _ {a : Instant → ℕ} {b : Instant → Amount} {n : ℕ} where
  -- a greatest gap is the greatest difference,
  pub gap_is_difference : GreatestGap a b n → GreatestDifference a b n
  gap_is_difference g =
      record {
        at = g.at;
        reached = filled_more (b g.at) (a g.at) n g.reached;
        greatest = λ u. within_more (b u) (a u) n (g.greatest u);
      }

  -- and the other way round where nothing is taken away at 0
  pub difference_is_gap : b 0 ≡ up_to 0 → GreatestDifference a b n → GreatestGap a b n
  difference_is_gap none d =
      elim (le_or_lt 1 n) [
        | inl h ↦ record { at = d.at; reached = more_filled (b d.at) (a d.at) n h d.reached; greatest = every }
        | inr h ↦ record { at = 0; reached = rw none (omega (arith, rw none at (every 0))); greatest = every }
      ]
    where
      every : (u : Instant) → a u within (b u plus n)
      every u = more_within (b u) (a u) n (d.greatest u)

-- the backlog is the greatest difference of what is read and what is served
pub backlog_is_difference : (f : List Bucket) (s : Server) (n : ℕ) → Backlog f s n ↔ GreatestDifference (reads f) (served s) n
backlog_is_difference f s n = (gap_is_difference, difference_is_gap (served_late s 0 (omega arith)))

-- and M is the greatest difference of what is read and R·u
pub excess_is_difference :
    (f : List Bucket) (rate n : ℕ) → Excess f rate n ↔ GreatestDifference (reads f) (λ u. up_to (rate * u)) n
excess_is_difference f rate n = (gap_is_difference, difference_is_gap (ap up_to (omega arith)))

-- ---- Crossing: the time at which the two neighbours have one value is (b_k - b_{k-1}) / (r_{k-1} - r_k).

-- p/q is (b_k - b_{k-1}) / (r_{k-1} - r_k).
abbrev pub CrossingTime : List Bucket → ℕ → ℕ → ℕ → Type 0
CrossingTime f k p q =
    ((numbered f k).burst - (numbered f (k - 1)).burst) * q ≡ ((numbered f (k - 1)).rate - (numbered f k).rate) * p

module _ (f : List Bucket) (k p q : ℕ) (second : 2 ≤ k) (inside : k ≤ length f) (some : 0 < q) where
  -- where the rate does not rise nor the burst fall from bucket k-1 to bucket k, their crossing is at that time
  pub crossing_time :
      (numbered f k).rate ≤ (numbered f (k - 1)).rate → (numbered f (k - 1)).burst ≤ (numbered f k).burst
      → Crossing f k p q ↔ CrossingTime f k p q
  crossing_time falls rises =
      let met = meet_at (meet (numbered f (k - 1)) (numbered f k) falls rises) p q in
      (λ c. met.0 c.meets, λ e. record { from_second = second; inside = inside; q_positive = some; meets = met.1 e })

  -- so it is for every two neighbours in normal form
  pub normal_crossing : NormalForm f → Crossing f k p q ↔ CrossingTime f k p q
  normal_crossing n = crossing_time (le_of_lt falls) (le_of_lt rises)
    where
      by : NormalAt f
      by = (normal_by_position f).0 n

      falls : (numbered f k).rate < (numbered f (k - 1)).rate
      falls = by.falling (k - 1 - 1) (k - 1) (omega arith) (omega arith)

      before : UsefulAt f (k - 1 - 1)
      before = by.useful (k - 1 - 1) (omega arith)

      rises : (numbered f (k - 1)).burst < (numbered f k).burst
      rises = below_rises _ _ _ _ (le_of_lt falls) (before.below (k - 1) (omega arith) (omega arith))

-- ---- The profile file.

module _ (ed : ℕ) (f : List Bucket) where
  -- a curve of one bucket has 10 bytes,
  pub one_bucket_bytes : length f ≡ 1 → length (written ed (curve f)) ≡ 10
  one_bucket_bytes e = omega (arith, curve_bytes_lem ed f)

  -- one of two has 17,
  pub two_bucket_bytes : length f ≡ 2 → length (written ed (curve f)) ≡ 17
  two_bucket_bytes e = omega (arith, curve_bytes_lem ed f)

  -- and one of 64 has 482
  pub longest_bytes : length f ≡ 64 → length (written ed (curve f)) ≡ 482
  longest_bytes e = omega (arith, curve_bytes_lem ed f)
