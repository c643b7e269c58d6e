-- Forms that can be worked out, for the figures and for code to follow. None of them is what anything means: for each, a
-- theorem of proofs/ says that it is the meaning that Curve and Server give (docs/LAWS.md lists them).
-- Assumes nothing.
use Rattle.std.specs.Prelude.{Bool, true, false, ◌&&◌, cond, List, [], ◌∷◌, ◌++◌, map, ℕ, ◌+◌, ◌-◌, ◌*◌, ◌/◌, min, max, leb, ltb, eqb}
use Rattle.meaning.specs.Curve.{Bucket, added, reads}
use Rattle.meaning.specs.Server.{RateLatency, Server, rated, pure_delay, later, slower, last}

-- The smaller of two codes, where 0 is none.
unfoldable pub earlier : ℕ → ℕ → ℕ
earlier a b = cond (eqb a 0) b (cond (eqb b 0) a (min a b))

-- The neighbours' test of normal form: from a bucket on, where the crossing before it is x/y, rates fall, and each crossing
-- with the next bucket comes later than the one before.
unfoldable pub crossings_rise : Bucket → ℕ → ℕ → List Bucket → Bool
crossings_rise k x y [] = true
crossings_rise k x y (j ∷ f) =
    ltb j.rate k.rate
    && ltb (x * (k.rate - j.rate)) ((j.burst - k.burst) * y)
    && crossings_rise j (j.burst - k.burst) (k.rate - j.rate) f

-- The first crossing comes after time 0.
unfoldable pub is_normal : List Bucket → Bool
unfolding crossings_rise
is_normal [] = false
is_normal (k ∷ f) = crossings_rise k 0 1 f

-- The times at which a candidate is strictly below the buckets seen so far: after low/low_over and before high/high_over
-- (high_over 0: no end).
pub record Ends : Type 0 where
  pub low : ℕ
  pub low_over : ℕ
  pub high : ℕ
  pub high_over : ℕ

-- Nothing seen: every positive time.
unfoldable pub every_time : Ends
every_time = record { low = 0; low_over = 1; high = 1; high_over = 0 }

-- A steeper bucket j is above c only past their crossing, which may be the later end.
unfoldable pub after_steeper : Bucket → Bucket → Ends → Ends
after_steeper c j e =
    cond (ltb (e.low * (j.rate - c.rate)) ((c.burst - j.burst) * e.low_over))
    (record { low = c.burst - j.burst; low_over = j.rate - c.rate; high = e.high; high_over = e.high_over })
    e

-- A flatter bucket j is above c only up to their crossing, which may be the earlier end.
unfoldable pub before_flatter : Bucket → Bucket → Ends → Ends
before_flatter c j e =
    cond (ltb ((j.burst - c.burst) * e.high_over) (e.high * (c.rate - j.rate)))
    (record { low = e.low; low_over = e.low_over; high = j.burst - c.burst; high_over = c.rate - j.rate })
    e

-- A bucket of the same rate is never above c, or always.
unfoldable pub beside_equal : Bucket → Bucket → Ends → Ends
beside_equal c j e =
    cond (ltb j.burst c.burst) (record { low = e.low; low_over = e.low_over; high = 0; high_over = 1 }) e

-- The times that are left once bucket j is seen too.
unfoldable pub narrowed : Bucket → Bucket → Ends → Ends
unfolding after_steeper before_flatter beside_equal
narrowed c j e =
    cond (ltb c.rate j.rate) (after_steeper c j e)
    (cond (ltb j.rate c.rate) (before_flatter c j e) (beside_equal c j e))

-- Some time is left.
unfoldable pub is_open : Ends → Bool
is_open e = ltb (e.low * e.high_over) (e.high * e.low_over)

-- Some time is left after every bucket of the list.
unfoldable pub stays_open : Bucket → Ends → List Bucket → Bool
unfolding narrowed is_open
stays_open c e [] = true
stays_open c e (j ∷ f) = is_open (narrowed c j e) && stays_open c (narrowed c j e) f

-- The candidate is useful in the list.
unfoldable pub is_useful : List Bucket → Bucket → Bool
unfolding stays_open every_time
is_useful f c = stays_open c every_time f

-- A bucket put in its place by falling rates. (Two useful buckets of one rate are the same bucket.)
unfoldable pub insert : Bucket → List Bucket → List Bucket
insert k [] = k ∷ []
insert k (j ∷ f) = cond (ltb j.rate k.rate) (k ∷ j ∷ f) (cond (ltb k.rate j.rate) (j ∷ insert k f) (j ∷ f))

-- The useful ones of some buckets of a list, by falling rates.
unfoldable pub chosen : List Bucket → List Bucket → List Bucket
unfolding insert is_useful
chosen raw [] = []
chosen raw (k ∷ f) = cond (is_useful raw k) (insert k (chosen raw f)) (chosen raw f)

-- The normal form of a list.
unfoldable pub normal : List Bucket → List Bucket
unfolding chosen
normal raw = chosen raw raw

-- The crossing of k with the next bucket l comes before that of j with i.
unfoldable pub crosses_before : Bucket → Bucket → Bucket → Bucket → Bool
crosses_before k l j i = ltb ((l.burst - k.burst) * (j.rate - i.rate)) ((i.burst - j.burst) * (k.rate - l.rate))

-- The sum of two curves in normal form by merging, from a bucket of each on, k with f behind it and j with g: what follows k and j
-- added. The next bucket takes a step in the curve whose crossing comes first, and in both where they come together.
unfoldable pub sum_after : Bucket → List Bucket → Bucket → List Bucket → List Bucket
unfolding added crosses_before
sum_after k [] j [] = []
sum_after k (l ∷ f) j [] = added l j ∷ sum_after l f j []
sum_after k [] j (i ∷ g) = added k i ∷ sum_after k [] i g
sum_after k (l ∷ f) j (i ∷ g) =
    let first = sum_after l f j (i ∷ g) in
    let second = sum_after k (l ∷ f) i g in
    let both = sum_after l f i g in
    cond (crosses_before k l j i) (added l j ∷ first) (cond (crosses_before j i k l) (added k i ∷ second) (added l i ∷ both))

-- The whole of it starts with the first bucket of both.
unfoldable pub merged_sum : List Bucket → List Bucket → List Bucket
unfolding sum_after
merged_sum [] g = []
merged_sum (k ∷ f) [] = []
merged_sum (k ∷ f) (j ∷ g) = added k j ∷ sum_after k f j g

-- M, the greatest of what is read at s less R·s, for a curve in normal form: it is reached at the last whole tick
-- up to the crossing with the first bucket of rate at most R, or at the one after.
unfoldable pub excess_at : List Bucket → ℕ → ℕ → ℕ
unfolding reads
excess_at f rate s = max (reads f s - rate * s) (reads f (s + 1) - rate * (s + 1))

-- (from a bucket on, the bucket before it given)
unfoldable pub excess_from : List Bucket → ℕ → Bucket → List Bucket → ℕ
unfolding excess_at
excess_from f rate before [] = 0
excess_from f rate before (k ∷ g) =
    cond (leb k.rate rate) (excess_at f rate ((k.burst - before.burst) / (before.rate - k.rate)))
    (excess_from f rate k g)

-- (for a whole curve: where its first rate is at most R, it is reached at tick 0)
unfoldable pub excess : List Bucket → ℕ → ℕ
unfolding excess_from
excess [] rate = 0
excess (k ∷ f) rate = cond (leb k.rate rate) k.burst (excess_from (k ∷ f) rate k f)

-- The curve behind a server.
unfoldable pub behind : List Bucket → Server → List Bucket
unfolding normal excess slower later
behind f (rated s) = normal (slower s f ++ record { rate = s.rate; burst = s.rate * s.latency + excess f s.rate } ∷ [])
behind f (pure_delay latency) = normal (map (later latency) f)

-- backlog is the burst of the curve behind.
unfoldable pub backlog : List Bucket → Server → ℕ
unfolding behind reads
backlog f s = reads (behind f s) 0

-- A quotient rounded up.
unfoldable pub rounded_up : ℕ → ℕ → ℕ
rounded_up b r = (b + r - 1) / r

-- How long a server holds a curve that carries anything: T + M/R, the quotient rounded up; a pure delay, T.
unfoldable pub held : List Bucket → Server → ℕ
unfolding excess rounded_up
held f (rated s) = s.latency + rounded_up (excess f s.rate) s.rate
held f (pure_delay latency) = latency

-- delay is that, and 0 for the curve that carries nothing: by tick 1 nothing has come.
unfoldable pub delay : List Bucket → Server → ℕ
unfolding held reads
delay f s = cond (eqb (reads f 1) 0) 0 (held f s)

-- The rate-latency server left beside a cross curve.
unfoldable pub residual : List Bucket → RateLatency → RateLatency
unfolding rounded_up last
residual cross s =
    record { rate = s.rate - (last cross).rate; latency = s.latency + rounded_up (last cross).burst s.rate }
