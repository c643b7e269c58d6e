-- The laws of servers for both kinds: each is the law of rate-latency servers, or that of pure delays, or comes of the two together.
-- Where a pure delay stands beside another server it is taken for a rate-latency server that is fast enough: then hop by hop is one
-- step in all four combinations. Only the delays are added up by themselves.
-- Assumes nothing.
use mathlib.Core.Path.{◌≡◌, refl, sym, ◌∙◌, ap}
use mathlib.Core.Logic.{inl, inr}
use mathlib.Core.List.{List, map}
use Prim.Native.Nat.{ℕ, ◌+◌, ◌-◌, ◌*◌, ◌^◌, ◌≤◌, ◌<◌, min, max}
use native.Mathlib.Nat.{le_trans, add_comm, add_assoc, zero-add, mul-le-mul, mul-le-mul_left}
use native.Mathlib.Omega.{arith}
use native.Mathlib.Decide.{ℕ_discrete}
use lib.ListN.{length, length-map}
use Rattle.meaning.specs.Curve.{Bucket, bucket_at, NormalForm, reads}
use Rattle.meaning.specs.Server.{RateLatency, Server, rated, pure_delay, port, numbers_of, server_named, Instant, Amount, up_to, no_limit, ◌within◌, ◌fill◌, ◌plus◌, by_rate, served, GreatestGap, join_rated, join, later, BehindRated, Behind, Backlog, Suffices, DelayRated, HeldFor, Delay, last, Residual}
use Rattle.meaning.specs.Refusal.{InRange}
use Rattle.meaning.specs.ServerQuestions.{ServerInRange, Outruns}
use Rattle.meaning.specs.Computed.{behind, backlog, delay}
use Rattle.meaning.proofs.Order.{le_or_lt, not_above}
use Rattle.meaning.proofs.Curve.Value.{value_least, some}
use Rattle.meaning.proofs.Curve.Reads.{reads_rise}
use Rattle.meaning.proofs.Curve.Normal.{normal_is}
use Rattle.meaning.proofs.Curve.Unique.{normal_of_unique}
use Rattle.meaning.proofs.Server.Excess.{excess_bounded}
use Rattle.meaning.proofs.Server.Joining.{last_inside, rounded_up_is, smallest_unique, residual_unique, rated_join_order, rated_join_assoc, rated_join_convolution}
use Rattle.meaning.proofs.Server.Behind.{rated_behind_greatest, rated_behind_is}
use Rattle.meaning.proofs.Server.HopByHop.{rated_hop_by_hop, rated_behind_unique, rated_joined_delay}
use Rattle.meaning.proofs.Server.Delay.{carries_nothing, rated_delay_of_nothing, delay_from_excess, rated_delay_is}
use Rattle.meaning.proofs.Server.PureDelay.{delay_late, delay_past, reads_later, delay_greatest, NoFaster, steepest, none_steeper, as_fast, from_fast, held_is, held_unique, held_most, held_suffices, held_needed}
use Rattle.meaning.proofs.Server.Sizes.{rated_backlog_fits, rated_delay_fits}

infixl 40 ◌and◌
infix 30 ◌at_most◌
-- ---- What is behind a server of a known kind.

pub behind_rate : {f g : List Bucket} {s : RateLatency} → Behind f (rated s) g → BehindRated f s g
behind_rate (Behind.of_rate b) = b

pub delay_rate : {f : List Bucket} {s : RateLatency} {d : ℕ} → Delay f (rated s) d → DelayRated f s d
delay_rate (Delay.of_rate d) = d

pub delay_held : {f : List Bucket} {latency d : ℕ} → Delay f (pure_delay latency) d → HeldFor f latency d
delay_held (Delay.of_delay d) = d

-- ---- The curve behind, and the backlog.

-- behind, by tick t, is the greatest gap between what has come by t+u and what the server has done by u, for whole u
pub behind_greatest :
    {f g : List Bucket} {s : Server} → 1 ≤ length f → Behind f s g → (t : ℕ)
    → GreatestGap (λ u. reads f (t + u)) (served s) (reads g t)
behind_greatest has (Behind.of_rate b) t = rated_behind_greatest has b t
behind_greatest {f} has (Behind.of_delay {latency = latency} n) t = delay_greatest f latency has n t

-- the backlog is the burst of the curve behind
pub backlog_behind : {f g : List Bucket} {s : Server} → 1 ≤ length f → Behind f s g → Backlog f s (reads g 0)
backlog_behind has b = simp zero-add at (behind_greatest has b 0)

-- The server keeps up with a curve in the long run: the last rate is at most R. A pure delay does.
abbrev pub KeepsUp : List Bucket → Server → Type 0
KeepsUp f (rated s) = (last f).rate ≤ s.rate
KeepsUp f (pure_delay latency) = Unit {0}

-- that is to say that the curve does not outrun it,
pub keeps_up : (f : List Bucket) (s : Server) → (Outruns f s → ⊥) → KeepsUp f s
keeps_up f (rated s) h = not_above h
keeps_up f (pure_delay latency) h = tt

-- and the other way round
pub not_outrun : (f : List Bucket) (s : Server) → KeepsUp f s → Outruns f s → ⊥
not_outrun f (rated s) slow above = omega arith
not_outrun f (pure_delay latency) slow above = above

-- the computed curve is the one behind
pub behind_is : (f : List Bucket) (s : Server) → NormalForm f → KeepsUp f s → Behind f s (behind f s)
unfolding behind
behind_is f (rated s) n slow = Behind.of_rate (rated_behind_is f s n slow)
behind_is f (pure_delay latency) n slow =
    Behind.of_delay (normal_is (map (later latency) f) (omega (arith, length-map f (later latency), n.some)))

-- the computed number is the backlog
pub backlog_is : (f : List Bucket) (s : Server) → NormalForm f → KeepsUp f s → Backlog f s (backlog f s)
unfolding backlog
backlog_is f s n slow = backlog_behind n.some (behind_is f s n slow)

-- there is one list behind a server
pub behind_unique : {f g h : List Bucket} {s : Server} → Behind f s g → Behind f s h → g ≡ h
behind_unique (Behind.of_rate x) (Behind.of_rate y) = rated_behind_unique x y
behind_unique (Behind.of_delay x) (Behind.of_delay y) = normal_of_unique x y

-- a list behind a server is in normal form
pub behind_form : {f g : List Bucket} {s : Server} → Behind f s g → NormalForm g
behind_form (Behind.of_rate b) = b.normal.form
behind_form (Behind.of_delay n) = n.form

-- the server keeps up with a curve that has one
pub behind_keeps_up : {f g : List Bucket} {s : Server} → NormalForm f → Behind f s g → KeepsUp f s
behind_keeps_up form (Behind.of_rate b) = excess_bounded form b.excess
behind_keeps_up form (Behind.of_delay n) = tt

-- a curve that is at no tick above another has no larger backlog
pub backlog_rises :
    (f g : List Bucket) (s : Server) {m n : ℕ} → ((t : ℕ) → reads f t ≤ reads g t) → Backlog f s m → Backlog g s n → m ≤ n
backlog_rises f g s {m} {n} below b c =
    amount_at_most (served s b.at) (reads f b.at) (reads g b.at) (below b.at) b.reached (c.greatest b.at)
  where
    amount_at_most : (x : Amount) (a a' : ℕ) → a ≤ a' → a fill (x plus m) → a' within (x plus n) → m ≤ n
    amount_at_most (up_to k) a a' h all inside = omega arith
    amount_at_most no_limit a a' h all inside = absurd all

-- ---- The delay.

-- The server has some rate, or is a pure delay.
abbrev pub SomeRate : Server → Type 0
SomeRate (rated s) = 1 ≤ s.rate
SomeRate (pure_delay latency) = Unit {0}

-- so has one in range
pub ranged_rate : (s : Server) → ServerInRange s → SomeRate s
ranged_rate (rated s) h = h.rate_some
ranged_rate (pure_delay latency) h = tt

-- the computed number is the delay
pub delay_is : {f : List Bucket} (s : Server) → NormalForm f → KeepsUp f s → SomeRate s → Delay f s (delay f s)
delay_is (rated s) n slow some = Delay.of_rate (rated_delay_is s n slow some)
delay_is {f} (pure_delay latency) n slow some = Delay.of_delay (held_is f latency)

-- there is one wherever a curve stands behind the server,
pub delay_exists : {f g : List Bucket} {s : Server} → SomeRate s → Behind f s g → (d : ℕ) × Delay f s d
delay_exists {f} serves (Behind.of_rate {s = s} b) =
    elim (ℕ_discrete (reads f 1) 0) [
      | yes e ↦ (0, Delay.of_rate (rated_delay_of_nothing f s e))
      | no e ↦ (_, Delay.of_rate (delay_from_excess f s _ b.excess (rounded_up_is b.m s.rate serves) e))
    ]
delay_exists {f} serves (Behind.of_delay {latency = latency} n) = (_, Delay.of_delay (held_is f latency))

-- and it is one number
pub delay_unique : {f : List Bucket} {s : Server} {m n : ℕ} → Delay f s m → Delay f s n → m ≡ n
delay_unique (Delay.of_rate x) (Delay.of_rate y) = smallest_unique x y
delay_unique (Delay.of_delay x) (Delay.of_delay y) = held_unique x y

-- a curve that carries nothing by tick 1 has none,
pub delay_of_nothing : (f : List Bucket) (s : Server) → reads f 1 ≡ 0 → Delay f s 0
delay_of_nothing f (rated s) none = Delay.of_rate (rated_delay_of_nothing f s none)
delay_of_nothing f (pure_delay latency) none =
    Delay.of_delay (record { something = λ t h. absurd (omega (arith, carries_nothing f none t)); nothing = λ h. refl })

-- and one that is at no tick above another no larger one
pub delay_rises :
    (f g : List Bucket) {s : Server} {m n : ℕ} → ((t : ℕ) → reads f t ≤ reads g t) → Delay f s m → Delay g s n → m ≤ n
delay_rises f g {n = n} below (Delay.of_rate d) (Delay.of_rate e) = d.smallest n (λ t. omega (arith, below t, e.suffices t))
delay_rises f g below (Delay.of_delay d) (Delay.of_delay e) =
    elim (ℕ_discrete (reads f 1) 0) [
      | yes none ↦ omega (arith, d.nothing (carries_nothing f none))
      | no some ↦ omega (arith, d.something 1 (omega (arith, some)), e.something 1 (omega (arith, some, below 1)))
    ]

-- Every number above the delay suffices, at every whole tick,
pub larger_suffices : {f : List Bucket} {s : Server} {d : ℕ} → Delay f s d → (m : ℕ) → d < m → Suffices f s m
unfolding by_rate
larger_suffices (Delay.of_rate {s = s} x) m more t =
    le_trans (x.suffices t) (mul-le-mul_left s.rate (omega arith))
larger_suffices (Delay.of_delay x) m more t = held_suffices x m more t

-- and, for a curve that carries anything, none below it
pub smaller_fails :
    {f : List Bucket} {s : Server} {d : ℕ} → Delay f s d → (u : ℕ) → 0 < reads f u → (m : ℕ) → m < d → Suffices f s m → ⊥
smaller_fails (Delay.of_rate x) u some m less enough = omega (arith, x.smallest m enough)
smaller_fails (Delay.of_delay x) u some m less enough = held_needed x u some m less enough

-- ---- Joining.

-- joining in the other order gives the same server
pub join_order : (s next : Server) → join s next ≡ join next s
unfolding join
join_order (rated s) (rated next) = ap rated (rated_join_order s next)
join_order (rated s) (pure_delay latency) = ap (port s.rate) (add_comm _ _)
join_order (pure_delay latency) (rated s) = ap (port s.rate) (add_comm _ _)
join_order (pure_delay latency) (pure_delay latency') = ap pure_delay (add_comm _ _)

-- joining three servers gives the same from either end
pub join_assoc : (s next third : Server) → join (join s next) third ≡ join s (join next third)
unfolding join join_rated
join_assoc (rated s) (rated next) (rated third) = ap rated (rated_join_assoc s next third)
join_assoc (rated s) (rated next) (pure_delay c) = ap (port _) (add_assoc _ _ _)
join_assoc (rated s) (pure_delay b) (rated third) = ap (port _) (add_assoc _ _ _)
join_assoc (rated s) (pure_delay b) (pure_delay c) = ap (port _) (add_assoc _ _ _)
join_assoc (pure_delay a) (rated next) (rated third) = ap (port _) (add_assoc _ _ _)
join_assoc (pure_delay a) (rated next) (pure_delay c) = ap (port _) (add_assoc _ _ _)
join_assoc (pure_delay a) (pure_delay b) (rated third) = ap (port _) (add_assoc _ _ _)
join_assoc (pure_delay a) (pure_delay b) (pure_delay c) = ap pure_delay (add_assoc _ _ _)

-- ---- Hop by hop.

-- what stands behind two servers, one after the other, stands behind the joined server
pub hop_by_hop : {f a g : List Bucket} {s next : Server} → 1 ≤ length f → Behind f s a → Behind a next g → Behind f (join s next) g
unfolding join join_rated
hop_by_hop has (Behind.of_rate first) (Behind.of_rate second) = Behind.of_rate (rated_hop_by_hop has first second)
hop_by_hop {a = a} has (Behind.of_rate {s = s} first) (Behind.of_delay {latency = latency} second) =
    let rate = max s.rate (steepest a) in
    let slow : NoFaster a rate = λ k m. omega (arith, none_steeper a k m) in
    let least : min s.rate rate ≡ s.rate = omega arith in
    Behind.of_rate
    (rw least at
    (rated_hop_by_hop has first (as_fast a rate first.normal.form.some slow latency second)))
hop_by_hop {f} has (Behind.of_delay {latency = latency} first) (Behind.of_rate {s = s} second) =
    let rate = max s.rate (steepest f) in
    let slow : NoFaster f rate = λ k m. omega (arith, none_steeper f k m) in
    let least : min rate s.rate ≡ s.rate = omega arith in
    Behind.of_rate
    (rw least at
    (rated_hop_by_hop has (as_fast f rate has slow latency first) second))
hop_by_hop {f} {a} has (Behind.of_delay {latency = latency} first) (Behind.of_delay {latency = latency'} second) =
    let rate = max (steepest f) (steepest a) in
    let slow : NoFaster f rate = λ k m. omega (arith, none_steeper f k m) in
    let slow' : NoFaster a rate = λ k m. omega (arith, none_steeper a k m) in
    let least : min rate rate ≡ rate = omega arith in
    Behind.of_delay
    (from_fast f rate has slow (latency + latency')
    (rw least at
    (rated_hop_by_hop has (as_fast f rate has slow latency first) (as_fast a rate first.form.some slow' latency' second))))

-- one step through the joined server, if answered, is the list of the two hops
pub one_step_is_hop_by_hop :
    {f a g h : List Bucket} {s next : Server} → 1 ≤ length f → Behind f s a → Behind a next g → Behind f (join s next) h → g ≡ h
one_step_is_hop_by_hop has first second joined = behind_unique (hop_by_hop has first second) joined

-- the order of two servers does not matter
pub either_order :
    {f a b g h : List Bucket} {s next : Server}
    → 1 ≤ length f → Behind f s a → Behind a next g → Behind f next b → Behind b s h → g ≡ h
either_order {f} {h = h} {s} {next} has first second other_first other_second =
    one_step_is_hop_by_hop has first second (rw (join_order next s) at (hop_by_hop has other_first other_second))

-- ---- The delays added.

-- the curve behind a server is at no tick below the curve
pub behind_not_below : {f a : List Bucket} {s : Server} → 1 ≤ length f → Behind f s a → (t : ℕ) → reads f t ≤ reads a t
unfolding by_rate
behind_not_below {f} has (Behind.of_rate {s = s} b) t =
    let none : 0 - s.latency ≡ 0 = omega arith in
    omega (arith, reads_rise f {t = t} {u = t + 0} has (omega arith), rw none at ((rated_behind_greatest has b t).greatest 0))
behind_not_below {f} has (Behind.of_delay {latency = latency} n) t =
    omega (arith, reads_later f latency n t, reads_rise f {t = t} {u = t + latency} has (omega arith))

-- past a pure delay the joined server has served what the other one had
served_after : (s : RateLatency) (latency latency' x y : ℕ) → latency' ≡ s.latency + latency → y ≡ x + latency
    → by_rate (record { rate = s.rate; latency = latency' }) y ≡ by_rate s x
unfolding by_rate
served_after s latency latency' x y e e' = let same : y - latency' ≡ x - s.latency = omega arith in ap (λ n. s.rate * n) same

-- the joined server's delay is at most the delays of the two hops together
pub joined_delay :
    {f a : List Bucket} {s next : Server} {d e n : ℕ}
    → 1 ≤ length f → Behind f s a → Delay f s d → Delay a next e → Delay f (join s next) n → n ≤ d + e
unfolding join
joined_delay {f} {a} {s} {next} {d} {e} {n} has b first second joined =
    elim (ℕ_discrete (reads f 1) 0) [
      | yes none ↦ omega (arith, delay_unique joined (delay_of_nothing f (join s next) none))
      | no some ↦ by_kind s next b first second joined (omega (arith, some)) (omega (arith, some, behind_not_below has b 1))
    ]
  where
    by_kind :
        (s next : Server) → Behind f s a → Delay f s d → Delay a next e → Delay f (join s next) n → 0 < reads f 1 → 0 < reads a 1
        → n ≤ d + e
    by_kind (rated s) (rated next) (Behind.of_rate b) (Delay.of_rate first) (Delay.of_rate second) (Delay.of_rate joined) some some' =
        rated_joined_delay next has b first second joined
    by_kind (rated s) (pure_delay latency) b (Delay.of_rate first) (Delay.of_delay second) (Delay.of_rate joined) some some' =
        let is = second.something 1 some' in
        joined.smallest (d + e)
        (λ t. omega (arith, first.suffices t, served_after s latency (s.latency + latency) (t + d) (t + (d + e)) refl (omega arith)))
    by_kind (pure_delay latency) (rated next) b (Delay.of_delay first) (Delay.of_rate second) (Delay.of_rate joined) some some' =
        let is = first.something 1 some in
        joined.smallest (d + e)
        (λ t.
        omega (
          arith,
          behind_not_below has b t,
          second.suffices t,
          served_after next latency (latency + next.latency) (t + e) (t + (d + e)) (omega arith) (omega arith),
        ))
    by_kind (pure_delay latency) (pure_delay latency') b (Delay.of_delay first) (Delay.of_delay second) (Delay.of_delay joined) some some' =
        omega (arith, first.something 1 some, second.something 1 some', joined.something 1 some)

-- ---- The joined server serves the min-plus convolution of what the two serve.

-- What two servers have served, each in its part of a time.
abbrev pub ◌and◌ : Amount → Amount → Amount
up_to m and up_to n = up_to (m + n)
up_to m and no_limit = no_limit
no_limit and x = no_limit

-- An amount is no more than another.
abbrev pub ◌at_most◌ : Amount → Amount → Type 0
up_to m at_most up_to n = m ≤ n
up_to m at_most no_limit = Unit {0}
no_limit at_most up_to n = ⊥
no_limit at_most no_limit = Unit {0}

-- n is the least of a(y) and b(t-y) over the whole y up to t.
pub record Convolved (a b : Instant → Amount) (t : Instant) (n : Amount) : Type 0 where
  pub at : Instant
  pub inside : at ≤ t
  pub reached : n ≡ a at and b (t - at)
  pub least : (y : Instant) → y ≤ t → n at_most (a y and b (t - y))

-- nothing is at most anything
nothing_least : (x : Amount) → up_to 0 at_most x
nothing_least (up_to n) = omega arith
nothing_least no_limit = tt

-- a time past two latencies added is past the first or past the next, however it is parted
no_limit_either :
    (latency latency' t y : ℕ) → latency + latency' < t → y ≤ t
    → no_limit at_most (served (pure_delay latency) y and served (pure_delay latency') (t - y))
no_limit_either latency latency' t y past h =
    elim (le_or_lt y latency) [
      | inl early ↦ rw (delay_late latency early, delay_past latency' {t = t - y} (omega arith)) tt
      | inr late ↦ rw (delay_past latency late) tt
    ]

-- a pure delay beside a rate-latency server: either way round the joined one serves what that one serves by T ticks less
module _ (s : RateLatency) (latency latency' : ℕ) (added : latency' ≡ s.latency + latency) (t : ℕ) where
  -- what it serves by then,
  served_less : by_rate (record { rate = s.rate; latency = latency' }) t ≡ by_rate s (t - latency)
  unfolding by_rate
  served_less = let same : t - latency' ≡ t - latency - s.latency = omega arith in ap (λ n. s.rate * n) same

  -- and no more by any later tick
  less_by : (y : ℕ) → t - latency ≤ y → by_rate (record { rate = s.rate; latency = latency' }) t ≤ by_rate s y
  unfolding by_rate
  less_by y h = mul-le-mul_left s.rate (omega arith)

  pub delay_behind_rate :
      Convolved (served (rated s)) (served (pure_delay latency)) t (up_to (by_rate (record { rate = s.rate; latency = latency' }) t))
  delay_behind_rate =
      record {
        at = t - latency;
        inside = omega arith;
        reached = rw (delay_late latency {t = t - (t - latency)} (omega arith)) (ap up_to (omega (arith, served_less)));
        least = λ y h.
            elim (le_or_lt (t - y) latency) [
              | inl early ↦ rw (delay_late latency early) (omega (arith, less_by y (omega arith)))
              | inr late ↦ rw (delay_past latency late) tt
            ];
      }

  pub rate_behind_delay :
      Convolved (served (pure_delay latency)) (served (rated s)) t (up_to (by_rate (record { rate = s.rate; latency = latency' }) t))
  rate_behind_delay =
      record {
        at = min latency t;
        inside = omega arith;
        reached =
            let rest : t - min latency t ≡ t - latency = omega arith in
            rw (delay_late latency {t = min latency t} (omega arith), rest) (ap up_to (omega (arith, served_less)));
        least = λ y h.
            elim (le_or_lt y latency) [
              | inl early ↦ rw (delay_late latency early) (omega (arith, less_by (t - y) (omega arith)))
              | inr late ↦ rw (delay_past latency late) tt
            ];
      }

pub join_convolution : (s next : Server) (t : ℕ) → Convolved (served s) (served next) t (served (join s next) t)
unfolding join
join_convolution (rated s) (rated next) t =
    let c = rated_join_convolution s next t in
    record { at = c.at; inside = c.inside; reached = ap up_to c.reached; least = c.least }
join_convolution (rated s) (pure_delay latency) t = delay_behind_rate s latency (s.latency + latency) refl t
join_convolution (pure_delay latency) (rated s) t = rate_behind_delay s latency (latency + s.latency) (add_comm _ _) t
join_convolution (pure_delay latency) (pure_delay latency') t =
    elim (le_or_lt t (latency + latency')) [
      | inl early ↦
          rw (delay_late (latency + latency') early)
          (record {
            at = min latency t;
            inside = omega arith;
            reached = rw (delay_late latency {t = min latency t} (omega arith), delay_late latency' {t = t - min latency t} (omega arith));
            least = λ y h. nothing_least (served (pure_delay latency) y and served (pure_delay latency') (t - y));
          })
      | inr late ↦
          rw (delay_past (latency + latency') late)
          (record {
            at = 0;
            inside = omega arith;
            reached = rw (delay_late latency {t = 0} (omega arith), delay_past latency' {t = t - 0} (omega arith));
            least = λ y h. no_limit_either latency latency' t y late h;
          })
    ]

-- ---- How large backlog and delay can be.

-- The last bucket bounds both, for a curve and a server in range that keeps up: they fit 64 bits.
module _ (f : List Bucket) (has : 1 ≤ length f) (ranged : InRange (last f)) where
  -- by a tick of 20 bits at most
  reads_fit : (t : ℕ) → t < 2 ^ 20 → reads f t < 2 ^ 41
  unfolding reads bucket_at
  reads_fit t early =
      omega (
        arith,
        value_least f t 1 (last_inside f has),
        ranged.burst_fits,
        mul-le-mul {n₁ = (last f).rate} {m₁ = t} {n₂ = 2 ^ 20} {m₂ = 2 ^ 20} (omega (arith, ranged.rate_fits)) (omega arith),
      )

  pub backlog_fits : (s : Server) {n : ℕ} → ServerInRange s → KeepsUp f s → Backlog f s n → n < 2 ^ 41
  backlog_fits (rated s) in_range slow b = rated_backlog_fits f s (last_inside f has) ranged in_range slow b
  backlog_fits (pure_delay latency) in_range slow b =
      elim (le_or_lt b.at latency) [
        | inl h ↦ omega (arith, rw (delay_late latency h) at b.reached, reads_fit b.at (omega arith))
        | inr h ↦ absurd (rw (delay_past latency h) at b.reached)
      ]

  pub delay_fits : (s : Server) {d : ℕ} → ServerInRange s → KeepsUp f s → Delay f s d → d < 2 ^ 41
  delay_fits (rated s) in_range slow (Delay.of_rate d) = rated_delay_fits f s (last_inside f has) ranged in_range slow d
  delay_fits (pure_delay latency) in_range slow (Delay.of_delay d) = omega (arith, held_most d)

-- ---- Residual, and servers as numbers.

-- one server is left beside a cross curve
pub left_unique : (cross : List Bucket) (s left other : Server) → Residual cross s left → Residual cross s other → left ≡ other
left_unique cross (rated s) (rated left) (rated other) a b = ap rated (residual_unique a b)
left_unique cross (rated s) (rated left) (pure_delay latency) a b = absurd b
left_unique cross (rated s) (pure_delay latency) other a b = absurd a
left_unique cross (pure_delay latency) left other a b = absurd a

-- the numbers of a server stand for it,
pub numbers_back : (s : Server) → server_named (numbers_of s) ≡ s
unfolding server_named
numbers_back (rated s) = refl
numbers_back (pure_delay latency) = refl

-- so two servers with the same numbers are the same
pub numbers_tell : {s next : Server} → numbers_of s ≡ numbers_of next → s ≡ next
numbers_tell {s} {next} e = sym (numbers_back s) ∙ ap server_named e ∙ numbers_back next
