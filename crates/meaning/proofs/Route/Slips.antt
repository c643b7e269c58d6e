-- Wrong reports that the contract shuts out: each theorem takes what a slip would print, and finds that it is no output of its
-- input.
-- Assumes nothing.
use mathlib.Core.Path.{ap}
use mathlib.Core.Logic.{◌≢◌}
use mathlib.Core.List.{List, [], ◌∷◌, ◌++◌}
use Prim.Native.Nat.{ℕ, ◌≤◌, ◌<◌}
use native.Mathlib.Omega.{arith}
use lib.Dec.{lit≤}
use lib.ListN.{length, take, get_or}
use Rattle.meaning.specs.Curve.{Bucket, buckets, reads, value_at}
use Rattle.meaning.specs.Server.{last, port}
use Rattle.meaning.specs.Computed.{normal, behind, backlog, held, delay}
use Rattle.meaning.specs.Profile.{curve, server, written}
use Rattle.meaning.specs.Figures.{C}
use Rattle.meaning.specs.Route.{bytes, digits, numbers, hop_text, hop_texts, Route}
use Rattle.meaning.proofs.Figures.{c_sound}
use Rattle.meaning.proofs.Profile.Known.{idle_file}
use Rattle.meaning.proofs.Route.EveryRoute.{OnlyText}
use Rattle.meaning.proofs.Route.Written.{Sound, one_bucket, worked}
use Rattle.meaning.proofs.Route.Refusals.{empty_input}
use Rattle.meaning.proofs.Route.Known.{p12_input, p12_outcome, curve_cut, rate_nothing, servers, repeated, after_32, most, longest_text, twice_input, twice_outcome, second_refused, slow_and_late}

-- a text that differs from the only one in a byte is none
other_byte :
    {input right wrong : List ℕ} → OnlyText input right → (i : ℕ) → get_or wrong i 0 ≢ get_or right i 0 → Route input wrong → ⊥
other_byte only i differs route = differs (ap (λ (l : List ℕ). get_or l i 0) (only.no_other route))

-- ---- Figures.

-- the first hop's curve handed on unchanged: P12 with the figures of C at the second server
pub curve_handed_on : Route p12_input (bytes "hop 1 32 6\nhop 2 24 5\nroute 38 9\n") → ⊥
unfolding bytes
curve_handed_on = other_byte p12_outcome 17 (λ e. omega arith)

-- the hop number off by one: P12 counted from 0
pub hops_from_0 : Route p12_input (bytes "hop 0 32 6\nhop 1 38 9\nroute 38 9\n") → ⊥
unfolding bytes
hops_from_0 = other_byte p12_outcome 4 (λ e. omega arith)

-- backlog and delay exchanged
pub figures_exchanged : Route p12_input (bytes "hop 1 6 32\nhop 2 9 38\nroute 9 38\n") → ⊥
unfolding bytes
figures_exchanged = other_byte p12_outcome 6 (λ e. omega arith)

-- the route's delay taken from its last hop
pub delay_of_the_last_hop : Route twice_input (bytes "hop 1 1 4\nhop 2 1 4\nroute 1 4\n") → ⊥
unfolding bytes
delay_of_the_last_hop = other_byte twice_outcome 28 (λ e. omega arith)

-- the hops' delays added for the route's
pub delays_added : Route twice_input (bytes "hop 1 1 4\nhop 2 1 4\nroute 1 8\n") → ⊥
unfolding bytes
delays_added = other_byte twice_outcome 28 (λ e. omega arith)

-- ---- Refusals.

-- a refusal of a later profile named before an earlier one: the server of rate 0 is the second profile, whatever the third is
pub later_refusal_first :
    (rest : List ℕ) → Route (written 1 (curve C) ++ (idle_file ++ rest)) (bytes "refused 1 at 3\n") → ⊥
unfolding bytes
later_refusal_first rest = other_byte (rate_nothing c_sound rest) 8 (λ e. omega arith)

-- a larger number named before a smaller one at one server: UNBOUNDED before RANGE,
pub unbounded_before_range :
    (rest : List ℕ) → Route (written 1 (curve C) ++ (idle_file ++ rest)) (bytes "refused 8 at 2\n") → ⊥
unfolding bytes
unbounded_before_range rest = other_byte (rate_nothing c_sound rest) 8 (λ e. omega arith)

-- LARGE before UNBOUNDED
pub large_before_unbounded :
    (rest : List ℕ)
    → Route
    (written 1 (curve (buckets (2 ∷ 0 ∷ [])))
    ++ (written 1 (server (port 2 1048575)) ++ (written 1 (server (port 1 1)) ++ rest)))
    (bytes "refused 9 at 3\n")
    → ⊥
unfolding bytes
large_before_unbounded rest = other_byte (slow_and_late rest) 8 (λ e. omega arith)

-- the number and the profile exchanged: a curve cut short is 2 at 1
pub number_and_place_exchanged :
    {f : List Bucket} → Sound f → (k : ℕ) → 1 ≤ k → k < length (written 1 (curve f))
    → Route (take k (written 1 (curve f))) (bytes "refused 1 at 2\n") → ⊥
unfolding bytes
number_and_place_exchanged c k begun short = other_byte (curve_cut c k begun short) 8 (λ e. omega arith)

-- the lines of the hops before it printed in front of a refusal
pub hops_before_a_refusal :
    (rest : List ℕ)
    → Route (written 1 (curve C) ++ (written 1 (server (port 6 4)) ++ (idle_file ++ rest)))
    (bytes "hop 1 32 6\nrefused 6 at 3\n")
    → ⊥
unfolding bytes
hops_before_a_refusal rest = other_byte (second_refused rest) 0 (λ e. omega arith)

-- the servers counted without the curve: a refusal at the second server named at 2
pub place_without_the_curve :
    (rest : List ℕ)
    → Route (written 1 (curve C) ++ (written 1 (server (port 6 4)) ++ (idle_file ++ rest))) (bytes "refused 6 at 2\n")
    → ⊥
unfolding bytes
place_without_the_curve rest = other_byte (second_refused rest) 13 (λ e. omega arith)

-- bytes after 32 servers ignored
pub bytes_after_32_ignored :
    (rest : List ℕ) → rest ≢ [] → Route (written 1 (curve (buckets (0 ∷ most ∷ []))) ++ servers 32 rest) longest_text → ⊥
unfolding bytes digits numbers hop_text hop_texts repeated buckets normal behind backlog held delay reads value_at last
bytes_after_32_ignored rest more =
    let f = one_bucket 0 most (omega arith) in
    other_byte (after_32 f (lit≤ tt) (worked (port 1 0) f (lit≤ tt) (lit≤ tt)) rest more) 0 (λ e. omega arith)

-- ---- Stand-ins.

-- a fixed reply: no one text serves P12 and the empty input
pub fixed_text : {output : List ℕ} → Route p12_input output → Route [] output → ⊥
unfolding bytes
fixed_text v w =
    let p = ap (λ (l : List ℕ). get_or l 0 0) (p12_outcome.no_other v) in
    let q = ap (λ (l : List ℕ). get_or l 0 0) (empty_input.no_other w) in
    omega arith
