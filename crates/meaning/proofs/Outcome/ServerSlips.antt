-- Wrong answers over servers that the contracts shut out. Each theorem takes what a slip would give back and finds that it satisfies
-- no contract, or says outright what every outcome that satisfies one has.
-- Assumes nothing.
use mathlib.Core.Path.{◌≡◌, refl, sym, ◌∙◌, ap}
use mathlib.Core.Logic.{◌≢◌}
use mathlib.Core.List.{List, [], ◌∷◌}
use Prim.Native.Nat.{ℕ, ◌<◌, min}
use native.Mathlib.Omega.{arith}
use lib.Dec.{lit≤}
use lib.ListN.{length, take, get_or}
use Rattle.meaning.specs.Curve.{Bucket, buckets, flat, curve_of, list_of, NormalForm, reads, value_at}
use Rattle.meaning.specs.Server.{RateLatency, Server, rated, numbers_of, join_rated, join, last, slower, port}
use Rattle.meaning.specs.Refusal.{Clear, curve_lines, over, Question, Outcome}
use Rattle.meaning.specs.ServerQuestions.{RatedInRange, port_lines, passing, BacklogOutcome, DelayOutcome, JoinOutcome, ResidualOutcome}
use Rattle.meaning.specs.Computed.{is_normal, normal, behind, backlog}
use Rattle.meaning.specs.Figures.{C}
use Rattle.meaning.proofs.Lists.{over_start}
use Rattle.meaning.proofs.Curve.Neighbours.{neighbours_sound}
use Rattle.meaning.proofs.Server.BothKinds.{behind_is, backlog_is, delay_unique, delay_of_nothing}
use Rattle.meaning.proofs.Outcome.Outcomes.{clear_or}
use Rattle.meaning.proofs.Outcome.Answers.{OnlyAnswer, only_answered, figure_code, code_zero, figure_answered}
use Rattle.meaning.proofs.Outcome.Demands.{answered_join, unbounded_residual}
use Rattle.meaning.proofs.Outcome.KnownServers.{OnlyFigure, only_behind, only_backlog, p5_outcome, p5_backlog, p5_delay, p6_outcome, p10_outcome}

-- a list of the right length that is not the only answer is not answered
wrong_list :
    {ask : Question} (right wrong : List ℕ) {before : List ℕ} {count count' : ℕ} → OnlyAnswer ask right count
    → length wrong ≡ length right → wrong ≢ right → Outcome ask before (over wrong before) 0 count' → ⊥
wrong_list right wrong {before} known long other o =
    other
    (sym (over_start wrong before)
    ∙ ap (λ (n : ℕ). take n (over wrong before)) long
    ∙ ap (take (length right)) (only_answered known o).after_same
    ∙ over_start right before)

-- ---- Behind without (R, B) where some rate exceeds R.

-- P5 with (3,23) alone, though the rate 10 exceeds 6
pub behind_without_line :
    {before : List ℕ} → Outcome (passing (list_of C) (port 6 1)) before (over (list_of (buckets (3 ∷ 23 ∷ []))) before) 0 1 → ⊥
behind_without_line o = omega (arith, (only_answered p5_outcome o).figure_same)

-- ---- M tried at one neighbour of the crossing only.

-- At the tick up to the crossing alone: the crossing of C is at 18/7, and in P5 M is had at 3, after it. At 2 there are 10.
pub excess_up_to_only :
    {before : List ℕ} → Outcome (passing (list_of C) (port 6 1)) before (over (list_of (buckets (6 ∷ 16 ∷ 3 ∷ 23 ∷ []))) before) 0 2 → ⊥
unfolding buckets flat list_of
excess_up_to_only o =
    wrong_list (6 ∷ 17 ∷ 3 ∷ 23 ∷ []) (6 ∷ 16 ∷ 3 ∷ 23 ∷ []) p5_outcome refl
    (λ e. omega (arith, ap (λ (l : List ℕ). get_or l 1 0) e)) o

pub excess_up_to_only_backlog : BacklogOutcome (list_of C) (port 6 1) 0 16 → ⊥
excess_up_to_only_backlog o = omega (arith, p5_backlog 0 16 o)

-- At the tick after the crossing alone: with (3,17) for (3,20) the crossing is at 15/7, and M is had at 2, before it. At 3 there
-- are 8.
abbrev early : List Bucket
early = buckets (10 ∷ 2 ∷ 3 ∷ 17 ∷ [])

early_form : NormalForm early
unfolding buckets is_normal
early_form = neighbours_sound early refl

pub early_outcome : OnlyAnswer (passing (list_of early) (port 6 1)) (list_of (buckets (6 ∷ 16 ∷ 3 ∷ 20 ∷ []))) 2
unfolding buckets last behind normal slower reads value_at
early_outcome =
    only_behind (port 6 1) early_form (omega arith) (omega arith) (lit≤ tt) (behind_is early (port 6 1) early_form (lit≤ tt)) (omega arith)

pub early_backlog : OnlyFigure (BacklogOutcome (list_of early) (port 6 1)) 16
unfolding buckets last backlog behind normal slower reads value_at
early_backlog =
    only_backlog (port 6 1) early_form (omega arith) (omega arith) (lit≤ tt) (backlog_is early (port 6 1) early_form (lit≤ tt))

pub excess_after_only :
    {before : List ℕ} → Outcome (passing (list_of early) (port 6 1)) before (over (list_of (buckets (6 ∷ 14 ∷ 3 ∷ 20 ∷ []))) before) 0 2 → ⊥
unfolding buckets flat list_of
excess_after_only o =
    wrong_list (6 ∷ 16 ∷ 3 ∷ 20 ∷ []) (6 ∷ 14 ∷ 3 ∷ 20 ∷ []) early_outcome refl
    (λ e. omega (arith, ap (λ (l : List ℕ). get_or l 1 0) e)) o

pub excess_after_only_backlog : BacklogOutcome (list_of early) (port 6 1) 0 14 → ⊥
excess_after_only_backlog o = omega (arith, early_backlog 0 14 o)

-- ---- Real time in place of ticks: P5 with burst 19 and delay 4.

pub real_time_burst :
    {before : List ℕ} → Outcome (passing (list_of C) (port 6 1)) before (over (list_of (buckets (6 ∷ 19 ∷ 3 ∷ 23 ∷ []))) before) 0 2 → ⊥
unfolding buckets flat list_of
real_time_burst o =
    wrong_list (6 ∷ 17 ∷ 3 ∷ 23 ∷ []) (6 ∷ 19 ∷ 3 ∷ 23 ∷ []) p5_outcome refl
    (λ e. omega (arith, ap (λ (l : List ℕ). get_or l 1 0) e)) o

pub real_time_delay : DelayOutcome (list_of C) (port 6 1) 0 4 → ⊥
real_time_delay o = omega (arith, p5_delay 0 4 o)

-- ---- Traffic that never comes, and a latency for it.

-- what carries nothing by tick 1 has delay 0, whatever the server
pub latency_charged : (f : List ℕ) (s : Server) {d : ℕ} → reads (curve_of f) 1 ≡ 0 → DelayOutcome f s 0 d → d ≡ 0
unfolding DelayOutcome
latency_charged f s none o =
    let known = figure_answered o in
    delay_unique known.1 (delay_of_nothing (curve_of f) s none)

-- P9: {(0,0)} with (5,2)
pub latency_charged_to_nothing : DelayOutcome (list_of (buckets (0 ∷ 0 ∷ []))) (port 5 2) 0 2 → ⊥
unfolding buckets flat list_of curve_of reads value_at
latency_charged_to_nothing o = omega (arith, latency_charged (0 ∷ 0 ∷ []) (port 5 2) refl o)

-- ---- The residual's quotient rounded down: P10 with latency 1 + 3.

pub residual_rounded_down : ResidualOutcome (list_of C) (port 6 1) 0 (port 3 4) → ⊥
residual_rounded_down o = omega (arith, ap (λ (s : Server). (numbers_of s).latency) (p10_outcome 0 (port 3 4) o).1)

-- ---- A behind that hands its curve back: P6 with C.

pub behind_handed_back : {before : List ℕ} → Outcome (passing (list_of C) (port 6 4)) before (over (list_of C) before) 0 2 → ⊥
behind_handed_back o = omega (arith, (only_answered p6_outcome o).figure_same)

-- ---- A join that takes the larger rate.

-- the joined rate of two rate-latency servers is the smaller,
pub joined_rate :
    (s next : RateLatency) (joined : Server) → JoinOutcome (rated s) (rated next) 0 joined
    → (numbers_of joined).rate ≡ min s.rate next.rate
unfolding join join_rated
joined_rate s next joined o = ap (λ (x : Server). (numbers_of x).rate) (answered_join (rated s) (rated next) o).definition

-- so not the larger of two that differ
pub join_larger_rate :
    (s next : RateLatency) (joined : Server)
    → next.rate < s.rate → (numbers_of joined).rate ≡ s.rate → JoinOutcome (rated s) (rated next) 0 joined → ⊥
join_larger_rate s next joined slow is o = omega (arith, is, joined_rate s next joined o)

-- ---- A last rate equal to R.

module _
    (f : List ℕ) (s : RateLatency) (curve : Clear (curve_lines f)) (server : RatedInRange s) (same : (last (curve_of f)).rate ≡ s.rate)
  where
    same_clear : Clear (port_lines f (rated s))
    same_clear = clear_or (clear_or curve (λ r h. h.1 server)) (λ r h. omega (arith, h.1))

    -- refused by delay: it is not,
    pub equal_rate_delayed : (code d : ℕ) → DelayOutcome f (rated s) code d → code ≡ 0
    unfolding DelayOutcome
    equal_rate_delayed code d o = (code_zero (figure_code o)).1 same_clear

    -- nor by backlog;
    pub equal_rate_held : (code n : ℕ) → BacklogOutcome f (rated s) code n → code ≡ 0
    unfolding BacklogOutcome
    equal_rate_held code n o = (code_zero (figure_code o)).1 same_clear

    -- taken by residual: it is 8 there
    pub equal_rate_left : (code : ℕ) (left : Server) → ResidualOutcome f (rated s) code left → code ≡ 8
    equal_rate_left code left o = (unbounded_residual f s curve server (omega arith) o).0
