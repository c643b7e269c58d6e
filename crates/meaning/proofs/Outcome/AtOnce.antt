-- What comes in no time: value at tick 0 answers 0, burst answers what may come at once, and backlog and delay count it. The figures
-- as the only outcomes, and the wrong answers that they shut out.
-- Assumes nothing.
use mathlib.Core.Path.{◌≡◌, refl, sym, ◌∙◌}
use mathlib.Core.List.{List}
use Prim.Native.Nat.{ℕ, zero, suc, ◌+◌, ◌≤◌}
use native.Mathlib.Omega.{arith}
use lib.Dec.{lit≤}
use lib.ListN.{length}
use Rattle.meaning.specs.Curve.{Bucket, buckets, curve_of, list_of, reads, value, value_at, Burst, NormalForm}
use Rattle.meaning.specs.Server.{Server, ◌within◌, ◌plus◌, by_rate, served, last, GreatestGap, Smallest, port}
use Rattle.meaning.specs.Refusal.{Outcome, FigureOutcome}
use Rattle.meaning.specs.CurveQuestions.{ValueOutcome, BurstOutcome}
use Rattle.meaning.specs.ServerQuestions.{passing, BacklogOutcome, DelayOutcome}
use Rattle.meaning.specs.Figures.{C}
use Rattle.meaning.proofs.Lists.{curve_list, EachInRange, all_in_range}
use Rattle.meaning.proofs.Figures.{table}
use Rattle.meaning.proofs.Readings.{served_late}
use Rattle.meaning.proofs.Curve.Reads.{reads_at_zero, reads_later, one_burst}
use Rattle.meaning.proofs.Server.BothKinds.{backlog_behind}
use Rattle.meaning.proofs.Server.Excess.{gap_unique}
use Rattle.meaning.proofs.Outcome.Outcomes.{clear_or}
use Rattle.meaning.proofs.Outcome.Answers.{clear_form, sound_clear, figure_answered, value_answer, one_value, one_burst_outcome, read_back}
use Rattle.meaning.proofs.Outcome.Known.{c_clear}
use Rattle.meaning.proofs.Outcome.Demands.{answered_backlog, answered_behind, port_form}
use Rattle.meaning.proofs.Outcome.KnownServers.{OnlyFigure, only_backlog, only_delay, c_form, c_fits, one, one_form}

-- ---- For the caller.

-- value at tick 0 is 0, whatever the curve
pub nothing_at_zero : (f : List ℕ) {figure : ℕ} → ValueOutcome f 0 0 figure → figure ≡ 0
unfolding value
nothing_at_zero f o = value_answer f 0 o

-- from tick 1 on it is what backlog and delay read,
pub read_later : (f : List ℕ) (t : ℕ) {figure : ℕ} → 1 ≤ t → ValueOutcome f t 0 figure → figure ≡ reads (curve_of f) t
read_later f t h o = value_answer f t o ∙ sym (reads_later (curve_of f) t h)

-- and what they read at 0 is the burst
pub read_at_zero : (f : List ℕ) {figure : ℕ} → BurstOutcome f 0 figure → figure ≡ reads (curve_of f) 0
unfolding BurstOutcome
read_at_zero f o =
    let known = figure_answered o in
    one_burst known.1 (reads_at_zero (curve_of f) (clear_form f known.0).some)

module _ (f : List ℕ) (s : Server) {burst backlog : ℕ} (all : BurstOutcome f 0 burst) (held : BacklogOutcome f s 0 backlog) where
  -- what comes at once is held: a backlog is never below the burst
  pub burst_held : burst ≤ backlog
  burst_held = omega (arith, read_at_zero f all, rw (served_late s 0 (omega arith)) at ((answered_backlog f s held).greatest 0))

-- the burst of the curve behind a server is the backlog at it
pub burst_behind :
    (f : List ℕ) (s : Server) {before after : List ℕ} {count burst backlog : ℕ} → Outcome (passing f s) before after 0 count
    → BurstOutcome (read_back after count) 0 burst → BacklogOutcome f s 0 backlog → burst ≡ backlog
unfolding BacklogOutcome
burst_behind f s {after = after} {count} passed all held =
    let known = figure_answered held in
    read_at_zero (read_back after count) all
    ∙ gap_unique (backlog_behind (port_form f s known.0).some (answered_behind f s passed).definition) known.1

-- ---- The figures, as the only outcomes.

-- a curve in normal form that is not too large has its one burst
only_burst :
    {f : List Bucket} {n : ℕ} → NormalForm f → (length f ≤ 64) × EachInRange f → Burst f n → OnlyFigure (BurstOutcome (list_of f)) n
unfolding BurstOutcome
only_burst {f} form fits b code figure o =
    one_burst_outcome (list_of f) o
    (FigureOutcome.answered (sound_clear f form (all_in_range f fits.1) fits.0) refl (rw curve_list b))

-- at tick 0 C has the value 0,
pub value_of_c : OnlyFigure (ValueOutcome (list_of C) 0) 0
unfolding ValueOutcome value
value_of_c code figure o =
    one_value (list_of C) 0 o
    (FigureOutcome.answered
    (clear_or c_clear (λ r h. omega (arith, h.1))) refl refl)

-- and its burst is 2;
pub burst_of_c : OnlyFigure (BurstOutcome (list_of C)) 2
burst_of_c = only_burst c_form c_fits table.at_once.1

-- {(0,0)} has burst 0
pub burst_of_nothing : OnlyFigure (BurstOutcome (list_of (one 0 0))) 0
unfolding buckets
burst_of_nothing = only_burst (one_form 0 0) (omega arith) table.at_once.2

-- {(0,5)} with (10,0) has backlog 5,
pub burst_backlog : OnlyFigure (BacklogOutcome (list_of (one 0 5)) (port 10 0)) 5
unfolding buckets last
burst_backlog = only_backlog (port 10 0) (one_form 0 5) (omega arith) (omega arith) (lit≤ tt) table.at_once.3

-- and delay 1
pub burst_delay : OnlyFigure (DelayOutcome (list_of (one 0 5)) (port 10 0)) 1
unfolding buckets last
burst_delay = only_delay (port 10 0) (one_form 0 5) (omega arith) (omega arith) (lit≤ tt) table.at_once.4

-- ---- Wrong answers.

-- A backlog that reads the value at 0: of {(0,5)} at (10,0) it would be 0,
pub backlog_of_values : GreatestGap (value (one 0 5)) (served (port 10 0)) 0
unfolding buckets value value_at by_rate
backlog_of_values = record { at = 0; reached = refl; greatest = inside }
  where
    inside : (u : ℕ) → value (one 0 5) u within (served (port 10 0) u plus 0)
    inside zero = omega arith
    inside (suc u) = omega arith

-- and is not answered
pub backlog_reads_value : BacklogOutcome (list_of (one 0 5)) (port 10 0) 0 0 → ⊥
backlog_reads_value o = omega (arith, burst_backlog 0 0 o)

-- A delay that does: it would be 0,
pub delay_of_values : Smallest (λ d. (t : ℕ) → value (one 0 5) t within served (port 10 0) (t + d)) 0
unfolding buckets value value_at by_rate
delay_of_values = record { suffices = enough; smallest = λ d h. omega arith }
  where
    enough : (t : ℕ) → value (one 0 5) t within served (port 10 0) (t + 0)
    enough zero = omega arith
    enough (suc t) = omega arith

-- and is not answered
pub delay_reads_value : DelayOutcome (list_of (one 0 5)) (port 10 0) 0 0 → ⊥
delay_reads_value o = omega (arith, burst_delay 0 0 o)

-- value at 0 answering the burst: where there is one it is not
pub burst_told_as_value : (f : List ℕ) {burst : ℕ} → 1 ≤ burst → BurstOutcome f 0 burst → ValueOutcome f 0 0 burst → ⊥
burst_told_as_value f some b o = omega (arith, nothing_at_zero f o)

-- burst answering the last bucket's: of C that is 20
pub burst_of_the_last : BurstOutcome (list_of C) 0 (last C).burst → ⊥
unfolding buckets last
burst_of_the_last o = omega (arith, burst_of_c 0 20 o)
