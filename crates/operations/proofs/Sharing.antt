-- What the answers about a curve at a server of either kind share: the outcomes of backlog, delay and a hop, where an operand is
-- refused and where it is not.
-- Assumes nothing.
use mathlib.Core.Path.{◌≡◌, refl}
use mathlib.Core.List.{List, []}
use Prim.Native.Nat.{ℕ}
use native.Mathlib.Omega.{arith}
use Rattle.meaning.specs.Curve.{curve_of}
use Rattle.meaning.specs.Server.{Server, Backlog, Delay, no_server}
use Rattle.meaning.specs.Refusal.{Verdict, FigureOutcome, PartOutcome}
use Rattle.meaning.specs.ServerQuestions.{port_lines, passing, BacklogOutcome, DelayOutcome, HopPartOutcome}
use Rattle.meaning.proofs.Outcome.Outcomes.{refusal, refuse_in_part}
use Rattle.meaning.proofs.Outcome.Demands.{hop_refused, hop_answered, port_up_to}
use Rattle.checks.proofs.Checks.{passed}

module _ (f : List ℕ) (s : Server) {code : ℕ} (v : Verdict (port_lines f s) code) where
  -- ---- An operand is refused.

  module _ (some : code ≡ 0 → ⊥) where
    -- no figure,
    pub backlog_refused : BacklogOutcome f s code 0
    unfolding BacklogOutcome
    backlog_refused = FigureOutcome.refused (refusal [] (omega (arith, some)) v)

    pub delay_refused : DelayOutcome f s code 0
    unfolding DelayOutcome
    delay_refused = FigureOutcome.refused (refusal [] (omega (arith, some)) v)

    -- and of a hop nothing: the whole table stays
    pub hop_operand : {at room : ℕ} {table : List ℕ} → HopPartOutcome f s at room table table code 0 0 0 no_server
    unfolding passing
    hop_operand =
        record {
          curve = refuse_in_part (passing f s) _ _ _ (port_up_to f s) (omega (arith, some)) v;
          figures = hop_refused f s some;
        }

  -- ---- None is.

  module _ (none : code ≡ 0) where
    pub backlog_answered : {figure : ℕ} → Backlog (curve_of f) s figure → BacklogOutcome f s 0 figure
    unfolding BacklogOutcome
    backlog_answered is = FigureOutcome.answered (passed v none) refl is

    pub delay_answered : {figure : ℕ} → Delay (curve_of f) s figure → DelayOutcome f s 0 figure
    unfolding DelayOutcome
    delay_answered is = FigureOutcome.answered (passed v none) refl is

module _ (f : List ℕ) (s : Server) {at room : ℕ} {before after : List ℕ} where
  -- the curve behind is too large, or has no room
  pub hop_large :
      {code : ℕ} → PartOutcome (passing f s) at room before after code 0 → (code ≡ 0 → ⊥)
      → HopPartOutcome f s at room before after code 0 0 0 no_server
  hop_large o some = record { curve = o; figures = hop_refused f s some }

  -- or it is handed over, with the figures
  pub hop_handed :
      {count backlog delay : ℕ} {through : Server} → PartOutcome (passing f s) at room before after 0 count
      → Backlog (curve_of f) s backlog → Delay (curve_of f) s delay → through ≡ s
      → HopPartOutcome f s at room before after 0 count backlog delay through
  hop_handed o b d same = rw same (record { curve = o; figures = hop_answered f s refl b d })
