-- The operations on curves, each as a question over the lent numbers. No other outcome is right: see the laws in proofs/.
-- Assumes nothing.
use Rattle.std.specs.Prelude.{◌≡◌, ◌⊎◌, List, ℕ, ◌^◌, ◌≤◌}
use Rattle.meaning.specs.Curve.{buckets, curve_of, value, Burst, NormalOf, Lower, Sum, link_bucket, Shape}
use Rattle.meaning.specs.Refusal.{RANGE, Lines, ◌when◌, ◌or◌, raw_lines, curve_lines, Question, FigureOutcome}

-- normalise takes any list of buckets, and is alone in that.
unfoldable pub normalising : List ℕ → Question
normalising raw = record { operands = raw_lines raw; Answer = NormalOf (buckets raw) }

-- lower takes two curves.
unfoldable pub lowering : List ℕ → List ℕ → Question
lowering f g = record { operands = curve_lines f or curve_lines g; Answer = Lower (curve_of f) (curve_of g) }

-- sum takes two curves.
unfoldable pub summing : List ℕ → List ℕ → Question
summing f g = record { operands = curve_lines f or curve_lines g; Answer = Sum (curve_of f) (curve_of g) }

-- A link's rate is 1 to 2^20-1, and its longest frame 0 to 2^40-1.
abbrev pub link_line : ℕ → ℕ → Lines
link_line d l = RANGE when ((d ≡ 0) ⊎ (2 ^ 20 ≤ d) ⊎ (2 ^ 40 ≤ l))

-- shape takes a curve, and a link's rate and longest frame.
unfoldable pub shaping : List ℕ → ℕ → ℕ → Question
shaping f d l = record { operands = curve_lines f or link_line d l; Answer = Shape (curve_of f) (link_bucket d l) }

-- A tick is 0 to 2^40-1.
abbrev pub tick_line : ℕ → Lines
tick_line t = RANGE when (2 ^ 40 ≤ t)

-- value: the curve's value at a tick.
unfoldable pub ValueOutcome : List ℕ → ℕ → ℕ → ℕ → Type 0
ValueOutcome f t code figure =
    FigureOutcome (curve_lines f or tick_line t) (λ v. v ≡ value (curve_of f) t) code figure

-- burst: the smallest burst of a curve.
unfoldable pub BurstOutcome : List ℕ → ℕ → ℕ → Type 0
BurstOutcome f code figure = FigureOutcome (curve_lines f) (Burst (curve_of f)) code figure
