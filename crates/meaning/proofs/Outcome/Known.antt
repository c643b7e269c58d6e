-- The figures P1 to P4, as outcomes: each is the only outcome of its question.
-- Assumes nothing.
use mathlib.Core.Path.{refl}
use mathlib.Core.List.{List, [], ◌∷◌}
use Prim.Native.Nat.{ℕ, ◌≤◌}
use native.Mathlib.Omega.{arith}
use lib.Dec.{lit≤}
use lib.ListN.{length}
use Rattle.meaning.specs.Curve.{Bucket, buckets, flat, curve_of, list_of, pairs}
use Rattle.meaning.specs.Refusal.{Clear, curve_lines}
use Rattle.meaning.specs.CurveQuestions.{normalising, summing}
use Rattle.meaning.specs.Computed.{is_normal, normal}
use Rattle.meaning.specs.Figures.{C}
use Rattle.meaning.proofs.Lists.{EachInRange}
use Rattle.meaning.proofs.Curve.Normal.{normal_is}
use Rattle.meaning.proofs.Outcome.Outcomes.{clear_or}
use Rattle.meaning.proofs.Outcome.Answers.{raw_some, normalising_asks, summing_asks, Taken, list_clear, curve_clear, OnlyAnswer, only_answer}

-- normalise answers a list that is taken
only_normalise :
    (l : List ℕ) → Taken 2 l (buckets l) → (length (normal (buckets l)) ≤ 64) × EachInRange (normal (buckets l))
    → OnlyAnswer (normalising l) (list_of (normal (buckets l))) (length (normal (buckets l)))
unfolding normalising
only_normalise l t fits =
    only_answer (normalising_asks l) (list_clear t) (normal_is (buckets l) (raw_some l (list_clear t))) fits

-- P1: what is normalised,
abbrev pub p1_raw : List ℕ
p1_raw = 3 ∷ 20 ∷ 10 ∷ 2 ∷ 10 ∷ 2 ∷ 5 ∷ 15 ∷ 3 ∷ 25 ∷ []

-- and its only outcome
pub p1_outcome : OnlyAnswer (normalising p1_raw) (list_of C) 2
unfolding normal buckets
p1_outcome = only_normalise p1_raw (omega arith) (omega arith)

-- P2, where all three meet at 1,
abbrev pub p2_raw : List ℕ
p2_raw = 4 ∷ 0 ∷ 3 ∷ 1 ∷ 2 ∷ 2 ∷ []

-- and its only outcome
pub p2_outcome : OnlyAnswer (normalising p2_raw) (list_of (buckets (4 ∷ 0 ∷ 2 ∷ 2 ∷ []))) 2
unfolding normal buckets
p2_outcome = only_normalise p2_raw (omega arith) (omega arith)

-- P3, whose (4, 2) is needed between ticks 0 and 1 only,
abbrev pub p3_raw : List ℕ
p3_raw = 10 ∷ 0 ∷ 4 ∷ 2 ∷ 0 ∷ 5 ∷ []

-- and its only outcome
pub p3_outcome : OnlyAnswer (normalising p3_raw) (list_of (buckets (10 ∷ 0 ∷ 4 ∷ 2 ∷ 0 ∷ 5 ∷ []))) 3
unfolding normal buckets
p3_outcome = only_normalise p3_raw (omega arith) (omega arith)

-- The second curve of P4.
abbrev second : List Bucket
second = buckets (4 ∷ 0 ∷ 2 ∷ 2 ∷ [])

-- no line refuses C
pub c_clear : Clear (curve_lines (list_of C))
unfolding curve_of list_of flat buckets is_normal
c_clear = curve_clear (list_of C) (omega arith) refl

second_clear : Clear (curve_lines (list_of second))
unfolding curve_of list_of flat buckets is_normal
second_clear = curve_clear (list_of second) (omega arith) refl

-- the only outcome of P4: C plus {(4,0),(2,2)}
pub p4_outcome : OnlyAnswer (summing (list_of C) (list_of second)) (list_of (buckets (14 ∷ 2 ∷ 12 ∷ 4 ∷ 5 ∷ 22 ∷ []))) 3
unfolding summing normal buckets flat curve_of list_of pairs is_normal
p4_outcome =
    only_answer (summing_asks (list_of C) (list_of second)) (clear_or c_clear second_clear) (normal_is _ (lit≤ tt)) (omega arith)
