-- A list of numbers lent as pairs: the pair numbered k, from 0, is the bucket numbered k.
-- Assumes nothing.
use Rattle.std.proofs.Common.{◌≡◌, refl, ◌∙◌, ℕ, zero, suc, ◌+◌, ◌*◌, ◌≤◌, ◌<◌, List, [], ◌∷◌, length, arith}
use lib.ListN.{get_or}
use native.Mathlib.Numerals.{unary_clauses}
use Rattle.std.specs.Simd.{first_chunks}

-- its rate and its burst
pub pair_numbers :
    (l : List ℕ) (count k : ℕ) → k < count → 2 * count ≤ length l
    → (get_or (get_or (first_chunks 2 count l) k []) 0 0 ≡ get_or l (2 * k) 0)
    × (get_or (get_or (first_chunks 2 count l) k []) 1 0 ≡ get_or l (2 * k + 1) 0)
pair_numbers l zero k h fits = absurd (omega arith)
pair_numbers [] (suc count) k h fits = absurd (omega arith)
pair_numbers (r ∷ []) (suc count) k h fits = absurd (omega arith)
pair_numbers (r ∷ b ∷ l) (suc count) zero h fits = (refl, refl)
pair_numbers (r ∷ b ∷ l) (suc count) (suc k) h fits =
    let rest = pair_numbers l count k (omega arith) (omega arith) in
    (rest.0 ∙ simp unary_clauses, rest.1 ∙ simp unary_clauses)
