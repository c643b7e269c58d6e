-- Fields that stand in a file one after the other, and what a reader that goes forward needs: a field's number fits it, a field
-- of one bit more, and each bit by its byte.
-- Assumes nothing.
use mathlib.Core.Path.{◌≡◌, ◌∙◌, ap}
use mathlib.Core.Logic.{inl, inr}
use mathlib.Core.List.{List, [], ◌∷◌, ◌++◌, append_assoc}
use Prim.Native.Nat.{ℕ, suc, ◌+◌, ◌-◌, ◌*◌, ◌/◌, ◌%◌, ◌^◌, ◌≤◌, ◌<◌}
use native.Mathlib.Nat.{lt_of_lt_of_le, add-zero}
use native.Mathlib.Omega.{arith}
use lib.ListN.{get_or-append, get_or, length, take, drop, length-take, length-drop, take-append-drop}
use lib.Seq.{take-append-le, drop-append-le, get_or-append-add, drop-drop}
use lib.Pow.{pow_mono}
use Rattle.meaning.specs.Profile.{bits_of, spelt, Field, ◌bits◌, packed, file_bits, field}
use Rattle.meaning.proofs.Order.{le_or_lt}
use Rattle.meaning.proofs.Profile.Bits.{binary_take, binary_drop, length_bits, spelt_fits, spelt_bits, bits_at, bits_taken, bits_dropped, bit_of_number, length_packed, binary_file, length_file_bits, file_bits_append}

-- The fields stand in a file one after the other, the first beginning at a bit.
abbrev pub Stands : List ℕ → ℕ → List Field → Type 0
Stands file at [] = Unit {0}
Stands file at (w bits x ∷ fs) = (field file at w ≡ x) × Stands file (at + w) fs

-- Each number fits its field.
abbrev pub Fits : List Field → Type 0
Fits [] = Unit {0}
Fits (w bits x ∷ fs) = (x < 2 ^ w) × Fits fs

-- fields packed from a bit on stand there
pub packed_stand :
    (file : List ℕ) (at : ℕ) (fs : List Field) (rest : List ℕ) → Fits fs → drop at (file_bits file) ≡ packed fs ++ rest
    → Stands file at fs
unfolding field packed
packed_stand file at [] rest h e = tt
packed_stand file at (w bits x ∷ fs) rest h e =
    let split : drop at (file_bits file) ≡ bits_of w x ++ (packed fs ++ rest) = e ∙ append_assoc (bits_of w x) (packed fs) rest in (
      cc (split, bits_taken w x (packed fs ++ rest), spelt_bits w x h.0),
      packed_stand file (at + w) fs rest h.1 (cc (split, bits_dropped w x (packed fs ++ rest), drop-drop w at (file_bits file))),
    )

-- fields that stand in a file are its bits there
pub stands_packed :
    (file : List ℕ) (at : ℕ) (fs : List Field) → at + length (packed fs) ≤ 8 * length file → Stands file at fs
    → drop at (file_bits file) ≡ packed fs ++ drop (at + length (packed fs)) (file_bits file)
unfolding field packed
stands_packed file at [] fits h = rw add-zero
stands_packed file at (w bits x ∷ fs) fits h =
    let all = file_bits file in
    let size = length_packed w x fs in
    let inside : w ≤ length (drop at all) = omega (arith, length-drop at all, length_file_bits file) in
    let here = bits_at w (drop at all) (binary_drop at all (binary_file file)) inside in
    let further : at + length (packed (w bits x ∷ fs)) ≡ at + w + length (packed fs) = omega arith in
    let next = stands_packed file (at + w) fs (omega arith) h.1 in
    rw (append_assoc, further) (cc (take-append-drop w (drop at all), h.0, here, drop-drop w at all, next))

-- a field's number fits it
pub field_fits : (file : List ℕ) (at w : ℕ) → field file at w < 2 ^ w
unfolding field
field_fits file at w =
    let l = take w (drop at (file_bits file)) in
    lt_of_lt_of_le (spelt_fits l (binary_take w (drop at (file_bits file)) (binary_drop at (file_bits file) (binary_file file))))
    (pow_mono (omega (arith, length-take w (drop at (file_bits file)))))

-- a field that lies in a file is the same whatever stands behind the file
pub field_append : (file rest : List ℕ) (at w : ℕ) → at + w ≤ 8 * length file → field (file ++ rest) at w ≡ field file at w
unfolding field
field_append file rest at w h =
    let all = file_bits file in
    let inside : at ≤ length all = omega (arith, length_file_bits file) in
    let within : w ≤ length (drop at all) = omega (arith, length-drop at all, length_file_bits file) in
    ap (λ (l : List ℕ). spelt (take w l))
    (ap (drop at) (file_bits_append file rest) ∙ drop-append-le at all (file_bits rest) inside)
    ∙ ap spelt (take-append-le w (drop at all) (file_bits rest) within)

-- the bit of a file at a position is one of its byte's
pub bit_at :
    (file : List ℕ) (at : ℕ) → at < 8 * length file
    → get_or (file_bits file) at 0 ≡ get_or file (at / 8) 0 / 2 ^ (7 - at % 8) % 2
unfolding file_bits packed
bit_at [] at h = absurd (omega arith)
bit_at (x ∷ file) at h =
    elim (le_or_lt 8 at) [
      | inl past ↦
          let from : at ≡ length (bits_of 8 x) + (at - 8) = omega (arith, length_bits 8 x) in
          let byte : at / 8 ≡ suc ((at - 8) / 8) = omega arith in
          let bit : at % 8 ≡ (at - 8) % 8 = omega arith in
          ap (λ (n : ℕ). get_or (bits_of 8 x ++ file_bits file) n 0) from
          ∙ get_or-append-add (bits_of 8 x) (file_bits file) (at - 8) 0
          ∙ bit_at file (at - 8) (omega arith)
          ∙ rw (byte, bit)
      | inr here ↦
          let byte : at / 8 ≡ 0 = omega arith in
          let bit : at % 8 ≡ at = omega arith in
          get_or-append (bits_of 8 x) (file_bits file) 0 at (omega (arith, length_bits 8 x))
          ∙ bit_of_number 8 x at here
          ∙ rw (byte, bit)
    ]
