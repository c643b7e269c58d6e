-- A field of a file taken in whole bytes: the bytes that hold it spell a number, and the field is what stands in its middle.
-- Assumes nothing.
use mathlib.Core.Path.{◌≡◌, refl, sym, ◌∙◌, ap}
use mathlib.Core.List.{List, [], ◌∷◌, ◌++◌}
use Prim.Native.Nat.{ℕ, zero, suc, min, ◌+◌, ◌-◌, ◌*◌, ◌/◌, ◌%◌, ◌^◌, ◌≤◌, ◌<◌}
use native.Mathlib.Nat.{lt_of_lt_of_le, mod-eq_of_lt}
use native.Mathlib.Omega.{arith}
use lib.ListN.{length, get_or, take, drop, length-append, length-drop}
use lib.Seq.{take-add, drop-drop, drop-append-add, length-take-le}
use lib.Pow.{pow_pos, pow_mono, pow-lt, pow-add, high, low}
use mir.Syntax.{w8, w64}
use mir.Val.{Fits}
use Rattle.meaning.specs.Profile.{bits_of, spelt, packed, file_bits, field}
use Rattle.meaning.proofs.Profile.Bits.{length_bits, bits_taken, spelt_bits, length_file_bits}
use Rattle.meaning.proofs.Profile.Fields.{field_fits}
use Rattle.profiles.specs.Cited.{InFile}
use Rattle.std.proofs.lemmas.List.{get_or-take, get_or-drop, length-take}

-- bits before bits
pub spelt_append : (l r : List ℕ) → spelt (l ++ r) ≡ spelt l * 2 ^ length r + spelt r
unfolding spelt
spelt_append [] r = omega arith
spelt_append (b ∷ l) r =
    omega (
      arith,
      spelt_append l r,
      ap (λ (n : ℕ). b * 2 ^ n) (length-append l r),
      ap (λ (n : ℕ). b * n) (pow-add 2 (length l) (length r)),
    )

-- a field of more bits is the field before and the field behind
pub field_split :
    (file : List ℕ) (at w v : ℕ) → at + w + v ≤ 8 * length file
    → field file at (w + v) ≡ field file at w * 2 ^ v + field file (at + w) v
unfolding field
field_split file at w v h =
    let all = file_bits file in
    let size : length (take v (drop w (drop at all))) ≡ v =
    length-take-le v (drop w (drop at all)) (omega (arith, length-drop w (drop at all), length-drop at all, length_file_bits file)) in
    ap spelt (take-add w v (drop at all))
    ∙ spelt_append (take w (drop at all)) (take v (drop w (drop at all)))
    ∙ rw (size, drop-drop)

-- the field of eight bits that a byte is
pub byte_field : (file : List ℕ) (i : ℕ) → i < length file → get_or file i 0 < 256 → field file (8 * i) 8 ≡ get_or file i 0
unfolding field file_bits packed
byte_field [] i h small = absurd (omega arith)
byte_field (x ∷ file) zero h small = ap spelt (bits_taken 8 x (file_bits file)) ∙ spelt_bits 8 x small
byte_field (x ∷ file) (suc i) h small =
    let further : 8 * suc i ≡ length (bits_of 8 x) + 8 * i = omega (arith, length_bits 8 x) in
    ap (λ (l : List ℕ). spelt (take 8 l)) (ap (λ (n : ℕ). drop n (bits_of 8 x ++ file_bits file)) further ∙ drop-append-add (bits_of 8 x) (file_bits file) (8 * i))
    ∙ byte_field file i (omega arith) small

-- ---- Byte after byte.

-- What stands before the bits behind and after the bits before is the field.
middle :
    (file : List ℕ) (from before width behind : ℕ) → from + before + width + behind ≤ 8 * length file
    → field file from (before + width + behind) / 2 ^ behind % 2 ^ width ≡ field file (from + before) width
middle file from before width behind h =
    let front : field file from (before + width + behind) / 2 ^ behind ≡ field file from (before + width) =
    ap (λ (n : ℕ). n / 2 ^ behind) (field_split file from (before + width) behind (omega arith))
    ∙ high (field file from (before + width)) behind (field_fits file (from + (before + width)) behind) in
    ap (λ (n : ℕ). n % 2 ^ width) (front ∙ field_split file from before width (omega arith))
    ∙ low (field file from before) width (field_fits file (from + before) width)

-- The bytes that hold the field: so many, from its first one on.
abbrev holding : List ℕ → ℕ → ℕ → List ℕ
holding file at count = take (at / 8 + count - at / 8) (drop (at / 8) file)

-- The first n of them are taken.
pub record Taken (file : List ℕ) (at width count taken n : ℕ) : Type 0 where
  pub field_in : InFile file at width
  pub count_is : count ≡ (at % 8 + width + 7) / 8
  pub sofar : n ≤ count
  pub is : taken ≡ field file (8 * (at / 8)) (8 * n)

-- none is taken yet
pub taken_start :
    {file : List ℕ} {at width count : ℕ} → InFile file at width → count ≡ (at % 8 + width) / 8 + min 1 ((at % 8 + width) % 8)
    → Taken file at width count 0 0
unfolding field spelt
taken_start h e = record { field_in = h; count_is = omega (arith, e); sofar = omega arith; is = refl }

module _ {file : List ℕ} {at width count taken n : ℕ} (w : Taken file at width count taken n) where
  module _ (more : n < length (holding file at count)) (small : (i : ℕ) → Fits w8 (get_or file i 0)) where
    -- there is one more,
    inside : n < count
    inside = omega (arith, length-take (at / 8 + count - at / 8) (drop (at / 8) file))

    -- which lies in the file
    in_file : at / 8 + n < length file
    in_file = omega (arith, inside, w.field_in.inside, w.count_is)

    -- what is taken is small
    taken_small : taken < 2 ^ 40
    taken_small =
        rw w.is
        (lt_of_lt_of_le (field_fits file (8 * (at / 8)) (8 * n))
        (pow_mono {j = 40} (omega (arith, inside, w.field_in.narrow, w.count_is))))

    -- the number fits
    pub taken_fits : Fits w64 (taken * 256)
    taken_fits = record { fits = omega (arith, taken_small) }

    module _ {byte : ℕ} (next : byte ≡ get_or (holding file at count) n 0) where
      -- the byte is the file's
      byte_is : byte ≡ get_or file (at / 8 + n) 0
      byte_is =
          next ∙ get_or-take (at / 8 + count - at / 8) (drop (at / 8) file) n 0 (omega (arith, inside)) ∙ get_or-drop (at / 8) file n 0

      -- so is what is taken with the next byte
      pub taken_sum_fits : Fits w64 (taken * 256 + byte)
      taken_sum_fits = record { fits = omega (arith, taken_small, byte_is, (small (at / 8 + n)).fits) }

      -- one more is taken
      pub taken_step : Taken file at width count (taken * 256 + byte) (n + 1)
      taken_step =
          record {
            field_in = w.field_in;
            count_is = w.count_is;
            sofar = omega (arith, inside);
            is = rw (w.is, byte_is) one_more;
          }
        where
          here : 8 * (at / 8) + 8 * n ≡ 8 * (at / 8 + n)
          here = omega arith

          longer : 8 * (n + 1) ≡ 8 * n + 8
          longer = omega arith

          one_more : field file (8 * (at / 8)) (8 * n) * 256 + get_or file (at / 8 + n) 0 ≡ field file (8 * (at / 8)) (8 * (n + 1))
          one_more =
              sym
              (ap (field file (8 * (at / 8))) longer
              ∙ field_split file (8 * (at / 8)) (8 * n) 8 (omega (arith, in_file))
              ∙ ap (λ (m : ℕ). field file (8 * (at / 8)) (8 * n) * 256 + m)
              (ap (λ (m : ℕ). field file m 8) here ∙ byte_field file (at / 8 + n) in_file (small (at / 8 + n)).fits))

  -- the modulus is a power of two,
  power : 1 * 2 ^ width % 2 ^ 64 ≡ 2 ^ width
  power = mod-eq_of_lt (omega (arith, pow-lt {i = width} {j = 64} (omega (arith, w.field_in.narrow)))) ∙ omega arith

  -- and not 0
  pub taken_modulus : 0 < 1 * 2 ^ width % 2 ^ 64
  taken_modulus = rw power (pow_pos width)

  -- all are: the field is in the middle
  pub taken_end :
      length (holding file at count) ≤ n
      → taken / 2 ^ (8 * count - (at % 8 + width)) % (1 * 2 ^ width % 2 ^ 64) ≡ field file at width
  taken_end all =
      rw (w.is, whole, power)
      (middle file (8 * (at / 8)) (at % 8) width (8 * count - (at % 8 + width)) (omega (arith, w.field_in.inside, w.count_is))
      ∙ ap (λ (m : ℕ). field file m width) (omega arith))
    where
      whole : 8 * n ≡ at % 8 + width + (8 * count - (at % 8 + width))
      whole =
          omega (
            arith,
            w.count_is,
            w.sofar,
            w.field_in.inside,
            length-take (at / 8 + count - at / 8) (drop (at / 8) file),
            length-drop (at / 8) file,
          )

pub ruleset taking = (taken_start, taken_fits, taken_sum_fits, taken_step, taken_modulus, taken_end)
