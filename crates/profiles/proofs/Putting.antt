-- Fields packed into bytes: what is full is written byte after byte, and what does not fill a byte yet is left.
-- Assumes nothing.
use mathlib.Core.Path.{◌≡◌, refl, sym, ◌∙◌, ap}
use mathlib.Core.List.Memᴰ
use mathlib.Core.List.{List, [], ◌∷◌, ◌++◌, append_assoc, append-nil}
use Prim.Native.Nat.{ℕ, ◌+◌, ◌-◌, ◌*◌, ◌/◌, ◌%◌, ◌^◌, ◌≤◌, ◌<◌}
use native.Mathlib.Nat.{lt_of_lt_of_le, le_trans, le_refl, mul-le-mul, mod-lt, mod-eq_of_lt}
use native.Mathlib.Numerals.{add-one}
use native.Mathlib.Omega.{arith}
use lib.ListN.{length, take, drop, set, length-set, length-append, length-drop}
use lib.Seq.{take_all, take-suc-set, length-take-le}
use lib.Dec.{lit≤}
use borrow.Rule.Slice.PartMut.{put_mid, same_len_mid}
use Rattle.std.proofs.lemmas.Slice.{take-put_mid}
use lib.Pow.{pow_pos, pow_mono, pow-lt, pow-add, shl_lt, mod-pow-add}
use mir.Syntax.{w8, w64}
use mir.Val.{Fits}
use Rattle.meaning.specs.Profile.{bits_of, spelt, ◌bits◌, packed, file_bits}
use Rattle.meaning.proofs.Lists.{append_each}
use Rattle.meaning.proofs.Profile.Bits.{Binary, binary_append, binary_packed, length_bits, length_file_bits, spelt_bits, bits_at, file_bits_append}
use Rattle.profiles.specs.Cited.{packed_bits, AreBytes, WellPacked}
use Rattle.profiles.proofs.Taking.{spelt_append}

-- ---- Bits.

-- a number's bits are bits
binary_number : (w x : ℕ) → Binary (bits_of w x)
unfolding packed
binary_number w x = rw append-nil at (binary_packed (w bits x ∷ []))

-- a number's bits before another's are those of both numbers as one
pub bits_join : (p w a x : ℕ) → a < 2 ^ p → x < 2 ^ w → bits_of (p + w) (a * 2 ^ w + x) ≡ bits_of p a ++ bits_of w x
bits_join p w a x ha hx =
    let all = bits_of p a ++ bits_of w x in
    let size : length all ≡ p + w = length-append (bits_of p a) (bits_of w x) ∙ omega (arith, length_bits p a, length_bits w x) in
    let whole : take (p + w) all ≡ all = take_all (p + w) all (omega (arith, size)) in
    let number : spelt all ≡ a * 2 ^ w + x =
    spelt_append (bits_of p a) (bits_of w x) ∙ cc (spelt_bits p a ha, spelt_bits w x hx, length_bits w x) in
    rw (← number)
    (ap (λ (l : List ℕ). bits_of (p + w) (spelt l)) (sym whole)
    ∙ bits_at (p + w) all (binary_append (bits_of p a) (bits_of w x) (binary_number p a) (binary_number w x)) (omega (arith, size))
    ∙ whole)

-- one byte more has its bits more
pub file_next : (l : List ℕ) (b : ℕ) → file_bits (l ++ b ∷ []) ≡ file_bits l ++ bits_of 8 b
unfolding file_bits packed
file_next l b =
    file_bits_append l (b ∷ []) ∙ ap (λ (r : List ℕ). file_bits l ++ r) (append-nil (bits_of 8 b))

-- ---- Byte after byte.

-- a writer has packed as many bits as its position says
pub packed_length : {n : ℕ} {bytes : List ℕ} {at left : ℕ} → WellPacked n bytes at left → length (packed_bits bytes at left) ≡ at
unfolding packed_bits
packed_length {bytes = bytes} {at} {left} p =
    length-append (file_bits (take (at / 8) bytes)) (bits_of (at % 8) left)
    ∙ omega (
      arith,
      length_file_bits (take (at / 8) bytes),
      length-take-le (at / 8) bytes (omega (arith, p.long, p.inside)),
      length_bits (at % 8) left,
    )

-- at the start none
pub packed_none : (bytes : List ℕ) → packed_bits bytes 0 0 ≡ []
unfolding packed_bits file_bits packed bits_of
packed_none bytes = refl

-- Of the bytes from the one numbered `first` on and before `last`, the first k are written: with the low bits of the whole that are
-- pending they spell its bits.
pub record Putting (end first last whole : ℕ) (items : List ℕ) (k pending : ℕ) : Type 0 where
  pub long : first + length items ≡ last
  pub last_is : last ≡ end / 8
  pub narrow : pending < 64
  pub place : 8 * (first + k) + pending ≡ end
  pub are_bytes : AreBytes (take k items)
  pub is : file_bits (take k items) ++ bits_of pending (whole % 2 ^ pending) ≡ bits_of (end - 8 * first) whole

module _
    {n : ℕ} {bytes old : List ℕ} {at left width x : ℕ} (p : WellPacked n bytes at left) (e : packed_bits bytes at left ≡ old)
    (fits : x < 2 ^ width) (room : length old + width ≤ 8 * n) (few : width ≤ 40)
  where
    -- the field ends inside
    put_room : at + width ≤ 8 * n
    put_room = omega (arith, ap length e, packed_length p)

    -- the position fits,
    pub put_end_fits : Fits w64 (at + width)
    put_end_fits = record { fits = omega (arith, put_room, p.near) }

    -- what is left has at most seven bits
    narrow_left : left < 2 ^ 7
    narrow_left = lt_of_lt_of_le p.left_fits (pow_mono {j = 7} (omega arith))

    -- shifted, what is left loses nothing
    shifted : left * 2 ^ width % 2 ^ 64 ≡ left * 2 ^ width
    shifted = mod-eq_of_lt (lt_of_lt_of_le (shl_lt 7 width narrow_left) (pow_mono {j = 64} (omega arith)))

    -- with the field behind it, it has as many bits as both
    joined_fits : left * 2 ^ width + x < 2 ^ (at % 8 + width)
    joined_fits =
        let top : left * 2 ^ width + 2 ^ width ≤ 2 ^ (at % 8) * 2 ^ width =
        le_trans (omega arith) (mul-le-mul {n₁ = left + 1} {n₂ = 2 ^ (at % 8)} (omega (arith, p.left_fits)) (le_refl (2 ^ width))) in
        rw (pow-add 2 (at % 8) width) (omega arith)

    -- so it fits
    pub put_fits : Fits w64 (left * 2 ^ width % 2 ^ 64 + x)
    put_fits = record { fits = rw shifted (lt_of_lt_of_le joined_fits (pow_mono {j = 64} (omega arith))) }

    -- the bytes that the field fills lie inside
    pub put_inside : at / 8 + (at % 8 + width) / 8 ≤ n
    put_inside = omega (arith, put_room)

    -- they are as many as it fills
    put_lent :
        length (take (at / 8 + (at % 8 + width) / 8 - at / 8) (drop (at / 8) bytes)) ≡ at / 8 + (at % 8 + width) / 8 - at / 8
    put_lent =
        length-take-le (at / 8 + (at % 8 + width) / 8 - at / 8) (drop (at / 8) bytes)
        (omega (arith, length-drop (at / 8) bytes, p.long, put_inside))

    -- no byte is written yet
    pub put_start :
        Putting (at + width) (at / 8) (at / 8 + (at % 8 + width) / 8) (left * 2 ^ width % 2 ^ 64 + x)
        (take (at / 8 + (at % 8 + width) / 8 - at / 8) (drop (at / 8) bytes)) 0 (at % 8 + width)
    unfolding file_bits packed
    put_start =
        let size : at + width - 8 * (at / 8) ≡ at % 8 + width = omega arith in
        record {
          long = omega (arith, put_lent);
          last_is = omega arith;
          narrow = omega arith;
          place = omega arith;
          are_bytes = λ y m. elim m [ ];
          is = rw (size, shifted, mod-eq_of_lt joined_fits) refl;
        }

    -- the whole has the bits that were left and the field's
    put_whole : bits_of (at + width - 8 * (at / 8)) (left * 2 ^ width % 2 ^ 64 + x) ≡ bits_of (at % 8) left ++ bits_of width x
    put_whole =
        let size : at + width - 8 * (at / 8) ≡ at % 8 + width = omega arith in
        rw (size, shifted) (bits_join (at % 8) width left x p.left_fits fits)

module _ {end first last whole : ℕ} {items : List ℕ} {k pending : ℕ} (w : Putting end first last whole items k pending) where
  module _ (more : k < length items) where
    -- a byte more is pending
    pub put_pending : 8 ≤ pending
    put_pending = omega (arith, w.place, w.last_is, w.long)

    -- the next byte of the whole
    abbrev byte : ℕ
    byte = whole / 2 ^ (pending - 8) % 256

    -- it is not shifted too far
    pub put_shift : pending - 8 < 64
    put_shift = omega (arith, w.narrow)

    -- and is a byte,
    byte_fits : byte < 256
    byte_fits = mod-lt (whole / 2 ^ (pending - 8)) (lit≤ tt)

    -- so it fits one
    pub put_byte_fits : Fits w8 byte
    put_byte_fits = record { fits = byte_fits }

    -- it is written
    pub put_step : Putting end first last whole (set items k byte) (k + 1) (pending - 8)
    put_step =
        record {
          long = omega (arith, length-set items k byte, w.long);
          last_is = w.last_is;
          narrow = put_shift;
          place = omega (arith, w.place, put_pending);
          are_bytes = rw longer (append_each {l = take k items} {r = byte ∷ []} w.are_bytes (λ y m. rw (Memᴰ.eq_of_singleton m) byte_fits));
          is =
              rw longer
              (ap (λ (l : List ℕ). l ++ bits_of (pending - 8) (whole % 2 ^ (pending - 8))) (file_next (take k items) byte)
              ∙ append_assoc (file_bits (take k items)) (bits_of 8 byte) (bits_of (pending - 8) (whole % 2 ^ (pending - 8)))
              ∙ ap (λ (l : List ℕ). file_bits (take k items) ++ l) (sym apart)
              ∙ w.is);
        }
      where
        longer : take (k + 1) (set items k byte) ≡ take k items ++ byte ∷ []
        longer = rw (add-one k) (take-suc-set items k byte more)

        eight_more : pending ≡ 8 + (pending - 8)
        eight_more = omega (arith, put_pending)

        apart : bits_of pending (whole % 2 ^ pending) ≡ bits_of 8 byte ++ bits_of (pending - 8) (whole % 2 ^ (pending - 8))
        apart =
            ap (λ (m : ℕ). bits_of m (whole % 2 ^ m)) eight_more
            ∙ ap (bits_of (8 + (pending - 8))) (mod-pow-add whole 8 (pending - 8))
            ∙ bits_join 8 (pending - 8) byte (whole % 2 ^ (pending - 8)) byte_fits (mod-lt whole (pow_pos (pending - 8)))

  -- the modulus is a power of two,
  power : 1 * 2 ^ pending % 2 ^ 64 ≡ 2 ^ pending
  power = mod-eq_of_lt (omega (arith, pow-lt {i = pending} {j = 64} w.narrow)) ∙ omega arith

  -- and not 0
  pub put_modulus : 0 < 1 * 2 ^ pending % 2 ^ 64
  put_modulus = rw power (pow_pos pending)

  module _ (all : length items ≤ k) where
    full : end / 8 ≡ first + length items
    full = omega (arith, w.long, w.last_is)

    part : end % 8 ≡ pending
    part = omega (arith, w.place, w.long, w.last_is, all)

-- The bytes written stand in the writer's, behind those that were full.
module _
    {n : ℕ} {bytes old : List ℕ} {at left width x : ℕ} (p : WellPacked n bytes at left) (e : packed_bits bytes at left ≡ old)
    (fits : x < 2 ^ width) (room : length old + width ≤ 8 * n) (few : width ≤ 40) {items : List ℕ} {k pending : ℕ}
    (w : Putting (at + width) (at / 8) (at / 8 + (at % 8 + width) / 8) (left * 2 ^ width % 2 ^ 64 + x) items k pending)
    (all : length items ≤ k)
  where
    abbrev whole : ℕ
    whole = left * 2 ^ width % 2 ^ 64 + x

    abbrev placed : List ℕ
    placed = put_mid (at / 8) (at / 8 + (at % 8 + width) / 8 - at / 8) bytes items

    fewer : length items ≡ at / 8 + (at % 8 + width) / 8 - at / 8
    fewer = omega (arith, w.long)

    front : take ((at + width) / 8) placed ≡ take (at / 8) bytes ++ items
    front =
        take-put_mid (at / 8) (at / 8 + (at % 8 + width) / 8 - at / 8) bytes items ((at + width) / 8) (full w all)
        (omega (arith, p.long, p.inside))

    every : take k items ≡ items
    every = take_all k items all

    -- what fills bytes is written, and the rest is left
    pub put_well : WellPacked n placed (at + width) (whole % (1 * 2 ^ pending % 2 ^ 64))
    put_well =
        record {
          long = same_len_mid (at / 8) (at / 8 + (at % 8 + width) / 8 - at / 8) bytes items
              (fewer ∙ sym (put_lent p e fits room few))
              ∙ p.long;
          near = p.near;
          inside = put_room p e fits room few;
          left_fits = rw (part w all, power w) (mod-lt whole (pow_pos pending));
          whole = rw front (append_each {l = take (at / 8) bytes} {r = items} p.whole (rw every at w.are_bytes));
        }

    -- and the field is packed
    pub put_end : packed_bits placed (at + width) (whole % (1 * 2 ^ pending % 2 ^ 64)) ≡ old ++ bits_of width x
    unfolding packed_bits
    put_end =
        rw (front, part w all, power w, file_bits_append (take (at / 8) bytes) items)
        (append_assoc (file_bits (take (at / 8) bytes)) (file_bits items) (bits_of pending (whole % 2 ^ pending))
        ∙ ap (λ (l : List ℕ). file_bits (take (at / 8) bytes) ++ l) (rw every at w.is ∙ put_whole p e fits room few)
        ∙ sym (append_assoc (file_bits (take (at / 8) bytes)) (bits_of (at % 8) left) (bits_of width x))
        ∙ ap (λ (l : List ℕ). l ++ bits_of width x) e)

    -- which makes so many bits more
    pub put_longer : length (packed_bits placed (at + width) (whole % (1 * 2 ^ pending % 2 ^ 64))) ≡ length old + width
    put_longer = ap length put_end ∙ length-append old (bits_of width x) ∙ omega (arith, length_bits width x)

pub ruleset putting =
    (packed_none, put_end_fits, put_fits, put_pending, put_shift, put_byte_fits, put_modulus, put_step)
