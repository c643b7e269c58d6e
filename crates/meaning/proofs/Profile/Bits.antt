-- Numbers as bits and bits as numbers, bits as bytes and back. Each way undoes the other.
-- Assumes nothing.
use mathlib.Core.Path.{◌≡◌, refl, sym, ◌∙◌, ap}
use mathlib.Core.Logic.{inl, inr, ◌≢◌}
use mathlib.Core.List.Memᴰ
use mathlib.Core.List.{List, [], ◌∷◌, ◌++◌, map, append_assoc, Memᴰ}
use Prim.Native.Nat.{ℕ, zero, suc, ◌+◌, ◌-◌, ◌*◌, ◌/◌, ◌%◌, ◌^◌, ◌≤◌, ◌<◌}
use native.Mathlib.Nat.{le_refl, mul-le-mul, mul-add-mod_self_left, mod-lt, mod-eq_of_lt, mod-one, mul-add-div_right, two-pow-succ}
use native.Mathlib.Decide.{ℕ_discrete}
use native.Mathlib.Omega.{arith}
use lib.ListN.{get_or, length, take, drop, replicate, length-append, length-drop, take-append-drop}
use lib.Seq.{take_at, drop_at, length-take-le}
use lib.Pow.{pow_pos, high, mod-pow-add}
use Rattle.meaning.specs.Profile.{bits_of, spelt, Field, ◌bits◌, packed, file_bits, bytes_of}

-- Every number of the list is 0 or 1.
abbrev pub Binary : List ℕ → Type 0
Binary [] = Unit {0}
Binary (b ∷ l) = (b < 2) × Binary l

-- so it is of two such lists together,
pub binary_append : (l r : List ℕ) → Binary l → Binary r → Binary (l ++ r)
binary_append [] r h k = k
binary_append (b ∷ l) r h k = (h.0, binary_append l r h.1 k)

-- of the first so many,
pub binary_take : (n : ℕ) (l : List ℕ) → Binary l → Binary (take n l)
binary_take zero l h = tt
binary_take (suc n) [] h = tt
binary_take (suc n) (b ∷ l) h = (h.0, binary_take n l h.1)

-- and of the others
pub binary_drop : (n : ℕ) (l : List ℕ) → Binary l → Binary (drop n l)
binary_drop zero l h = h
binary_drop (suc n) [] h = tt
binary_drop (suc n) (b ∷ l) h = binary_drop n l h.1

-- a number as so many bits has so many, and each is a bit
pub length_bits : (w x : ℕ) → length (bits_of w x) ≡ w
unfolding bits_of
length_bits zero x = refl
length_bits (suc w) x = ap suc (length_bits w x)

binary_bits : (w x : ℕ) → Binary (bits_of w x)
unfolding bits_of
binary_bits zero x = tt
binary_bits (suc w) x = (mod-lt _ (omega arith), binary_bits w x)

-- bits spell a number that fits them
pub spelt_fits : (l : List ℕ) → Binary l → spelt l < 2 ^ length l
unfolding spelt
spelt_fits [] h = omega arith
spelt_fits (b ∷ l) h =
    let top : b * 2 ^ length l ≤ 1 * 2 ^ length l = mul-le-mul {n₁ = b} {n₂ = 1} (omega arith) (le_refl _) in
    omega (arith, spelt_fits l h.1, two-pow-succ (length l))

-- what stands above the bits does not show in them
bits_below : (w c x : ℕ) → bits_of w (c * 2 ^ w + x) ≡ bits_of w x
unfolding bits_of
bits_below zero c x = refl
bits_below (suc w) c x =
    let above : c * 2 ^ suc w + x ≡ 2 * c * 2 ^ w + x = omega (arith, ap (λ (y : ℕ). c * y) (two-pow-succ w)) in
    let quotient = mul-add-div_right (pow_pos w) (2 * c) x in
    rw above (cc (quotient, mul-add-mod_self_left 2 c (x / 2 ^ w), bits_below w (2 * c) x))

-- a number's bits spell it
pub spelt_mod : (w x : ℕ) → spelt (bits_of w x) ≡ x % 2 ^ w
unfolding spelt bits_of
spelt_mod zero x = sym (mod-one x)
spelt_mod (suc w) x =
    let more : suc w ≡ 1 + w = omega arith in
    cc (length_bits w x, spelt_mod w x, more, mod-pow-add x 1 w)

-- if it fits
pub spelt_bits : (w x : ℕ) → x < 2 ^ w → spelt (bits_of w x) ≡ x
spelt_bits w x h = spelt_mod w x ∙ mod-eq_of_lt h

-- bits are those of the number that they spell
bits_spelt : (l : List ℕ) → Binary l → bits_of (length l) (spelt l) ≡ l
unfolding spelt bits_of
bits_spelt [] h = refl
bits_spelt (b ∷ l) h =
    let quotient = high b (length l) (spelt_fits l h.1) in
    cc (quotient, mod-eq_of_lt h.0, bits_below (length l) b (spelt l), bits_spelt l h.1)

-- so many bits of a list, as a field
pub bits_at : (w : ℕ) (l : List ℕ) → Binary l → w ≤ length l → bits_of w (spelt (take w l)) ≡ take w l
bits_at w l h fits = cc (bits_spelt (take w l) (binary_take w l h), length-take-le w l fits)

-- so many bits before the rest, taken and dropped
pub bits_taken : (w x : ℕ) (rest : List ℕ) → take w (bits_of w x ++ rest) ≡ bits_of w x
bits_taken w x rest = take_at (bits_of w x) rest w (length_bits w x)

pub bits_dropped : (w x : ℕ) (rest : List ℕ) → drop w (bits_of w x ++ rest) ≡ rest
bits_dropped w x rest = drop_at (bits_of w x) rest w (length_bits w x)

-- the bit of a number at a position
pub bit_of_number : (w x i : ℕ) → i < w → get_or (bits_of w x) i 0 ≡ x / 2 ^ (w - 1 - i) % 2
unfolding bits_of
bit_of_number zero x i h = absurd (omega arith)
bit_of_number (suc w) x zero h = ap (λ (n : ℕ). x / 2 ^ n % 2) (omega arith)
bit_of_number (suc w) x (suc i) h = bit_of_number w x i (omega arith) ∙ ap (λ (n : ℕ). x / 2 ^ n % 2) (omega arith)

-- bits among which is a 1 do not spell 0,
pub one_spelt : {l : List ℕ} → Memᴰ 1 l → 1 ≤ spelt l
unfolding spelt
one_spelt (Memᴰ.head {x = x} {xs = l} e) = rw (← e) (omega (arith, pow_pos (length l)))
one_spelt (Memᴰ.tail m) = omega (arith, one_spelt m)

-- and among those that do not there is a 1
pub spelt_one : (l : List ℕ) → Binary l → 1 ≤ spelt l → Memᴰ 1 l
unfolding spelt
spelt_one [] h some = absurd (omega arith)
spelt_one (b ∷ l) h some =
    elim (ℕ_discrete b 1) [
      | yes e ↦ Memᴰ.head (sym e)
      | no n ↦
          let zero_bit : b ≡ 0 = omega arith in
          Memᴰ.tail (spelt_one l h.1 (omega (arith, ap (λ (c : ℕ). c * 2 ^ length l) zero_bit)))
    ]

-- So many zero bits: bits with no 1 among them, as no others are.
abbrev pub zero_bits : ℕ → List ℕ
zero_bits n = replicate n 0

-- they are bits,
pub binary_zeros : (n : ℕ) → Binary (zero_bits n)
binary_zeros zero = tt
binary_zeros (suc n) = (omega arith, binary_zeros n)

-- there is no 1 among them,
pub zeros_no_one : (n : ℕ) → Memᴰ 1 (zero_bits n) → ⊥
zeros_no_one zero m = elim m [ ]
zeros_no_one (suc n) m = elim (Memᴰ.cases_cons m) [ inl e ↦ omega arith | inr k ↦ zeros_no_one n k ]

-- and bits among which there is none are such
pub no_one_zeros : (l : List ℕ) → Binary l → (Memᴰ 1 l → ⊥) → l ≡ zero_bits (length l)
no_one_zeros [] h none = refl
no_one_zeros (b ∷ l) h none =
    cc (zero_bit, no_one_zeros l h.1 (λ m. none (Memᴰ.tail m)))
  where
    other : b ≢ 1
    other e = none (Memᴰ.head (sym e))

    zero_bit : b ≡ 0
    zero_bit = omega (arith, other)

-- one field more has its bits more
pub length_packed : (w x : ℕ) (fs : List Field) → length (packed (w bits x ∷ fs)) ≡ w + length (packed fs)
unfolding packed
length_packed w x fs = length-append (bits_of w x) (packed fs) ∙ ap (λ (n : ℕ). n + length (packed fs)) (length_bits w x)

-- packed fields are bits,
pub binary_packed : (fs : List Field) → Binary (packed fs)
unfolding packed
binary_packed [] = tt
binary_packed (w bits x ∷ fs) = binary_append (bits_of w x) (packed fs) (binary_bits w x) (binary_packed fs)

-- so are the bits of a file,
pub binary_file : (file : List ℕ) → Binary (file_bits file)
unfolding file_bits
binary_file file = binary_packed _

-- eight for each byte
pub length_file_bits : (file : List ℕ) → length (file_bits file) ≡ 8 * length file
unfolding file_bits packed
length_file_bits [] = refl
length_file_bits (x ∷ file) = omega (arith, length_packed 8 x (map (◌bits◌ 8) file), length_file_bits file)

-- the bits of two files one behind the other
pub file_bits_append : (file rest : List ℕ) → file_bits (file ++ rest) ≡ file_bits file ++ file_bits rest
unfolding file_bits packed
file_bits_append [] rest = refl
file_bits_append (x ∷ file) rest =
    ap (λ (l : List ℕ). bits_of 8 x ++ l) (file_bits_append file rest)
    ∙ sym (append_assoc (bits_of 8 x) (file_bits file) (file_bits rest))

-- Every number of the file is a byte.
abbrev pub Bytes : List ℕ → Type 0
Bytes file = (x : ℕ) → Memᴰ x file → x < 256

-- bytes of a file's bits
pub bytes_of_file : (file : List ℕ) → Bytes file → bytes_of (length file) (file_bits file) ≡ file
unfolding file_bits packed bytes_of
bytes_of_file [] h = refl
bytes_of_file (x ∷ file) h =
    cc (
      bits_taken 8 x (file_bits file),
      bits_dropped 8 x (file_bits file),
      spelt_bits 8 x (h x (Memᴰ.head refl)),
      bytes_of_file file (λ y m. h y (Memᴰ.tail m)),
    )

-- bits of the bytes
pub bits_of_bytes : (n : ℕ) (l : List ℕ) → Binary l → length l ≡ 8 * n → file_bits (bytes_of n l) ≡ l
unfolding file_bits packed bytes_of
bits_of_bytes zero [] h e = refl
bits_of_bytes zero (b ∷ l) h e = absurd (omega arith)
bits_of_bytes (suc n) l h e =
    cc (
      bits_at 8 l h (omega arith),
      bits_of_bytes n (drop 8 l) (binary_drop 8 l h) (omega (arith, length-drop 8 l)),
      take-append-drop 8 l,
    )

-- the file of a profile has the byte count, and its bits are the profile's, then zero bits
pub length_bytes : (n : ℕ) (l : List ℕ) → length (bytes_of n l) ≡ n
unfolding bytes_of
length_bytes zero l = refl
length_bytes (suc n) l = ap suc (length_bytes n (drop 8 l))
