-- What a file must have before its profile is looked at: header, byte count and padding, refused in the order of their numbers.
-- Assumes nothing.
use mathlib.Core.Path.{◌≡◌, refl, sym, ◌∙◌}
use mathlib.Core.Bool.{Bool, true, false, not}
use mathlib.Core.Logic.{inl, inr}
use mathlib.Core.List.{List}
use Prim.Native.Nat.{ℕ, ◌+◌, ◌-◌, ◌*◌, ◌/◌, ◌≤◌}
use native.Mathlib.Omega.{arith}
use lib.Dec.{lit≤}
use lib.ListN.{length}
use borrow.Author.Tests.{not-true, not-false}
use mir.Syntax.{w64}
use mir.Val.{Fits}
use Rattle.meaning.specs.Refusal.{HEADER, LENGTH, PAD, number, Verdict}
use Rattle.meaning.specs.Profile.{spelt, Known, field, edition_of, kind_in, bytes_taken, padding, file_lines}
use Rattle.meaning.proofs.Profile.Bits.{one_spelt, spelt_one}
use Rattle.meaning.proofs.Profile.Files.{binary_padding, padding_field}
use Rattle.meaning.proofs.Profile.RoundTrip.{RightHeader}
use Rattle.meaning.proofs.Profile.Refusals.{header_wrong, length_wrong, pad_wrong}
use Rattle.checks.specs.Cited.{Tells}
use Rattle.profiles.specs.Cited.{InFile, BitsTaken, Whole, Framed, Tested}
use Rattle.profiles.proofs.Header.{taken_bytes}

-- a test finds a refusal,
found_wrong : (file : List ℕ) {P : Type 0} {code : ℕ} → 1 ≤ code → Verdict (file_lines file) code → Tested file P code
found_wrong file some v = record { refused = λ _. v; right = λ z. absurd (omega arith) }

-- or what it tests for
found_right : (file : List ℕ) {P : Type 0} → P → Tested file P 0
found_right file is = record { refused = λ some. absurd (some refl); right = λ _. is }

-- ---- The header.

module _ {file : List ℕ} where
  -- the file is empty
  pub header_empty : length file ≡ 0 → Tested file (RightHeader file) (number HEADER)
  unfolding number
  header_empty h = found_wrong file (lit≤ tt) (header_wrong file (inl h))

  module _ {ed kind : ℕ} (e : ed ≡ edition_of file) (k : kind ≡ kind_in file) {answer : Bool} (t : Tells (Known ed kind) answer) where
    -- the edition has no such kind,
    pub header_unknown : not answer ≡ true → Tested file (RightHeader file) (number HEADER)
    unfolding number
    header_unknown n =
        found_wrong file (lit≤ tt) (header_wrong file (inr (λ known. t.no_means (not-true answer n) (rw (e, k) known))))

    -- or has it
    pub header_known : (length file ≡ 0 → ⊥) → not answer ≡ false → Tested file (RightHeader file) 0
    header_known some n =
        found_right file
        (record { filled = omega (arith, some); known = rw (← e, ← k) (t.yes_means (not-false answer n)) })

pub ruleset heads = (header_empty, header_unknown, header_known)

-- ---- The padding of a file of the byte count required.

module _ {file : List ℕ} (whole : Whole file) {end : ℕ} (bits : BitsTaken file end) where
  -- the file has the bytes that its bits require
  size : length file ≡ (end + 7) / 8
  size = whole.is ∙ sym (taken_bytes file bits)

  -- so its bits are few,
  pub padding_end_fits : Fits w64 (8 * length file)
  padding_end_fits = record { fits = omega (arith, bits.few, size) }

  -- the padding begins inside the file, or at its end,
  pub padding_some : end ≤ 8 * length file
  padding_some = omega (arith, size)

  -- and is a field of it
  pub padding_inside : InFile file end (8 * length file - end)
  padding_inside =
      record {
        inside = omega (arith, padding_some);
        near = omega (arith, bits.few);
        narrow = omega (arith, size);
      }

  -- the bits behind the profile's
  pub padding_read : {x : ℕ} → x ≡ field file end (8 * length file - end) → x ≡ spelt (padding file)
  unfolding bytes_taken
  padding_read e = e ∙ rw (whole.is, bits.is) (padding_field file whole.is)

pub ruleset pads = (padding_end_fits, padding_some, padding_inside, padding_read)

-- ---- The three together.

-- the padding is read of a file of the byte count required
pub told_whole : {file : List ℕ} {answer : Bool} → Tells (Whole file) answer → not answer ≡ false → Whole file
told_whole {answer = answer} t n = t.yes_means (not-false answer n)

module _ {file : List ℕ} {code : ℕ} (v : Tested file (RightHeader file) code) where
  -- the header is refused
  pub frame_header : (code ≡ 0 → ⊥) → Tested file (Framed file) code
  frame_header some = found_wrong file (omega (arith, some)) (v.refused some)

  module _ (right : code ≡ 0) {answer : Bool} (t : Tells (Whole file) answer) where
    -- the byte count is another
    pub frame_length : not answer ≡ true → Tested file (Framed file) (number LENGTH)
    unfolding number
    frame_length n =
        found_wrong file (lit≤ tt)
        (length_wrong file (v.right right) (λ h. t.no_means (not-true answer n) (record { is = h })))

    module _ (n : not answer ≡ false) {bits : ℕ} (p : bits ≡ spelt (padding file)) where
      -- a padding bit is 1
      pub frame_pad : (bits ≡ 0 → ⊥) → Tested file (Framed file) (number PAD)
      unfolding number
      frame_pad some =
          found_wrong file (lit≤ tt)
          (pad_wrong file (v.right right) (told_whole t n).is
          (spelt_one (padding file) (binary_padding file) (omega (arith, some, p))))

      -- all are right
      pub frame_right : bits ≡ 0 → Tested file (Framed file) 0
      frame_right none =
          found_right file
          (record {
            header = v.right right;
            whole = told_whole t n;
            no_one = λ m. omega (arith, one_spelt m, p, none);
          })

pub ruleset frames = (frame_header, frame_length, told_whole, frame_pad, frame_right)
