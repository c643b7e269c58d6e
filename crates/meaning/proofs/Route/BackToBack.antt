-- Profiles back to back: the profile at the start of an input stands in the bytes that its header requires, whatever comes after
-- them; and a profile's file in front of other bytes is that profile.
-- Assumes nothing.
use mathlib.Core.Path.{◌≡◌, refl, sym, ◌∙◌, ap, subst}
use mathlib.Core.Logic.{inl, inr, ◌≢◌}
use mathlib.Core.List.{List, ◌∷◌, ◌++◌}
use Prim.Native.Nat.{ℕ, ◌/◌, ◌%◌, ◌≤◌, ◌<◌}
use native.Mathlib.Nat.{le_of_lt, div-one, div-div-eq-div-mul}
use native.Mathlib.Decide.{ℕ_discrete}
use native.Mathlib.Omega.{arith}
use lib.ListN.{length, take, length-append, length-take, take-append-drop}
use lib.Seq.{take_all, take_at, drop_at, length-take-le}
use Rattle.meaning.specs.Curve.{Bucket, NormalForm}
use Rattle.meaning.specs.Server.{Server}
use Rattle.meaning.specs.Refusal.{HEADER, RANGE, FORM, Clear}
use Rattle.meaning.specs.ServerQuestions.{ServerInRange}
use Rattle.meaning.specs.Profile.{bits_of, spelt, packed, file_bits, curve_kind, Profile, curve, server, written, field, edition_of, kind_in, profile_of, bytes_taken, profile_lines, file_lines, buckets_of, server_in}
use Rattle.meaning.specs.Route.{first_file, after_first, IsCurve, IsServer, due_lines}
use Rattle.meaning.proofs.Order.{le_or_lt, not_apart}
use Rattle.meaning.proofs.Outcome.Stable.{normal_stable, server_stable}
use Rattle.meaning.proofs.Profile.Bits.{spelt_mod}
use Rattle.meaning.proofs.Profile.Fields.{field_append}
use Rattle.meaning.proofs.Profile.Files.{byte_size, more_than_one_byte, held_curve, held_server, curve_taken, server_taken, edition_append, kind_append, held_append, taken_append}
use Rattle.meaning.proofs.Profile.RoundTrip.{clear_whole, ReadsBack}

-- ---- The header by its bytes.

-- the upper four bits of a byte are those of its sixteenth,
upper_four : (b : ℕ) (l : List ℕ) → take 4 (bits_of 8 b ++ l) ≡ bits_of 4 (b / 16)
unfolding bits_of
upper_four b l =
    cc (div-div-eq-div-mul b 16 8, div-div-eq-div-mul b 16 4, div-div-eq-div-mul b 16 2, div-one (b / 16))

-- and the upper six those of its quarter
upper_six : (b : ℕ) (l : List ℕ) → take 6 (bits_of 8 b ++ l) ≡ bits_of 6 (b / 4)
unfolding bits_of
upper_six b l =
    cc (
      div-div-eq-div-mul b 4 32,
      div-div-eq-div-mul b 4 16,
      div-div-eq-div-mul b 4 8,
      div-div-eq-div-mul b 4 4,
      div-div-eq-div-mul b 4 2,
      div-one (b / 4),
    )

-- the first byte's upper half is the edition,
pub edition_byte : (b : ℕ) (l : List ℕ) → edition_of (b ∷ l) ≡ b / 16 % 16
unfolding edition_of field file_bits packed
edition_byte b l = ap spelt (upper_four b (file_bits l)) ∙ spelt_mod 4 (b / 16)

-- its lower half the kind,
pub kind_byte : (b : ℕ) (l : List ℕ) → kind_in (b ∷ l) ≡ b % 16
unfolding kind_in field file_bits packed bits_of
kind_byte b l = spelt_mod 4 b

-- and the second byte's upper six bits the count minus one
pub count_byte : (b c : ℕ) (l : List ℕ) → field (b ∷ c ∷ l) 8 6 ≡ c / 4 % 64
unfolding field file_bits packed bits_of
count_byte b c l = ap spelt (upper_six c (file_bits l)) ∙ spelt_mod 6 (c / 4)

-- a file that holds a server is not of a curve's kind,
pub kind_of_server : (file : List ℕ) {s : Server} → profile_of file ≡ server s → kind_in file ≢ curve_kind
kind_of_server file e kind = let z : ◌≡◌ {A = ℕ} 0 1 = cc (held_curve file kind) in omega arith

-- and one that holds a curve is
pub kind_of_curve : (file : List ℕ) {f : List Bucket} → profile_of file ≡ curve f → kind_in file ≡ curve_kind
kind_of_curve file e =
    not_apart (λ other. let z : ◌≡◌ {A = ℕ} 0 1 = cc (held_server file other) in omega arith)

-- two bytes fix the byte count required
header_front : (a b : List ℕ) → 2 ≤ length a → bytes_taken (a ++ b) ≡ bytes_taken a
unfolding kind_in
header_front a b two =
    let kind : kind_in (a ++ b) ≡ kind_in a = field_append a b 4 4 (omega arith) in
    elim (ℕ_discrete (kind_in a) curve_kind) [
      | yes e ↦ omega (arith, curve_taken (a ++ b) (kind ∙ e), field_append a b 8 6 (omega arith), curve_taken a e)
      | no e ↦ server_taken (a ++ b) (λ k. e (sym kind ∙ k)) ∙ ap byte_size kind ∙ sym (server_taken a e)
    ]

-- ---- The profile at the start.

-- What stands in the first file is what stands at the start of the input: its edition, kind, byte count and profile.
pub record SameStart (input : List ℕ) : Type 0 where
  pub edition_same : edition_of (first_file input) ≡ edition_of input
  pub kind_same : kind_in (first_file input) ≡ kind_in input
  pub taken_same : bytes_taken (first_file input) ≡ bytes_taken input
  pub profile_same : profile_of (first_file input) ≡ profile_of input

module _ (input : List ℕ) where
  -- an input that is cut short is all in its first file,
  pub cut_short : length input ≤ bytes_taken input → first_file input ≡ input
  unfolding first_file
  cut_short h = take_all (bytes_taken input) input h

  -- one that is not has the bytes required there,
  pub first_length : bytes_taken input ≤ length input → length (first_file input) ≡ bytes_taken input
  unfolding first_file
  first_length h = length-take-le (bytes_taken input) input h

  -- and it goes on behind them
  pub first_after : input ≡ first_file input ++ after_first input
  unfolding first_file after_first
  first_after = sym (take-append-drop (bytes_taken input) input)

  -- so the first file begins as the input does
  pub same_start : SameStart input
  unfolding bytes_taken
  same_start =
      elim (le_or_lt (bytes_taken input) (length input)) [
        | inl whole ↦
            let size = first_length whole in
            let two : 1 < bytes_taken input = more_than_one_byte (edition_of input) (profile_of input) in
            let taken : bytes_taken input ≡ bytes_taken (first_file input) =
            ap bytes_taken first_after ∙ header_front (first_file input) (after_first input) (omega arith)
            in
            let enough : bytes_taken (first_file input) ≤ length (first_file input) = omega arith in
            record {
              edition_same = sym (ap edition_of first_after ∙ edition_append (first_file input) (after_first input) enough);
              kind_same = sym (ap kind_in first_after ∙ kind_append (first_file input) (after_first input) enough);
              taken_same = sym taken;
              profile_same = sym (ap profile_of first_after ∙ held_append (first_file input) (after_first input) enough);
            }
        | inr short ↦
            let same = cut_short (le_of_lt short) in
            record {
              edition_same = ap edition_of same;
              kind_same = ap kind_in same;
              taken_same = ap bytes_taken same;
              profile_same = ap profile_of same;
            }
      ]

-- ---- What is due.

module _ (input : List ℕ) (clear : Clear (file_lines (first_file input))) where
  -- where no line refuses the first file, its bytes are there,
  file_whole : bytes_taken input ≤ length input
  unfolding first_file
  file_whole =
      omega (arith, clear_whole (first_file input) clear, (same_start input).taken_same, length-take (bytes_taken input) input)

  -- and no line holds of the profile
  file_profile : Clear (profile_lines (profile_of input))
  file_profile =
      subst (λ (p : Profile). Clear (profile_lines p)) (same_start input).profile_same (λ r h. clear r (inr h))

module _ (input : List ℕ) (clear : Clear (due_lines IsCurve input)) where
  -- a curve that is due and not refused is all there,
  pub due_curve_whole : bytes_taken input ≤ length input
  due_curve_whole = file_whole input (λ r h. clear r (inr h))

  -- it is a curve,
  pub due_curve : profile_of input ≡ curve (buckets_of (profile_of input))
  due_curve = is_curve (profile_of input) (λ h. clear HEADER (inl (refl, h)))
    where
      is_curve : (p : Profile) → ((IsCurve p → ⊥) → ⊥) → p ≡ curve (buckets_of p)
      is_curve (curve f) h = refl
      is_curve (server s) h = absurd (h (λ x. x))

  -- in normal form
  pub due_form : NormalForm (buckets_of (profile_of input))
  due_form =
      let lines = subst (λ (p : Profile). Clear (profile_lines p)) due_curve (file_profile input (λ r h. clear r (inr h))) in
      normal_stable (λ out. lines FORM (inr (refl, out)))

module _ (input : List ℕ) (clear : Clear (due_lines IsServer input)) where
  -- a server that is due and not refused is all there,
  pub due_server_whole : bytes_taken input ≤ length input
  due_server_whole = file_whole input (λ r h. clear r (inr h))

  -- it is a server,
  pub due_server : profile_of input ≡ server (server_in (profile_of input))
  due_server = is_server (profile_of input) (λ h. clear HEADER (inl (refl, h)))
    where
      is_server : (p : Profile) → ((IsServer p → ⊥) → ⊥) → p ≡ server (server_in p)
      is_server (curve f) h = absurd (h (λ x. x))
      is_server (server s) h = refl

  -- in range
  pub due_in_range : ServerInRange (server_in (profile_of input))
  due_in_range =
      let lines = subst (λ (p : Profile). Clear (profile_lines p)) due_server (file_profile input (λ r h. clear r (inr h))) in
      server_stable (server_in (profile_of input)) (λ out. lines RANGE (refl, out))

-- ---- A file in front of other bytes, and a file cut short.

module _ (file rest : List ℕ) (whole : length file ≡ bytes_taken file) where
  all_there : length file ≡ bytes_taken (file ++ rest)
  all_there = whole ∙ sym (taken_append file rest (omega arith))

  -- a file with the bytes that its header requires is the first file,
  pub first_whole : first_file (file ++ rest) ≡ file
  unfolding first_file
  first_whole = take_at file rest (bytes_taken (file ++ rest)) all_there

  -- and what stands behind it comes after
  pub after_whole : after_first (file ++ rest) ≡ rest
  unfolding after_first
  after_whole = drop_at file rest (bytes_taken (file ++ rest)) all_there

module _ (file rest : List ℕ) where
  -- such a file cut short is a first file too,
  pub first_cut : length (file ++ rest) ≡ bytes_taken (file ++ rest) → first_file file ≡ file
  unfolding bytes_taken
  first_cut whole =
      elim (le_or_lt 2 (length file)) [
        | inl two ↦ cut_short file (omega (arith, header_front file rest two, length-append file rest))
        | inr one ↦ cut_short file (omega (arith, more_than_one_byte (edition_of file) (profile_of file)))
      ]

  -- of the same kind
  pub kind_cut : 1 ≤ length file → kind_in (file ++ rest) ≡ kind_in file
  unfolding kind_in
  kind_cut some = field_append file rest 4 4 (omega arith)

-- An input begins with a profile in an edition: it holds the profile, its first bytes are the profile's file, and then comes the rest.
pub record Begins (input : List ℕ) (ed : ℕ) (p : Profile) (rest : List ℕ) : Type 0 where
  pub holds : profile_of input ≡ p
  pub file : first_file input ≡ written ed p
  pub after : after_first input ≡ rest

-- so it does with the file of a profile that reads back
pub begins : {ed : ℕ} {p : Profile} → ReadsBack ed p → (rest : List ℕ) → Begins (written ed p ++ rest) ed p rest
begins {ed} {p} back rest =
    let file = written ed p in
    let whole = clear_whole file back.clear in
    record {
      holds = held_append file rest (omega arith) ∙ back.same;
      file = first_whole file rest whole;
      after = after_whole file rest whole;
    }
