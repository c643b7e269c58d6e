-- Every line of a file and of a profile can be decided; so reading and writing have an outcome for every input.
-- Assumes nothing.
use mathlib.Core.Path.{◌≡◌, refl}
use mathlib.Core.Logic.Dec
use mathlib.Core.List.{List}
use Prim.Native.Nat.{ℕ}
use native.Mathlib.Decide.{dec_le, ℕ_discrete, map_dec}
use native.Mathlib.Omega.{arith}
use lib.Dec.{lit≤}
use lib.ListN.{length}
use Rattle.meaning.specs.Refusal.{HEADER, LENGTH, PAD, RANGE, FORM, number, Lines, curve_lines, Outcome, part, PartOutcome}
use Rattle.meaning.specs.Curve.{curve_of}
use Rattle.meaning.specs.Server.{Server, no_server}
use Rattle.meaning.specs.ServerQuestions.{server_lines}
use Rattle.meaning.specs.Profile.{spelt, curve_kind, Profile, curve, server, kind_of, written, edition_of, kind_in, profile_of, bytes_taken, padding, profile_lines, file_lines, buckets_of, server_in, reading, Reading, Told, ReadOutcome, ReadPartOutcome, edition_lines, writing}
use Rattle.meaning.proofs.Outcome.Outcomes.{UpTo, up_to_or, up_to_when}
use Rattle.meaning.proofs.Outcome.Answers.{curve_up_to}
use Rattle.meaning.proofs.Outcome.Stable.{decide_all_in_range, decide_normal}
use Rattle.meaning.proofs.Outcome.Demands.{server_up_to}
use Rattle.meaning.proofs.Outcome.EveryInput.{Decided, decide_line, decide_or, decide_either, curve_decided, server_decided, HasOutcome, HasBytes, part_outcome, curve_outcome, bytes_outcome}
use Rattle.meaning.proofs.Profile.Bits.{one_spelt, spelt_one}
use Rattle.meaning.proofs.Profile.Files.{binary_padding}
use Rattle.meaning.proofs.Profile.RoundTrip.{decide_known}
use Rattle.meaning.proofs.Profile.Outcomes.{writing_curve, writing_server, single_reading, single_writing, file_up_to}

-- the lines of a profile can be decided,
pub profile_decided : (p : Profile) → Decided (profile_lines p)
profile_decided (curve f) =
    decide_or (decide_line RANGE (Dec.not (decide_all_in_range f))) (decide_line FORM (Dec.not (decide_normal f)))
profile_decided (server s) = server_decided s

-- and those of a file
pub file_decided : (file : List ℕ) → Decided (file_lines file)
file_decided file =
    decide_or (decide_or (decide_or (decide_line HEADER
    (decide_either (ℕ_discrete (length file) 0) (Dec.not (decide_known (edition_of file) (kind_in file)))))
    (decide_line LENGTH
    (decide_either (Dec.not (ℕ_discrete (length file) (bytes_taken file)))
    (Dec.and (ℕ_discrete (kind_in file) curve_kind) (ℕ_discrete (length file) 1)))))
    (decide_line PAD
    (map_dec (spelt_one (padding file) (binary_padding file)) one_spelt (dec_le 1 (spelt (padding file))))))
    (profile_decided (profile_of file))

-- ---- Outcomes.

-- There is a reading, with the list or table after it.
pub record HasReading (ReadingOf : List ℕ → Reading → Type 0) : Type 0 where
  pub after : List ℕ
  pub reading : Reading
  pub outcome : ReadingOf after reading

-- What the reader tells where it answers this code and count.
tells :
    (file : List ℕ) (P : ℕ → ℕ → Type 0) (code count : ℕ) → P code count → Dec (code ≡ 0)
    → (x : Reading) × P x.code x.count × Told file x
tells file P code count h (yes e) = (
  record {
    code = code;
    edition = edition_of file;
    kind = kind_of (profile_of file);
    count = count;
    server = server_in (profile_of file);
  },
  h,
  record { accepted = λ _. (refl, refl, refl); refused = λ some. absurd (some e) },
)
tells file P code count h (no n) = (
  record { code = code; edition = 0; kind = 0; count = count; server = no_server },
  h,
  record { accepted = λ e. absurd (n e); refused = λ _. (refl, refl, refl) },
)

module _ (file : List ℕ) where
  -- the question has an outcome over every lent list,
  list_read : (before : List ℕ) → HasOutcome (reading file) before
  unfolding reading
  list_read before =
      curve_outcome (reading file) before (file_decided file) (file_up_to file) (single_reading file)
      (λ clear. (buckets_of (profile_of file), refl))

  -- so reading has,
  pub read_has_outcome : (before : List ℕ) → HasReading (ReadOutcome file before)
  read_has_outcome before =
      let o = list_read before in
      let x = tells file (Outcome (reading file) before o.after) _ _ o.outcome (ℕ_discrete o.code 0) in
      record { after = o.after; reading = x.0; outcome = record { list = x.1; told = x.2 } }

  -- over every part of a table too
  pub read_part_has_outcome : (at room : ℕ) (before : List ℕ) → HasReading (ReadPartOutcome file at room before)
  read_part_has_outcome at room before =
      let o = part_outcome (list_read (part at room before)) in
      let x = tells file (PartOutcome (reading file) at room before o.after) _ _ o.outcome (ℕ_discrete o.code 0) in
      record { after = o.after; reading = x.0; outcome = record { list = x.1; told = x.2 } }

-- whether an edition has a kind can be decided, and is HEADER alone
pub edition_decided : (ed kind : ℕ) → Decided (edition_lines ed kind)
edition_decided ed kind = decide_line HEADER (Dec.not (decide_known ed kind))

-- writing has over every buffer,
write_outcome :
    (ed : ℕ) (operands : Lines) (p : Profile) (before : List ℕ) → Decided operands → UpTo 8 operands
    → HasBytes (writing ed operands p) before
unfolding writing number
write_outcome ed operands p before decided upto =
    bytes_outcome (writing ed operands p) before (decide_or (edition_decided ed (kind_of p)) decided)
    (up_to_or (up_to_when HEADER (lit≤ tt)) (λ r h. omega (arith, upto r h))) (single_writing ed operands p)
    (λ clear. (written ed p, refl))

-- of a curve,
pub write_curve_has_outcome : (ed : ℕ) (l before : List ℕ) → HasBytes (writing_curve ed l) before
write_curve_has_outcome ed l before =
    write_outcome ed (curve_lines l) (curve (curve_of l)) before (curve_decided l) (curve_up_to l)

-- and of a server
pub write_server_has_outcome : (ed : ℕ) (s : Server) (before : List ℕ) → HasBytes (writing_server ed s) before
write_server_has_outcome ed s before = write_outcome ed (server_lines s) (server s) before (server_decided s) (server_up_to s)
