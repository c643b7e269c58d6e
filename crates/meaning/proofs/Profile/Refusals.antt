-- Which refusal is the code: of a file by its header, its length, its padding and the profile that it holds, one after the other;
-- and of a curve or a server that is written.
-- Assumes nothing.
use mathlib.Core.Path.{◌≡◌, refl, sym, ◌∙◌, ap}
use mathlib.Core.Logic.{◌⊎◌, inl, inr, ◌≢◌}
use mathlib.Core.List.{List, ◌++◌, Memᴰ}
use Prim.Native.Nat.{ℕ, ◌+◌, ◌%◌, ◌≤◌, ◌<◌}
use native.Mathlib.Decide.{ℕ_discrete}
use native.Mathlib.Omega.{arith}
use lib.Dec.{lit≤}
use lib.ListN.{length, length-append}
use Rattle.meaning.specs.Curve.{width, curve_of, NormalForm}
use Rattle.meaning.specs.Refusal.{HEADER, LENGTH, PAD, LIST, COUNT, RANGE, FORM, number, Lines, ◌when◌, ◌or◌, Clear, Verdict, accepted, rejected, AllInRange, Uneven, list_lines, curve_lines}
use Rattle.meaning.specs.Server.{Server}
use Rattle.meaning.specs.ServerQuestions.{ServerInRange, server_lines}
use Rattle.meaning.specs.Profile.{curve_kind, Profile, curve, server, kind_of, Known, edition_of, kind_in, profile_of, bytes_taken, padding, profile_lines, file_lines, writing}
use Rattle.meaning.proofs.Order.{le_or_lt}
use Rattle.meaning.proofs.Lists.{curve_use}
use Rattle.meaning.proofs.Outcome.Outcomes.{number_positive, UpTo, From, from_when, from_or, up_to_when, up_to_or, line_hit, line_miss, refused_first, refused_then}
use Rattle.meaning.proofs.Outcome.Slips.{list_wins}
use Rattle.meaning.proofs.Outcome.Answers.{curve_up_to, Taken, list_clear}
use Rattle.meaning.proofs.Outcome.Demands.{server_up_to}
use Rattle.meaning.proofs.Outcome.Bytes.{OnlyRefusedBytes, only_refused_bytes}
use Rattle.meaning.proofs.Profile.Files.{byte_size, curve_taken, server_taken, edition_append, kind_append, taken_append}
use Rattle.meaning.proofs.Profile.Fields.{field_append}
use Rattle.meaning.proofs.Profile.RoundTrip.{RightHeader, no_header, no_length, clear_whole, clear_header}
use Rattle.meaning.proofs.Profile.Outcomes.{writing_curve, writing_server}

-- ---- A file.

-- an empty file, or a kind that the edition does not have: 1
pub header_wrong :
    (file : List ℕ) → (length file ≡ 0) ⊎ (Known (edition_of file) (kind_in file) → ⊥) → Verdict (file_lines file) 1
unfolding number
header_wrong file h =
    rejected HEADER (record { holds = inl (inl (inl (refl, h))); smallest = λ r _. number_positive r }) refl

-- the lines of a file itself come first,
file_first : {Header Length Pad : Type 0} → UpTo 3 (HEADER when Header or LENGTH when Length or PAD when Pad)
unfolding number
file_first = up_to_or (up_to_or (up_to_when HEADER (lit≤ tt)) (up_to_when LENGTH (lit≤ tt))) (up_to_when PAD (lit≤ tt))

-- and those of its profile after them
profile_then : (p : Profile) → From 3 (profile_lines p)
unfolding number
profile_then (curve f) = from_or (from_when RANGE (lit≤ tt)) (from_when FORM (lit≤ tt))
profile_then (server s) = from_when RANGE (lit≤ tt)

module _ (file : List ℕ) (header : RightHeader file) where
  -- a byte count that is not what the header requires: 2
  pub length_wrong : length file ≢ bytes_taken file → Verdict (file_lines file) 2
  unfolding number
  length_wrong h =
      refused_first file_first (profile_then (profile_of file)) (lit≤ tt)
      (refused_first {n = 2} (up_to_or (up_to_when HEADER (lit≤ tt)) (up_to_when LENGTH (lit≤ tt))) (from_when PAD (lit≤ tt))
      (lit≤ tt)
      (refused_then (line_miss (no_header file header)) (line_hit LENGTH (inl h))))

  module _ (whole : length file ≡ bytes_taken file) where
    -- where header and length are right neither refuses
    framed : Verdict
        (HEADER when ((length file ≡ 0) ⊎ (Known (edition_of file) (kind_in file) → ⊥))
        or LENGTH when ((length file ≢ bytes_taken file) ⊎ ((kind_in file ≡ curve_kind) × (length file ≡ 1)))) 0
    framed = refused_then (line_miss (no_header file header)) (line_miss (no_length file whole))

    -- a padding bit that is 1: 3
    pub pad_wrong : Memᴰ 1 (padding file) → Verdict (file_lines file) 3
    unfolding number
    pad_wrong m =
        refused_first file_first (profile_then (profile_of file)) (lit≤ tt) (refused_then framed (line_hit PAD m))

    -- and otherwise what the profile's own lines say
    pub profile_decides :
        {code : ℕ} → (Memᴰ 1 (padding file) → ⊥) → Verdict (profile_lines (profile_of file)) code
        → Verdict (file_lines file) code
    profile_decides none v =
        refused_then (refused_then framed (line_miss none)) v

-- ---- A file with something behind it, and a file cut short.

-- a byte or more behind a file that is accepted: 2
pub byte_behind : (file rest : List ℕ) → Clear (file_lines file) → 1 ≤ length rest → Verdict (file_lines (file ++ rest)) 2
byte_behind file rest clear more =
    length_wrong (file ++ rest)
    (record {
      filled = omega (arith, length-append file rest);
      known = rw (edition_append file rest enough, kind_append file rest enough) header.known;
    })
    (λ e. omega (arith, length-append file rest, taken_append file rest enough, whole))
  where
    header : RightHeader file
    header = clear_header file clear

    whole : length file ≡ bytes_taken file
    whole = clear_whole file clear

    enough : bytes_taken file ≤ length file
    enough = omega (arith, whole)

-- of a file that is accepted some bytes, but not all: 2
pub cut_short :
    (file rest : List ℕ) → Clear (file_lines (file ++ rest)) → 1 ≤ length file → 1 ≤ length rest → Verdict (file_lines file) 2
unfolding edition_of kind_in
cut_short file rest clear some more =
    length_wrong file
    (record {
      filled = some;
      known = rw (sym kind, sym (field_append file rest 0 4 (omega arith))) header.known;
    })
    (λ e.
    elim (ℕ_discrete (kind_in file) curve_kind) [
      | yes is ↦
          elim (le_or_lt 2 (length file)) [
            | inl h ↦
                omega (
                  arith,
                  size,
                  curve_taken file is,
                  curve_taken (file ++ rest) (kind ∙ is),
                  field_append file rest 8 6 (omega arith),
                )
            | inr h ↦ omega (arith, curve_taken file is)
          ]
      | no other ↦
          omega (
            arith,
            size,
            server_taken file other,
            server_taken (file ++ rest) (λ is. other (sym kind ∙ is)),
            ap byte_size kind,
          )
    ])
  where
    header : RightHeader (file ++ rest)
    header = clear_header (file ++ rest) clear

    kind : kind_in (file ++ rest) ≡ kind_in file
    kind = field_append file rest 4 4 (omega arith)

    size : length file + length rest ≡ bytes_taken (file ++ rest)
    size = sym (length-append file rest) ∙ clear_whole (file ++ rest) clear

-- ---- A curve or a server that is written.

module _ (ed : ℕ) (operands : Lines) (p : Profile) where
  -- an edition that has no such kind: 1, whatever else is wrong;
  pub edition_code : (Known ed (kind_of p) → ⊥) → Verdict (writing ed operands p).operands 1
  unfolding writing number
  edition_code out = rejected HEADER (record { holds = inl (refl, out); smallest = λ r _. number_positive r }) refl

  -- in one that has it the operand's code decides
  pub operand_code : {code : ℕ} → Known ed (kind_of p) → Verdict operands code → Verdict (writing ed operands p).operands code
  unfolding writing
  operand_code has v = refused_then (line_miss (λ out. out has)) v

  module _ (upto : UpTo 8 operands) where
    -- no line but ROOM is above LARGE,
    pub write_up_to : UpTo 9 (writing ed operands p).operands
    unfolding writing number
    write_up_to = up_to_or (up_to_when HEADER (lit≤ tt)) (λ r h. omega (arith, upto r h))

    -- so either is the only outcome, whatever buffer is lent
    pub edition_wrong : (Known ed (kind_of p) → ⊥) → OnlyRefusedBytes (writing ed operands p) 1
    edition_wrong out = only_refused_bytes write_up_to (lit≤ tt) (edition_code out)

    operand_wrong :
        {code : ℕ} → Known ed (kind_of p) → 1 ≤ code → Verdict operands code → OnlyRefusedBytes (writing ed operands p) code
    operand_wrong has some v = only_refused_bytes write_up_to some (operand_code has v)

-- so a curve that is refused,
pub refused_curve :
    (ed : ℕ) → Known ed curve_kind → (l : List ℕ) {code : ℕ} → 1 ≤ code → Verdict (curve_lines l) code
    → OnlyRefusedBytes (writing_curve ed l) code
refused_curve ed has l = operand_wrong ed (curve_lines l) (curve (curve_of l)) (curve_up_to l) has

-- and a server
pub refused_server :
    (ed : ℕ) (s : Server) → Known ed (kind_of (server s)) → (ServerInRange s → ⊥) → OnlyRefusedBytes (writing_server ed s) 6
unfolding number
refused_server ed s has out = operand_wrong ed (server_lines s) (server s) (server_up_to s) has (lit≤ tt) (line_hit RANGE out)

module _ (l : List ℕ) where
  -- an empty list, or one that does not come out even: 4
  pub list_wrong : Uneven width l → Verdict (curve_lines l) 4
  unfolding number
  list_wrong h = rejected LIST (list_wins l h) refl

  -- FORM comes after the lines of a list
  list_first : UpTo 6 (list_lines width l (curve_of l))
  unfolding number
  list_first = up_to_or (up_to_or (up_to_when LIST (lit≤ tt)) (up_to_when COUNT (lit≤ tt))) (up_to_when RANGE (lit≤ tt))

  -- A list that comes out even, with a bucket:
  module _ (even : length l % width ≡ 0) (some : 1 ≤ length (curve_of l)) where
    -- (LIST does not hold of it)
    no_list : Uneven width l → ⊥
    no_list (inl none) = omega (arith, curve_use l)
    no_list (inr uneven) = uneven even

    -- over 64 buckets: 5
    pub count_wrong : 64 < length (curve_of l) → Verdict (curve_lines l) 5
    unfolding number
    count_wrong many =
        refused_first list_first (from_when FORM (lit≤ tt)) (lit≤ tt)
        (refused_first {n = 5} (up_to_or (up_to_when LIST (lit≤ tt)) (up_to_when COUNT (lit≤ tt))) (from_when RANGE (lit≤ tt))
        (lit≤ tt)
        (refused_then (line_miss no_list) (line_hit COUNT many)))

    -- a rate or burst outside its range: 6
    pub range_wrong : length (curve_of l) ≤ 64 → (AllInRange (curve_of l) → ⊥) → Verdict (curve_lines l) 6
    unfolding number
    range_wrong few out =
        refused_first list_first (from_when FORM (lit≤ tt)) (lit≤ tt)
        (refused_then (refused_then (line_miss no_list) (line_miss (λ many. omega arith))) (line_hit RANGE out))

  -- a list that is taken and is not in normal form: 7
  pub form_wrong : Taken width l (curve_of l) → (NormalForm (curve_of l) → ⊥) → Verdict (curve_lines l) 7
  unfolding number
  form_wrong taken out = refused_then (accepted (list_clear taken) refl) (line_hit FORM out)
