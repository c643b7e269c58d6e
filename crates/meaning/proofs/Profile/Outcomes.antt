-- Reading and writing profile files, in what a caller sees: the code, each figure, and the whole of the lent list, table or
-- buffer. No other outcome is right.
-- Assumes nothing.
use mathlib.Core.Path.{◌≡◌, refl, sym, ◌∙◌}
use mathlib.Core.Logic.{inl, inr, ◌≢◌}
use mathlib.Core.List.{List}
use Prim.Native.Nat.{ℕ, ◌≤◌, ◌<◌}
use native.Mathlib.Decide.{ℕ_discrete}
use native.Mathlib.Omega.{arith}
use lib.Dec.{lit≤}
use lib.ListN.{length}
use Rattle.meaning.specs.Curve.{flat, curve_of, list_of}
use Rattle.meaning.specs.Server.{Server, no_server}
use Rattle.meaning.specs.Refusal.{HEADER, LENGTH, PAD, RANGE, FORM, number, Lines, Clear, Verdict, TooLarge, curve_lines, over, part, BytesQuestion}
use Rattle.meaning.specs.ServerQuestions.{server_lines}
use Rattle.meaning.specs.Profile.{Profile, curve, server, kind_of, edition_of, profile_of, profile_lines, file_lines, buckets_of, server_in, reading, Reading, Told, ReadOutcome, ReadPartOutcome, writing, WriteCurveOutcome, WriteServerOutcome}
use Rattle.meaning.proofs.Order.{le_or_lt}
use Rattle.meaning.proofs.Outcome.Outcomes.{Same, Single, one_outcome, one_part_outcome, UpTo, up_to_when, up_to_or, refuse, no_room, written_out}
use Rattle.meaning.proofs.Outcome.Answers.{code_zero, outcome_code}
use Rattle.meaning.proofs.Outcome.Slips.{refusal_keeps, refusal_keeps_table}
use Rattle.meaning.proofs.Outcome.Demands.{server_up_to}
use Rattle.meaning.proofs.Outcome.Bytes.{one_bytes}
use Rattle.meaning.proofs.Profile.Files.{held_few, read_in_range}

-- Writing a curve in an edition,
abbrev pub writing_curve : ℕ → List ℕ → BytesQuestion
writing_curve ed l = writing ed (curve_lines l) (curve (curve_of l))

-- and writing a server.
abbrev pub writing_server : ℕ → Server → BytesQuestion
writing_server ed s = writing ed (server_lines s) (server s)

-- ---- One outcome.

-- a file holds one curve
pub single_reading : (file : List ℕ) → Single (reading file).Answer
unfolding reading
single_reading file f g e e' = e ∙ sym e'

-- a profile is written as one file
pub single_writing : (ed : ℕ) (operands : Lines) (p : Profile) → Single (writing ed operands p).Answer
unfolding writing
single_writing ed operands p f g e e' = e ∙ sym e'

-- What the caller gets to see of two readings is the same: the code, the edition, the kind, the count, the server, and the whole list
-- or table.
pub record SameReading (x y : Reading) (after after' : List ℕ) : Type 0 where
  pub code_same : x.code ≡ y.code
  pub edition_same : x.edition ≡ y.edition
  pub kind_same : x.kind ≡ y.kind
  pub count_same : x.count ≡ y.count
  pub server_same : x.server ≡ y.server
  pub after_same : after ≡ after'

-- two readings of a file with one code and count tell the same of it
same_told :
    {file after after' : List ℕ} {x y : Reading}
    → Told file x → Told file y → Same x.code x.count y.code y.count after after' → SameReading x y after after'
same_told {x = x} {y = y} v w same =
    let told = both (ℕ_discrete x.code 0) in
    record {
      code_same = same.code_same;
      edition_same = told.0;
      kind_same = told.1;
      count_same = same.figure_same;
      server_same = told.2;
      after_same = same.after_same;
    }
  where
    both : Dec (x.code ≡ 0) → (x.edition ≡ y.edition) × (x.kind ≡ y.kind) × (x.server ≡ y.server)
    both (yes e) =
        let a = v.accepted e in
        let b = w.accepted (sym same.code_same ∙ e) in
        (a.0 ∙ sym b.0, a.1 ∙ sym b.1, a.2 ∙ sym b.2)
    both (no e) =
        let a = v.refused e in
        let b = w.refused (λ z. e (same.code_same ∙ z)) in
        (a.0 ∙ sym b.0, a.1 ∙ sym b.1, a.2 ∙ sym b.2)

-- no other outcome of reading is right,
pub one_read :
    {file before after after' : List ℕ} {x y : Reading} → ReadOutcome file before after x → ReadOutcome file before after' y
    → SameReading x y after after'
one_read {file} v w = same_told v.told w.told (one_outcome (single_reading file) v.list w.list)

-- none over a part of a table,
pub one_read_part :
    {file : List ℕ} {at room : ℕ} {before after after' : List ℕ} {x y : Reading}
    → ReadPartOutcome file at room before after x → ReadPartOutcome file at room before after' y → SameReading x y after after'
one_read_part {file} v w = same_told v.told w.told (one_part_outcome (single_reading file) v.list w.list)

-- none of writing a curve,
pub one_write_curve :
    (ed : ℕ) (l : List ℕ) {before after after' : List ℕ} {code count code' count' : ℕ}
    → WriteCurveOutcome ed l before after code count → WriteCurveOutcome ed l before after' code' count'
    → Same code count code' count' after after'
one_write_curve ed l = one_bytes (single_writing ed _ _)

-- and none of writing a server
pub one_write_server :
    (ed : ℕ) (s : Server) {before after after' : List ℕ} {code count code' count' : ℕ}
    → WriteServerOutcome ed s before after code count → WriteServerOutcome ed s before after' code' count'
    → Same code count code' count' after after'
one_write_server ed s = one_bytes (single_writing ed _ _)

-- ---- The lines of a file and of a profile.

-- none of them is above UNBOUNDED: those of a profile,
profile_up_to : (p : Profile) → UpTo 8 (profile_lines p)
unfolding number
profile_up_to (curve f) = up_to_or (up_to_when RANGE (lit≤ tt)) (up_to_when FORM (lit≤ tt))
profile_up_to (server s) = server_up_to s

-- and those of a file
pub file_up_to : (file : List ℕ) → UpTo 8 (file_lines file)
unfolding number
file_up_to file =
    up_to_or (up_to_or (up_to_or (up_to_when HEADER (lit≤ tt)) (up_to_when LENGTH (lit≤ tt))) (up_to_when PAD (lit≤ tt)))
    (profile_up_to (profile_of file))

-- ---- How a reading is come by.

-- A profile that is read from a file of an edition: code 0, the edition, its kind, its bucket count and its server.
abbrev pub read_as : ℕ → Profile → Reading
read_as ed p = record { code = 0; edition = ed; kind = kind_of p; count = length (buckets_of p); server = server_in p }

-- A file that is refused: the number, and 0 for the rest.
abbrev pub refused_as : ℕ → Reading
refused_as code = record { code = code; edition = 0; kind = 0; count = 0; server = no_server }

-- that is what a refusal tells
told_refused : (file : List ℕ) {code : ℕ} → 1 ≤ code → Told file (refused_as code)
told_refused file some = record { accepted = λ e. absurd (omega arith); refused = λ _. (refl, refl, refl) }

module _ (file before : List ℕ) where
  -- A line of the file holds.
  pub read_refused : {code : ℕ} → 1 ≤ code → Verdict (file_lines file) code → ReadOutcome file before before (refused_as code)
  unfolding reading
  read_refused some v =
      record { list = refuse (reading file) before (file_up_to file) some v; told = told_refused file some }

  module _ (clear : Clear (file_lines file)) where
    -- what the file holds is never too large
    held_fits : TooLarge (buckets_of (profile_of file)) → ⊥
    held_fits (inl many) = omega (arith, held_few file)
    held_fits (inr out) = out (read_in_range file)

    -- None holds, and the list has no room for the buckets.
    pub read_short : length before < length (list_of (buckets_of (profile_of file))) → ReadOutcome file before before (refused_as 10)
    unfolding reading
    read_short short =
        record {
          list = no_room (reading file) before clear refl (single_reading file) held_fits short;
          told = told_refused file (lit≤ tt);
        }

    -- It has, and they are written from its start.
    pub read_answered :
        length (list_of (buckets_of (profile_of file))) ≤ length before
        → ReadOutcome file before (over (list_of (buckets_of (profile_of file))) before) (read_as (edition_of file) (profile_of file))
    unfolding reading
    read_answered long =
        record {
          list = written_out (reading file) before clear refl (single_reading file) held_fits long;
          told = record { accepted = λ _. (refl, refl, refl); refused = λ some. absurd (some refl) };
        }

-- The only outcomes of reading a file: where the list has room, this edition and profile, its buckets' numbers written from the list's
-- start; where it has not, ROOM. (A server's has room in any list, and stays.)
pub record OnlyRead (file : List ℕ) (ed : ℕ) (p : Profile) : Type 0 where
  pub with_room :
      {before after : List ℕ} {x : Reading} → length (list_of (buckets_of p)) ≤ length before → ReadOutcome file before after x
      → SameReading x (read_as ed p) after (over (list_of (buckets_of p)) before)
  pub without_room :
      {before after : List ℕ} {x : Reading} → length before < length (list_of (buckets_of p)) → ReadOutcome file before after x
      → SameReading x (refused_as 10) after before

-- what is read is this profile, whatever the room
pub only_reading :
    {file before after : List ℕ} {x : Reading} {ed : ℕ} {p : Profile} → OnlyRead file ed p → ReadOutcome file before after x → x.code ≡ 0
    → SameReading x (read_as ed p) after (over (list_of (buckets_of p)) before)
only_reading {before = before} {p = p} known o none =
    elim (le_or_lt (length (list_of (buckets_of p))) (length before)) [
      | inl room ↦ known.with_room room o
      | inr short ↦ absurd (omega (arith, (known.without_room short o).code_same))
    ]

-- a server is read into any list, and the list stays
pub only_server :
    {file before after : List ℕ} {x : Reading} {ed : ℕ} {s : Server} → OnlyRead file ed (server s) → ReadOutcome file before after x
    → SameReading x (read_as ed (server s)) after before
unfolding list_of flat over
only_server known o = known.with_room (omega arith) o

-- a file of which no line holds has these
pub only_read : (file : List ℕ) → Clear (file_lines file) → OnlyRead file (edition_of file) (profile_of file)
only_read file clear =
    record {
      with_room = λ {before} room o. one_read o (read_answered file before clear room);
      without_room = λ {before} short o. one_read o (read_short file before clear short);
    }

-- The only outcome of reading a file: refused with this number, whatever list is lent, which stays.
pub record OnlyRefused (file : List ℕ) (code : ℕ) : Type 0 where
  pub whatever_list :
      {before after : List ℕ} {x : Reading} → ReadOutcome file before after x → SameReading x (refused_as code) after before

-- a file of which a line holds has it
pub only_refused : {file : List ℕ} {code : ℕ} → 1 ≤ code → Verdict (file_lines file) code → OnlyRefused file code
only_refused {file} some v = record { whatever_list = λ {before} o. one_read o (read_refused file before some v) }

-- ---- What a reading says.

-- What is read into a part of a table is read into the part.
pub part_reads :
    {file : List ℕ} {at room : ℕ} {before after : List ℕ} {x : Reading} → ReadPartOutcome file at room before after x
    → ReadOutcome file (part at room before) (part at room after) x
part_reads o = record { list = o.list.inside; told = o.told }

-- a refusal tells nothing,
told_nothing :
    {file after before : List ℕ} {x : Reading} → Told file x → x.code ≢ 0 → (after ≡ before) × (x.count ≡ 0)
    → SameReading x (refused_as x.code) after before
told_nothing told some kept =
    let none = told.refused some in
    record {
      code_same = refl;
      edition_same = none.0;
      kind_same = none.1;
      count_same = kept.1;
      server_same = none.2;
      after_same = kept.0;
    }

-- and the lent list stays,
pub refusal_keeps_read :
    {file before after : List ℕ} {x : Reading} → ReadOutcome file before after x → x.code ≢ 0
    → SameReading x (refused_as x.code) after before
refusal_keeps_read o some = told_nothing o.told some (refusal_keeps o.list some)

-- as does the whole table
pub refusal_keeps_read_part :
    {file : List ℕ} {at room : ℕ} {before after : List ℕ} {x : Reading} → ReadPartOutcome file at room before after x
    → x.code ≢ 0 → SameReading x (refused_as x.code) after before
refusal_keeps_read_part o some = told_nothing o.told some (refusal_keeps_table o.list some)

-- A file that is read: no line holds of it, and what the reader tells and writes is the profile's.
pub record Read (file before after : List ℕ) (x : Reading) : Type 0 where
  pub clear : Clear (file_lines file)
  pub told : SameReading x (read_as (edition_of file) (profile_of file)) after (over (list_of (buckets_of (profile_of file))) before)

-- code 0 is such
pub read_file :
    {file before after : List ℕ} {x : Reading} → ReadOutcome file before after x → x.code ≡ 0 → Read file before after x
unfolding reading
read_file {file} o none =
    let clear : Clear (file_lines file) = λ r h. (code_zero (outcome_code o.list)).0 none r (inl h) in
    record { clear = clear; told = only_reading (only_read file clear) o none }
