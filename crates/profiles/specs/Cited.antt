-- What the contracts of this crate's own functions cite, beside the definitions of the crate meaning.
-- Assumes nothing.
use Rattle.std.specs.Prelude.{◌≡◌, ◌≢◌, Result, Ok, Err, ℕ, ◌+◌, ◌-◌, ◌*◌, ◌/◌, ◌%◌, ◌^◌, ◌≤◌, ◌<◌, length, take, replicate}
use mathlib.Core.List.{List, ◌++◌, Memᴰ}
use Rattle.meaning.specs.Curve.{curve_of}
use Rattle.meaning.specs.Server.{Server, no_server}
use Rattle.meaning.specs.ServerQuestions.{ServerInRange}
use Rattle.meaning.specs.Refusal.{number, Verdict, BytesQuestion}
use Rattle.meaning.specs.Profile.{bits_of, file_bits, bytes_of, curve_kind, kind_of, curve, server, profile_bits, field, edition_of, kind_in, profile_of, bytes_taken, padding, file_lines, Reading, ReadPartOutcome}
use Rattle.meaning.proofs.Profile.RoundTrip.{RightHeader}
use Rattle.checks.specs.Table.{line_of}
use Rattle.checks.specs.declared.refusal.Refusal.{Refusal}
use Rattle.servers.specs.Cited.{server_of}
use Rattle.profiles.specs.declared.Held.{Held}
use Rattle.profiles.specs.declared.Held.TheVariants.{Curve, Server as OfServer}
use Rattle.profiles.specs.declared.Profile.{Profile}

-- ---- A field.

-- A field of at most 40 bits that lies in a file, and not further on than 4096 bits.
pub record InFile (file : List ℕ) (at width : ℕ) : Type 0 where
  pub inside : at + width ≤ 8 * length file
  pub near : at ≤ 4096
  pub narrow : width ≤ 40

-- ---- The frame of a file.

-- How many buckets a curve's file has, by its count.
unfoldable pub count_in : List ℕ → ℕ
count_in file = field file 8 6 + 1

-- It is that number, at most 64.
pub record Counts (file : List ℕ) (count : ℕ) : Type 0 where
  pub is : count ≡ count_in file
  pub few : count ≤ 64

-- The bits before padding of the profile that a file begins with: those of 64 buckets at most.
pub record BitsTaken (file : List ℕ) (bits : ℕ) : Type 0 where
  pub is : bits ≡ length (profile_bits (edition_of file) (profile_of file))
  pub few : bits ≤ 3854

-- A file's byte count is what kind and count require.
pub record Whole (file : List ℕ) : Type 0 where
  pub is : length file ≡ bytes_taken file

-- A file's header, its byte count and its padding are right.
pub record Framed (file : List ℕ) : Type 0 where
  pub header : RightHeader file
  pub whole : Whole file
  pub no_one : Memᴰ 1 (padding file) → ⊥

-- The code of a test: 0 where P holds, else the file's refusal.
pub record Tested (file : List ℕ) (P : Type 0) (code : ℕ) : Type 0 where
  pub refused : code ≢ 0 → Verdict (file_lines file) code
  pub right : code ≡ 0 → P

-- ---- Reading.

-- A refusal with its number: no server, and 0 for the rest.
abbrev pub refused_reading : ℕ → Reading
refused_reading code = record { code = code; edition = 0; kind = 0; count = 0; server = no_server }

-- What code answers as a reading: of a curve its count, and no server; of a server itself, and no count; and a refusal.
abbrev pub holding : ℕ → Held → Reading
holding ed (Curve n) = record { code = 0; edition = ed; kind = curve_kind; count = n; server = no_server }
holding ed (OfServer s) = record { code = 0; edition = ed; kind = kind_of (server (server_of s)); count = 0; server = server_of s }

abbrev pub reading_of : Result Profile Refusal → Reading
reading_of (Ok x) = holding x.edition x.held
reading_of (Err r) = refused_reading (number (line_of r))

-- A server's file whose frame is right,
pub record ServerFile (file : List ℕ) : Type 0 where
  pub frame : Framed file
  pub kind : kind_in file ≢ curve_kind

-- and a curve's.
pub record CurveFile (file : List ℕ) : Type 0 where
  pub frame : Framed file
  pub kind : kind_in file ≡ curve_kind

-- So many buckets lie in a file.
pub record Holds (file : List ℕ) (count : ℕ) : Type 0 where
  pub inside : 14 + 60 * count ≤ 8 * length file
  pub few : count ≤ 64

-- A file is read, and every list that is lent stays.
pub record ReadAlone (file : List ℕ) (x : Reading) : Type 0 where
  pub outcome : (at room : ℕ) (table : List ℕ) → ReadPartOutcome file at room table table x

-- ---- Packing.

-- What is packed up to a bit: the bytes that are full, and what is left.
unfoldable pub packed_bits : List ℕ → ℕ → ℕ → List ℕ
packed_bits bytes at left = file_bits (take (at / 8) bytes) ++ bits_of (at % 8) left

-- Every number of a list is a byte.
abbrev pub AreBytes : List ℕ → Type 0
AreBytes l = (x : ℕ) → Memᴰ x l → x < 256

-- At most n bytes are full up to a bit, and what is left fits the bits behind them.
pub record WellPacked (n : ℕ) (bytes : List ℕ) (at left : ℕ) : Type 0 where
  pub long : length bytes ≡ n
  pub near : n ≤ 512
  pub inside : at ≤ 8 * n
  pub left_fits : left < 2 ^ (at % 8)
  pub whole : AreBytes (take (at / 8) bytes)

-- Bits, with zero bits up to a byte's end.
unfoldable pub padded : List ℕ → List ℕ
padded l = l ++ replicate (8 * ((length l + 7) / 8) - length l) 0

-- The bytes that bits fill.
unfoldable pub whole_bytes : List ℕ → List ℕ
whole_bytes l = bytes_of (length l / 8) l

-- An edition that fits its field, and a server that is in range.
pub record RangedServer (ed : ℕ) (s : Server) : Type 0 where
  pub early : ed < 2 ^ 4
  pub ranged : ServerInRange s

-- The server's bits.
unfoldable pub server_bits : ℕ → Server → List ℕ
server_bits ed s = profile_bits ed (server s)

-- The bits before a curve's buckets: edition, kind, count minus one.
unfoldable pub head_bits : ℕ → ℕ → List ℕ
head_bits ed count = bits_of 4 ed ++ bits_of 4 curve_kind ++ bits_of 6 (count - 1)

-- The curve's bits.
unfoldable pub curve_bits : ℕ → List ℕ → List ℕ
curve_bits ed l = profile_bits ed (curve (curve_of l))

-- ---- Handing over.

-- Bytes that are there already, as the answer to a question that refuses nothing.
unfoldable pub handing : List ℕ → BytesQuestion
handing bytes = record { operands = λ _. ⊥; Answer = λ answer. answer ≡ bytes }
