-- The profile file, to the bit: what is written, what a file holds, and what the reader and the writer answer. (docs/SCOPE.md,
-- "The profile file".) A bit is the number 0 or 1; a byte is a number below 256.
-- Assumes nothing.
use Rattle.std.specs.Prelude.{◌≡◌, cond, ◌⊎◌, ◌≢◌, ℕ, zero, suc, ◌+◌, ◌-◌, ◌*◌, ◌/◌, ◌%◌, ◌^◌, eqb, length, take, drop, replicate}
use mathlib.Core.List.{List, [], ◌∷◌, ◌++◌, map, Memᴰ}
use Rattle.meaning.specs.Curve.{Bucket, curve_of, NormalForm}
use Rattle.meaning.specs.Server.{Server, rated, pure_delay, port, no_server, rate_latency_kind, pure_delay_kind, numbers_of}
use Rattle.meaning.specs.Refusal.{HEADER, LENGTH, PAD, RANGE, FORM, Lines, ◌when◌, ◌or◌, AllInRange, curve_lines, Question, Outcome, PartOutcome, BytesQuestion, BytesOutcome}
use Rattle.meaning.specs.ServerQuestions.{server_lines}

infix 70 ◌bits◌
-- A number as so many bits, most significant bit first.
unfoldable pub bits_of : ℕ → ℕ → List ℕ
bits_of zero x = []
bits_of (suc width) x = x / 2 ^ width % 2 ∷ bits_of width x

-- The number that bits spell.
unfoldable pub spelt : List ℕ → ℕ
spelt [] = 0
spelt (b ∷ l) = b * 2 ^ length l + spelt l

-- A field: so many bits, and the number in them.
pub data Field : Type 0 where
  ◌bits◌ : ℕ → ℕ → Field

-- Fields one behind the other, without gaps.
unfoldable pub packed : List Field → List ℕ
packed [] = []
packed (width bits x ∷ l) = bits_of width x ++ packed l

-- A file's bits: each byte has eight.
unfoldable pub file_bits : List ℕ → List ℕ
file_bits file = packed (map (◌bits◌ 8) file)

-- The other way round: so many bytes, each of the next eight bits.
unfoldable pub bytes_of : ℕ → List ℕ → List ℕ
bytes_of zero l = []
bytes_of (suc n) l = spelt (take 8 l) ∷ bytes_of n (drop 8 l)

-- The kind of a curve. (Those of servers are rate_latency_kind and pure_delay_kind.)
abbrev pub curve_kind : ℕ
curve_kind = 1

-- What a file can hold: a curve or a server.
pub data Profile : Type 0 where
  curve : List Bucket → Profile
  server : Server → Profile

-- A profile's kind.
abbrev pub kind_of : Profile → ℕ
kind_of (curve f) = curve_kind
kind_of (server s) = (numbers_of s).kind

-- An edition has a kind: editions 1 and 2 have curves and rate-latency servers, and edition 2 has pure delays. No other edition or
-- kind is known.
abbrev pub Known : ℕ → ℕ → Type 0
Known ed kind =
    ((ed ≡ 1) ⊎ (ed ≡ 2)) × ((kind ≡ curve_kind) ⊎ (kind ≡ rate_latency_kind) ⊎ ((kind ≡ pure_delay_kind) × (ed ≡ 2)))

-- What readers took before edition 2: edition 1, with curves and rate-latency servers.
abbrev pub KnownBefore : ℕ → ℕ → Type 0
KnownBefore ed kind = (ed ≡ 1) × ((kind ≡ curve_kind) ⊎ (kind ≡ rate_latency_kind))

-- A bucket's two fields, and the next one's.
unfoldable pub bucket_fields : List Bucket → List Field
bucket_fields [] = []
bucket_fields (k ∷ f) = 20 bits k.rate ∷ 40 bits k.burst ∷ bucket_fields f

-- First 4 bits edition, next 4 bits kind. Curve: 6 bits count minus one; the buckets. Rate-latency server: 20 bits rate, 20 bits
-- latency. Pure delay: 20 bits latency.
unfoldable pub fields : ℕ → Profile → List Field
fields ed (curve f) = 4 bits ed ∷ 4 bits curve_kind ∷ 6 bits (length f - 1) ∷ bucket_fields f
fields ed (server (rated s)) = 4 bits ed ∷ 4 bits rate_latency_kind ∷ 20 bits s.rate ∷ 20 bits s.latency ∷ []
fields ed (server (pure_delay latency)) = 4 bits ed ∷ 4 bits pure_delay_kind ∷ 20 bits latency ∷ []

-- The bits before padding.
unfoldable pub profile_bits : ℕ → Profile → List ℕ
profile_bits ed p = packed (fields ed p)

-- The byte count that kind and count require: those bits, up to the byte's end.
unfoldable pub byte_count : ℕ → Profile → ℕ
byte_count ed p = (length (profile_bits ed p) + 7) / 8

-- A profile as a file of an edition: its bits, and zero bits up to the byte's end.
unfoldable pub written : ℕ → Profile → List ℕ
written ed p =
    bytes_of (byte_count ed p) (profile_bits ed p ++ replicate (8 * byte_count ed p - length (profile_bits ed p)) 0)

-- The number in a file's field, which begins at a bit and has so many bits.
unfoldable pub field : List ℕ → ℕ → ℕ → ℕ
field file at width = spelt (take width (drop at (file_bits file)))

-- n buckets, one after the other, the first beginning at a bit.
unfoldable pub buckets_in : List ℕ → ℕ → ℕ → List Bucket
buckets_in file at zero = []
buckets_in file at (suc n) =
    record { rate = field file at 20; burst = field file (at + 20) 40 } ∷ buckets_in file (at + 60) n

-- A file's edition.
unfoldable pub edition_of : List ℕ → ℕ
edition_of file = field file 0 4

-- Its kind.
unfoldable pub kind_in : List ℕ → ℕ
kind_in file = field file 4 4

-- The server that a file holds: of kind 3 a pure delay, or else rate-latency.
unfoldable pub server_held : List ℕ → Server
server_held file = cond (eqb (kind_in file) pure_delay_kind) (pure_delay (field file 8 20)) (port (field file 8 20) (field file 28 20))

-- The profile that a file holds: of kind 1 a curve, or else a server. (A kind that is not known is HEADER, whatever is read here.)
unfoldable pub profile_of : List ℕ → Profile
profile_of file = cond (eqb (kind_in file) curve_kind) (curve (buckets_in file 14 (field file 8 6 + 1))) (server (server_held file))

-- The bytes that the profile at the start of a file takes.
unfoldable pub bytes_taken : List ℕ → ℕ
bytes_taken file = byte_count (edition_of file) (profile_of file)

-- The padding bits: those after the profile's.
unfoldable pub padding : List ℕ → List ℕ
padding file = drop (length (profile_bits (edition_of file) (profile_of file))) (file_bits file)

-- A rate, burst or latency is outside its range; a curve is not in normal form.
abbrev pub profile_lines : Profile → Lines
profile_lines (curve f) = RANGE when (AllInRange f → ⊥) or FORM when (NormalForm f → ⊥)
profile_lines (server s) = server_lines s

-- All that can be refused of a file, by a reader that knows these kinds of editions: what it begins with, how long it is, how it is
-- filled up, and the profile in it.
abbrev pub lines_of : (ℕ → ℕ → Type 0) → List ℕ → Lines
lines_of Knows file =
    HEADER when ((length file ≡ 0) ⊎ (Knows (edition_of file) (kind_in file) → ⊥))
    or LENGTH when ((length file ≢ bytes_taken file) ⊎ ((kind_in file ≡ curve_kind) × (length file ≡ 1)))
    or PAD when Memᴰ 1 (padding file)
    or profile_lines (profile_of file)

-- All that is refused of a file.
abbrev pub file_lines : List ℕ → Lines
file_lines = lines_of Known

-- The buckets of a profile: none for a server.
abbrev pub buckets_of : Profile → List Bucket
buckets_of (curve f) = f
buckets_of (server s) = []

-- The server of a profile: none for a curve.
abbrev pub server_in : Profile → Server
server_in (curve f) = no_server
server_in (server s) = s

-- Reading asks for the curve that a file holds. (A server file has no bucket, so that nothing is written.)
unfoldable pub reading : List ℕ → Question
reading file = record { operands = file_lines file; Answer = λ f. f ≡ buckets_of (profile_of file) }

-- What the reader answers beside the list.
pub record Reading : Type 0 where
  pub code : ℕ
  pub edition : ℕ
  pub kind : ℕ
  pub count : ℕ
  pub server : Server

-- Of an accepted file its edition, kind and server are told, of a refused one none of them.
pub record Told (file : List ℕ) (x : Reading) : Type 0 where
  pub accepted :
      x.code ≡ 0
      → (x.edition ≡ edition_of file) × (x.kind ≡ kind_of (profile_of file)) × (x.server ≡ server_in (profile_of file))
  pub refused : x.code ≢ 0 → (x.edition ≡ 0) × (x.kind ≡ 0) × (x.server ≡ no_server)

-- What comes of reading, with the lent list before and after,
pub record ReadOutcome (file before after : List ℕ) (x : Reading) : Type 0 where
  pub list : Outcome (reading file) before after x.code x.count
  pub told : Told file x

-- or with a part of a larger table for the list.
pub record ReadPartOutcome (file : List ℕ) (at room : ℕ) (before after : List ℕ) (x : Reading) : Type 0 where
  pub list : PartOutcome (reading file) at room before after x.code x.count
  pub told : Told file x

-- What the reader answers, in numbers, as the C call has it.
pub record ReadingNumbers : Type 0 where
  pub code : ℕ
  pub edition : ℕ
  pub kind : ℕ
  pub count : ℕ
  pub rate : ℕ
  pub latency : ℕ

-- The numbers of a reading: the server's rate and latency.
abbrev pub reading_numbers : Reading → ReadingNumbers
reading_numbers x =
    record {
      code = x.code;
      edition = x.edition;
      kind = x.kind;
      count = x.count;
      rate = (numbers_of x.server).rate;
      latency = (numbers_of x.server).latency;
    }

-- Reading in numbers.
pub record ReadNumbers (file before after : List ℕ) (answer : ReadingNumbers) : Type 0 where
  pub reading : Reading
  pub outcome : ReadOutcome file before after reading
  pub numbers_are : answer ≡ reading_numbers reading

-- An edition is asked for that has no such kind.
abbrev pub edition_lines : ℕ → ℕ → Lines
edition_lines ed kind = HEADER when (Known ed kind → ⊥)

-- Writing asks for the file of a profile in an edition; the profile's lines are given.
unfoldable pub writing : ℕ → Lines → Profile → BytesQuestion
writing ed operands p =
    record { operands = edition_lines ed (kind_of p) or operands; Answer = λ file. file ≡ written ed p }

-- A curve written as a file of an edition.
abbrev pub WriteCurveOutcome : ℕ → List ℕ → List ℕ → List ℕ → ℕ → ℕ → Type 0
WriteCurveOutcome ed l = BytesOutcome (writing ed (curve_lines l) (curve (curve_of l)))

-- A server written as a file of an edition.
abbrev pub WriteServerOutcome : ℕ → Server → List ℕ → List ℕ → ℕ → ℕ → Type 0
WriteServerOutcome ed s = BytesOutcome (writing ed (server_lines s) (server s))
