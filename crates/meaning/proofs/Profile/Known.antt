-- Figure P11 as outcomes, and one input of each refusal of reading and writing: each is the only outcome.
-- Assumes nothing.
use mathlib.Core.Path.{◌≡◌, refl}
use mathlib.Core.Logic.{inl, inr}
use mathlib.Core.List.Memᴰ
use mathlib.Core.List.{List, [], ◌∷◌}
use Prim.Native.Nat.{ℕ, ◌*◌, ◌^◌, ◌<◌}
use native.Mathlib.Omega.{arith}
use lib.Dec.{lit≤}
use lib.ListN.{length, replicate, length-replicate}
use Rattle.meaning.specs.Curve.{buckets, flat, width, curve_of, list_of}
use Rattle.meaning.specs.Refusal.{RANGE, FORM, number}
use Rattle.meaning.specs.Computed.{is_normal}
use Rattle.meaning.specs.Server.{port}
use Rattle.meaning.specs.Profile.{Reading, ReadOutcome, bits_of, spelt, packed, file_bits, bytes_of, curve, server, bucket_fields, fields, profile_bits, byte_count, written, field, buckets_in, edition_of, kind_in, server_held, profile_of, bytes_taken, padding, WriteCurveOutcome}
use Rattle.meaning.proofs.Lists.{curve_use, all_in_range}
use Rattle.meaning.proofs.Curve.Neighbours.{neighbours_sound, neighbours_refute}
use Rattle.meaning.proofs.Outcome.Outcomes.{Same, line_hit, line_miss, refused_then}
use Rattle.meaning.proofs.Outcome.Answers.{curve_clear}
use Rattle.meaning.proofs.Outcome.Bytes.{OnlyBytes, OnlyRefusedBytes}
use Rattle.meaning.proofs.Profile.Bits.{one_spelt, spelt_one}
use Rattle.meaning.proofs.Profile.Files.{binary_padding, read_in_range}
use Rattle.meaning.proofs.Profile.RoundTrip.{curve_in_1, rate_in_1, no_delay_in_1, no_edition, no_kind, read_back_curve, read_back_server}
use Rattle.meaning.proofs.Profile.Outcomes.{writing_curve, writing_server, SameReading, refused_as, OnlyRead, OnlyRefused, only_refused}
use Rattle.meaning.proofs.Profile.Again.{curve_written, server_written, read_written}
use Rattle.meaning.proofs.Profile.Refusals.{header_wrong, length_wrong, pad_wrong, profile_decides, list_wrong, count_wrong, range_wrong, form_wrong, refused_curve, refused_server}

-- ---- P11.

-- The server (6,1) as a file,
abbrev pub p11_server_file : List ℕ
p11_server_file = 0x12 ∷ 0x00 ∷ 0x00 ∷ 0x60 ∷ 0x00 ∷ 0x01 ∷ []

-- the curve {(10,2)},
abbrev pub p11_curve : List ℕ
p11_curve = list_of (buckets (10 ∷ 2 ∷ []))

-- and its file
abbrev pub p11_curve_file : List ℕ
p11_curve_file = 0x11 ∷ 0x00 ∷ 0x00 ∷ 0x02 ∷ 0x80 ∷ 0x00 ∷ 0x00 ∷ 0x00 ∷ 0x00 ∷ 0x80 ∷ []

-- the server is written so, six bytes,
pub p11_server_outcome : OnlyBytes (writing_server 1 (port 6 1)) p11_server_file
unfolding written byte_count profile_bits fields packed bits_of bytes_of spelt
p11_server_outcome = server_written 1 (port 6 1) rate_in_1 (λ r h. h.1 (omega arith))

-- and the curve, ten
pub p11_curve_outcome : OnlyBytes (writing_curve 1 p11_curve) p11_curve_file
unfolding written byte_count profile_bits fields bucket_fields packed bits_of bytes_of spelt buckets flat curve_of list_of is_normal
p11_curve_outcome = curve_written 1 curve_in_1 p11_curve (curve_clear p11_curve (omega arith) refl)

-- the server's file is read as the server, whatever list is lent,
pub p11_server_read : OnlyRead p11_server_file 1 (server (port 6 1))
unfolding written byte_count profile_bits fields packed bits_of bytes_of spelt
p11_server_read = read_written (read_back_server 1 (port 6 1) rate_in_1 (omega arith))

-- and the curve's as the curve, where the list has room
pub p11_curve_read : OnlyRead p11_curve_file 1 (curve (buckets (10 ∷ 2 ∷ [])))
unfolding written byte_count profile_bits fields bucket_fields packed bits_of bytes_of spelt buckets is_normal
p11_curve_read =
    let f = buckets (10 ∷ 2 ∷ []) in
    read_written (read_back_curve 1 curve_in_1 f (neighbours_sound f refl) (all_in_range f (omega arith)) (lit≤ tt))

-- ---- Files that are refused.

-- an empty file: 1
pub empty_file : OnlyRefused [] 1
empty_file = only_refused (lit≤ tt) (header_wrong [] (inl refl))

-- edition 3, whatever stands behind the first byte: 1
pub edition_3 : (rest : List ℕ) → OnlyRefused (0x32 ∷ rest) 1
unfolding edition_of field file_bits packed bits_of spelt
edition_3 rest = only_refused (lit≤ tt) (header_wrong (0x32 ∷ rest) (inr (no_edition (λ e. omega arith) (λ e. omega arith))))

-- kind 3 in edition 1: 1
pub kind_3_in_1 : (rest : List ℕ) → OnlyRefused (0x13 ∷ rest) 1
unfolding edition_of kind_in field file_bits packed bits_of spelt
kind_3_in_1 rest = only_refused (lit≤ tt) (header_wrong (0x13 ∷ rest) (inr no_delay_in_1))

-- kind 4 in edition 2: 1
pub kind_4 : (rest : List ℕ) → OnlyRefused (0x24 ∷ rest) 1
unfolding edition_of kind_in field file_bits packed bits_of spelt
kind_4 rest =
    only_refused (lit≤ tt)
    (header_wrong (0x24 ∷ rest) (inr (no_kind (λ e. omega arith) (λ e. omega arith) (λ e. omega arith))))

-- a curve's first byte alone: 2
pub one_byte : OnlyRefused (0x11 ∷ []) 2
unfolding edition_of kind_in field file_bits packed bits_of spelt profile_of buckets_in bytes_taken byte_count profile_bits fields bucket_fields
one_byte =
    only_refused (lit≤ tt)
    (length_wrong (0x11 ∷ []) (record { filled = lit≤ tt; known = curve_in_1 }) (λ e. omega arith))

-- P11's curve with the last padding bit 1:
abbrev pub pad_file : List ℕ
pad_file = 0x11 ∷ 0x00 ∷ 0x00 ∷ 0x02 ∷ 0x80 ∷ 0x00 ∷ 0x00 ∷ 0x00 ∷ 0x00 ∷ 0x81 ∷ []

-- 3
pub padding_bit : OnlyRefused pad_file 3
unfolding edition_of kind_in field file_bits packed bits_of spelt profile_of buckets_in bytes_taken byte_count profile_bits fields bucket_fields padding
padding_bit =
    only_refused (lit≤ tt)
    (pad_wrong pad_file (record { filled = lit≤ tt; known = curve_in_1 }) refl
    (spelt_one (padding pad_file) (binary_padding pad_file) (lit≤ tt)))

-- a server of rate 0:
abbrev pub idle_file : List ℕ
idle_file = 0x12 ∷ 0x00 ∷ 0x00 ∷ 0x00 ∷ 0x00 ∷ 0x01 ∷ []

-- of six bytes,
pub idle_whole : length idle_file ≡ bytes_taken idle_file
unfolding edition_of kind_in field file_bits packed bits_of spelt server_held profile_of bytes_taken byte_count profile_bits fields
idle_whole = refl

-- 6
pub rate_0 : OnlyRefused idle_file 6
unfolding number edition_of kind_in field file_bits packed bits_of spelt server_held profile_of bytes_taken byte_count profile_bits fields padding
rate_0 =
    only_refused (lit≤ tt)
    (profile_decides idle_file (record { filled = lit≤ tt; known = rate_in_1 }) refl
    (λ m. omega (arith, one_spelt m)) (line_hit RANGE (λ ranged. omega (arith, ranged.rate_some))))

-- (3,20),(10,2), whose rates do not fall:
abbrev pub unordered_file : List ℕ
unordered_file =
    0x11 ∷ 0x04 ∷ 0x00 ∷ 0x00 ∷ 0xc0 ∷ 0x00 ∷ 0x00 ∷ 0x00 ∷ 0x05 ∷ 0x00 ∷ 0x00 ∷ 0x28 ∷ 0x00 ∷ 0x00 ∷ 0x00 ∷ 0x00 ∷ 0x08 ∷ []

-- 7
pub out_of_order : OnlyRefused unordered_file 7
unfolding number edition_of kind_in field file_bits packed bits_of spelt profile_of buckets_in bytes_taken byte_count profile_bits fields bucket_fields padding is_normal
out_of_order =
    only_refused (lit≤ tt)
    (profile_decides unordered_file (record { filled = lit≤ tt; known = curve_in_1 }) refl
    (λ m. omega (arith, one_spelt m))
    (refused_then (line_miss (λ out. out (read_in_range unordered_file))) (line_hit FORM (neighbours_refute _ refl))))

-- P11's curve read into a list of one number: 10
pub list_too_short :
    (n : ℕ) {after : List ℕ} {x : Reading} → ReadOutcome p11_curve_file (n ∷ []) after x
    → SameReading x (refused_as 10) after (n ∷ [])
unfolding buckets flat list_of
list_too_short n = p11_curve_read.without_room (lit≤ tt)

-- ---- Curves and servers that are refused.

-- an empty list: 4
pub empty_list : OnlyRefusedBytes (writing_curve 1 []) 4
empty_list = refused_curve 1 curve_in_1 [] (lit≤ tt) (list_wrong [] (inl refl))

-- a list of one number: 4
pub odd_list : (n : ℕ) → OnlyRefusedBytes (writing_curve 1 (n ∷ [])) 4
odd_list n = refused_curve 1 curve_in_1 (n ∷ []) (lit≤ tt) (list_wrong (n ∷ []) (inr (λ e. omega arith)))

-- 65 buckets:
abbrev pub many : List ℕ
many = replicate (width * 65) 1

-- 5
pub too_many : OnlyRefusedBytes (writing_curve 1 many) 5
too_many =
    let size = length-replicate {A = ℕ} (width * 65) 1 in
    refused_curve 1 curve_in_1 many (lit≤ tt) (count_wrong many (omega arith) (omega (arith, curve_use many)) (omega (arith, curve_use many)))

-- a rate of 2^20: 6
pub rate_too_great : (b : ℕ) → OnlyRefusedBytes (writing_curve 1 (list_of (buckets (2 ^ 20 ∷ b ∷ [])))) 6
unfolding buckets flat curve_of list_of
rate_too_great b =
    let l = list_of (buckets (2 ^ 20 ∷ b ∷ [])) in
    refused_curve 1 curve_in_1 l (lit≤ tt)
    (range_wrong l refl (lit≤ tt) (lit≤ tt) (λ ranged. omega (arith, (ranged _ (Memᴰ.head refl)).rate_fits)))

-- a server of rate 0: 6
pub idle_server : (latency : ℕ) → OnlyRefusedBytes (writing_server 1 (port 0 latency)) 6
idle_server latency = refused_server 1 (port 0 latency) rate_in_1 (λ ranged. omega (arith, ranged.rate_some))

-- (3,20),(10,2), whose rates do not fall:
abbrev pub unordered : List ℕ
unordered = list_of (buckets (3 ∷ 20 ∷ 10 ∷ 2 ∷ []))

-- 7
pub unordered_list : OnlyRefusedBytes (writing_curve 1 unordered) 7
unfolding buckets flat curve_of list_of is_normal
unordered_list =
    refused_curve 1 curve_in_1 unordered (lit≤ tt)
    (form_wrong unordered (omega arith) (neighbours_refute (curve_of unordered) refl))

-- P11's curve written into nine bytes, or fewer: 10
pub buffer_too_short :
    {before after : List ℕ} {code count : ℕ} → length before < 10 → WriteCurveOutcome 1 p11_curve before after code count
    → Same code count 10 0 after before
buffer_too_short short o = p11_curve_outcome.without_room short o
