-- The profile file read back and written back: what is written reads as the same profile, and what is read is written again
-- as the same bytes.
-- Assumes nothing.
use mathlib.Core.Path.{◌≡◌, refl, sym, ◌∙◌, ap, ap₂}
use mathlib.Core.Logic.Dec
use mathlib.Core.Logic.{◌⊎◌, inl, inr, ◌≢◌}
use mathlib.Core.HLevel.{dec→stable}
use mathlib.Core.List.{List, [], ◌∷◌, Memᴰ}
use Prim.Native.Nat.{ℕ, ◌-◌, ◌+◌, ◌^◌, ◌≤◌, ◌<◌}
use native.Mathlib.Nat.{zero-add}
use native.Mathlib.Decide.{ℕ_discrete}
use native.Mathlib.Omega.{arith}
use lib.ListN.{length}
use lib.Seq.{drop-append_seam}
use Rattle.meaning.specs.Curve.{Bucket, NormalForm}
use Rattle.meaning.specs.Server.{Server, rated, pure_delay, rate_latency_kind, pure_delay_kind}
use Rattle.meaning.specs.Refusal.{HEADER, LENGTH, PAD, Clear, AllInRange}
use Rattle.meaning.specs.ServerQuestions.{ServerInRange}
use Rattle.meaning.specs.Profile.{file_bits, bytes_of, curve_kind, Profile, curve, server, kind_of, Known, bucket_fields, fields, profile_bits, byte_count, written, field, buckets_in, edition_of, kind_in, profile_of, bytes_taken, padding, profile_lines, file_lines}
use Rattle.meaning.proofs.Order.{not_apart}
use Rattle.meaning.proofs.Outcome.EveryInput.{decide_either}
use Rattle.meaning.proofs.Profile.Bits.{zero_bits, zeros_no_one, no_one_zeros, Bytes, bytes_of_file}
use Rattle.meaning.proofs.Profile.Fields.{Stands, Fits, packed_stand, stands_packed}
use Rattle.meaning.proofs.Profile.Files.{pad_width, padded, written_length, written_bits, more_than_one_byte, length_buckets_in, buckets_stand, held_curve, held_server, at_delay, at_rate, standing_curve, standing_server, binary_padding, padding_width}

-- ---- The header, the length and the padding of a file.

-- an edition has a kind, or it has not
pub decide_known : (ed kind : ℕ) → Dec (Known ed kind)
decide_known ed kind =
    Dec.and (decide_either (ℕ_discrete ed 1) (ℕ_discrete ed 2))
    (decide_either (ℕ_discrete kind curve_kind)
    (decide_either (ℕ_discrete kind rate_latency_kind) (Dec.and (ℕ_discrete kind pure_delay_kind) (ℕ_discrete ed 2))))

-- editions 1 and 2 have curves and rate-latency servers,
pub curve_in_1 : Known 1 curve_kind
curve_in_1 = (inl refl, inl refl)

pub curve_in_2 : Known 2 curve_kind
curve_in_2 = (inr refl, inl refl)

pub rate_in_1 : Known 1 rate_latency_kind
rate_in_1 = (inl refl, inr (inl refl))

pub rate_in_2 : Known 2 rate_latency_kind
rate_in_2 = (inr refl, inr (inl refl))

-- edition 2 has pure delays,
pub delay_in_2 : Known 2 pure_delay_kind
delay_in_2 = (inr refl, inr (inr (refl, refl)))

-- and edition 1 has none;
pub no_delay_in_1 : Known 1 pure_delay_kind → ⊥
no_delay_in_1 (_, inl e) = omega arith
no_delay_in_1 (_, inr (inl e)) = omega arith
no_delay_in_1 (_, inr (inr e)) = omega (arith, e.1)

-- no other edition has anything,
pub no_edition : {ed kind : ℕ} → ed ≢ 1 → ed ≢ 2 → Known ed kind → ⊥
no_edition first second (inl e, _) = first e
no_edition first second (inr e, _) = second e

-- and no other kind stands in any
pub no_kind : {ed kind : ℕ} → kind ≢ curve_kind → kind ≢ rate_latency_kind → kind ≢ pure_delay_kind → Known ed kind → ⊥
no_kind a b c (_, inl e) = a e
no_kind a b c (_, inr (inl e)) = b e
no_kind a b c (_, inr (inr e)) = c e.0

-- an edition that is known fits its field
pub edition_fits : {ed kind : ℕ} → Known ed kind → ed < 2 ^ 4
edition_fits known = elim known.0 [ inl e ↦ omega arith | inr e ↦ omega arith ]

-- A file's header is right: it is not empty, and its edition has its kind.
pub record RightHeader (file : List ℕ) : Type 0 where
  pub filled : 1 ≤ length file
  pub known : Known (edition_of file) (kind_in file)

module _ (file : List ℕ) where
  -- HEADER then does not hold of it,
  pub no_header : RightHeader file → (length file ≡ 0) ⊎ (Known (edition_of file) (kind_in file) → ⊥) → ⊥
  no_header header (inl e) = omega (arith, header.filled)
  no_header header (inr h) = h header.known

  -- nor does LENGTH of one of the byte count required
  pub no_length :
      length file ≡ bytes_taken file → (length file ≢ bytes_taken file) ⊎ ((kind_in file ≡ curve_kind) × (length file ≡ 1)) → ⊥
  unfolding bytes_taken
  no_length whole (inl h) = h whole
  no_length whole (inr h) = omega (arith, more_than_one_byte (edition_of file) (profile_of file))

-- A file of which no line holds:
module _ (file : List ℕ) (clear : Clear (file_lines file)) where
  -- its byte count is the one required,
  pub clear_whole : length file ≡ bytes_taken file
  clear_whole = not_apart (λ h. clear LENGTH (inl (inl (inr (refl, inl h)))))

  -- no padding bit is 1,
  pub clear_padding : Memᴰ 1 (padding file) → ⊥
  clear_padding m = clear PAD (inl (inr (refl, m)))

  -- and its header is right
  pub clear_header : RightHeader file
  unfolding bytes_taken
  clear_header =
      record {
        filled = omega (arith, clear_whole, more_than_one_byte (edition_of file) (profile_of file));
        known =
            dec→stable (decide_known (edition_of file) (kind_in file)) (λ h. clear HEADER (inl (inl (inl (refl, inr h)))));
      }

-- ---- Read back.

-- a profile whose numbers fit their fields stands in its file
written_stands : (ed : ℕ) (p : Profile) → Fits (fields ed p) → Stands (written ed p) 0 (fields ed p)
unfolding profile_bits
written_stands ed p fits = packed_stand (written ed p) 0 (fields ed p) _ fits (written_bits ed p)

-- the edition stands first,
edition_first : (file : List ℕ) {ed : ℕ} (p : Profile) → Stands file 0 (fields ed p) → edition_of file ≡ ed
unfolding fields edition_of
edition_first file (curve f) h = h.0
edition_first file (server (rated s)) h = h.0
edition_first file (server (pure_delay latency)) h = h.0

-- and the kind next
kind_next : (file : List ℕ) (ed : ℕ) (p : Profile) → Stands file 0 (fields ed p) → kind_in file ≡ kind_of p
unfolding fields kind_in
kind_next file ed (curve f) h = h.1.0
kind_next file ed (server (rated s)) h = h.1.0
kind_next file ed (server (pure_delay latency)) h = h.1.0

-- What is written in an edition reads back: no line holds of the file, and it holds the profile and the edition.
pub record ReadsBack (ed : ℕ) (p : Profile) : Type 0 where
  pub clear : Clear (file_lines (written ed p))
  pub same : profile_of (written ed p) ≡ p
  pub edition_same : edition_of (written ed p) ≡ ed

module _
    (ed : ℕ) (p : Profile) (has : Known ed (kind_of p)) (stands : Stands (written ed p) 0 (fields ed p))
    (same : profile_of (written ed p) ≡ p)
  where
    first : edition_of (written ed p) ≡ ed
    first = edition_first (written ed p) p stands

    -- it has the bytes that its header requires,
    taken : length (written ed p) ≡ bytes_taken (written ed p)
    unfolding bytes_taken
    taken = written_length ed p ∙ ap₂ byte_count (sym first) (sym same)

    -- the bits of the file after the profile's are zero bits
    zero_padding : padding (written ed p) ≡ zero_bits (pad_width ed p)
    unfolding padding
    zero_padding = rw (first, same, written_bits) (drop-append_seam (profile_bits ed p) (zero_bits (pad_width ed p)))

    -- its header is right,
    header : RightHeader (written ed p)
    header =
        record {
          filled = omega (arith, written_length ed p, more_than_one_byte ed p);
          known = rw (first, kind_next (written ed p) ed p stands) has;
        }

    -- and no line holds of it but those of the profile
    reads_back : Clear (profile_lines p) → ReadsBack ed p
    reads_back sound = record { clear = clear; same = same; edition_same = first }
      where
        clear : Clear (file_lines (written ed p))
        clear r (inl (inl (inl h))) = no_header (written ed p) header h.1
        clear r (inl (inl (inr h))) = no_length (written ed p) taken h.1
        clear r (inl (inr h)) = zeros_no_one (pad_width ed p) (rw zero_padding at h.1)
        clear r (inr h) = sound r (rw same at h)

-- buckets in range fit their fields
bucket_fields_fit : (f : List Bucket) → AllInRange f → Fits (bucket_fields f)
unfolding bucket_fields
bucket_fields_fit [] h = tt
bucket_fields_fit (k ∷ f) h =
    let first = h k (Memᴰ.head refl) in
    (first.rate_fits, (first.burst_fits, bucket_fields_fit f (λ j m. h j (Memᴰ.tail m))))

-- a curve in normal form, within range and of at most 64 buckets, reads back
pub read_back_curve :
    (ed : ℕ) → Known ed curve_kind → (f : List Bucket) → NormalForm f → AllInRange f → length f ≤ 64 → ReadsBack ed (curve f)
unfolding fields
read_back_curve ed has f form ranged few = reads_back ed (curve f) has stands same sound
  where
    stands : Stands (written ed (curve f)) 0 (fields ed (curve f))
    stands = written_stands ed (curve f) (edition_fits has, (omega arith, (omega arith, bucket_fields_fit f ranged)))

    same : profile_of (written ed (curve f)) ≡ curve f
    same = standing_curve (written ed (curve f)) ed f form.some stands

    sound : Clear (profile_lines (curve f))
    sound r (inl h) = h.1 ranged
    sound r (inr h) = h.1 form

-- a server in range reads back
pub read_back_server : (ed : ℕ) (s : Server) → Known ed (kind_of (server s)) → ServerInRange s → ReadsBack ed (server s)
unfolding fields
read_back_server ed s has ranged = reads_back ed (server s) has stands same (λ r h. h.1 ranged)
  where
    fit : (s : Server) → ed < 2 ^ 4 → ServerInRange s → Fits (fields ed (server s))
    fit (rated s) early ranged = (early, (omega arith, (ranged.rate_fits, (ranged.latency_fits, tt))))
    fit (pure_delay latency) early ranged = (early, (omega arith, (ranged, tt)))

    stands : Stands (written ed (server s)) 0 (fields ed (server s))
    stands = written_stands ed (server s) (fit s (edition_fits has) ranged)

    same : profile_of (written ed (server s)) ≡ server s
    same = standing_server (written ed (server s)) ed s stands

-- ---- Written back.

-- a file of bytes in which the fields of the profile that it holds stand, of the byte count required and with no 1 in the
-- padding, is that profile's file
module _ (file : List ℕ) (whole : length file ≡ bytes_taken file) (no_one : Memᴰ 1 (padding file) → ⊥) where
  -- the padding is zero bits,
  padding_zeros : padding file ≡ zero_bits (pad_width (edition_of file) (profile_of file))
  padding_zeros = no_one_zeros (padding file) (binary_padding file) no_one ∙ ap zero_bits (padding_width file whole)

  -- and the bytes are those of the file
  standing_written :
      Stands file 0 (fields (edition_of file) (profile_of file)) → Bytes file → written (edition_of file) (profile_of file) ≡ file
  unfolding written padding profile_bits byte_count bytes_taken
  standing_written stands bytes = ap₂ bytes_of (sym whole) (sym all) ∙ bytes_of_file file bytes
    where
      all : file_bits file ≡ padded (edition_of file) (profile_of file)
      all = stands_packed file 0 (fields (edition_of file) (profile_of file)) (omega arith) stands ∙ rw (zero-add, padding_zeros)

-- the fields of the profile that a file holds stand in it, where its kind is 1,
curve_stands : (file : List ℕ) → kind_in file ≡ curve_kind → Stands file 0 (fields (edition_of file) (profile_of file))
unfolding fields edition_of kind_in
curve_stands file kind = rw (held_curve file kind) (refl, (kind, (count, buckets_stand file 14 (field file 8 6 + 1))))
  where
    count : field file 8 6 ≡ length (buckets_in file 14 (field file 8 6 + 1)) - 1
    count = omega (arith, length_buckets_in file 14 (field file 8 6 + 1))

-- 2
rate_stands : (file : List ℕ) → kind_in file ≡ rate_latency_kind → Stands file 0 (fields (edition_of file) (profile_of file))
unfolding fields edition_of kind_in
rate_stands file kind =
    rw (held_server file (omega arith), at_rate file (omega arith)) (refl, (kind, (refl, (refl, tt))))

-- or 3
delay_stands : (file : List ℕ) → kind_in file ≡ pure_delay_kind → Stands file 0 (fields (edition_of file) (profile_of file))
unfolding fields edition_of kind_in
delay_stands file kind = rw (held_server file (omega arith), at_delay file kind) (refl, (kind, (refl, tt)))

-- a file of bytes of which no line holds is written again, in its edition, as the same bytes
pub write_back : (file : List ℕ) → Bytes file → Clear (file_lines file) → written (edition_of file) (profile_of file) ≡ file
write_back file bytes clear =
    standing_written file (clear_whole file clear) (clear_padding file clear)
    (elim (clear_header file clear).known.1 [
      | inl kind ↦ curve_stands file kind
      | inr (inl kind) ↦ rate_stands file kind
      | inr (inr kind) ↦ delay_stands file kind.0
    ])
    bytes
