-- Profiles and their files: how many bits and bytes a profile takes, what its file's bits are, and which profile a file holds.
-- Assumes nothing.
use mathlib.Core.Path.{◌≡◌, refl, sym, ◌∙◌, ap, ap₂}
use mathlib.Core.Logic.{◌⊎◌, inl, inr, ◌≢◌}
use mathlib.Core.Bool.{cond}
use mathlib.Core.List.{List, [], ◌∷◌, ◌++◌}
use Prim.Native.Nat.{ℕ, zero, suc, ◌+◌, ◌-◌, ◌*◌, ◌/◌, ◌≤◌, ◌<◌}
use native.Mathlib.Nat.{add-zero}
use native.Mathlib.Decide.{ℕ_discrete}
use native.Mathlib.Omega.{arith}
use lib.Dec.{lit≤, eqb}
use lib.ListN.{length, length-append, length-drop, length-replicate}
use lib.Seq.{take_all}
use borrow.Author.Tests.{eq-eqb, ne_eqb}
use Rattle.meaning.specs.Curve.{Bucket}
use Rattle.meaning.specs.Server.{Server, rated, pure_delay, port, rate_latency_kind, pure_delay_kind}
use Rattle.meaning.specs.Refusal.{AllInRange}
use Rattle.meaning.specs.Profile.{spelt, packed, file_bits, curve_kind, Profile, curve, server, kind_of, bucket_fields, fields, profile_bits, byte_count, written, field, buckets_in, edition_of, kind_in, server_held, profile_of, bytes_taken, padding, buckets_of}
use Rattle.meaning.proofs.Lists.{cons_each}
use Rattle.meaning.proofs.Curve.Lowest.{same_bucket}
use Rattle.meaning.proofs.Server.Joining.{same_server}
use Rattle.meaning.proofs.Profile.Bits.{Binary, binary_append, binary_drop, zero_bits, binary_zeros, length_packed, binary_packed, binary_file, length_file_bits, bits_of_bytes, length_bytes}
use Rattle.meaning.proofs.Profile.Fields.{Stands, field_fits, field_append}

-- ---- The file of a profile.

-- How many bits there are up to the byte's end.
abbrev pub pad_width : ℕ → Profile → ℕ
pad_width ed p = 8 * byte_count ed p - length (profile_bits ed p)

-- The profile's bits, and zero bits up to the byte's end.
abbrev pub padded : ℕ → Profile → List ℕ
padded ed p = profile_bits ed p ++ zero_bits (pad_width ed p)

module _ (ed : ℕ) (p : Profile) where
  -- they are bits,
  binary_padded : Binary (padded ed p)
  unfolding profile_bits
  binary_padded =
      binary_append (profile_bits ed p) (zero_bits (pad_width ed p)) (binary_packed (fields ed p)) (binary_zeros (pad_width ed p))

  -- and come out even
  length_padded : length (padded ed p) ≡ 8 * byte_count ed p
  unfolding byte_count
  length_padded =
      omega (
        arith,
        length-append (profile_bits ed p) (zero_bits (pad_width ed p)),
        length-replicate {A = ℕ} (pad_width ed p) 0,
      )

  -- a profile's file has the byte count,
  pub written_length : length (written ed p) ≡ byte_count ed p
  unfolding written
  written_length = length_bytes _ _

  -- its bits are the profile's, then zero bits
  pub written_bits : file_bits (written ed p) ≡ padded ed p
  unfolding written
  written_bits = bits_of_bytes (byte_count ed p) (padded ed p) binary_padded length_padded

-- ---- How many bits and bytes.

-- no field has no bit,
no_bits : length (packed []) ≡ 0
unfolding packed
no_bits = refl

-- and each bucket 60
bucket_bits_lem : (f : List Bucket) → length (packed (bucket_fields f)) ≡ 60 * length f
unfolding bucket_fields
bucket_bits_lem [] = no_bits
bucket_bits_lem (k ∷ f) = simp length_packed (omega (arith, bucket_bits_lem f))

-- The bits of a server, by its kind: a pure delay has 28, any other 48.
abbrev pub bit_size : ℕ → ℕ
bit_size kind = cond (eqb kind pure_delay_kind) 28 48

-- So its bytes are 4, or 6.
abbrev pub byte_size : ℕ → ℕ
byte_size kind = cond (eqb kind pure_delay_kind) 4 6

-- they are from 4 to 6,
pub byte_size_bounds : (kind : ℕ) → (4 ≤ byte_size kind) × (byte_size kind ≤ 6)
byte_size_bounds kind =
    elim (ℕ_discrete kind pure_delay_kind) [
      | yes e ↦ rw (eq-eqb kind pure_delay_kind e) (lit≤ tt, lit≤ tt)
      | no e ↦ rw (ne_eqb kind pure_delay_kind e) (lit≤ tt, lit≤ tt)
    ]

-- and those of the bits, rounded up
pub byte_bits : (kind : ℕ) → (bit_size kind + 7) / 8 ≡ byte_size kind
byte_bits kind =
    elim (ℕ_discrete kind pure_delay_kind) [
      | yes e ↦ rw (eq-eqb kind pure_delay_kind e)
      | no e ↦ rw (ne_eqb kind pure_delay_kind e)
    ]

module _ (ed : ℕ) where
  -- a curve has 14 + 60·n bits,
  pub curve_bits : (f : List Bucket) → length (profile_bits ed (curve f)) ≡ 14 + 60 * length f
  unfolding profile_bits fields
  curve_bits f = simp length_packed (omega (arith, bucket_bits_lem f))

  -- a rate-latency server 48, and a pure delay 28
  pub server_bits : (s : Server) → length (profile_bits ed (server s)) ≡ bit_size (kind_of (server s))
  unfolding profile_bits fields
  server_bits (rated s) = simp length_packed (omega (arith, no_bits))
  server_bits (pure_delay latency) = simp length_packed (omega (arith, no_bits))

  -- a curve's file has (60·n + 21)/8 bytes,
  pub curve_bytes_lem : (f : List Bucket) → length (written ed (curve f)) ≡ (60 * length f + 21) / 8
  unfolding byte_count
  curve_bytes_lem f = omega (arith, written_length ed (curve f), curve_bits f)

  -- a rate-latency server's 6, and a pure delay's 4
  pub server_bytes_lem : (s : Server) → length (written ed (server s)) ≡ byte_size (kind_of (server s))
  unfolding byte_count
  server_bytes_lem (rated s) = omega (arith, written_length ed (server (rated s)), server_bits (rated s))
  server_bytes_lem (pure_delay latency) =
      omega (arith, written_length ed (server (pure_delay latency)), server_bits (pure_delay latency))

  -- every profile's has more than one
  pub more_than_one_byte : (p : Profile) → 1 < byte_count ed p
  unfolding byte_count
  more_than_one_byte (curve f) = omega (arith, curve_bits f)
  more_than_one_byte (server (rated s)) = omega (arith, server_bits (rated s))
  more_than_one_byte (server (pure_delay latency)) = omega (arith, server_bits (pure_delay latency))

-- ---- The buckets in a file.

-- the buckets of a file are so many
pub length_buckets_in : (file : List ℕ) (at n : ℕ) → length (buckets_in file at n) ≡ n
unfolding buckets_in
length_buckets_in file at zero = refl
length_buckets_in file at (suc n) = ap suc (length_buckets_in file (at + 60) n)

-- The bucket of a file that begins at a bit.
abbrev pub bucket_from : List ℕ → ℕ → Bucket
bucket_from file at = record { rate = field file at 20; burst = field file (at + 20) 40 }

-- the buckets of a file are in range
pub buckets_in_range : (file : List ℕ) (at n : ℕ) → AllInRange (buckets_in file at n)
unfolding buckets_in
buckets_in_range file at zero k m = elim m [ ]
buckets_in_range file at (suc n) k m =
    cons_each (record { rate_fits = field_fits file at 20; burst_fits = field_fits file (at + 20) 40 })
    (buckets_in_range file (at + 60) n) k m

-- one bucket more
pub buckets_in_next :
    (file : List ℕ) (at n : ℕ) → buckets_in file at (suc n) ≡ buckets_in file at n ++ bucket_from file (at + 60 * n) ∷ []
unfolding buckets_in
buckets_in_next file at zero = simp add-zero
buckets_in_next file at (suc n) =
    let further : at + 60 * suc n ≡ at + 60 + 60 * n = omega arith in
    rw further (ap (λ (f : List Bucket). bucket_from file at ∷ f) (buckets_in_next file (at + 60) n))

-- buckets that lie in a file are the same whatever stands behind the file
buckets_append :
    (file rest : List ℕ) (at n : ℕ) → at + 60 * n ≤ 8 * length file → buckets_in (file ++ rest) at n ≡ buckets_in file at n
unfolding buckets_in
buckets_append file rest at zero h = refl
buckets_append file rest at (suc n) h =
    cc (
      field_append file rest at 20 (omega arith),
      field_append file rest (at + 20) 40 (omega arith),
      buckets_append file rest (at + 60) n (omega arith),
    )

-- past the rate and the burst of a bucket
past_bucket : (at : ℕ) → at + 20 + 40 ≡ at + 60
past_bucket at = omega arith

-- they stand in it
pub buckets_stand : (file : List ℕ) (at n : ℕ) → Stands file at (bucket_fields (buckets_in file at n))
unfolding buckets_in bucket_fields
buckets_stand file at zero = tt
buckets_stand file at (suc n) = (refl, (refl, rw past_bucket (buckets_stand file (at + 60) n)))

-- and those that stand in it are its buckets
standing_buckets : (file : List ℕ) (at : ℕ) (f : List Bucket) → Stands file at (bucket_fields f) → buckets_in file at (length f) ≡ f
unfolding buckets_in bucket_fields
standing_buckets file at [] h = refl
standing_buckets file at (k ∷ f) h =
    let first : bucket_from file at ≡ k = same_bucket h.0 h.1.0 in
    let rest : Stands file (at + 60) (bucket_fields f) = rw past_bucket at h.1.1 in
    cc (first, standing_buckets file (at + 60) f rest)

-- ---- The profile in a file.

module _ (file : List ℕ) where
  -- a file of kind 1 holds a curve,
  pub held_curve : kind_in file ≡ curve_kind → profile_of file ≡ curve (buckets_in file 14 (field file 8 6 + 1))
  unfolding profile_of
  held_curve e = rw (eq-eqb (kind_in file) curve_kind e)

  -- and one of another kind a server:
  pub held_server : kind_in file ≢ curve_kind → profile_of file ≡ server (server_held file)
  unfolding profile_of
  held_server e = rw (ne_eqb (kind_in file) curve_kind e)

  -- of kind 3 a pure delay,
  pub at_delay : kind_in file ≡ pure_delay_kind → server_held file ≡ pure_delay (field file 8 20)
  unfolding server_held
  at_delay e = rw (eq-eqb (kind_in file) pure_delay_kind e)

  -- and of another a rate-latency server
  pub at_rate : kind_in file ≢ pure_delay_kind → server_held file ≡ port (field file 8 20) (field file 28 20)
  unfolding server_held
  at_rate e = rw (ne_eqb (kind_in file) pure_delay_kind e)

  -- so of a known kind it holds a profile of that kind
  pub held_kind :
      {ed : ℕ} → (kind_in file ≡ curve_kind) ⊎ (kind_in file ≡ rate_latency_kind) ⊎ ((kind_in file ≡ pure_delay_kind) × (ed ≡ 2))
      → kind_in file ≡ kind_of (profile_of file)
  held_kind (inl e) = rw (held_curve e) e
  held_kind (inr (inl e)) = rw (held_server (omega arith), at_rate (omega arith)) e
  held_kind (inr (inr e)) = rw (held_server (omega (arith, e.0)), at_delay e.0) e.0

  -- a curve takes the bytes that its count requires,
  pub curve_taken : kind_in file ≡ curve_kind → bytes_taken file ≡ (60 * (field file 8 6 + 1) + 21) / 8
  unfolding bytes_taken byte_count
  curve_taken e =
      let n = field file 8 6 + 1 in
      rw (held_curve e) (omega (arith, curve_bits (edition_of file) (buckets_in file 14 n), length_buckets_in file 14 n))

  -- and a server those of its kind: of bits,
  pub server_size : kind_in file ≢ curve_kind → length (profile_bits (edition_of file) (profile_of file)) ≡ bit_size (kind_in file)
  server_size other =
      elim (ℕ_discrete (kind_in file) pure_delay_kind) [
        | yes e ↦
            rw (held_server other, at_delay e, eq-eqb (kind_in file) pure_delay_kind e)
            (server_bits (edition_of file) (pure_delay (field file 8 20)))
        | no e ↦
            rw (held_server other, at_rate e, ne_eqb (kind_in file) pure_delay_kind e)
            (server_bits (edition_of file) (port (field file 8 20) (field file 28 20)))
      ]

  -- and of bytes
  pub server_taken : kind_in file ≢ curve_kind → bytes_taken file ≡ byte_size (kind_in file)
  unfolding bytes_taken byte_count
  server_taken other = ap (λ n. (n + 7) / 8) (server_size other) ∙ byte_bits (kind_in file)

  -- a file holds at most 64 buckets,
  pub held_few : length (buckets_of (profile_of file)) ≤ 64
  held_few =
      elim (ℕ_discrete (kind_in file) curve_kind) [
        | yes e ↦ rw (held_curve e) (omega (arith, length_buckets_in file 14 (field file 8 6 + 1), field_fits file 8 6))
        | no e ↦ rw (held_server e) (lit≤ tt)
      ]

  -- and each is in range
  pub read_in_range : AllInRange (buckets_of (profile_of file))
  read_in_range =
      elim (ℕ_discrete (kind_in file) curve_kind) [
        | yes e ↦ rw (held_curve e) (buckets_in_range file 14 _)
        | no e ↦ rw (held_server e) (λ k m. elim m [ ])
      ]

  -- the fields that stand from the start of a file are those of the profile that it holds: a curve,
  pub standing_curve : (ed : ℕ) (f : List Bucket) → 1 ≤ length f → Stands file 0 (fields ed (curve f)) → profile_of file ≡ curve f
  unfolding fields kind_in
  standing_curve ed f some h =
      let count : field file 8 6 + 1 ≡ length f = omega (arith, h.1.1.0) in
      held_curve h.1.0
      ∙ ap (λ (n : ℕ). curve (buckets_in file 14 n)) count
      ∙ ap curve (standing_buckets file 14 f h.1.1.1)

  -- or a server
  pub standing_server : (ed : ℕ) (s : Server) → Stands file 0 (fields ed (server s)) → profile_of file ≡ server s
  unfolding fields kind_in
  standing_server ed (rated s) h =
      held_server (omega (arith, h.1.0))
      ∙ ap server (at_rate (omega (arith, h.1.0)) ∙ ap rated (same_server h.1.1.0 h.1.1.1.0))
  standing_server ed (pure_delay latency) h =
      held_server (omega (arith, h.1.0)) ∙ ap server (at_delay h.1.0 ∙ ap pure_delay h.1.1.0)

  -- the padding is bits,
  pub binary_padding : Binary (padding file)
  unfolding padding
  binary_padding = binary_drop (length (profile_bits (edition_of file) (profile_of file))) (file_bits file) (binary_file file)

  module _ (whole : length file ≡ bytes_taken file) where
    -- of a file of the byte count required, as many as there are up to the byte's end
    pub padding_width : length (padding file) ≡ pad_width (edition_of file) (profile_of file)
    unfolding padding bytes_taken
    padding_width =
        length-drop (length (profile_bits (edition_of file) (profile_of file))) (file_bits file)
        ∙ ap (λ (n : ℕ). n - length (profile_bits (edition_of file) (profile_of file)))
        (length_file_bits file ∙ ap (λ (n : ℕ). 8 * n) whole)

    -- the padding of a file of the byte count required, as one more field
    pub padding_field :
        field file (length (profile_bits (edition_of file) (profile_of file))) (pad_width (edition_of file) (profile_of file))
        ≡ spelt (padding file)
    unfolding field padding
    padding_field =
        ap spelt (take_all (pad_width (edition_of file) (profile_of file)) (padding file) (omega (arith, padding_width)))

-- ---- What stands behind a file.

-- A file that has the bytes its header requires, and what stands behind it:
module _ (file rest : List ℕ) (whole : bytes_taken file ≤ length file) where
  -- (there are two bytes or more)
  long_enough : 1 < length file
  unfolding bytes_taken
  long_enough = omega (arith, more_than_one_byte (edition_of file) (profile_of file))

  -- the edition is the same,
  pub edition_append : edition_of (file ++ rest) ≡ edition_of file
  unfolding edition_of
  edition_append = field_append file rest 0 4 (omega (arith, long_enough))

  -- the kind,
  pub kind_append : kind_in (file ++ rest) ≡ kind_in file
  unfolding kind_in
  kind_append = field_append file rest 4 4 (omega (arith, long_enough))

  -- a curve is the same,
  append_curve : kind_in file ≡ curve_kind → profile_of (file ++ rest) ≡ profile_of file
  append_curve e =
      let inside : 14 + 60 * (field file 8 6 + 1) ≤ 8 * length file = omega (arith, curve_taken file e) in
      held_curve (file ++ rest) (kind_append ∙ e)
      ∙ ap (λ (m : ℕ). curve (buckets_in (file ++ rest) 14 (m + 1))) (field_append file rest 8 6 (omega arith))
      ∙ ap curve (buckets_append file rest 14 (field file 8 6 + 1) inside)
      ∙ sym (held_curve file e)

  -- and a server,
  append_server : kind_in file ≢ curve_kind → profile_of (file ++ rest) ≡ profile_of file
  append_server other =
      held_server (file ++ rest) (λ k. other (sym kind_append ∙ k)) ∙ ap server same ∙ sym (held_server file other)
    where
      latency : field (file ++ rest) 8 20 ≡ field file 8 20
      latency = field_append file rest 8 20 (omega (arith, server_taken file other, (byte_size_bounds (kind_in file)).0))

      same : server_held (file ++ rest) ≡ server_held file
      same =
          elim (ℕ_discrete (kind_in file) pure_delay_kind) [
            | yes e ↦ at_delay (file ++ rest) (kind_append ∙ e) ∙ ap pure_delay latency ∙ sym (at_delay file e)
            | no e ↦
                let six : byte_size (kind_in file) ≡ 6 = rw (ne_eqb (kind_in file) pure_delay_kind e) in
                at_rate (file ++ rest) (λ k. e (sym kind_append ∙ k))
                ∙ ap rated (same_server latency (field_append file rest 28 20 (omega (arith, server_taken file other, six))))
                ∙ sym (at_rate file e)
          ]

  -- so the profile is,
  pub held_append : profile_of (file ++ rest) ≡ profile_of file
  held_append = elim (ℕ_discrete (kind_in file) curve_kind) [ yes e ↦ append_curve e | no e ↦ append_server e ]

  -- and the bytes that it takes
  pub taken_append : bytes_taken (file ++ rest) ≡ bytes_taken file
  unfolding bytes_taken
  taken_append = ap₂ byte_count edition_append held_append
