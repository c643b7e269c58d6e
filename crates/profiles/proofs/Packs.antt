-- Profiles packed field after field: the bits are the profile's, and the bytes that they fill its file.
-- Assumes nothing.
use mathlib.Core.Path.{◌≡◌, refl, sym, ◌∙◌, ap}
use mathlib.Core.List.Memᴰ
use mathlib.Core.List.{List, [], ◌∷◌, ◌++◌, append_assoc, append-nil}
use Prim.Native.Nat.{ℕ, zero, suc, ◌+◌, ◌-◌, ◌*◌, ◌/◌, ◌%◌, ◌^◌, ◌≤◌, ◌<◌}
use native.Mathlib.Nat.{zero-div}
use native.Mathlib.Numerals.{add-one}
use native.Mathlib.Omega.{arith}
use lib.ListN.{length, take, replicate, length-append}
use lib.Seq.{take_all, take-suc, length-take-le}
use Rattle.std.proofs.lemmas.List.{length-replicate}
use Rattle.meaning.specs.Curve.{Bucket, curve_of}
use Rattle.meaning.specs.Server.{pure_delay, port}
use Rattle.meaning.specs.Refusal.{Clear, InRange, AllInRange, curve_lines}
use Rattle.meaning.specs.Profile.{bits_of, packed, file_bits, bytes_of, Profile, server, bucket_fields, fields, profile_bits, byte_count, written}
use Rattle.meaning.proofs.Lists.{at_inside}
use Rattle.meaning.proofs.Profile.Bits.{bits_taken, bits_dropped, spelt_bits}
use Rattle.meaning.proofs.Profile.Files.{server_bits}
use Rattle.checks.specs.Cited.{bucket_of, nth}
use Rattle.checks.specs.declared.Bucket as held_bucket
use Rattle.checks.proofs.Checks.{curve_ranged, curve_few}
use Rattle.profiles.specs.Cited as cited
use Rattle.profiles.specs.Cited.{packed_bits, AreBytes, WellPacked, padded, whole_bytes, head_bits}
use Rattle.profiles.proofs.Putting.{packed_length}

-- ---- Bytes.

-- the bytes of a file, whatever bits stand behind it
bytes_before : (file l : List ℕ) → AreBytes file → bytes_of (length file) (file_bits file ++ l) ≡ file
unfolding file_bits packed bytes_of
bytes_before [] l h = refl
bytes_before (x ∷ file) l h =
    rw (append_assoc (bits_of 8 x) (file_bits file) l)
    (cc (
      bits_taken 8 x (file_bits file ++ l),
      bits_dropped 8 x (file_bits file ++ l),
      spelt_bits 8 x (h x (Memᴰ.head refl)),
      bytes_before file l (λ y m. h y (Memᴰ.tail m)),
    ))

-- the bytes that are full are those that the bits fill
pub full_bytes :
    {n : ℕ} {bytes v : List ℕ} {at left : ℕ} → WellPacked n bytes at left → packed_bits bytes at left ≡ v → take (at / 8) bytes ≡ whole_bytes v
unfolding whole_bytes packed_bits
full_bytes {bytes = bytes} {v} {at} {left} p e =
    let size : length v ≡ at = sym (ap length e) ∙ packed_length p in
    let full : length (take (at / 8) bytes) ≡ at / 8 = length-take-le (at / 8) bytes (omega (arith, p.long, p.inside)) in
    sym (bytes_before (take (at / 8) bytes) (bits_of (at % 8) left) p.whole)
    ∙ cc (e, full, size)

-- zero bits
zero_bits_lem : (w : ℕ) → bits_of w 0 ≡ replicate w 0
unfolding bits_of
zero_bits_lem zero = refl
zero_bits_lem (suc w) = cc (zero-div (2 ^ w), zero_bits_lem w)

-- zero bits up to the byte's end
module _ {n : ℕ} {bytes old : List ℕ} {at left : ℕ} (p : WellPacked n bytes at left) (e : packed_bits bytes at left ≡ old) where
  -- have room,
  pub pad_room : length old + (7 - (at + 7) % 8) ≤ 8 * n
  pad_room = omega (arith, ap length e, packed_length p, p.inside)

  -- and pad
  pub pad_end : {new : List ℕ} → new ≡ old ++ bits_of (7 - (at + 7) % 8) 0 → new ≡ padded old
  unfolding padded
  pad_end f =
      let size : length old ≡ at = sym (ap length e) ∙ packed_length p in
      let behind : 7 - (at + 7) % 8 ≡ 8 * ((length old + 7) / 8) - length old = omega arith in
      f ∙ ap (λ (l : List ℕ). old ++ l) (zero_bits_lem (7 - (at + 7) % 8) ∙ ap (λ (m : ℕ). replicate m 0) behind)

pub ruleset pads_up = (full_bytes, pad_room, pad_end)

-- bits that fill their bytes need none
padded_whole : (l : List ℕ) (m : ℕ) → length l ≡ 8 * m → padded l ≡ l
unfolding padded
padded_whole l m e =
    let none : 8 * ((length l + 7) / 8) - length l ≡ 0 = omega arith in
    rw none (append-nil l)

-- the bytes that a profile's bits fill are its file
pub whole_padded : (ed : ℕ) (p : Profile) → whole_bytes (padded (profile_bits ed p)) ≡ written ed p
unfolding whole_bytes padded written byte_count
whole_padded ed p =
    let l = profile_bits ed p in
    let size : length (l ++ replicate (8 * ((length l + 7) / 8) - length l) 0) / 8 ≡ (length l + 7) / 8 =
    omega (arith, length-append l (replicate (8 * ((length l + 7) / 8) - length l) 0), length-replicate {A = ℕ} (8 * ((length l + 7) / 8) - length l) 0) in
    ap (λ (m : ℕ). bytes_of m (l ++ replicate (8 * ((length l + 7) / 8) - length l) 0)) size

-- ---- A server.

module _ (ed : ℕ) {b v w : List ℕ} where
  -- edition and kind, rate and latency are a rate-latency server,
  pub rated_packed :
      (rate latency : ℕ) → b ≡ bits_of 4 ed ++ bits_of 4 2 → v ≡ b ++ bits_of 20 rate → w ≡ v ++ bits_of 20 latency
      → w ≡ padded (cited.server_bits ed (port rate latency))
  unfolding cited.server_bits profile_bits fields packed
  rated_packed rate latency e f g =
      rw (padded_whole (profile_bits ed (server (port rate latency))) 6 (server_bits ed (port rate latency)))
      (g ∙ rw (f, e) (simp (append_assoc, append-nil)))

  -- and edition, kind and latency a pure delay
  pub delay_packed :
      (latency : ℕ) → b ≡ bits_of 4 ed ++ bits_of 4 3 → v ≡ b ++ bits_of 20 latency → w ≡ padded v
      → w ≡ padded (cited.server_bits ed (pure_delay latency))
  unfolding cited.server_bits profile_bits fields packed
  delay_packed latency e f g = g ∙ ap padded (f ∙ rw e (simp (append_assoc, append-nil)))

pub ruleset server_packs = (rated_packed, delay_packed)

-- ---- A curve.

-- edition, kind and count are the head
pub head_packed :
    (ed count : ℕ) {b v : List ℕ} → b ≡ bits_of 4 ed ++ bits_of 4 1 → v ≡ b ++ bits_of 6 (count - 1) → v ≡ head_bits ed count
unfolding head_bits
head_packed ed count e f = f ∙ cc (e)

-- every bucket of a curve in range is
nth_ranged : (f : List Bucket) (k : ℕ) → AllInRange f → k < length f → InRange (nth f k)
nth_ranged f k ranged h = ranged (nth f k) (at_inside f k _ h)

-- the fields of one bucket more
fields_next :
    (f : List Bucket) (b : Bucket)
    → packed (bucket_fields (f ++ b ∷ [])) ≡ packed (bucket_fields f) ++ (bits_of 20 b.rate ++ bits_of 40 b.burst)
unfolding packed bucket_fields
fields_next [] b = ap (λ (l : List ℕ). bits_of 20 b.rate ++ l) (append-nil (bits_of 40 b.burst))
fields_next (k ∷ f) b = simp append_assoc (ap (λ (l : List ℕ). bits_of 20 k.rate ++ (bits_of 40 k.burst ++ l)) (fields_next f b))

-- The head and the first k buckets are packed.
pub record Bucketing (ed : ℕ) (l : List ℕ) (count : ℕ) (bits : List ℕ) (k : ℕ) : Type 0 where
  pub clear : Clear (curve_lines l)
  pub counted : count ≡ length (curve_of l)
  pub sofar : k ≤ count
  pub long : length bits ≡ 14 + 60 * k
  pub done : bits ≡ head_bits ed count ++ packed (bucket_fields (take k (curve_of l)))

-- the head is
pub buckets_start :
    {ed : ℕ} {l : List ℕ} {count : ℕ} {bits : List ℕ} → Clear (curve_lines l) → count ≡ length (curve_of l) → bits ≡ head_bits ed count
    → length bits ≡ 14 → Bucketing ed l count bits 0
unfolding packed bucket_fields
buckets_start r e f long =
    record { clear = r; counted = e; sofar = omega arith; long = long; done = f ∙ sym (append-nil (head_bits _ _)) }

module _ {ed : ℕ} {l : List ℕ} {count : ℕ} {bits : List ℕ} {k : ℕ} (w : Bucketing ed l count bits k) where
  module _ (more : k < count) where
    -- there is room for the next rate
    pub rate_room : length bits + 20 ≤ 3856
    rate_room = omega (arith, w.long, w.counted, curve_few l w.clear)

    -- and for the burst behind it
    pub burst_room : (v : List ℕ) → length v ≡ length bits + 20 → length v + 40 ≤ 3856
    burst_room v e = omega (arith, e, w.long, w.counted, curve_few l w.clear)

    module _ {b : held_bucket.Bucket} (e : bucket_of b ≡ nth (curve_of l) k) where
      -- the next bucket is in range
      ranged : InRange (bucket_of b)
      ranged = rw e (nth_ranged (curve_of l) k (curve_ranged l w.clear) (omega (arith, w.counted)))

      -- so its rate fits,
      pub rate_fits : b.rate < 2 ^ 20
      rate_fits = ranged.rate_fits

      -- and its burst
      pub burst_fits : b.burst < 2 ^ 40
      burst_fits = ranged.burst_fits

      -- one more is packed
      pub buckets_step :
          {v u : List ℕ} → v ≡ bits ++ bits_of 20 b.rate → length v ≡ length bits + 20 → u ≡ v ++ bits_of 40 b.burst
          → length u ≡ length v + 40 → Bucketing ed l count u (k + 1)
      buckets_step {v} {u} f f' g g' =
          record {
            clear = w.clear;
            counted = w.counted;
            sofar = omega arith;
            long = omega (arith, f', g', w.long);
            done = g ∙ rw (f, w.done, next) (simp append_assoc);
          }
        where
          next :
              packed (bucket_fields (take (k + 1) (curve_of l)))
              ≡ packed (bucket_fields (take k (curve_of l))) ++ (bits_of 20 b.rate ++ bits_of 40 b.burst)
          next =
              ap (λ (f : List Bucket). packed (bucket_fields f))
              (ap (λ (n : ℕ). take n (curve_of l)) (add-one k) ∙ take-suc (curve_of l) k _ (omega (arith, w.counted)) ∙ ap (λ (x : Bucket). take k (curve_of l) ++ x ∷ []) (sym e))
              ∙ fields_next (take k (curve_of l)) (bucket_of b)

  -- all are
  pub buckets_end : count ≤ k → {u : List ℕ} → u ≡ padded bits → u ≡ padded (cited.curve_bits ed l)
  unfolding cited.curve_bits head_bits profile_bits fields packed
  buckets_end all f =
      let last : k ≡ length (curve_of l) = omega (arith, w.counted, w.sofar) in
      f ∙ ap padded (w.done ∙ rw (last, take_all (length (curve_of l)) (curve_of l) (omega arith), w.counted) (simp append_assoc))

pub ruleset curve_packs = (head_packed, buckets_start, rate_room, burst_room, rate_fits, burst_fits, buckets_step, buckets_end)
