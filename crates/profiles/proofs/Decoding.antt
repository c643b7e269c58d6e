-- Buckets taken from a file one after the other, their numbers put behind each other.
-- Assumes nothing.
use mathlib.Core.Path.{◌≡◌, sym, ◌∙◌, ap}
use mathlib.Core.List.{List, [], ◌∷◌, ◌++◌, append_assoc}
use Prim.Native.Nat.{ℕ, suc, ◌+◌, ◌*◌, ◌≤◌, ◌<◌}
use native.Mathlib.Numerals.{add-one}
use native.Mathlib.Omega.{arith}
use lib.Dec.{lit≤}
use lib.ListN.{length, length-append}
use Rattle.meaning.specs.Curve.{flat}
use Rattle.meaning.specs.Profile.{field, buckets_in}
use Rattle.meaning.proofs.Lists.{flat_length}
use Rattle.meaning.proofs.Profile.Files.{bucket_from, buckets_in_next, length_buckets_in}
use Rattle.checks.proofs.Buckets.{flat_append}
use Rattle.profiles.specs.Cited.{InFile, Holds}

-- The first k buckets are decoded, and the file is read up to the next.
pub record Decoding (file : List ℕ) (count : ℕ) (pairs held : List ℕ) (at k : ℕ) : Type 0 where
  pub holds : Holds file count
  pub sofar : k ≤ count
  pub same : held ≡ file
  pub place : at ≡ 14 + 60 * k
  pub done : pairs ≡ flat (buckets_in file 14 k)

-- none is yet
pub decoding_start :
    {file : List ℕ} {count : ℕ} {pairs held : List ℕ} {at : ℕ} → Holds file count → pairs ≡ [] → held ≡ file → at ≡ 14
    → Decoding file count pairs held at 0
unfolding buckets_in flat
decoding_start h none e e' = record { holds = h; sofar = omega arith; same = e; place = e'; done = none }

module _ {file : List ℕ} {count : ℕ} {pairs held : List ℕ} {at k : ℕ} (w : Decoding file count pairs held at k) where
  module _ (more : k < count) where
    -- the next rate lies in the file
    pub rate_inside : InFile held at 20
    rate_inside =
        record {
          inside = rw w.same (omega (arith, w.place, w.holds.inside));
          near = omega (arith, w.place, w.holds.few);
          narrow = lit≤ tt;
        }

    -- so many numbers are there
    so_many : length pairs ≡ 2 * k
    so_many = omega (arith, ap length w.done, flat_length (buckets_in file 14 k), length_buckets_in file 14 k)

    -- there is room for both numbers
    pub rate_room : length pairs < 128
    rate_room = omega (arith, so_many, w.holds.few)

    pub burst_room : (rate : ℕ) (put : List ℕ) → put ≡ pairs ++ rate ∷ [] → length put < 128
    burst_room rate put e =
        omega (arith, so_many, w.holds.few, ap length e, length-append pairs (rate ∷ []))

    module _ {held' : List ℕ} {at' : ℕ} (e : held' ≡ held) (f : at' ≡ at + 20) where
      -- the burst lies behind the rate
      pub burst_inside : InFile held' at' 40
      burst_inside =
          record {
            inside = rw (e, w.same) (omega (arith, f, w.place, w.holds.inside));
            near = omega (arith, f, w.place, w.holds.few);
            narrow = lit≤ tt;
          }

      -- and one bucket more is decoded
      pub decoding_step :
          {rate burst : ℕ} → rate ≡ field held at 20 → burst ≡ field held' at' 40
          → {put put' : List ℕ} → put ≡ pairs ++ rate ∷ [] → put' ≡ put ++ burst ∷ []
          → {held'' : List ℕ} {at'' : ℕ} → held'' ≡ held' → at'' ≡ at' + 40
          → Decoding file count put' held'' at'' (k + 1)
      unfolding flat
      decoding_step {rate} {burst} r b {put} {put'} p p' e' f' =
          record {
            holds = w.holds;
            sofar = omega arith;
            same = e' ∙ e ∙ w.same;
            place = omega (arith, f', f, w.place);
            done = rw (add-one k) next;
          }
        where
          rate_is : rate ≡ field file (14 + 60 * k) 20
          rate_is = r ∙ cc (w.same, w.place)

          burst_is : burst ≡ field file (14 + 60 * k + 20) 40
          burst_is = b ∙ cc (e, w.same, f, w.place)

          next : put' ≡ flat (buckets_in file 14 (suc k))
          next =
              p'
              ∙ ap (λ (m : List ℕ). m ++ burst ∷ []) p
              ∙ append_assoc pairs (rate ∷ []) (burst ∷ [])
              ∙ cc (w.done, rate_is, burst_is)
              ∙ sym (flat_append (buckets_in file 14 k) (bucket_from file (14 + 60 * k) ∷ []))
              ∙ ap flat (sym (buckets_in_next file 14 k))

  -- all are
  pub decoding_end : count ≤ k → pairs ≡ flat (buckets_in file 14 count)
  decoding_end all =
      let same : count ≡ k = omega (arith, w.sofar) in
      rw same w.done

pub ruleset decoding = (decoding_start, rate_inside, burst_inside, rate_room, burst_room, decoding_step, decoding_end)
