-- What the first bytes of a file say: its edition, its kind, and how many bits and bytes it takes; and which kinds an edition has.
-- Assumes nothing.
use mathlib.Core.Path.{◌≡◌, sym, ◌∙◌, ap}
use mathlib.Core.Bool.{true, false}
use mathlib.Core.Logic.{◌⊎◌, inl, inr}
use mathlib.Core.List.{List, []}
use Prim.Native.Nat.{ℕ, ◌+◌, ◌*◌, ◌/◌, ◌≤◌, ◌<◌}
use native.Mathlib.Decide.{ℕ_discrete}
use native.Mathlib.Omega.{arith}
use lib.Dec.{eqb, lit≤}
use lib.ListN.{length, take, drop, drop_of_length-le}
use lib.Seq.{take-nil}
use borrow.Author.Tests.{eqb-true, eqb-false, eq-eqb, ne_eqb}
use mir.Syntax.{w64}
use mir.Val.{Fits}
use Rattle.meaning.specs.Profile.{spelt, file_bits, Known, field, buckets_in, edition_of, kind_in, byte_count, bytes_taken}
use Rattle.meaning.proofs.Profile.Bits.{length_file_bits}
use Rattle.meaning.proofs.Profile.Fields.{field_fits}
use Rattle.meaning.proofs.Profile.Files.{curve_bits, length_buckets_in, held_curve, server_size}
use Rattle.meaning.proofs.Profile.RoundTrip.{no_edition, no_kind}
use Rattle.checks.specs.Cited.{Tells}
use Rattle.checks.proofs.Ranges.{tells_yes, tells_no}
use Rattle.profiles.specs.Cited.{InFile, count_in, Counts, BitsTaken}

-- a field past the file's end is 0
field_none : (file : List ℕ) (at w : ℕ) → 8 * length file ≤ at → field file at w ≡ 0
unfolding field spelt
field_none file at w h =
    let none : drop at (file_bits file) ≡ [] = drop_of_length-le (file_bits file) {i = at} (omega (arith, length_file_bits file)) in
    ap (λ (l : List ℕ). spelt (take w l)) none ∙ ap spelt (take-nil w)

-- ---- The kinds of an edition.

module _ {ed : ℕ} where
  -- an edition before the first has none,
  pub none_before : {kind : ℕ} → ed < 1 → Tells (Known ed kind) false
  none_before h = tells_no (no_edition (λ e. omega arith) (λ e. omega arith))

  -- nor has one behind the last
  pub none_behind : {kind : ℕ} → 2 < ed → Tells (Known ed kind) false
  none_behind h = tells_no (no_edition (λ e. omega arith) (λ e. omega arith))

  -- any other is one of the two,
  one_of_two : 1 ≤ ed → ed ≤ 2 → (ed ≡ 1) ⊎ (ed ≡ 2)
  one_of_two first last = elim (ℕ_discrete ed 1) [ yes e ↦ inl e | no e ↦ inr (omega (arith, e)) ]

  module _ (first : 1 ≤ ed) (last : ed ≤ 2) {kind : ℕ} where
    -- and has curves
    pub has_curves : kind ≡ 1 → Tells (Known ed kind) true
    has_curves e = tells_yes (one_of_two first last, inl e)

    -- and rate-latency servers
    pub has_rates : kind ≡ 2 → Tells (Known ed kind) true
    has_rates e = tells_yes (one_of_two first last, inr (inl e))

    module _ (no_curve : kind ≡ 1 → ⊥) (no_rate : kind ≡ 2 → ⊥) where
      -- but no other kind except pure delays,
      pub no_others : (kind ≡ 3 → ⊥) → Tells (Known ed kind) false
      no_others no_delay = tells_no (no_kind no_curve no_rate no_delay)

      -- which the last edition has
      pub has_delays : kind ≡ 3 → Tells (Known ed kind) (eqb ed 2)
      has_delays e =
          record {
            yes_means = λ h. (one_of_two first last, inr (inr (e, eqb-true ed 2 h)));
            no_means = λ h known.
                elim known.1 [
                  | inl k ↦ no_curve k
                  | inr (inl k) ↦ no_rate k
                  | inr (inr k) ↦ eqb-false ed 2 h k.1
                ];
          }

pub ruleset kinds = (none_before, none_behind, has_curves, has_rates, no_others, has_delays)

module _ (file : List ℕ) where
  -- ---- The edition.

  -- an empty file has edition 0
  pub edition_none : length file ≡ 0 → 0 ≡ edition_of file
  unfolding edition_of
  edition_none h = sym (field_none file 0 4 (omega arith))

  -- the edition lies in a file that is not empty
  pub edition_inside : (length file ≡ 0 → ⊥) → InFile file 0 4
  edition_inside some = record { inside = omega (arith, some); near = lit≤ tt; narrow = lit≤ tt }

  -- it is the first field of four bits
  pub edition_read : {ed : ℕ} → ed ≡ field file 0 4 → ed ≡ edition_of file
  unfolding edition_of
  edition_read e = e

  -- ---- The kind.

  -- an empty file has kind 0
  pub kind_none : length file ≡ 0 → 0 ≡ kind_in file
  unfolding kind_in
  kind_none h = sym (field_none file 4 4 (omega arith))

  -- the kind lies in a file that is not empty
  pub kind_inside : (length file ≡ 0 → ⊥) → InFile file 4 4
  kind_inside some = record { inside = omega (arith, some); near = lit≤ tt; narrow = lit≤ tt }

  -- it is the second field of four bits
  pub kind_read : {k : ℕ} → k ≡ field file 4 4 → k ≡ kind_in file
  unfolding kind_in
  kind_read e = e

  -- ---- The count.

  -- the count is at most 64
  counted : {n : ℕ} → n ≡ count_in file → Counts file n
  unfolding count_in
  counted e = record { is = e; few = omega (arith, field_fits file 8 6) }

  -- a file of less than two bytes has count 1
  pub count_none : length file < 2 → Counts file 1
  unfolding count_in
  count_none h = counted (omega (arith, field_none file 8 6 (omega arith)))

  -- the count lies in a file of two bytes or more
  pub count_inside : 2 ≤ length file → InFile file 8 6
  count_inside some = record { inside = omega arith; near = lit≤ tt; narrow = lit≤ tt }

  -- one more than six bits spell fits
  pub count_small : {n : ℕ} → n ≡ field file 8 6 → Fits w64 (n + 1)
  count_small e = record { fits = omega (arith, field_fits file 8 6) }

  -- it is one more than the six bits behind the kind
  pub count_read : {n : ℕ} → n ≡ field file 8 6 → Counts file (n + 1)
  unfolding count_in
  count_read e = counted (ap (λ (x : ℕ). x + 1) e)

  -- ---- The bits and bytes taken.

  module _ {k : ℕ} (e : k ≡ kind_in file) where
    -- a curve takes the bits of its buckets,
    pub taken_by_curve : {n : ℕ} → k ≡ 1 → Counts file n → BitsTaken file (14 + 60 * n)
    unfolding count_in
    taken_by_curve is count =
        record {
          is =
              sym
              (rw (held_curve file (sym e ∙ is))
              (curve_bits (edition_of file) (buckets_in file 14 (field file 8 6 + 1))
              ∙ omega (arith, length_buckets_in file 14 (field file 8 6 + 1), count.is)));
          few = omega (arith, count.few);
        }

    module _ (other : k ≡ 1 → ⊥) where
      -- a pure delay 28,
      pub taken_by_delay : k ≡ 3 → BitsTaken file 28
      taken_by_delay is =
          record {
            is = sym (server_size file (λ h. other (e ∙ h)) ∙ rw (eq-eqb (kind_in file) 3 (sym e ∙ is)));
            few = lit≤ tt;
          }

      -- and any other server 48
      pub taken_by_rate : (k ≡ 3 → ⊥) → BitsTaken file 48
      taken_by_rate no_delay =
          record {
            is = sym (server_size file (λ h. other (e ∙ h)) ∙ rw (ne_eqb (kind_in file) 3 (λ h. no_delay (e ∙ h))));
            few = lit≤ tt;
          }

  module _ {bits : ℕ} (taken : BitsTaken file bits) where
    -- they are few,
    pub taken_fits : Fits w64 (bits + 7)
    taken_fits = record { fits = omega (arith, taken.few) }

    -- and the bytes are theirs
    pub taken_bytes : (bits + 7) / 8 ≡ bytes_taken file
    unfolding bytes_taken byte_count
    taken_bytes = ap (λ n. (n + 7) / 8) taken.is

pub ruleset heading =
    (edition_none, edition_inside, edition_read, kind_none, kind_inside, kind_read, count_none, count_inside, count_small, count_read)

pub ruleset sizes = (taken_by_curve, taken_by_delay, taken_by_rate, taken_fits, taken_bytes)
