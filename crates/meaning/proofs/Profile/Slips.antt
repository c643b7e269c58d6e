-- Wrong readings and wrong files that the contracts shut out. Each theorem takes what a slip would give back and finds that it is
-- no outcome. What is said of a list is said of a part of a table too, by `part_reads`.
-- Assumes nothing.
use mathlib.Core.Path.{◌≡◌, sym, ◌∙◌, ap}
use mathlib.Core.Logic.{◌≢◌}
use mathlib.Core.List.{List, [], ◌∷◌, ◌++◌, Memᴰ}
use Prim.Native.Nat.{ℕ, ◌≤◌}
use native.Mathlib.Omega.{arith}
use lib.Dec.{lit≤}
use lib.ListN.{length, take}
use Rattle.meaning.specs.Curve.{buckets, list_of}
use Rattle.meaning.specs.Server.{Server, port}
use Rattle.meaning.specs.Refusal.{Clear, over}
use Rattle.meaning.specs.Profile.{Profile, server, kind_of, padding, file_lines, buckets_of, server_in, Reading, ReadOutcome, WriteCurveOutcome, WriteServerOutcome}
use Rattle.meaning.proofs.Lists.{over_start}
use Rattle.meaning.proofs.Outcome.Bytes.{only_filled}
use Rattle.meaning.proofs.Profile.RoundTrip.{clear_padding}
use Rattle.meaning.proofs.Profile.Outcomes.{OnlyRead, only_reading, only_server, only_refused, refusal_keeps_read, read_file}
use Rattle.meaning.proofs.Profile.Refusals.{byte_behind, cut_short}
use Rattle.meaning.proofs.Profile.Known.{p11_server_file, p11_server_outcome, p11_server_read, p11_curve, p11_curve_file, p11_curve_outcome, p11_curve_read, unordered, unordered_file, out_of_order}

-- ---- Files packed in another way.

-- P11's server with the least significant bit first
pub least_bit_first :
    {before : List ℕ} {count : ℕ}
    → WriteServerOutcome 1 (port 6 1) before (over (0x21 ∷ 0x06 ∷ 0x00 ∷ 0x10 ∷ 0x00 ∷ 0x00 ∷ []) before) 0 count → ⊥
unfolding over
least_bit_first o = let z : ◌≡◌ {A = ℕ} 0x21 0x12 = cc (only_filled p11_server_outcome o).after_same in omega arith

-- P11's curve with the count not reduced by one: written,
pub count_not_reduced :
    {before : List ℕ} {count : ℕ}
    → WriteCurveOutcome 1 p11_curve before
    (over (0x11 ∷ 0x04 ∷ 0x00 ∷ 0x02 ∷ 0x80 ∷ 0x00 ∷ 0x00 ∷ 0x00 ∷ 0x00 ∷ 0x80 ∷ []) before) 0 count
    → ⊥
unfolding over
count_not_reduced o = let z : ◌≡◌ {A = ℕ} 0x04 0x00 = cc (only_filled p11_curve_outcome o).after_same in omega arith

-- and read
pub count_as_it_stands :
    {before after : List ℕ} {x : Reading} → ReadOutcome p11_curve_file before after x → x.code ≡ 0 → x.count ≡ 0 → ⊥
unfolding buckets
count_as_it_stands o none zero = omega (arith, (only_reading p11_curve_read o none).count_same)

-- ---- Files taken that are not right.

module _ {before after : List ℕ} {x : Reading} where
  -- a padding bit that is passed over
  pub padding_ignored : {file : List ℕ} → Memᴰ 1 (padding file) → ReadOutcome file before after x → x.code ≡ 0 → ⊥
  padding_ignored {file} m o none = clear_padding file (read_file o none).clear m

  -- a byte or more behind a right file, passed over: that is 2
  pub behind_ignored :
      (file rest : List ℕ) → Clear (file_lines file) → 1 ≤ length rest → ReadOutcome (file ++ rest) before after x → x.code ≡ 2
  behind_ignored file rest clear more o = ((only_refused (lit≤ tt) (byte_behind file rest clear more)).whatever_list o).code_same

  -- a right file cut short, and zeros read in place of the rest: that is 2
  pub rest_made_up :
      (file rest : List ℕ) → Clear (file_lines (file ++ rest)) → 1 ≤ length file → 1 ≤ length rest
      → ReadOutcome file before after x → x.code ≡ 2
  rest_made_up file rest clear some more o =
      ((only_refused (lit≤ tt) (cut_short file rest clear some more)).whatever_list o).code_same

-- ---- Lists written that are to stay.

module _ {file before after : List ℕ} {x : Reading} where
  -- a list that is changed, and then a refusal
  pub changed_and_refused : after ≢ before → ReadOutcome file before after x → x.code ≢ 0 → ⊥
  changed_and_refused other o some = other (refusal_keeps_read o some).after_same

  -- a server's file that clears the list, or writes anything into it
  pub server_changes_list : {ed : ℕ} {s : Server} → OnlyRead file ed (server s) → after ≢ before → ReadOutcome file before after x → ⊥
  server_changes_list known other o = other (only_server known o).after_same

-- buckets that are written before it is known that they are not in normal form
pub written_before_form :
    {before : List ℕ} {x : Reading} → take (length unordered) before ≢ unordered
    → ReadOutcome unordered_file before (over unordered before) x → ⊥
written_before_form {before} other o =
    other (sym (ap (take (length unordered)) (out_of_order.whatever_list o).after_same) ∙ over_start unordered before)

-- ---- Stand-ins.

module _ {file : List ℕ} {ed : ℕ} {p : Profile} (known : OnlyRead file ed p) {before : List ℕ} {x : Reading} where
  -- a reader that refuses everything
  pub read_refuser :
      {after : List ℕ} → length (list_of (buckets_of p)) ≤ length before → ReadOutcome file before after x → x.code ≢ 0 → ⊥
  read_refuser room o some = some (known.with_room room o).code_same

  -- one that writes nothing: code 0 over a list that stays, though it does not begin with the buckets
  pub reads_nothing :
      take (length (list_of (buckets_of p))) before ≢ list_of (buckets_of p) → ReadOutcome file before before x → x.code ≡ 0 → ⊥
  reads_nothing other o none =
      other
      (ap (take (length (list_of (buckets_of p)))) (only_reading known o none).after_same
      ∙ over_start (list_of (buckets_of p)) before)

  -- one that makes up the edition, the kind, the count or the server: they are the file's
  pub invented_reading :
      {after : List ℕ} → ReadOutcome file before after x → x.code ≡ 0
      → (x.edition ≡ ed) × (x.kind ≡ kind_of p) × (x.count ≡ length (buckets_of p)) × (x.server ≡ server_in p)
  invented_reading o none =
      let same = only_reading known o none in (same.edition_same, same.kind_same, same.count_same, same.server_same)

-- a fixed reply: none serves both files of P11, in a list with room for the curve
pub fixed_reading :
    {before after : List ℕ} {x : Reading} → length p11_curve ≤ length before → ReadOutcome p11_server_file before after x
    → ReadOutcome p11_curve_file before after x → ⊥
fixed_reading room o o' = omega (arith, (only_server p11_server_read o).kind_same, (p11_curve_read.with_room room o').kind_same)
