-- Demand 2 for profile files of both editions, in what a caller has in hand. A curve or a server that is written, read again from the
-- bytes that were written, is the same; a file that is read, written again in the edition that the reader tells, has the same bytes.
-- Where there is room nothing is refused, and 482 bytes and 128 numbers are room for every profile.
-- Assumes nothing.
use mathlib.Core.Path.{◌≡◌, refl, sym, ◌∙◌, ap, ap₂, subst}
use mathlib.Core.Logic.{inl, inr, ◌≢◌}
use mathlib.Core.HLevel.{dec→stable}
use mathlib.Core.List.{List}
use Prim.Native.Nat.{ℕ, ◌*◌, ◌≤◌, ◌<◌}
use native.Mathlib.Omega.{arith}
use lib.Dec.{lit≤}
use lib.ListN.{length, take}
use Rattle.meaning.specs.Curve.{Bucket, width, curve_of, list_of, NormalForm}
use Rattle.meaning.specs.Server.{Server, rated, pure_delay, no_server, numbers_of}
use Rattle.meaning.specs.Refusal.{Refusal, HEADER, RANGE, FORM, number, Lines, ◌or◌, Wins, Clear, accepted, rejected, curve_lines, over, BytesOutcome}
use Rattle.meaning.specs.ServerQuestions.{server_lines}
use Rattle.meaning.specs.Profile.{curve_kind, Profile, curve, server, kind_of, Known, written, edition_of, profile_of, file_lines, buckets_of, server_in, Reading, ReadOutcome, edition_lines, writing, WriteCurveOutcome, WriteServerOutcome}
use Rattle.meaning.proofs.Lists.{list_length, curve_list, over_start}
use Rattle.meaning.proofs.Outcome.Outcomes.{number_positive, Same, UpTo, up_to_when, up_to_or, clear_or}
use Rattle.meaning.proofs.Outcome.Stable.{server_stable, normal_stable}
use Rattle.meaning.proofs.Outcome.Answers.{clear_form, clear_fits, clear_list, fits_few, fits_ranged, curve_up_to, sound_clear, read_back}
use Rattle.meaning.proofs.Outcome.Demands.{server_up_to}
use Rattle.meaning.proofs.Outcome.Bytes.{OnlyBytes, only_bytes, bytes_wins, filled_read}
use Rattle.meaning.proofs.Outcome.EveryInput.{Decided, decide_or, curve_decided, server_decided}
use Rattle.meaning.proofs.Profile.Bits.{Bytes}
use Rattle.meaning.proofs.Profile.Files.{byte_size_bounds, curve_bytes_lem, server_bytes_lem, held_kind, held_few, read_in_range}
use Rattle.meaning.proofs.Profile.RoundTrip.{RightHeader, decide_known, clear_header, ReadsBack, read_back_curve, read_back_server, write_back}
use Rattle.meaning.proofs.Profile.Outcomes.{writing_curve, writing_server, single_writing, SameReading, file_up_to, read_as, refused_as, OnlyRead, only_server, only_read, only_refused, Read, read_file}
use Rattle.meaning.proofs.Profile.Decided.{file_decided, edition_decided}

-- ---- What is written.

-- A profile none of whose lines holds is written in an edition that has its kind, given room.
only_written :
    (ed : ℕ) (operands : Lines) (p : Profile) → Known ed (kind_of p) → Clear operands
    → OnlyBytes (writing ed operands p) (written ed p)
unfolding writing
only_written ed operands p has clear =
    only_bytes (single_writing ed operands p) (clear_or (λ r h. h.1 has) clear) refl

-- a curve that no line refuses,
pub curve_written :
    (ed : ℕ) → Known ed curve_kind → (l : List ℕ) → Clear (curve_lines l)
    → OnlyBytes (writing_curve ed l) (written ed (curve (curve_of l)))
curve_written ed has l clear = only_written ed (curve_lines l) (curve (curve_of l)) has clear

-- and a server that none refuses
pub server_written :
    (ed : ℕ) (s : Server) → Known ed (kind_of (server s)) → Clear (server_lines s)
    → OnlyBytes (writing_server ed s) (written ed (server s))
server_written ed s has clear = only_written ed (server_lines s) (server s) has clear

-- what is written reads as the profile, and as the edition
pub read_written : {ed : ℕ} {p : Profile} → ReadsBack ed p → OnlyRead (written ed p) ed p
read_written {ed} {p} back =
    subst (λ (e : ℕ). OnlyRead (written ed p) e p) back.edition_same
    (subst (OnlyRead (written ed p) (edition_of (written ed p))) back.same (only_read (written ed p) back.clear))

-- a curve that no line refuses reads back,
curve_back : (ed : ℕ) → Known ed curve_kind → (l : List ℕ) → Clear (curve_lines l) → ReadsBack ed (curve (curve_of l))
curve_back ed has l clear =
    let fits = clear_fits l clear in
    read_back_curve ed has (curve_of l) (clear_form l clear) (fits_ranged fits) (fits_few fits)

-- and a server that none refuses
server_back : (ed : ℕ) (s : Server) → Known ed (kind_of (server s)) → Clear (server_lines s) → ReadsBack ed (server s)
server_back ed s has clear = read_back_server ed s has (server_stable s (λ out. clear RANGE (refl, out)))

-- an edition that no line refuses has the kind
pub edition_has : (ed kind : ℕ) → Clear (edition_lines ed kind) → Known ed kind
edition_has ed kind clear = dec→stable (decide_known ed kind) (λ out. clear HEADER (refl, out))

-- ---- Written, and read again.

-- A curve that is read again: code 0, the edition in which it was written, kind 1, the same bucket count and no server; the same numbers
-- stand from the list's start, and those beyond stay.
pub record CurveAgain (ed : ℕ) (l before after : List ℕ) (x : Reading) : Type 0 where
  pub code_is : x.code ≡ 0
  pub edition_is : x.edition ≡ ed
  pub kind_is : x.kind ≡ 1
  pub count_is : x.count ≡ length (curve_of l)
  pub no_server_there : x.server ≡ no_server
  pub numbers_are : read_back after x.count ≡ l
  pub list_is : after ≡ over l before

-- A server that is read again: code 0, the edition, its kind, no bucket, the same server; the list stays.
pub record ServerAgain (ed : ℕ) (s : Server) (before after : List ℕ) (x : Reading) : Type 0 where
  pub code_is : x.code ≡ 0
  pub edition_is : x.edition ≡ ed
  pub kind_is : x.kind ≡ (numbers_of s).kind
  pub count_is : x.count ≡ 0
  pub server_is : x.server ≡ s
  pub list_stays : after ≡ before

-- A curve that was written with code 0, and the bytes that were written read into a list:
module _ (ed : ℕ) (l : List ℕ) {buffer filled : List ℕ} {bytes : ℕ} (o : WriteCurveOutcome ed l buffer filled 0 bytes) where
  -- no line held of it,
  curve_clear : Clear (curve_lines l)
  unfolding writing
  curve_clear r h = (filled_read o).operands_clear r (inr h)

  -- the edition has curves,
  curve_known : Known ed curve_kind
  unfolding writing
  curve_known = edition_has ed curve_kind (λ r h. (filled_read o).operands_clear r (inl h))

  -- and the bytes are its file
  curve_file : OnlyRead (take bytes filled) ed (curve (curve_of l))
  unfolding writing
  curve_file = rw (filled_read o).right (read_written (curve_back ed curve_known l curve_clear))

  module _ {before after : List ℕ} {x : Reading} (again : ReadOutcome (take bytes filled) before after x) where
    -- given room it comes back,
    pub curve_again : length l ≤ length before → CurveAgain ed l before after x
    curve_again room =
        record {
          code_is = same.code_same;
          edition_is = same.edition_same;
          kind_is = same.kind_same;
          count_is = same.count_same;
          no_server_there = same.server_same;
          numbers_are = rw (numbers, list) (over_start l before);
          list_is = list;
        }
      where
        l_is : list_of (curve_of l) ≡ l
        l_is = clear_list l curve_clear

        same : SameReading x (read_as ed (curve (curve_of l))) after (over (list_of (curve_of l)) before)
        same = curve_file.with_room (rw l_is room) again

        list : after ≡ over l before
        list = same.after_same ∙ ap (λ (m : List ℕ). over m before) l_is

        numbers : width * x.count ≡ length l
        numbers = omega (arith, same.count_same, list_length (curve_of l), ap length l_is)

    -- and without it is ROOM alone
    pub curve_again_short : length before < length l → SameReading x (refused_as 10) after before
    curve_again_short short = curve_file.without_room (rw (clear_list l curve_clear) short) again

-- A server that was written with code 0, read again, comes back; no list is too short for it.
pub server_again :
    (ed : ℕ) (s : Server) {buffer filled : List ℕ} {bytes : ℕ} → WriteServerOutcome ed s buffer filled 0 bytes
    → {before after : List ℕ} {x : Reading} → ReadOutcome (take bytes filled) before after x → ServerAgain ed s before after x
unfolding writing
server_again ed s {filled = filled} {bytes = bytes} o {before} {after} {x} again =
    record {
      code_is = same.code_same;
      edition_is = same.edition_same;
      kind_is = same.kind_same;
      count_is = same.count_same;
      server_is = same.server_same;
      list_stays = same.after_same;
    }
  where
    has : Known ed (kind_of (server s))
    has = edition_has ed (kind_of (server s)) (λ r h. (filled_read o).operands_clear r (inl h))

    file : OnlyRead (take bytes filled) ed (server s)
    file =
        rw (filled_read o).right
        (read_written (server_back ed s has (λ r h. (filled_read o).operands_clear r (inr h))))

    same : SameReading x (read_as ed (server s)) after before
    same = only_server file again

-- ---- Read, and written again.

-- A file that is written again: code 0 and the same byte count; the same bytes stand from the buffer's start, and those beyond
-- stay.
pub record FileAgain (file before after : List ℕ) (code count : ℕ) : Type 0 where
  pub code_is : code ≡ 0
  pub count_is : count ≡ length file
  pub bytes_are : take count after ≡ file
  pub buffer_is : after ≡ over file before

-- the only outcome, given room, is that
file_again :
    {file before after : List ℕ} {code count : ℕ} → Same code count 0 (length file) after (over file before)
    → FileAgain file before after code count
file_again {file} {before} same =
    record {
      code_is = same.code_same;
      count_is = same.figure_same;
      bytes_are = rw (same.figure_same, same.after_same) (over_start file before);
      buffer_is = same.after_same;
    }

-- a profile's kind says what it is
is_curve : (p : Profile) → kind_of p ≡ curve_kind → p ≡ curve (buckets_of p)
is_curve (curve f) e = refl
is_curve (server (rated s)) e = absurd (omega arith)
is_curve (server (pure_delay latency)) e = absurd (omega arith)

-- as of a server
is_server : (p : Profile) → kind_of p ≢ curve_kind → p ≡ server (server_in p)
is_server (curve f) e = absurd (e refl)
is_server (server s) e = refl

-- A file of bytes that is read with code 0:
module _
    {file list read : List ℕ} {x : Reading} (bytes : Bytes file) (o : ReadOutcome file list read x) (none : x.code ≡ 0)
  where
    -- the reader tells what it holds,
    known : Read file list read x
    known = read_file o none

    -- whose file it is, in the edition that it tells,
    same_file : {p : Profile} → profile_of file ≡ p → written x.edition p ≡ file
    same_file e =
        ap₂ written known.told.edition_same (sym e) ∙ write_back file bytes known.clear

    -- and that edition has its kind
    told_known : {p : Profile} → profile_of file ≡ p → Known x.edition (kind_of p)
    told_known {p} e =
        rw known.told.edition_same
        (subst (λ (q : Profile). Known (edition_of file) (kind_of q)) e
        (subst (Known (edition_of file)) (held_kind file right.known.1) right.known))
      where
        right : RightHeader file
        right = clear_header file known.clear

    -- Where the kind is 1, the curve that stands in the list
    module _ (kind : x.kind ≡ curve_kind) where
      -- (it is the curve that the file holds,
      holds_curve : profile_of file ≡ curve (buckets_of (profile_of file))
      holds_curve = is_curve (profile_of file) (sym known.told.kind_same ∙ kind)

      -- its numbers are those in the list,
      read_list : read_back read x.count ≡ list_of (buckets_of (profile_of file))
      read_list =
          let count : width * x.count ≡ length (list_of (buckets_of (profile_of file)))
          = omega (arith, known.told.count_same, list_length (buckets_of (profile_of file))) in
          rw (count, known.told.after_same) (over_start (list_of (buckets_of (profile_of file))) list)

      -- it is in normal form,
      form : NormalForm (buckets_of (profile_of file))
      form = normal_stable (λ out. known.clear FORM (inr (rw holds_curve (inr (refl, out)))))

      -- and the file is what is written of it)
      only_file : OnlyBytes (writing_curve x.edition (read_back read x.count)) file
      only_file =
          rw read_list
          (subst (OnlyBytes (writing_curve x.edition (list_of f)))
          (ap (λ (g : List Bucket). written x.edition (curve g)) (curve_list f) ∙ same_file holds_curve)
          (curve_written x.edition (told_known holds_curve) (list_of f)
          (sound_clear f form (read_in_range file) (held_few file))))
        where
          f : List Bucket
          f = buckets_of (profile_of file)

      -- is written, in the edition that the reader tells, as the file, given room,
      pub curve_file_again :
          {before after : List ℕ} {code count : ℕ} → length file ≤ length before
          → WriteCurveOutcome x.edition (read_back read x.count) before after code count → FileAgain file before after code count
      curve_file_again room again = file_again (only_file.with_room room again)

      -- and without is ROOM alone.
      pub curve_file_short :
          {before after : List ℕ} {code count : ℕ} → length before < length file
          → WriteCurveOutcome x.edition (read_back read x.count) before after code count → Same code count 10 0 after before
      curve_file_short short again = only_file.without_room short again

    -- Where it is another, the server that the reader tells
    module _ (kind : x.kind ≢ curve_kind) where
      -- (it is the server that the file holds,
      holds_server : profile_of file ≡ server x.server
      holds_server =
          is_server (profile_of file) (λ e. kind (known.told.kind_same ∙ e)) ∙ ap server (sym known.told.server_same)

      -- and the file is what is written of it)
      only_server_file : OnlyBytes (writing_server x.edition x.server) file
      only_server_file =
          subst (OnlyBytes (writing_server x.edition x.server)) (same_file holds_server)
          (server_written x.edition x.server (told_known holds_server) (λ r h. known.clear r (inr (rw holds_server h))))

      -- is, given room,
      pub server_file_again :
          {before after : List ℕ} {code count : ℕ} → length file ≤ length before
          → WriteServerOutcome x.edition x.server before after code count → FileAgain file before after code count
      server_file_again room again = file_again (only_server_file.with_room room again)

      -- and without is ROOM alone.
      pub server_file_short :
          {before after : List ℕ} {code count : ℕ} → length before < length file
          → WriteServerOutcome x.edition x.server before after code count → Same code count 10 0 after before
      server_file_short short again = only_server_file.without_room short again

-- ---- Room for every profile.

-- what wins among lines none of which is above UNBOUNDED is not ROOM
not_room : {lines : Lines} {r : Refusal} → UpTo 8 lines → Wins lines r → number r ≢ 10
not_room {r = r} upto w e = omega (arith, upto r w.holds, e)

-- A list of 64 buckets has room for every file,
pub room_for_file :
    {file before after : List ℕ} {x : Reading} → width * 64 ≤ length before → ReadOutcome file before after x → x.code ≢ 10
room_for_file {file} {before} {after} {x} room o e = by (file_decided file)
  where
    by : Decided (file_lines file) → ⊥
    by (code, accepted clear none) =
        omega (
          arith,
          ((only_read file clear).with_room (omega (arith, list_length (buckets_of (profile_of file)), held_few file)) o).code_same,
        )
    by (code, rejected r w is) =
        not_room (file_up_to file) w
        (sym is ∙ sym ((only_refused (omega (arith, is, number_positive r)) (rejected r w is)).whatever_list o).code_same ∙ e)

-- Nor is ROOM the code of writing where the buffer has room for all that no line refuses:
room_for :
    (ed : ℕ) (operands : Lines) (p : Profile) {before after : List ℕ} {code count : ℕ}
    → Decided operands → UpTo 8 operands → (Clear operands → length (written ed p) ≤ length before)
    → BytesOutcome (writing ed operands p) before after code count → code ≢ 10
unfolding writing number
room_for ed operands p {before} {after} {code} {count} decided upto room o e = by (decide_or (edition_decided ed (kind_of p)) decided)
  where
    all_up_to : UpTo 8 (edition_lines ed (kind_of p) or operands)
    all_up_to = up_to_or (up_to_when HEADER (lit≤ tt)) upto

    by : Decided (edition_lines ed (kind_of p) or operands) → ⊥
    by (told, accepted clear none) =
        let has = edition_has ed (kind_of p) (λ r h. clear r (inl h)) in
        let all : Clear operands = λ r h. clear r (inr h) in
        omega (arith, ((only_written ed operands p has all).with_room (room all) o).code_same)
    by (told, rejected r w is) = not_room all_up_to w (sym (bytes_wins o (omega (arith, all_up_to r w.holds)) w) ∙ e)

-- a buffer of 482 bytes for every curve,
pub room_for_curve :
    (ed : ℕ) (l : List ℕ) {before after : List ℕ} {code count : ℕ} → 482 ≤ length before
    → WriteCurveOutcome ed l before after code count → code ≢ 10
room_for_curve ed l room =
    room_for ed (curve_lines l) (curve (curve_of l)) (curve_decided l) (curve_up_to l)
    (λ clear. omega (arith, curve_bytes_lem ed (curve_of l), fits_few (clear_fits l clear)))

-- and one of 6 for every server
pub room_for_server :
    (ed : ℕ) (s : Server) {before after : List ℕ} {code count : ℕ} → 6 ≤ length before
    → WriteServerOutcome ed s before after code count → code ≢ 10
room_for_server ed s room =
    room_for ed (server_lines s) (server s) (server_decided s) (server_up_to s)
    (λ clear. omega (arith, server_bytes_lem ed s, (byte_size_bounds (kind_of (server s))).1))
