-- What comes of reading a file: refused for its frame, or a server, or a curve whose buckets were decoded and are handed over.
-- Assumes nothing.
use mathlib.Core.Path.{◌≡◌, refl, sym, ◌∙◌, ap, subst}
use mathlib.Core.Logic.{inl, inr, ◌≢◌}
use mathlib.Core.List.{List, []}
use Prim.Native.Nat.{ℕ, ◌+◌, ◌≤◌}
use native.Mathlib.Omega.{arith}
use lib.Dec.{lit≤}
use lib.ListN.{length}
use borrow.Author.Tests.{ne_eqb}
use Rattle.meaning.specs.Curve.{Bucket, flat, curve_of, list_of}
use Rattle.meaning.specs.Server.{Server, pure_delay, no_server, port}
use Rattle.meaning.specs.Refusal.{Refusal, number, Lines, Clear, Verdict, accepted, rejected, Uneven, curve_lines, TooLarge, over, all_lines, part, PartOutcome}
use Rattle.meaning.specs.Profile.{curve, server, kind_of, field, buckets_in, edition_of, kind_in, server_held, profile_of, profile_lines, file_lines, buckets_of, reading, Reading, ReadOutcome, ReadPartOutcome}
use Rattle.meaning.proofs.Lists.{flat_length, buckets_flat}
use Rattle.meaning.proofs.Outcome.Outcomes.{three_parts, refuse_in_part, asked_so_in_part, whole_list}
use Rattle.meaning.proofs.Outcome.Answers.{outcome_code}
use Rattle.meaning.proofs.Outcome.Slips.{refusal_keeps_table}
use Rattle.meaning.proofs.Profile.Files.{held_few, read_in_range, length_buckets_in, held_curve, held_server, at_delay, at_rate, byte_size, byte_size_bounds, server_taken}
use Rattle.meaning.proofs.Profile.Refusals.{profile_decides}
use Rattle.meaning.proofs.Profile.Outcomes.{file_up_to, read_refused, read_answered}
use Rattle.checks.proofs.Checks.{passed}
use Rattle.servers.specs.Cited as of_servers
use Rattle.settle.specs.Cited.{delivering}
use Rattle.settle.proofs.Delivering.{delivery_clear}
use Rattle.profiles.specs.Cited.{InFile, count_in, Counts, Framed, Tested, refused_reading, ServerFile, CurveFile, Holds, ReadAlone}
use Rattle.profiles.proofs.Header.{taken_by_curve, taken_bytes}

-- ---- Refusals.

-- the same lines have the same verdict
same_verdict :
    {a b : Lines} → ((r : Refusal) → a r → b r) → ((r : Refusal) → b r → a r) → {code : ℕ} → Verdict a code → Verdict b code
same_verdict to back (accepted clear e) = accepted (λ r h. clear r (back r h)) e
same_verdict to back (rejected r w e) =
    rejected r (record { holds = to r w.holds; smallest = λ s h. w.smallest s (back s h) }) e

-- a line of the file holds: the table stays
refused_file :
    (file : List ℕ) {at room : ℕ} {table : List ℕ} {code : ℕ} → 1 ≤ code → Verdict (file_lines file) code
    → ReadPartOutcome file at room table table (refused_reading code)
unfolding reading
refused_file file {at} {room} {table} some v =
    record {
      list = refuse_in_part (reading file) at room table (file_up_to file) some v;
      told = (read_refused file [] some v).told;
    }

-- the frame is refused
pub frame_refused :
    {file : List ℕ} {at room : ℕ} {table : List ℕ} {code : ℕ} {x : Reading} → Tested file (Framed file) code → (code ≡ 0 → ⊥)
    → x ≡ refused_reading code → ReadPartOutcome file at room table table x
frame_refused {file} t some e = rw e (refused_file file (omega (arith, some)) (t.refused some))

-- it is not: then what the profile is refused with is the file's refusal
profile_verdict : {file : List ℕ} → Framed file → {code : ℕ} → Verdict (profile_lines (profile_of file)) code → Verdict (file_lines file) code
profile_verdict {file} w v = profile_decides file w.header w.whole.is w.no_one v

-- ---- A server.

-- what is read with no list is read beside every list
beside :
    {file : List ℕ} {x : Reading} → ((before : List ℕ) → ReadOutcome file before before x)
    → (at room : ℕ) (table : List ℕ) → ReadPartOutcome file at room table table x
beside o at room table =
    let v = o (part at room table) in
    record { list = record { inside = v.list; outside = three_parts at room table }; told = v.told }

module _ {file : List ℕ} (w : ServerFile file) where
  -- a server's file has the bytes of its kind
  its_bytes : length file ≡ byte_size (kind_in file)
  its_bytes = w.frame.whole.is ∙ server_taken file w.kind

  -- behind edition and kind
  module _ {here : List ℕ} {at : ℕ} (same : here ≡ file) (place : at ≡ 8) where
    -- the first number lies in the file,
    pub first_inside : InFile here at 20
    first_inside =
        record {
          inside = rw same (omega (arith, place, its_bytes, (byte_size_bounds (kind_in file)).0));
          near = omega (arith, place);
          narrow = lit≤ tt;
        }

    module _ {kind : ℕ} (k : kind ≡ kind_in file) {first : ℕ} (f : first ≡ field here at 20) where
      -- it is the first of the two,
      number_of : first ≡ field file 8 20
      number_of = f ∙ cc (same, place)

      -- and of a pure delay the latency
      pub held_delay : kind ≡ 3 → {s : Server} → s ≡ pure_delay first → s ≡ server_held file
      held_delay is e = e ∙ ap pure_delay number_of ∙ sym (at_delay file (sym k ∙ is))

      module _ (other : kind ≡ 3 → ⊥) {here' : List ℕ} {at' : ℕ} (same' : here' ≡ here) (place' : at' ≡ at + 20) where
        -- of another kind the latency lies behind it,
        pub latency_inside : InFile here' at' 20
        latency_inside =
            let six : byte_size (kind_in file) ≡ 6 = rw (ne_eqb (kind_in file) 3 (λ h. other (k ∙ h))) in
            record {
              inside = rw (same', same) (omega (arith, place', place, its_bytes, six));
              near = omega (arith, place', place);
              narrow = lit≤ tt;
            }

        -- and it is the rate
        pub held_rate : {latency : ℕ} → latency ≡ field here' at' 20 → {s : Server} → s ≡ port first latency → s ≡ server_held file
        held_rate {latency} l e =
            let there : at' ≡ 28 = omega (arith, place', place) in
            let behind : latency ≡ field file 28 20 = l ∙ rw (same', same, there) refl in
            e ∙ cc (number_of, behind) ∙ sym (at_rate file (λ h. other (k ∙ h)))

  module _ {s : Server} (e : s ≡ server_held file) {code : ℕ} (v : of_servers.Tested s code) where
    -- the file holds that server
    holds_server : profile_of file ≡ server s
    holds_server = held_server file w.kind ∙ ap server (sym e)

    -- it is tested
    tested_server : Verdict (file_lines file) code
    tested_server = profile_verdict w.frame (rw holds_server v.verdict)

    -- it is out of range
    pub server_file_refused : (code ≡ 0 → ⊥) → ReadAlone file (refused_reading code)
    server_file_refused some =
        record { outcome = λ at room table. refused_file file (omega (arith, some)) tested_server }

    -- it is read
    pub server_file_read :
        {ed : ℕ} → code ≡ 0 → ed ≡ edition_of file
        → ReadAlone file (record { code = 0; edition = ed; kind = kind_of (server s); count = 0; server = s })
    unfolding over list_of flat
    server_file_read right first = record { outcome = rw first (beside alone) }
      where
        alone :
            (before : List ℕ)
            → ReadOutcome file before before
            (record { code = 0; edition = edition_of file; kind = kind_of (server s); count = 0; server = s })
        alone before =
            rw holds_server at (read_answered file before (passed tested_server right) (rw holds_server (omega arith)))

-- ---- A curve.

-- The pairs of decoded buckets are tested as a curve's list, which has the same numbers. (This law changes when a curve's list
-- gets other numbers: then the pairs are tested as pairs.)
module _ (f : List Bucket) (some : 1 ≤ length f) (few : length f ≤ 64) where
  pairs_as_curve_list : {code : ℕ} → Verdict (curve_lines (flat f)) code → Verdict (profile_lines (curve f)) code
  unfolding curve_of
  pairs_as_curve_list = same_verdict to back
    where
      even : Uneven 2 (flat f) → ⊥
      even (inl h) = omega (arith, flat_length f)
      even (inr h) = h (omega (arith, flat_length f))

      to : (r : Refusal) → curve_lines (flat f) r → profile_lines (curve f) r
      to r (inl (inl (inl h))) = absurd (even h.1)
      to r (inl (inl (inr h))) = absurd (omega (arith, h.1, ap length (buckets_flat f)))
      to r (inl (inr h)) = inl (rw buckets_flat at h)
      to r (inr h) = inr (rw buckets_flat at h)

      back : (r : Refusal) → profile_lines (curve f) r → curve_lines (flat f) r
      back r (inl h) = inl (inr (rw buckets_flat h))
      back r (inr h) = inr (rw buckets_flat h)

-- buckets are handed over as the curve that a file holds
module _ (file : List ℕ) (clear : Clear (file_lines file)) (f : List Bucket) (some : 1 ≤ length f) (is : profile_of file ≡ curve f) where
  delivered_reading :
      {at room : ℕ} {table after : List ℕ} {code count : ℕ} → PartOutcome (delivering (flat f)) at room table after code count
      → PartOutcome (reading file) at room table after code count
  unfolding delivering reading
  delivered_reading o =
      asked_so_in_part (delivering (flat f)) (reading file) (delivery_clear (flat f) even) clear
      (λ g e. rw is (e ∙ buckets_flat f)) (λ g e. rw is at e ∙ sym (buckets_flat f)) o
    where
      even : Uneven 2 (flat f) → ⊥
      even (inl h) = omega (arith, flat_length f)
      even (inr h) = h (omega (arith, flat_length f))

module _ {file : List ℕ} (w : CurveFile file) {n : ℕ} (count : Counts file n) where
  -- the buckets lie in the file
  pub curve_holds : Holds file n
  curve_holds =
      record {
        inside = omega (arith, w.frame.whole.is, taken_bytes file (taken_by_curve file refl w.kind count));
        few = count.few;
      }

  module _ {pairs : List ℕ} (d : pairs ≡ flat (buckets_in file 14 n)) where
    -- the buckets are so many,
    size : length (buckets_in file 14 n) ≡ n
    size = length_buckets_in file 14 n

    -- at least one,
    one_at_least : 1 ≤ length (buckets_in file 14 n)
    unfolding count_in
    one_at_least = omega (arith, size, count.is)

    -- and the file holds them
    holds_curve : profile_of file ≡ curve (buckets_in file 14 n)
    unfolding count_in
    holds_curve = held_curve file w.kind ∙ ap (λ (m : ℕ). curve (buckets_in file 14 m)) (sym count.is)

    module _ {code : ℕ} (v : Verdict (curve_lines pairs) code) where
      -- they are tested for normal form
      tested : Verdict (profile_lines (curve (buckets_in file 14 n))) code
      tested =
          pairs_as_curve_list (buckets_in file 14 n) one_at_least (omega (arith, size, count.few)) (rw d at v)

      -- it is not in normal form
      pub curve_file_refused :
          {at room : ℕ} {table : List ℕ} → (code ≡ 0 → ⊥) → ReadPartOutcome file at room table table (refused_reading code)
      curve_file_refused some =
          (refused_file file (omega (arith, some)) (profile_verdict w.frame (rw holds_curve tested)))

      module _
          (right : code ≡ 0) {at room : ℕ} {table after : List ℕ} {told found : ℕ}
          (o : PartOutcome (delivering pairs) at room table after told found)
        where
          -- no line of the file holds
          clear : Clear (file_lines file)
          clear = passed (profile_verdict w.frame (rw holds_curve tested)) right

          -- so what comes of handing them over comes of reading
          read_so : PartOutcome (reading file) at room table after told found
          read_so = delivered_reading file clear (buckets_in file 14 n) one_at_least holds_curve (rw d at o)

          -- the part has no room for it
          pub curve_file_short : (told ≡ 0 → ⊥) → ReadPartOutcome file at room table after (refused_reading told)
          curve_file_short some =
              (record {
                list = subst (PartOutcome (reading file) at room table after told) (refusal_keeps_table read_so some).1 read_so;
                told = record { accepted = λ z. absurd (some z); refused = λ _. (refl, refl, refl) };
              })

          -- it is read
          pub curve_file_read :
              {ed : ℕ} → told ≡ 0 → ed ≡ edition_of file
              → ReadPartOutcome file at room table after (record { code = 0; edition = ed; kind = 1; count = found; server = no_server })
          curve_file_read zero_code first =
              rw first
              (record {
                list = rw zero_code at read_so;
                told = record { accepted = λ _. rw holds_curve (refl, refl, refl); refused = λ z. absurd (z refl) };
              })

-- ---- A file.

-- the whole list is a part of itself
pub read_whole :
    (file : List ℕ) {before after : List ℕ} {x : Reading} → ReadPartOutcome file 0 (length before) before after x
    → ReadOutcome file before after x
read_whole file o = record { list = whole_list (reading file) o.list; told = o.told }

-- LARGE is never told: a file has at most 64 buckets, and each is in range
pub read_never_large :
    {file before after : List ℕ} {x : Reading} → ReadOutcome file before after x → x.code ≢ 9
unfolding reading number
read_never_large {file} {before} {x = x} o e = told (outcome_code o.list)
  where
    none : (r : Refusal) → number r ≡ 9 → all_lines (reading file) (length before) r → ⊥
    none r nine (inl h) = omega (arith, file_up_to file r h)
    none r nine (inr (inl h)) = fits h.1.0 h.1.1 h.1.2
      where
        fits : (f : List Bucket) → f ≡ buckets_of (profile_of file) → TooLarge f → ⊥
        fits f is (inl many) = omega (arith, held_few file, ap length is)
        fits f is (inr out) = out (rw is (read_in_range file))
    none r nine (inr (inr h)) = omega (arith, ap number h.0, nine)

    told : Verdict (all_lines (reading file) (length before)) x.code → ⊥
    told (accepted none_holds z) = omega arith
    told (rejected r w is) = none r (sym is ∙ e) w.holds

pub ruleset server_held_rules = (first_inside, held_delay, latency_inside, held_rate)
