-- One line only, `refused C at K`: for each refusal of the route which inputs it is the only text of. Whatever stands behind the
-- profile that is refused, the line is the same, so it names the first profile that fails.
-- Assumes nothing.
use mathlib.Core.Path.{◌≡◌, refl, sym, ◌∙◌, ap}
use mathlib.Core.Logic.{◌≢◌}
use mathlib.Core.Option.{Option, none, some}
use mathlib.Core.List.{List, [], ◌++◌}
use Prim.Native.Nat.{ℕ, ◌+◌, ◌≤◌, ◌<◌}
use native.Mathlib.Omega.{arith}
use lib.ListN.{length, take, drop, length-append, length-take, length-drop, take-append-drop}
use Rattle.meaning.specs.Curve.{Bucket}
use Rattle.meaning.specs.Server.{Server, join, Behind}
use Rattle.meaning.specs.Refusal.{UNBOUNDED, LARGE, number, Clear, Verdict, accepted, TooLarge}
use Rattle.meaning.specs.ServerQuestions.{ServerInRange, Outruns}
use Rattle.meaning.specs.Profile.{curve_kind, server, kind_of, Known, written, edition_of, kind_in, profile_of, bytes_taken, file_lines}
use Rattle.meaning.specs.Route.{first_file, bytes, digits, numbers, refused_text, IsCurve, IsServer, due_lines, join_lines, hop_lines, Figures}
use Rattle.meaning.proofs.Lists.{curve_list}
use Rattle.meaning.proofs.Outcome.Outcomes.{line_hit, clear_or, refused_then}
use Rattle.meaning.proofs.Server.BothKinds.{KeepsUp}
use Rattle.meaning.proofs.Profile.Files.{more_than_one_byte, kind_append}
use Rattle.meaning.proofs.Profile.RoundTrip.{read_back_server, clear_whole}
use Rattle.meaning.proofs.Profile.Refusals.{cut_short}
use Rattle.meaning.proofs.Route.BackToBack.{first_whole, first_cut, kind_cut, begins}
use Rattle.meaning.proofs.Route.EveryRoute.{OnlyText, only_text}
use Rattle.meaning.proofs.Route.Line.{JoinedInRange}
use Rattle.meaning.proofs.Route.Winning.{not_due, nothing_there, unknown_there, curve_there, server_file_decides, curve_file_decides, reading_decides, port_decides, join_decides, behind_decides}
use Rattle.meaning.proofs.Route.Standing.{Standing, curve_refused, standing_over, standing_stops}
use Rattle.meaning.proofs.Route.Written.{Sound, sound_lines, due_clear, port_clear, file_there}

-- ---- The curve.

module _ (input : List ℕ) where
  -- what wins where the curve is due is named at 1,
  pub refused_at_1 : {code : ℕ} → Verdict (due_lines IsCurve input) code → code ≢ 0 → OnlyText input (refused_text code 1)
  refused_at_1 v nonzero = only_text (curve_refused input v nonzero)

  -- anything but a curve there is 1: nothing at all, a server, another kind
  pub no_curve_due : (IsCurve (profile_of input) → ⊥) → OnlyText input (bytes "refused 1 at 1\n")
  unfolding refused_text numbers digits bytes
  no_curve_due other = refused_at_1 {code = 1} (not_due IsCurve input other) (λ e. omega arith)

  -- and so is a kind that the edition does not have
  pub unknown_header : (Known (edition_of input) (kind_in input) → ⊥) → OnlyText input (bytes "refused 1 at 1\n")
  unfolding refused_text numbers digits bytes
  unknown_header out = refused_at_1 {code = 1} (unknown_there IsCurve input out) (λ e. omega arith)

-- the empty input
pub empty_input : OnlyText [] (bytes "refused 1 at 1\n")
unfolding refused_text numbers digits bytes
empty_input = refused_at_1 [] {code = 1} (nothing_there IsCurve) (λ e. omega arith)

-- a server where the curve is due
pub server_first :
    (ed : ℕ) (s : Server) → Known ed (kind_of (server s)) → ServerInRange s → (rest : List ℕ)
    → OnlyText (written ed (server s) ++ rest) (bytes "refused 1 at 1\n")
server_first ed s has ranged rest =
    no_curve_due (written ed (server s) ++ rest) (λ due. rw (begins (read_back_server ed s has ranged) rest).holds at due)

-- A file of which no line holds, cut short: its first byte and not all.
module _ (file : List ℕ) (clear : Clear (file_lines file)) (k : ℕ) (begun : 1 ≤ k) (short : k < length file) where
  -- it is the same in two parts
  both : take k file ++ drop k file ≡ file
  both = take-append-drop k file

  -- the first part is refused with 2 by itself, as the first file that it is,
  part_refused : Verdict (file_lines (first_file (take k file))) 2
  part_refused =
      rw (first_cut (take k file) (drop k file) (clear_whole (take k file ++ drop k file) (rw both clear)))
      (cut_short (take k file) (drop k file) (rw both clear)
      (omega (arith, length-take k file)) (omega (arith, length-drop k file)))

  -- and has the file's kind
  part_kind : kind_in (take k file) ≡ kind_in file
  part_kind = sym (kind_cut (take k file) (drop k file) (omega (arith, length-take k file))) ∙ ap kind_in both

-- a curve's file cut short
pub cut_curve :
    (file : List ℕ) → Clear (file_lines file) → kind_in file ≡ curve_kind → (k : ℕ) → 1 ≤ k → k < length file
    → OnlyText (take k file) (bytes "refused 2 at 1\n")
unfolding refused_text numbers digits bytes
cut_curve file clear kind k begun short =
    refused_at_1 (take k file) {code = 2}
    (curve_file_decides (take k file) (part_refused file clear k begun short) (part_kind file clear k begun short ∙ kind))
    (λ e. omega arith)

-- A curve's file that its own lines refuse, whatever stands behind it.
pub refused_curve_file :
    (file rest : List ℕ) {code : ℕ} → kind_in file ≡ curve_kind → length file ≡ bytes_taken file → Verdict (file_lines file) code
    → code ≢ 0 → OnlyText (file ++ rest) (refused_text code 1)
refused_curve_file file rest kind whole v nonzero =
    refused_at_1 (file ++ rest)
    (curve_file_decides (file ++ rest) (rw (first_whole file rest whole) v) (kind_append file rest (omega arith) ∙ kind))
    nonzero

-- ---- A server.

module _
    {input : List ℕ} {first : List Bucket} {hops : List Figures} {joined : Option Server} {f : List Bucket} {rest : List ℕ}
    (here : Standing input first hops joined f rest)
  where
    -- whatever follows the 32nd server is refused with 5, as profile 34
    pub bytes_after_32 : length hops ≡ 32 → rest ≢ [] → OnlyText input (bytes "refused 5 at 34\n")
    unfolding refused_text numbers digits bytes
    bytes_after_32 all more = only_text (standing_over here all more)

    -- Fewer servers are passed, and one is due; the curve from the hop before is sound.
    module _ (short : length hops < 32) (due : rest ≡ [] → joined ≡ none) (c : Sound f) where
      -- what wins there is named at its place,
      pub refused_here :
          {code : ℕ} → Verdict (hop_lines f joined rest) code → code ≢ 0 → OnlyText input (refused_text code (length hops + 2))
      refused_here v nonzero = only_text (standing_stops here short due v nonzero)

      -- and so is what is refused in reading
      pub refused_in_reading :
          {code : ℕ} → Verdict (due_lines IsServer rest) code → code ≢ 0 → OnlyText input (refused_text code (length hops + 2))
      refused_in_reading v nonzero = refused_here (reading_decides f joined rest (sound_lines c) v nonzero) nonzero

      -- a curve where a server is due is 1, whole or cut short,
      pub curve_for_server : kind_in rest ≡ curve_kind → OnlyText input (refused_text 1 (length hops + 2))
      curve_for_server kind = refused_in_reading {code = 1} (curve_there rest kind) (λ e. omega arith)

      -- so is nothing at all,
      pub nothing_for_server : rest ≡ [] → OnlyText input (refused_text 1 (length hops + 2))
      nothing_for_server e = refused_in_reading {code = 1} (rw e (nothing_there IsServer)) (λ e. omega arith)

      -- and a kind that the edition does not have
      pub unknown_for_server : (Known (edition_of rest) (kind_in rest) → ⊥) → OnlyText input (refused_text 1 (length hops + 2))
      unknown_for_server out = refused_in_reading {code = 1} (unknown_there IsServer rest out) (λ e. omega arith)

-- A server's file cut short.
pub cut_server :
    {input : List ℕ} {first : List Bucket} {hops : List Figures} {joined : Option Server} {f : List Bucket}
    (file : List ℕ) (k : ℕ)
    → Standing input first hops joined f (take k file) → length hops < 32 → Sound f → Clear (file_lines file)
    → kind_in file ≢ curve_kind → 1 ≤ k → k < length file → OnlyText input (refused_text 2 (length hops + 2))
cut_server file k here early c clear kind begun short =
    refused_in_reading here early (λ e. absurd (omega (arith, length-take k file, ap length e))) c {code = 2}
    (server_file_decides (take k file) (part_refused file clear k begun short)
    (λ e. kind (sym (part_kind file clear k begun short) ∙ e)))
    (λ e. omega arith)

-- A server's file that its own lines refuse, whatever stands behind it.
pub refused_server_file :
    {input : List ℕ} {first : List Bucket} {hops : List Figures} {joined : Option Server} {f : List Bucket} (file rest : List ℕ)
    → Standing input first hops joined f (file ++ rest) → length hops < 32 → Sound f → kind_in file ≢ curve_kind
    → length file ≡ bytes_taken file → {code : ℕ} → Verdict (file_lines file) code → code ≢ 0
    → OnlyText input (refused_text code (length hops + 2))
unfolding bytes_taken
refused_server_file file rest here short c kind whole v nonzero =
    refused_in_reading here short
    (λ e. absurd (omega (arith, more_than_one_byte (edition_of file) (profile_of file), length-append file rest, ap length e))) c
    (server_file_decides (file ++ rest) (rw (first_whole file rest whole) v)
    (λ e. kind (sym (kind_append file rest (omega arith)) ∙ e)))
    nonzero

-- A server in range stands there, in an edition that has its kind, whatever stands behind it; the curve from the hop before is sound.
module _
    {input : List ℕ} {first : List Bucket} {hops : List Figures} {joined : Option Server} {f : List Bucket}
    (ed : ℕ) (s : Server) (has : Known ed (kind_of (server s))) (rest : List ℕ)
    (here : Standing input first hops joined f (written ed (server s) ++ rest)) (short : length hops < 32) (c : Sound f)
    (ranged : ServerInRange s)
  where
    -- it is read,
    read : Clear (due_lines IsServer (written ed (server s) ++ rest))
    read = due_clear IsServer tt (read_back_server ed s has ranged) (begins (read_back_server ed s has ranged) rest)

    holds : profile_of (written ed (server s) ++ rest) ≡ server s
    holds = (begins (read_back_server ed s has ranged) rest).holds

    -- so that what wins among the other lines is named there
    refused_beside :
        {code : ℕ} → Verdict (hop_lines f joined (written ed (server s) ++ rest)) code → code ≢ 0
        → OnlyText input (refused_text code (length hops + 2))
    refused_beside = refused_here here short (λ e. absurd (file_there ed s rest e)) c

    -- the last rate above R is 8,
    pub last_rate_above : JoinedInRange joined → Outruns f s → OnlyText input (refused_text 8 (length hops + 2))
    unfolding number
    last_rate_above before above =
        refused_beside {code = 8}
        (port_decides f joined (written ed (server s) ++ rest) read before
        (rw holds
        (refused_then (accepted (clear_or (sound_lines c) (λ r h. h.1 ranged)) refl) (line_hit UNBOUNDED (rw curve_list above))))
        (λ e. omega arith))
        (λ e. omega arith)

    -- and a curve behind that is too large is 9
    pub behind_too_large :
        {g : List Bucket} → KeepsUp f s → Clear (join_lines joined s) → Behind f s g → TooLarge g
        → OnlyText input (refused_text 9 (length hops + 2))
    unfolding number
    behind_too_large {g} slow joins behind large =
        refused_beside {code = 9}
        (behind_decides f joined (written ed (server s) ++ rest) read (rw holds joins)
        (rw holds (refused_then (accepted (port_clear s c ranged slow) refl) (line_hit LARGE (g, behind, large)))))
        (λ e. omega arith)

-- A joined server out of range is 9.
pub joined_out_of_range :
    {input : List ℕ} {first : List Bucket} {hops : List Figures} {before : Server} {f : List Bucket}
    (ed : ℕ) (s : Server) (has : Known ed (kind_of (server s))) (rest : List ℕ)
    → Standing input first hops (some before) f (written ed (server s) ++ rest) → length hops < 32 → Sound f
    → ServerInRange s → KeepsUp f s → ServerInRange before → (ServerInRange (join before s) → ⊥)
    → OnlyText input (refused_text 9 (length hops + 2))
unfolding number
joined_out_of_range {before = before} {f = f} ed s has rest here short c ranged slow earlier out =
    refused_beside ed s has rest here short c ranged {code = 9}
    (join_decides f (some before) (written ed (server s) ++ rest) (read ed s has rest here short c ranged)
    (rw (holds ed s has rest here short c ranged) (port_clear s c ranged slow))
    (rw (holds ed s has rest here short c ranged)
    (refused_then (accepted (clear_or (λ r h. h.1 earlier) (λ r h. h.1 ranged)) refl)
    (line_hit LARGE (join before s, refl, out))))
    (λ e. omega arith))
    (λ e. omega arith)
