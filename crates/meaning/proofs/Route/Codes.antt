-- From the codes of the operations to what is refused at a place of the route. The reader's code counts first, then that of the
-- curve with the server, then that of joining, then that of the curve behind: in this order the first code that is not 0 is the
-- smallest number of all. Where they are all 0 the way goes on.
-- Assumes nothing.
use mathlib.Core.Path.{◌≡◌, refl, ◌∙◌, ap, subst}
use mathlib.Core.Logic.{inl, inr, ◌≢◌}
use mathlib.Core.Option.{Option, none, some}
use mathlib.Core.List.{List, [], ◌++◌}
use Prim.Native.Nat.{ℕ, ◌+◌, ◌*◌, ◌≤◌, ◌<◌}
use native.Mathlib.Omega.{arith}
use lib.ListN.{length, drop, replicate, length-replicate}
use Rattle.meaning.specs.Curve.{Bucket, width, curve_of, list_of}
use Rattle.meaning.specs.Server.{Server}
use Rattle.meaning.specs.Refusal.{LARGE, ROOM, number, Lines, ◌when◌, ◌or◌, Clear, Verdict, accepted, rejected, TooLarge, Question, all_lines, Outcome}
use Rattle.meaning.specs.ServerQuestions.{port_lines, passing, BacklogOutcome, DelayOutcome, JoinOutcome, ServerOutcome}
use Rattle.meaning.specs.Profile.{curve_kind, Profile, kind_in, profile_of, bytes_taken, file_lines, buckets_of, server_in, Reading, ReadOutcome}
use Rattle.meaning.specs.Route.{first_file, IsCurve, IsServer, due_lines, join_lines, joined_with, Figures, hop_text, refused_text, Route}
use Rattle.meaning.proofs.Lists.{list_length, over_start}
use Rattle.meaning.proofs.Outcome.Outcomes.{number_positive, From, from_or, clear_or}
use Rattle.meaning.proofs.Outcome.Answers.{code_zero, fits_few, read_back, answered_list, figure_answered}
use Rattle.meaning.proofs.Outcome.Demands.{answered_join}
use Rattle.meaning.proofs.Outcome.EveryInput.{Decided, decide_too_large}
use Rattle.meaning.proofs.Profile.Files.{held_few, held_server}
use Rattle.meaning.proofs.Profile.Outcomes.{OnlyRefused, only_read, only_refused, read_file}
use Rattle.meaning.proofs.Profile.Decided.{file_decided, read_has_outcome}
use Rattle.meaning.proofs.Server.BothKinds.{behind_unique}
use Rattle.meaning.proofs.Route.BackToBack.{same_start}
use Rattle.meaning.proofs.Route.Line.{sofar_in_range}
use Rattle.meaning.proofs.Route.Winning.{server_file_decides, curve_file_decides, reading_decides, port_decides, join_decides, behind_decides}
use Rattle.meaning.proofs.Route.Steps.{Going, ServerDue, server_at, going_stops, going_hop}

-- ---- Reading.

-- the reader's code is that of the file's lines, where the list has room for the buckets
read_code :
    {file before after : List ℕ} {x : Reading} → ReadOutcome file before after x
    → length (list_of (buckets_of (profile_of file))) ≤ length before → Verdict (file_lines file) x.code
read_code {file} {before} {after} {x} o room = by_lines (file_decided file)
  where
    by_lines : Decided (file_lines file) → Verdict (file_lines file) x.code
    by_lines (code, rejected r w e) =
        rw ((only_refused (omega (arith, e, number_positive r)) (rejected r w e)).whatever_list o).code_same (rejected r w e)
    by_lines (code, accepted clear e) = accepted clear ((only_read file clear).with_room room o).code_same

-- a file that is refused whatever list is lent is refused by its lines
pub refused_lines : {file : List ℕ} {code : ℕ} → OnlyRefused file code → Verdict (file_lines file) code
refused_lines {file} known =
    let lent : List ℕ = replicate (width * 64) 0 in
    let read = read_has_outcome file lent in
    rw (known.whatever_list read.outcome).code_same at
    (read_code read.outcome
    (omega (arith, length-replicate {A = ℕ} (width * 64) 0, list_length (buckets_of (profile_of file)), held_few file)))

module _ (input : List ℕ) where
  module _ {before after : List ℕ} {x : Reading} (o : ReadOutcome (first_file input) before after x) where
    -- where a server is due and no curve stands there, the reader's code decides, whatever list is lent,
    pub server_code : kind_in input ≢ curve_kind → Verdict (due_lines IsServer input) x.code
    server_code kind =
        server_file_decides input
        (read_code o (rw ((same_start input).profile_same ∙ held_server input kind) (omega (arith, list_length [])))) kind

    -- and so it does where the curve is due and one stands there, with room for 64 buckets
    pub curve_code : kind_in input ≡ curve_kind → width * 64 ≤ length before → Verdict (due_lines IsCurve input) x.code
    curve_code kind room =
        curve_file_decides input
        (read_code o (omega (arith, list_length (buckets_of (profile_of (first_file input))), held_few (first_file input)))) kind

    module _ (answered : x.code ≡ 0) where
      -- the server that is read is the one that stands there,
      pub server_told : x.server ≡ server_in (profile_of input)
      server_told = (o.told.accepted answered).2 ∙ ap server_in (same_start input).profile_same

      -- and the list that is read is the curve's
      pub curve_told : read_back after x.count ≡ list_of (buckets_of (profile_of input))
      curve_told =
          let f = buckets_of (profile_of (first_file input)) in
          let read = (read_file o answered).told in
          let size : width * x.count ≡ length (list_of f) = omega (arith, read.count_same, list_length f) in
          rw (size, read.after_same)
          (over_start (list_of f) before ∙ ap (λ (p : Profile). list_of (buckets_of p)) (same_start input).profile_same)

-- ---- Joining.

-- the code of joining is that of its lines
pub join_code :
    (s next : Server) {code : ℕ} (joined : Server) → JoinOutcome s next code joined → Verdict (join_lines (some s) next) code
unfolding JoinOutcome
join_code s next joined (ServerOutcome.refused v e) = rejected v.why v.wins v.code_is
join_code s next joined (ServerOutcome.answered clear e x) = accepted clear e

-- A server is joined with those before it: the first one is itself, any other is answered.
pub data JoinedTo : Option Server → Server → Server → Type 0 where
  alone : {s : Server} → JoinedTo none s s
  answers : {before s joined : Server} → JoinOutcome before s 0 joined → JoinedTo (some before) s joined

-- no line of joining holds then, and it is the joined server
joined_to :
    {before : Option Server} {s joined : Server} → JoinedTo before s joined
    → Clear (join_lines before s) × (joined ≡ joined_with before s)
joined_to alone = (λ r h. h, refl)
joined_to (answers {before = before} {s = s} {joined = joined} o) =
    ((code_zero (join_code before s joined o)).0 refl, (answered_join before s o).definition)

-- ---- A list with room for 64 buckets.

-- with such a list lent ROOM is never the code
pub roomy :
    {ask : Question} {before after : List ℕ} {code count : ℕ} → Outcome ask before after code count → width * 64 ≤ length before
    → Verdict (ask.operands or LARGE when ((f : List Bucket) × ask.Answer f × TooLarge f)) code
unfolding number
roomy {ask} {before} {after} {code} {count} (Outcome.answered v) room =
    accepted (clear_or (λ r h. v.clear r (inl h)) (λ r h. v.clear r (inr (inl h)))) v.code_is
roomy {ask} {before} {after} {code} {count} (Outcome.refused v) room = by_line v.wins.holds
  where
    exact : Lines
    exact = LARGE when ((f : List Bucket) × ask.Answer f × TooLarge f)

    others : From (number v.why) (ask.operands or exact)
    others = from_or (λ r h. v.wins.smallest r (inl h)) (λ r h. v.wins.smallest r (inr (inl h)))

    never : v.why ≡ ROOM → (f : List Bucket) → ask.Answer f → length before < length (list_of f) → ⊥
    never e f right short =
        let last : number v.why ≡ 10 = ap number e in
        elim (decide_too_large f) [
          | yes large ↦ omega (arith, v.wins.smallest LARGE (inr (inl (refl, (f, right, large)))))
          | no fits ↦ omega (arith, list_length f, fits_few fits)
        ]

    by_line : all_lines ask (length before) v.why → Verdict (ask.operands or exact) code
    by_line (inl h) = rejected v.why (record { holds = inl h; smallest = others }) v.code_is
    by_line (inr (inl h)) = rejected v.why (record { holds = inr h; smallest = others }) v.code_is
    by_line (inr (inr (e, (f, right, short)))) = absurd (never e f right short)

-- ---- At a server.

module _
    {input first printed : List ℕ} {n : ℕ} {joined : Option Server} {f : List ℕ} {at : ℕ}
    (go : Going input first printed n joined f at) (short : n < 32) (due : ServerDue input at joined)
  where
    -- the reader's code: a curve there, bytes that are missing, a server out of range
    pub read_refused :
        {code : ℕ} → Verdict (due_lines IsServer (drop at input)) code → code ≢ 0 → Route input (refused_text code (n + 2))
    read_refused v nonzero =
        going_stops go short due
        (reading_decides (curve_of f) joined (drop at input) (rw go.list_is go.taken) v nonzero) nonzero

    -- A server is read.
    module _ (read : Clear (due_lines IsServer (drop at input))) where
      -- the code of the curve with it, as of backlog, delay and behind: the last rate above R
      pub port_refused :
          {code : ℕ} → Verdict (port_lines f (server_at input at)) code → code ≢ 0 → Route input (refused_text code (n + 2))
      port_refused v nonzero =
          going_stops go short due
          (port_decides (curve_of f) joined (drop at input) read
          (sofar_in_range (curve_of first) go.hops joined (curve_of f) go.sofar)
          (rw go.list_is v) nonzero)
          nonzero

      -- the code of joining it with those before it, where the curve passes it
      pub join_refused :
          {code : ℕ} → Clear (port_lines f (server_at input at)) → Verdict (join_lines joined (server_at input at)) code → code ≢ 0
          → Route input (refused_text code (n + 2))
      join_refused port v nonzero =
          going_stops go short due
          (join_decides (curve_of f) joined (drop at input) read (rw go.list_is port) v nonzero) nonzero

      -- the code of behind, where it joins those before it: the last rate above R, or the curve behind too large
      pub behind_refused :
          {lent after : List ℕ} {code count : ℕ} → Clear (join_lines joined (server_at input at))
          → Outcome (passing f (server_at input at)) lent after code count → width * 64 ≤ length lent → code ≢ 0
          → Route input (refused_text code (n + 2))
      unfolding passing
      behind_refused joins o room nonzero =
          going_stops go short due
          (behind_decides (curve_of f) joined (drop at input) read joins (rw go.list_is (roomy o room))) nonzero

      -- All are answered: the way goes on behind the server.
      pub hop_answered :
          (x : Figures) {j : Server} {lent after : List ℕ} {count : ℕ}
          → JoinedTo joined (server_at input at) j
          → BacklogOutcome f (server_at input at) 0 x.backlog → DelayOutcome f (server_at input at) 0 x.delay
          → Outcome (passing f (server_at input at)) lent after 0 count
          → Going input first (printed ++ hop_text (n + 1) x) (n + 1) (some j) (read_back after count)
          (at + bytes_taken (drop at input))
      unfolding BacklogOutcome DelayOutcome passing
      hop_answered x {j} {after = after} {count = count} joins b d o =
          let list = answered_list o in
          let known = joined_to joins in
          rw known.1
          (rw list.numbers at
          (going_hop go short due x (curve_of (read_back after count))
          (clear_or (clear_or (clear_or read (rw go.list_is list.operands_clear)) known.0)
          (λ r h. list.fits (subst TooLarge (behind_unique h.1.1 list.right) h.1.2)))
          (record { backlog_is = (figure_answered b).1; delay_is = (figure_answered d).1 })
          list.right))
