-- Every input has an outcome: each line of the table can be decided of its operands, and where none holds there is an exact
-- answer, whose size can be compared. So no contract is empty; that none leaves a second outcome stands in Answers
-- and Demands.
-- Assumes nothing.
use mathlib.Core.Path.{refl, subst, sym, ◌∙◌}
use mathlib.Core.Logic.Dec
use mathlib.Core.Logic.{◌⊎◌, inl, inr, ⊎_elim}
use mathlib.Core.List.{List, [], ◌∷◌}
use Prim.Native.Nat.{ℕ, suc, ◌%◌, ◌^◌, ◌≤◌}
use native.Mathlib.Nat.{mul-le-mul}
use native.Mathlib.Decide.{dec_le, ℕ_discrete}
use native.Mathlib.Omega.{arith}
use lib.ListN.{length, length-append}
use lib.Dec.{lit≤}
use Rattle.meaning.specs.Curve.{Bucket, buckets, width, curve_of, list_of, reads, value, NormalOf, link_bucket}
use Rattle.meaning.specs.Server.{Server, rated, pure_delay, no_server, join, last}
use Rattle.meaning.specs.CurveQuestions.{normalising, lowering, summing, shaping, ValueOutcome, BurstOutcome}
use Rattle.meaning.specs.Refusal.{Refusal, LIST, COUNT, RANGE, FORM, UNBOUNDED, LARGE, number, Lines, ◌when◌, ◌or◌, Clear, Verdict, accepted, rejected, TooLarge, list_lines, curve_lines, Question, Outcome, part, PartOutcome, FigureOutcome, BytesQuestion, BytesOutcome}
use Rattle.meaning.specs.ServerQuestions.{ServerInRange, server_lines, Outruns, port_lines, passing, BacklogOutcome, DelayOutcome, HopFigures, HopOutcome, HopPartOutcome, ServerOutcome, JoinOutcome, ResidualOutcome}
use Rattle.meaning.specs.Computed.{earlier, normal, behind, backlog, delay, residual}
use Rattle.meaning.proofs.Order.{le_or_lt}
use Rattle.meaning.proofs.Curve.Reads.{reads_at_zero}
use Rattle.meaning.proofs.Curve.Unique.{normal_of_unique}
use Rattle.meaning.proofs.Outcome.Stable.{decide_all_in_range, decide_server, decide_normal}
use Rattle.meaning.proofs.Curve.Normal.{normal_is}
use Rattle.meaning.proofs.Curve.Curves.{pairs_length}
use Rattle.meaning.proofs.Server.BothKinds.{KeepsUp, keeps_up, behind_is, backlog_is, SomeRate, ranged_rate, delay_is, left_unique}
use Rattle.meaning.proofs.Server.Joining.{residual_is}
use Rattle.meaning.proofs.Outcome.Answers.{raw_some, clear_form, both_form, list_up_to, curve_up_to, in_part}
use Rattle.meaning.proofs.Outcome.Demands.{hop_refused, hop_answered, port_form, port_server, port_bounded, single_behind, server_up_to, port_up_to, server_refused}
use Rattle.meaning.proofs.Outcome.Outcomes.{number_positive, Single, UpTo, up_to_or, up_to_when, line_hit, line_miss, clear_or, refused_then, verdict_or, refusal, refuse, too_large, no_room, written_out}
use Rattle.meaning.proofs.Outcome.Bytes.{refuse_bytes, no_room_bytes, filled_bytes}

-- ---- What can be decided.

-- A test for refusals over these lines comes out.
abbrev pub Decided : Lines → Type 0
Decided lines = (code : ℕ) × Verdict lines code

-- that of one line does,
pub decide_line : (r : Refusal) {P : Type 0} → Dec P → Decided (r when P)
decide_line r (yes x) = (number r, line_hit r x)
decide_line r (no x) = (0, line_miss x)

-- and two tests together
pub decide_or : {a b : Lines} → Decided a → Decided b → Decided (a or b)
decide_or (x, v) (y, w) = (earlier x y, verdict_or v w)

-- either of two can be decided,
pub decide_either : {P Q : Type 0} → Dec P → Dec Q → Dec (P ⊎ Q)
decide_either (yes x) q = yes (inl x)
decide_either (no x) (yes y) = yes (inr y)
decide_either (no x) (no y) = no (⊎_elim x y)

-- and whether an answer is too large
pub decide_too_large : (f : List Bucket) → Dec (TooLarge f)
decide_too_large f = decide_either (dec_le 65 (length f)) (Dec.not (decide_all_in_range f))

-- ---- The lines of operands.

-- a test of a list of buckets comes out,
list_decided : (numbers : ℕ) (l : List ℕ) (f : List Bucket) → Decided (list_lines numbers l f)
list_decided numbers l f =
    decide_or (decide_or (decide_line LIST (decide_either (ℕ_discrete (length l) 0) (Dec.not (ℕ_discrete (length l % numbers) 0))))
    (decide_line COUNT (dec_le 65 (length f))))
    (decide_line RANGE (Dec.not (decide_all_in_range f)))

-- of a curve,
pub curve_decided : (f : List ℕ) → Decided (curve_lines f)
curve_decided f = decide_or (list_decided width f (curve_of f)) (decide_line FORM (Dec.not (decide_normal (curve_of f))))

-- of a server,
pub server_decided : (s : Server) → Decided (server_lines s)
server_decided s = decide_line RANGE (Dec.not (decide_server s))

-- and of a curve with a server and a bound that the last rate breaks
pub port_decided :
    (f : List ℕ) (s : Server) {Broken : Type 0} → Dec Broken
    → Decided (curve_lines f or server_lines s or UNBOUNDED when Broken)
port_decided f s broken = decide_or (decide_or (curve_decided f) (server_decided s)) (decide_line UNBOUNDED broken)

-- ---- Outcomes.

-- There is what is lent afterwards, a code and a count.
pub record HasLent (Of : List ℕ → ℕ → ℕ → Type 0) : Type 0 where
  pub after : List ℕ
  pub code : ℕ
  pub count : ℕ
  pub outcome : Of after code count

-- There is an outcome, over this lent list,
abbrev pub HasOutcome : Question → List ℕ → Type 0
HasOutcome ask before = HasLent (Outcome ask before)

-- over this part of a table,
abbrev pub HasPart : Question → ℕ → ℕ → List ℕ → Type 0
HasPart ask at room before = HasLent (PartOutcome ask at room before)

-- or over this lent buffer.
abbrev pub HasBytes : BytesQuestion → List ℕ → Type 0
HasBytes ask before = HasLent (BytesOutcome ask before)

-- an outcome that is at hand: of a curve,
so_curve :
    {ask : Question} {before after : List ℕ} {code count : ℕ} → Outcome ask before after code count → HasOutcome ask before
so_curve o = record { after = _; code = _; count = _; outcome = o }

-- and of bytes
so_bytes :
    {ask : BytesQuestion} {before after : List ℕ} {code count : ℕ} → BytesOutcome ask before after code count
    → HasBytes ask before
so_bytes o = record { after = _; code = _; count = _; outcome = o }

-- where every list has one, so has every part of a table
pub part_outcome :
    {ask : Question} {at room : ℕ} {before : List ℕ} → HasOutcome ask (part at room before) → HasPart ask at room before
part_outcome h = record { after = _; code = h.code; count = h.count; outcome = in_part h.outcome }

-- There is a code and a figure.
pub record HasFigure (FigureOf : ℕ → ℕ → Type 0) : Type 0 where
  pub code : ℕ
  pub figure : ℕ
  pub outcome : FigureOf code figure

-- There is a code and a server.
pub record HasServer (ServerOf : ℕ → Server → Type 0) : Type 0 where
  pub code : ℕ
  pub server : Server
  pub outcome : ServerOf code server

-- There is what a hop with this code reports.
record HasReport (f : List ℕ) (s : Server) (code : ℕ) : Type 0 where
  backlog : ℕ
  delay : ℕ
  through : Server
  figures : HopFigures f s code backlog delay through

-- There is what is lent after a hop, its code and count, and what it reports.
pub record HasHopOf (Of : List ℕ → ℕ → ℕ → ℕ → ℕ → Server → Type 0) : Type 0 where
  pub after : List ℕ
  pub code : ℕ
  pub count : ℕ
  pub backlog : ℕ
  pub delay : ℕ
  pub through : Server
  pub outcome : Of after code count backlog delay through

-- There is an outcome of a hop, over this lent list,
abbrev pub HasHop : List ℕ → Server → List ℕ → Type 0
HasHop f s before = HasHopOf (HopOutcome f s before)

-- or over this part of a table.
abbrev pub HasHopPart : List ℕ → Server → ℕ → ℕ → List ℕ → Type 0
HasHopPart f s at room before = HasHopOf (HopPartOutcome f s at room before)

-- A question whose operands can be decided, and which has a single exact answer where none is refused, has an outcome.
pub curve_outcome :
    (ask : Question) (before : List ℕ)
    → Decided ask.operands → UpTo 8 ask.operands → Single ask.Answer
    → (Clear ask.operands → (f : List Bucket) × ask.Answer f) → HasOutcome ask before
curve_outcome ask before (code, rejected r w e) upto one exact =
    so_curve (refuse ask before upto (omega (arith, e, number_positive r)) (rejected r w e))
curve_outcome ask before (code, accepted clear e) upto one exact =
    let f = (exact clear).0 in
    let right = (exact clear).1 in
    elim (decide_too_large f) [
      | yes large ↦ so_curve (too_large ask before clear right large)
      | no fits ↦
          elim (le_or_lt (length (list_of f)) (length before)) [
            | inl room ↦ so_curve (written_out ask before clear right one fits room)
            | inr short ↦ so_curve (no_room ask before clear right one fits short)
          ]
    ]

-- The same of a figure,
figure_outcome :
    {lines : Lines} {Figure : ℕ → Type 0} → Decided lines → (Clear lines → (n : ℕ) × Figure n)
    → HasFigure (FigureOutcome lines Figure)
figure_outcome (code, rejected r w e) exact =
    record {
      code = code;
      figure = 0;
      outcome = FigureOutcome.refused (refusal [] (omega (arith, e, number_positive r)) (rejected r w e));
    }
figure_outcome (code, accepted clear e) exact =
    let x = exact clear in
    record { code = 0; figure = x.0; outcome = FigureOutcome.answered clear refl x.1 }

-- of bytes,
pub bytes_outcome :
    (ask : BytesQuestion) (before : List ℕ)
    → Decided ask.operands → UpTo 9 ask.operands → Single ask.Answer
    → (Clear ask.operands → (bytes : List ℕ) × ask.Answer bytes) → HasBytes ask before
bytes_outcome ask before (code, rejected r w e) upto one exact =
    so_bytes (refuse_bytes ask before upto (omega (arith, e, number_positive r)) (rejected r w e))
bytes_outcome ask before (code, accepted clear e) upto one exact =
    let right = (exact clear).1 in
    elim (le_or_lt (length (exact clear).0) (length before)) [
      | inl room ↦ so_bytes (filled_bytes ask before clear right one room)
      | inr short ↦ so_bytes (no_room_bytes ask before clear right short)
    ]

-- and of a server
server_outcome :
    {operands : Lines} {Answer : Server → Type 0} → Decided operands → UpTo 8 operands → Single Answer
    → (Clear operands → (s : Server) × Answer s) → HasServer (ServerOutcome operands Answer)
unfolding number
server_outcome (code, rejected r w e) upto one exact =
    record {
      code = code;
      server = no_server;
      outcome = server_refused upto (omega (arith, e, number_positive r)) (rejected r w e);
    }
server_outcome (code, accepted clear e) upto one exact =
    let s = (exact clear).0 in
    let right = (exact clear).1 in
    elim (decide_server s) [
      | yes fits ↦
          record {
            code = 0;
            server = s;
            outcome =
                ServerOutcome.answered
                (clear_or clear (λ r h. h.1.2 (subst ServerInRange (one s h.1.0 right h.1.1) fits))) refl right;
          }
      | no out ↦
          record {
            code = 9;
            server = no_server;
            outcome =
                ServerOutcome.refused
                (refusal [] (lit≤ tt) (refused_then (accepted clear refl) (line_hit LARGE (s, right, out)))) refl;
          }
    ]

-- ---- The operations over curves.

-- A question that the normal form of some raw buckets answers has an outcome.
normal_outcome :
    {operands : Lines} {raw : List Bucket} (before : List ℕ)
    → Decided operands → UpTo 8 operands → (Clear operands → 1 ≤ length raw)
    → HasOutcome (record { operands = operands; Answer = NormalOf raw }) before
normal_outcome {raw = raw} before decided upto filled =
    curve_outcome _ before decided upto (λ f g. normal_of_unique) (λ clear. (normal raw, normal_is raw (filled clear)))

-- normalise has an outcome over every lent list,
pub normalise_has_outcome : (raw before : List ℕ) → HasOutcome (normalising raw) before
unfolding normalising
normalise_has_outcome raw before = normal_outcome before (list_decided 2 raw (buckets raw)) (list_up_to 2 raw (buckets raw)) (raw_some raw)

module _ (f g before : List ℕ) where
  -- lower has,
  pub lower_has_outcome : HasOutcome (lowering f g) before
  unfolding lowering
  lower_has_outcome =
      normal_outcome before (decide_or (curve_decided f) (curve_decided g)) (up_to_or (curve_up_to f) (curve_up_to g))
      (λ clear. omega (arith, (both_form f g clear).0.some, length-append (curve_of f) (curve_of g)))

  -- sum has,
  pub sum_has_outcome : HasOutcome (summing f g) before
  unfolding summing
  sum_has_outcome =
      normal_outcome before (decide_or (curve_decided f) (curve_decided g)) (up_to_or (curve_up_to f) (curve_up_to g))
      (λ clear.
      omega (
        arith,
        pairs_length (curve_of f) (curve_of g),
        mul-le-mul (both_form f g clear).0.some (both_form f g clear).1.some,
      ))

-- and shape has;
pub shape_has_outcome : (f : List ℕ) (d l : ℕ) (before : List ℕ) → HasOutcome (shaping f d l) before
unfolding shaping number
shape_has_outcome f d l before =
    normal_outcome before
    (decide_or (curve_decided f)
    (decide_line RANGE (decide_either (ℕ_discrete d 0) (decide_either (dec_le (2 ^ 20) d) (dec_le (2 ^ 40) l)))))
    (up_to_or (curve_up_to f) (up_to_when RANGE (lit≤ tt)))
    (λ clear. omega (arith, length-append (curve_of f) (link_bucket d l ∷ [])))

-- value has one,
pub value_has_outcome : (f : List ℕ) (t : ℕ) → HasFigure (ValueOutcome f t)
unfolding ValueOutcome
value_has_outcome f t =
    figure_outcome (decide_or (curve_decided f) (decide_line RANGE (dec_le (2 ^ 40) t))) (λ clear. (value (curve_of f) t, refl))

-- and burst has
pub burst_has_outcome : (f : List ℕ) → HasFigure (BurstOutcome f)
unfolding BurstOutcome
burst_has_outcome f =
    figure_outcome (curve_decided f) (λ clear. (reads (curve_of f) 0, reads_at_zero (curve_of f) (clear_form f clear).some))

-- ---- The operations over servers.

-- a curve outruns a server, or it does not
pub decide_outruns : (f : List Bucket) (s : Server) → Dec (Outruns f s)
decide_outruns f (rated s) = dec_le (suc s.rate) (last f).rate
decide_outruns f (pure_delay latency) = no (λ h. h)

module _ (f : List ℕ) (s : Server) where
  -- where no line holds the server keeps up
  bounded : Dec (Outruns (curve_of f) s)
  bounded = decide_outruns (curve_of f) s

  last_bounded : Clear (port_lines f s) → KeepsUp (curve_of f) s
  last_bounded clear = keeps_up (curve_of f) s (port_bounded f s clear)

  -- and has a rate, if it is to have one
  has_rate : Clear (port_lines f s) → SomeRate s
  has_rate clear = ranged_rate s (port_server f s clear)

  -- behind has an outcome over every lent list,
  pub behind_has_outcome : (before : List ℕ) → HasOutcome (passing f s) before
  unfolding passing
  behind_has_outcome before =
      curve_outcome (passing f s) before (port_decided f s bounded) (port_up_to f s) (single_behind f s)
      (λ clear. (behind (curve_of f) s, behind_is (curve_of f) s (port_form f s clear) (last_bounded clear)))

  -- backlog has one,
  pub backlog_has_outcome : HasFigure (BacklogOutcome f s)
  unfolding BacklogOutcome
  backlog_has_outcome =
      figure_outcome (port_decided f s bounded)
      (λ clear. (backlog (curve_of f) s, backlog_is (curve_of f) s (port_form f s clear) (last_bounded clear)))

  -- delay has one,
  pub delay_has_outcome : HasFigure (DelayOutcome f s)
  unfolding DelayOutcome
  delay_has_outcome =
      figure_outcome (port_decided f s bounded)
      (λ clear. (delay (curve_of f) s, delay_is s (port_form f s clear) (last_bounded clear) (has_rate clear)))

  -- so a hop has what it reports, whatever the code of behind,
  hop_report : {before after : List ℕ} {code count : ℕ} → Outcome (passing f s) before after code count → HasReport f s code
  unfolding passing
  hop_report (Outcome.refused v) =
      record {
        backlog = 0;
        delay = 0;
        through = no_server;
        figures = hop_refused f s (omega (arith, v.code_is, number_positive v.why));
      }
  hop_report (Outcome.answered v) =
      let clear : Clear (port_lines f s) = λ r h. v.clear r (inl h) in
      record {
        backlog = backlog (curve_of f) s;
        delay = delay (curve_of f) s;
        through = s;
        figures =
            hop_answered f s v.code_is (backlog_is (curve_of f) s (port_form f s clear) (last_bounded clear))
            (delay_is s (port_form f s clear) (last_bounded clear) (has_rate clear));
      }

  -- and an outcome over every lent list
  pub hop_has_outcome : (before : List ℕ) → HasHop f s before
  hop_has_outcome before =
      let o = behind_has_outcome before in
      let report = hop_report o.outcome in
      record {
        after = _;
        code = o.code;
        count = o.count;
        backlog = _;
        delay = _;
        through = _;
        outcome = record { curve = o.outcome; figures = report.figures };
      }

  -- and over every part of a table;
  pub hop_has_part : (at room : ℕ) (before : List ℕ) → HasHopPart f s at room before
  hop_has_part at room before =
      let o = hop_has_outcome (part at room before) in
      record {
        after = _;
        code = o.code;
        count = o.count;
        backlog = o.backlog;
        delay = o.delay;
        through = o.through;
        outcome = record { curve = in_part o.outcome.curve; figures = o.outcome.figures };
      }

-- residual has one,
pub residual_has_outcome : (f : List ℕ) (s : Server) → HasServer (ResidualOutcome f s)
unfolding ResidualOutcome number
residual_has_outcome f (rated s) =
    server_outcome (port_decided f (rated s) (dec_le s.rate (last (curve_of f)).rate)) (port_up_to f (rated s))
    (left_unique (curve_of f) (rated s))
    (λ clear. (rated (residual (curve_of f) s), residual_is (curve_of f) s (port_server f (rated s) clear).rate_some))
residual_has_outcome f (pure_delay latency) =
    server_outcome
    (decide_or (decide_or (curve_decided f) (server_decided (pure_delay latency))) (decide_line RANGE (yes tt)))
    (up_to_or (up_to_or (curve_up_to f) (server_up_to (pure_delay latency))) (up_to_when RANGE (lit≤ tt)))
    (left_unique (curve_of f) (pure_delay latency)) (λ clear. absurd (clear RANGE (inr (refl, tt))))

-- and join has one
pub join_has_outcome : (s next : Server) → HasServer (JoinOutcome s next)
unfolding JoinOutcome
join_has_outcome s next =
    server_outcome (decide_or (server_decided s) (server_decided next)) (up_to_or (server_up_to s) (server_up_to next))
    (λ x y e e'. e ∙ sym e') (λ clear. (join s next, refl))
