-- What the steps of a walk say: the servers joined, the hop at a server, and what is left behind a profile.
-- Assumes nothing.
use mathlib.Core.Path.{◌≡◌, refl, ◌∙◌, ap, subst}
use mathlib.Core.Logic.{◌≢◌}
use mathlib.Core.List.{List}
use Prim.Native.Nat.{ℕ, zero, suc, ◌-◌, ◌≤◌}
use native.Mathlib.Decide.{ℕ_discrete}
use native.Mathlib.Omega.{arith}
use lib.Dec.{lit≤}
use lib.ListN.{length, take, drop, length-drop}
use lib.Seq.{take_all}
use Rattle.meaning.specs.Curve.{curve_of, list_of}
use Rattle.meaning.specs.Server.{Server, Behind}
use Rattle.meaning.specs.Refusal.{Clear, Verdict, accepted, TooLarge}
use Rattle.meaning.specs.ServerQuestions.{ServerInRange, port_lines, passing, JoinOutcome, HopOutcome, HopPartOutcome}
use Rattle.meaning.specs.Profile.{profile_of, bytes_taken, server_in}
use Rattle.meaning.specs.Route.{IsServer, due_lines, hop_lines}
use Rattle.meaning.proofs.Outcome.Outcomes.{clear_or, whole_list}
use Rattle.meaning.proofs.Outcome.Answers.{clear_list, code_zero, fits_few, read_back, AnsweredList, answered_list, outcome_length}
use Rattle.meaning.proofs.Outcome.Demands.{answered_join}
use Rattle.meaning.proofs.Server.BothKinds.{behind_unique}
use Rattle.meaning.proofs.Route.BackToBack.{first_length}
use Rattle.meaning.proofs.Route.Line.{JoinedInRange}
use Rattle.meaning.proofs.Route.Winning.{reading_decides, join_decides, pass_decides}
use Rattle.meaning.proofs.Route.Codes.{join_code, roomy}
use Rattle.std.specs.Prelude.{Result, Ok, Err}
use Rattle.checks.specs.declared.refusal.Refusal.{Refusal}
use Rattle.settle.specs.declared.part.Part.{Part}
use Rattle.operations.specs.declared.hops.Hop.{Hop}
use Rattle.operations.specs.Told as of_hops
use Rattle.routes.specs.Told.{HopTold}
use Rattle.routes.specs.Cited.{FirstEnd, ServerRead, joined_after, JoinTo, HopAt, unread, asked, Stepping, Stepped}

-- ---- Joining.

-- the first one by itself,
pub join_first : {passed : ℕ} (before : Server) {s : Server} → passed ≡ 0 → JoinTo passed before s 0 s
unfolding joined_after
join_first before e = rw e (record { verdict = accepted (λ r h. h) refl; is = λ _. refl })

-- any other as it is answered
pub join_next :
    (passed : ℕ) {before s : Server} {code : ℕ} {joined : Server}
    → (passed ≡ 0 → ⊥) → JoinOutcome before s code joined → JoinTo passed before s code joined
unfolding joined_after
join_next zero more o = absurd (more refl)
join_next (suc passed) {before} {s} {code} {joined} more o =
    record { verdict = join_code before s joined o; is = λ e. (answered_join before s (rw e at o)).definition }

pub ruleset join_laws = (join_first, join_next)

-- ---- The hop at a server.

module _ {rest : List ℕ} {told : ℕ} {s : Server} (read : ServerRead rest told s) where
  -- it is not read,
  pub hop_unread :
      {f after : List ℕ} {count backlog delay : ℕ} {through : Server} → (told ≡ 0 → ⊥) → length after ≡ 128
      → HopAt rest f after told count backlog delay through
  hop_unread other long = unread read.verdict other long

  -- or it is
  pub hop_asked :
      {f lent after : List ℕ} {code count backlog delay : ℕ} {through : Server} → told ≡ 0 → length lent ≡ 128
      → HopOutcome f s lent after code count backlog delay through
      → HopAt rest f after code count backlog delay through
  hop_asked e long o = asked _ long ((code_zero read.verdict).0 e) (rw (read.told e) at o)

-- a hop into a part that is all of a list is a hop into the list
whole_hop :
    {f lent after : List ℕ} {s : Server} {at room code count backlog delay : ℕ} {through : Server} → at ≡ 0 → room ≡ length lent
    → HopPartOutcome f s at room lent after code count backlog delay through
    → HopOutcome f s lent after code count backlog delay through
whole_hop {f} {s = s} start end o = record { curve = whole_list (passing f s) (rw (start, end) at o.curve); figures = o.figures }

-- so what the hop answers is what comes of the server that stands there
pub hop_passed :
    {rest : List ℕ} {s : Server} → ServerRead rest 0 s
    → (f lent after : List ℕ) {part : Part} → part.at ≡ 0 → part.room ≡ length lent → length lent ≡ 128
    → (answer : Result Hop Refusal) → of_hops.HopTold f s part lent after answer → HopTold rest f after answer
hop_passed read f lent after start end long (Ok hop) o = hop_asked read refl long (whole_hop start end o)
hop_passed read f lent after start end long (Err r) o = hop_asked read refl long (whole_hop start end o)

-- ---- The hop with the servers before it.

-- servers joined in range, in the words of the laws
in_range : (passed : ℕ) (before : Server) → (1 ≤ passed → ServerInRange before) → JoinedInRange (joined_after passed before)
unfolding joined_after
in_range zero before h = tt
in_range (suc passed) before h = h (omega arith)

module _ (rest : List ℕ) {f : List ℕ} (after : List ℕ) {passed : ℕ} {joined : Server} (w : Stepping f passed joined) where
  -- the list of the curve comes out even
  listed : list_of (curve_of f) ≡ f
  listed = clear_list f w.taken

  -- a hop that is refused
  refused_step :
      {code : ℕ} {all : Server} → length after ≡ 128 → code ≢ 0
      → Verdict (hop_lines (curve_of f) (joined_after passed joined) rest) code → Stepped f passed joined rest after code 0 0 0 all
  refused_step long nonzero v =
      record {
        verdict = v;
        right = λ z. absurd (nonzero z);
        behind = λ z. absurd (nonzero z);
        list = λ z. absurd (nonzero z);
        few = lit≤ tt;
        is_joined = λ z. absurd (nonzero z);
        long = long;
      }

  -- it is refused before it is joined,
  pub step_refused :
      {code count backlog delay : ℕ} {s all : Server} → HopAt rest f after code count backlog delay s → (code ≡ 0 → ⊥)
      → Stepped f passed joined rest after code 0 0 0 all
  unfolding passing
  step_refused (unread v other long) nonzero =
      refused_step long nonzero
      (reading_decides (curve_of f) (joined_after passed joined) rest (rw listed w.taken) v nonzero)
  step_refused (asked lent long clear o) nonzero =
      refused_step (outcome_length o.curve ∙ long) nonzero
      (pass_decides (curve_of f) (joined_after passed joined) rest clear (in_range passed joined w.ranged)
      (rw listed (roomy o.curve (omega (arith, long)))) nonzero)

  -- A hop that is answered, with what comes of joining:
  module _
      {lent : List ℕ} {count backlog delay : ℕ} {s : Server} {join_code : ℕ} {all : Server}
      (clear : Clear (due_lines IsServer rest))
      (o : HopOutcome f (server_in (profile_of rest)) lent after 0 count backlog delay s) (j : JoinTo passed joined s join_code all)
    where
      -- joining is asked of the server that stands there
      joins : JoinTo passed joined (server_in (profile_of rest)) join_code all
      joins = rw (o.figures.server_is refl) at j

      -- the curve behind it is answered as a list
      list : AnsweredList (passing f (server_in (profile_of rest))) lent after count (read_back after count)
      list = answered_list o.curve

      -- the curve passes it
      port : Clear (port_lines (list_of (curve_of f)) (server_in (profile_of rest)))
      unfolding passing
      port = rw listed list.operands_clear

      -- and is behind it
      behind_there : Behind (curve_of f) (server_in (profile_of rest)) (curve_of (read_back after count))
      unfolding passing
      behind_there = list.right

      -- joining decides
      join_verdict : Verdict (hop_lines (curve_of f) (joined_after passed joined) rest) join_code
      join_verdict =
          elim (ℕ_discrete join_code 0) [
            | yes e ↦
                accepted
                (clear_or (clear_or (clear_or clear port) ((code_zero joins.verdict).0 e))
                (λ r h. list.fits (subst TooLarge (behind_unique h.1.1 behind_there) h.1.2)))
                e
            | no e ↦ join_decides (curve_of f) (joined_after passed joined) rest clear port joins.verdict e
          ]

      -- the hop is as joining decides
      answered_step : length lent ≡ 128 → Stepped f passed joined rest after join_code count backlog delay all
      answered_step long =
          record {
            verdict = join_verdict;
            right = λ _. record { backlog_is = o.figures.backlog_is refl; delay_is = o.figures.delay_is refl };
            behind = λ _. behind_there;
            list = λ _. list.numbers;
            few = omega (arith, list.count_is, fits_few list.fits);
            is_joined = λ e. joins.is e;
            long = outcome_length o.curve ∙ long;
          }

  -- or it is answered, and joining decides
  pub step_joined :
      {code count backlog delay : ℕ} {s : Server} {join_code : ℕ} {all : Server}
      → HopAt rest f after code count backlog delay s → code ≡ 0 → JoinTo passed joined s join_code all
      → Stepped f passed joined rest after join_code count backlog delay all
  step_joined (unread v other long) answered j = absurd (other answered)
  step_joined (asked lent long clear o) answered j = answered_step clear (rw answered at o) j long

  -- where joining refuses, nothing of the hop is told
  pub step_unjoined :
      {count backlog delay : ℕ} {s : Server} {join_code : ℕ} {all none : Server}
      → HopAt rest f after 0 count backlog delay s → JoinTo passed joined s join_code all → (join_code ≡ 0 → ⊥)
      → Stepped f passed joined rest after join_code 0 0 0 none
  step_unjoined h j nonzero =
      let step = step_joined h refl j in
      refused_step step.long nonzero step.verdict

-- ---- What is left behind a profile.

-- what is left of a list from a place on is lent
pub rest_is : (l : List ℕ) (at : ℕ) → take (length l - at) (drop at l) ≡ drop at l
rest_is l at = take_all (length l - at) (drop at l) (omega (arith, length-drop at l))

-- a first file whose bytes are all there ends behind them
pub whole_end : {l : List ℕ} {end : ℕ} → FirstEnd l end → bytes_taken l ≤ length l → end ≡ bytes_taken l
whole_end {l} first whole = first.lent ∙ ap length first.is ∙ first_length l whole
