-- Through the input, hop by hop: what is known before each server, where the text ends with a refusal, behind each hop, and where the
-- line of the route ends it.
-- Assumes nothing.
use mathlib.Core.Path.{◌≡◌, refl, sym, ◌∙◌, ap, subst}
use mathlib.Core.Bool.{Bool, true, false}
use mathlib.Core.Logic.{◌⊎◌, inl, inr, ◌≢◌}
use mathlib.Core.Option.{Option, none, some}
use mathlib.Core.List.{List, [], ◌++◌}
use Prim.Native.Nat.{ℕ, zero, suc, ◌+◌, ◌-◌, ◌*◌, ◌≤◌, ◌<◌}
use native.Mathlib.Numerals.{add-one}
use native.Mathlib.Omega.{arith}
use lib.Dec.{lit≤}
use lib.ListN.{length, take, drop, length-append, length-drop}
use lib.Seq.{length-take-le, drop-drop}
use mir.Syntax.{w64}
use mir.Val.{Fits}
use Rattle.meaning.specs.Curve.{width, curve_of}
use Rattle.meaning.specs.Server.{Server}
use Rattle.meaning.specs.Refusal.{COUNT, number, FigureOutcome}
use Rattle.meaning.specs.ServerQuestions.{BacklogOutcome, DelayOutcome}
use Rattle.meaning.specs.Profile.{profile_of, bytes_taken, buckets_of}
use Rattle.meaning.specs.Route.{hop_text, route_text, refused_text, Route}
use Rattle.meaning.proofs.Lists.{list_length}
use Rattle.meaning.proofs.Outcome.Answers.{code_zero}
use Rattle.meaning.proofs.Profile.Files.{held_few}
use Rattle.meaning.proofs.Route.BackToBack.{due_curve_whole}
use Rattle.meaning.proofs.Route.Line.{JoinedInRange, sofar_in_range}
use Rattle.meaning.proofs.Route.Text.{route_length}
use Rattle.meaning.proofs.Route.Steps.{Going, ServerDue, bytes_there, none_yet, going_start, going_printed, going_over, going_stops, going_hop, going_answered}
use Rattle.std.specs.Prelude.{Result, Ok, Err}
use Rattle.std.specs.Result.{IsOk}
use Rattle.checks.specs.Table.{code_of}
use Rattle.checks.specs.declared.refusal.Refusal.{Refusal}
use Rattle.checks.proofs.Numbers.{number_some}
use Rattle.routes.specs.Cited.{Room, figures, Due, joined_after, Stepping, Stepped, FirstEnd, Starts}
use Rattle.routes.proofs.Hops.{rest_is, whole_end}

-- ---- The end of the text.

-- for a line that is the rest of the text there is room
line_room : {input : List ℕ} (text line : List ℕ) → Route input (text ++ line) → Room text line
line_room text line route = record { fits = omega (arith, route_length route, length-append text line) }

-- ---- What is known on the way.

-- So many servers are passed, whose lines are the text; the first numbers of `curve` are the list of the curve from the hop before,
-- and what is left of the input, from `at` on, is `rest`. There are 128 numbers for the curve.
pub record Walking
    (input first text : List ℕ) (passed : ℕ) (joined : Server) (curve : List ℕ) (numbers : ℕ) (next rest : List ℕ)
    : Type 0
  where
    pub at : ℕ
    pub going : Going input first text passed (joined_after passed joined) (take numbers curve) at
    pub left : rest ≡ drop at input
    pub few : passed ≤ 32
    pub inside : length text ≤ 1111
    pub numbers_fit : numbers ≤ 128
    pub lent : numbers ≡ length (take numbers curve)
    pub curve_long : length curve ≡ 128
    pub next_long : length next ≡ 128

-- the curve's list has at most 128 numbers,
start_few : {input first : List ℕ} {start : ℕ} {held : List ℕ} → Starts input first start held → length first ≤ 128
start_few {input} w =
    omega (arith, ap length w.list, list_length (buckets_of (profile_of input)), held_few input)

-- its bytes are there,
pub start_inside : {input first : List ℕ} {start : ℕ} {held : List ℕ} → Starts input first start held → start ≤ length input
start_inside {input} w = rw w.taken (due_curve_whole input w.clear)

-- and from it the way starts
pub walk_start :
    {input first : List ℕ} {start : ℕ} {text : List ℕ} {joined : Server} {held next : List ℕ}
    → Starts input first start held → text ≡ [] → length next ≡ 128
    → Walking input first text 0 joined held (length first) next (take (length input - start) (drop start input))
unfolding joined_after
walk_start {input} {first} {start} {held = held} w none_put next_long =
    record {
      at = start;
      left = rest_is input start;
      going =
          rw (none_put, w.holds, w.taken)
          (subst (λ (l : List ℕ). Going input l [] 0 none l (bytes_taken input)) (sym w.list) (going_start input w.clear));
      few = lit≤ tt;
      inside = rw none_put (lit≤ tt);
      numbers_fit = start_few w;
      lent = sym (length-take-le (length first) held (omega (arith, start_few w, w.long)));
      curve_long = w.long;
      next_long = next_long;
    }

-- ---- At a server.

module _
    {input first text : List ℕ} {passed : ℕ} {joined : Server} {curve : List ℕ} {numbers : ℕ} {next rest : List ℕ}
    (w : Walking input first text passed joined curve numbers next rest)
  where
    -- where a server is passed, those joined are
    joined_some : (n : ℕ) → 1 ≤ n → joined_after n joined ≡ some joined
    unfolding joined_after
    joined_some zero h = absurd (omega arith)
    joined_some (suc n) h = refl

    -- so many bytes are left
    left_long : length rest ≡ length input - w.at
    left_long = ap length w.left ∙ length-drop w.at input

    module _ {due : Bool} (d : Due passed rest due) where
      -- ---- The end of the input.

      module _ (ended : due ≡ false) where
        -- some server is passed
        passed_some : 1 ≤ passed
        passed_some = (d.is_not ended).0

        module _
            (code delay_code backlog delay : ℕ)
            (b : BacklogOutcome first joined code backlog) (l : DelayOutcome first joined delay_code delay)
          where
            -- both figures are answered, and the line of the route is what is left;
            ended_so : (code ≡ 0) × (delay_code ≡ 0) × Route input (text ++ route_text (figures backlog delay))
            ended_so =
                going_answered
                (subst (λ (j : Option Server). Going input first text passed j (take numbers curve) w.at)
                (joined_some passed passed_some) w.going)
                (omega (arith, (d.is_not ended).1, left_long)) (figures backlog delay) b l

            pub delay_answered : delay_code ≡ 0
            delay_answered = ended_so.1

            -- with it the text ends,
            pub route_line : {all : List ℕ} → all ≡ text ++ route_text (figures backlog delay) → Route input all
            route_line is = rw is ended_so.2

            -- and there is room for it
            pub route_line_room : Room text (route_text (figures backlog delay))
            route_line_room = line_room text _ ended_so.2

        -- the backlog is answered: what refuses it would refuse the delay too
        pub backlog_answered : (code backlog : ℕ) → BacklogOutcome first joined code backlog → code ≡ 0
        unfolding BacklogOutcome DelayOutcome
        backlog_answered code backlog (FigureOutcome.answered clear e x) = e
        backlog_answered code backlog (FigureOutcome.refused v) =
            (ended_so code code backlog backlog (FigureOutcome.refused v) (FigureOutcome.refused v)).0

      -- ---- Bytes after 32 servers.

      module _ (more : due ≡ true) where
        module _ (all_passed : passed ≡ 32) where
          -- the refusal is the text
          pub over_route : {all : List ℕ} → all ≡ refused_text (number COUNT) 34 → Route input all
          unfolding number
          over_route is = rw is (going_over w.going all_passed (left (d.is_due more)))
            where
              left : (passed ≡ 0) ⊎ (1 ≤ length rest) → w.at < length input
              left (inl none_passed) = absurd (omega arith)
              left (inr h) = omega (arith, left_long)

        -- ---- A server that is refused.

        module _ (fewer : passed ≡ 32 → ⊥) where
          -- fewer than 32 are passed,
          short : passed < 32
          short = omega (arith, fewer, w.going.few)

          -- and another is due
          is_due : ServerDue input w.at (joined_after passed joined)
          unfolding joined_after
          is_due = by_cause (d.is_due more)
            where
              by_cause : (passed ≡ 0) ⊎ (1 ≤ length rest) → ServerDue input w.at (joined_after passed joined)
              by_cause (inl none_passed) = rw none_passed none_yet
              by_cause (inr h) = bytes_there (omega (arith, left_long))

          -- the hop can be asked
          pub step_asked : Stepping (take numbers curve) passed joined
          step_asked =
              record {
                taken = w.going.taken;
                ranged =
                    λ h.
                    subst JoinedInRange (joined_some passed h)
                    (sofar_in_range (curve_of first) w.going.hops (joined_after passed joined) (curve_of (take numbers curve))
                    w.going.sofar);
              }

          module _
              {after : List ℕ} {code count backlog delay : ℕ} {all : Server}
              (h : Stepped (take numbers curve) passed joined rest after code count backlog delay all)
            where
              -- the hop is at what stands there
              there : Stepped (take numbers curve) passed joined (drop w.at input) after code count backlog delay all
              there = rw w.left at h

              -- where it is refused, the refusal is the text
              pub step_route : {put : List ℕ} → code ≢ 0 → put ≡ refused_text code (passed + 2) → Route input put
              step_route nonzero is = rw is (going_stops w.going short is_due there.verdict nonzero)

              -- ---- A hop.

              module _ (answered : code ≡ 0) where
                -- the way goes on behind it,
                next_going :
                    Going input first (text ++ hop_text (passed + 1) (figures backlog delay)) (passed + 1)
                    (joined_after (passed + 1) all) (take (width * count) after) (w.at + bytes_taken (drop w.at input))
                unfolding joined_after
                next_going =
                    rw (add-one, there.is_joined answered, ← there.list answered)
                    (rw add-one at
                    (going_hop w.going short is_due (figures backlog delay) (curve_of (take (width * count) after))
                    ((code_zero there.verdict).0 answered) (there.right answered) (there.behind answered)))

                -- what the text and the line of the hop take
                line_fits : length text + length (hop_text (passed + 1) (figures backlog delay)) ≤ 1111
                line_fits =
                    omega (arith, going_printed next_going, length-append text (hop_text (passed + 1) (figures backlog delay)))

                -- there is room for its line,
                pub next_room : Room text (hop_text (passed + 1) (figures backlog delay))
                next_room = record { fits = omega (arith, line_fits) }

                -- one server fewer may come,
                pub next_less : 32 - (passed + 1) < 32 - passed
                next_less = omega (arith, short)

                -- the curve's numbers can be counted,
                pub next_numbers : Fits w64 (2 * count)
                next_numbers = record { fits = omega (arith, h.few) }

                -- and all is known that was known before
                pub next_walking :
                    {put : List ℕ} {end : ℕ}
                    → put ≡ text ++ hop_text (passed + 1) (figures backlog delay)
                    → FirstEnd rest end
                    → Walking input first put (passed + 1) all after (2 * count) after (take (length rest - end) (drop end rest))
                next_walking {put} {end} is end_there =
                    record {
                      at = w.at + bytes_taken (drop w.at input);
                      left =
                          rest_is rest end ∙ ap (λ (l : List ℕ). drop end l) w.left
                          ∙ ap (λ (n : ℕ). drop n (drop w.at input)) taken
                          ∙ drop-drop (bytes_taken (drop w.at input)) w.at input;
                      going = rw is next_going;
                      few = omega (arith, short);
                      inside = omega (arith, ap length is, length-append text (hop_text (passed + 1) (figures backlog delay)), line_fits);
                      numbers_fit = omega (arith, h.few);
                      lent = sym (length-take-le (2 * count) after (omega (arith, h.few, h.long)));
                      curve_long = h.long;
                      next_long = h.long;
                    }
                  where
                    taken : end ≡ bytes_taken (drop w.at input)
                    taken = whole_end (rw w.left at end_there) (omega (arith, next_going.inside, length-drop w.at input))

-- ---- Figures that are answered.

-- an answer without a code is one
pub answered_ok : {A : Type 0} (answer : Result A Refusal) → code_of answer ≡ 0 → IsOk answer
answered_ok (Ok x) e = refl
answered_ok (Err r) e = absurd (number_some r e)

pub ruleset walking = (
  walk_start,
  start_inside,
  route_line,
  route_line_room,
  over_route,
  step_asked,
  step_route,
  next_room,
  next_less,
  next_numbers,
  next_walking,
)
