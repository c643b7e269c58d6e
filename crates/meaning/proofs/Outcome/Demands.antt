-- Demands 2 and 3 as theorems about the contracts over servers, in what a caller has in hand: the numbers lent, the codes and
-- figures answered, and the lists afterwards. (Those over curves stand in Answers.) Each question leaves one outcome. What is
-- answered is what the definitions ask for at whole ticks, and an answered list is in normal form and taken wherever a
-- curve is. Two answered hops are one answered step through the joined server, either way round, and its delay is at most the
-- two added. A last rate above the server's is 8.
-- Assumes nothing.
use mathlib.Core.Path.{◌≡◌, refl, sym, ◌∙◌, ap}
use mathlib.Core.Logic.{inl, inr, ◌≢◌}
use mathlib.Core.List.{List, []}
use Prim.Native.Nat.{ℕ, ◌+◌, ◌-◌, ◌*◌, ◌^◌, ◌≤◌, ◌<◌}
use native.Mathlib.Decide.{ℕ_discrete}
use native.Mathlib.Omega.{arith}
use lib.ListN.{length}
use lib.Dec.{lit≤}
use Rattle.meaning.specs.Curve.{curve_of, list_of, NormalForm, reads}
use Rattle.meaning.specs.Server.{RateLatency, Server, rated, pure_delay, no_server, by_rate, served, GreatestGap, join, Behind, Backlog, Suffices, Delay, ResidualRated, last}
use Rattle.meaning.specs.Refusal.{LIST, COUNT, RANGE, FORM, UNBOUNDED, LARGE, ROOM, number, Lines, ◌when◌, ◌or◌, Clear, Verdict, accepted, rejected, curve_lines, over, Outcome, part, PartOutcome, FigureOutcome}
use Rattle.meaning.specs.ServerQuestions.{RatedInRange, ServerInRange, server_lines, Outruns, port_lines, passing, BacklogOutcome, DelayOutcome, HopFigures, HopOutcome, HopPartOutcome, ServerOutcome, JoinOutcome, ResidualOutcome}
use Rattle.meaning.proofs.Order.{not_above}
use Rattle.meaning.proofs.Outcome.Stable.{server_stable}
use Rattle.meaning.proofs.Server.Excess.{gap_unique}
use Rattle.meaning.proofs.Server.Joining.{residual_law}
use Rattle.meaning.proofs.Server.BothKinds.{delay_rate, behind_greatest, not_outrun, behind_unique, behind_form, behind_keeps_up, delay_unique, larger_suffices, smaller_fails, hop_by_hop, either_order, joined_delay, Convolved, join_convolution, left_unique}
use Rattle.meaning.proofs.Lists.{over_start}
use Rattle.meaning.proofs.Outcome.Outcomes.{number_positive, Same, Single, refused_once, refused_or_clear, one_figure, UpTo, from_when, from_or, up_to_when, up_to_or, line_hit, clear_or, refused_first, refused_then, refusal, refuse, refuse_in_part, written_out, no_room}
use Rattle.meaning.proofs.Outcome.Answers.{OneOutcome, one_curve, read_back, AnsweredList, answered_list, answered_length, accepted_again, clear_form, figure_answered, curve_up_to}

-- ---- One outcome for every input.

-- two outcomes of a question that one server answers have the same code and the same server
one_server :
    {operands : Lines} {Answer : Server → Type 0} {code code' : ℕ} {s s' : Server}
    → Single Answer → ServerOutcome operands Answer code s → ServerOutcome operands Answer code' s' → (code ≡ code') × (s ≡ s')
one_server one (ServerOutcome.refused v e) (ServerOutcome.refused w e') =
    let same = refused_once v w in (same.code_same, e ∙ sym e')
one_server one (ServerOutcome.refused v e) (ServerOutcome.answered clear e' x) = absurd (refused_or_clear v clear)
one_server one (ServerOutcome.answered clear e x) (ServerOutcome.refused w e') = absurd (refused_or_clear w clear)
one_server one (ServerOutcome.answered clear e x) (ServerOutcome.answered clear' e' x') = (e ∙ sym e', one _ _ x x')

-- join has one outcome,
pub one_join :
    (s next : Server) {code code' : ℕ} {joined joined' : Server}
    → JoinOutcome s next code joined → JoinOutcome s next code' joined' → (code ≡ code') × (joined ≡ joined')
unfolding JoinOutcome
one_join s next = one_server (λ x y e e'. e ∙ sym e')

module _ (f : List ℕ) (s : Server) where
  -- one curve stands behind the server,
  pub single_behind : Single (passing f s).Answer
  unfolding passing
  single_behind g h x y = behind_unique x y

  -- so behind has one,
  pub one_behind : OneOutcome (passing f s)
  one_behind = one_curve (passing f s) single_behind

  -- backlog one,
  pub one_backlog :
      {code figure code' figure' : ℕ} → BacklogOutcome f s code figure → BacklogOutcome f s code' figure'
      → (code ≡ code') × (figure ≡ figure')
  unfolding BacklogOutcome
  one_backlog = one_figure (λ m n x y. gap_unique x y)

  -- delay one,
  pub one_delay :
      {code figure code' figure' : ℕ} → DelayOutcome f s code figure → DelayOutcome f s code' figure'
      → (code ≡ code') × (figure ≡ figure')
  unfolding DelayOutcome
  one_delay = one_figure (λ m n x y. delay_unique x y)

  -- and residual one
  pub one_residual :
      {code code' : ℕ} {left left' : Server} → ResidualOutcome f s code left → ResidualOutcome f s code' left'
      → (code ≡ code') × (left ≡ left')
  unfolding ResidualOutcome
  one_residual = one_server (left_unique (curve_of f) s)

-- What a hop leaves to be seen is the same.
pub record SameHop
    (code count backlog delay : ℕ) (through : Server) (code' count' backlog' delay' : ℕ) (through' : Server) (after after' : List ℕ)
    : Type 0
  where
    pub same : Same code count code' count' after after'
    pub backlog_same : backlog ≡ backlog'
    pub delay_same : delay ≡ delay'
    pub server_same : through ≡ through'

module _ (f : List ℕ) (s : Server) where
  -- a hop that is refused reports nothing,
  pub hop_refused : {code : ℕ} → code ≢ 0 → HopFigures f s code 0 0 no_server
  hop_refused some =
      record {
        backlog_is = λ e. absurd (some e);
        delay_is = λ e. absurd (some e);
        server_is = λ e. absurd (some e);
        no_backlog = λ n. refl;
        no_delay = λ n. refl;
        no_server_there = λ n. refl;
      }

  -- and one that is answered its figures and its server
  pub hop_answered :
      {code backlog delay : ℕ} → code ≡ 0 → Backlog (curve_of f) s backlog → Delay (curve_of f) s delay
      → HopFigures f s code backlog delay s
  hop_answered e b d =
      record {
        backlog_is = λ _. b;
        delay_is = λ _. d;
        server_is = λ _. refl;
        no_backlog = λ n. absurd (n e);
        no_delay = λ n. absurd (n e);
        no_server_there = λ n. absurd (n e);
      }

  -- The figures of a hop are fixed by its code,
  one_report :
      {code backlog delay backlog' delay' : ℕ} {through through' : Server}
      → HopFigures f s code backlog delay through → HopFigures f s code backlog' delay' through'
      → (backlog ≡ backlog') × (delay ≡ delay') × (through ≡ through')
  one_report {code} x y =
      elim (ℕ_discrete code 0) [
        | yes e ↦ (
          gap_unique (x.backlog_is e) (y.backlog_is e),
          delay_unique (x.delay_is e) (y.delay_is e),
          x.server_is e ∙ sym (y.server_is e),
        )
        | no n ↦ (
          x.no_backlog n ∙ sym (y.no_backlog n),
          x.no_delay n ∙ sym (y.no_delay n),
          x.no_server_there n ∙ sym (y.no_server_there n),
        )
      ]

  -- so a hop has one outcome, over a list
  pub one_hop :
      {before after after' : List ℕ} {code count backlog delay code' count' backlog' delay' : ℕ} {through through' : Server}
      → HopOutcome f s before after code count backlog delay through
      → HopOutcome f s before after' code' count' backlog' delay' through'
      → SameHop code count backlog delay through code' count' backlog' delay' through' after after'
  one_hop x y =
      let same = (one_behind f s).of_list x.curve y.curve in
      let report = one_report (rw same.code_same at x.figures) y.figures in
      record { same = same; backlog_same = report.0; delay_same = report.1; server_same = report.2 }

  -- and over a part of a table
  pub one_hop_in_part :
      {at room : ℕ} {before after after' : List ℕ} {code count backlog delay code' count' backlog' delay' : ℕ}
      {through through' : Server} → HopPartOutcome f s at room before after code count backlog delay through
      → HopPartOutcome f s at room before after' code' count' backlog' delay' through'
      → SameHop code count backlog delay through code' count' backlog' delay' through' after after'
  one_hop_in_part x y =
      let same = (one_behind f s).of_part x.curve y.curve in
      let report = one_report (rw same.code_same at x.figures) y.figures in
      record { same = same; backlog_same = report.0; delay_same = report.1; server_same = report.2 }

-- ---- What is known of operands that no line refuses.

-- A curve and a server of which no line holds, and a bound that the last rate breaks:
module _ (f : List ℕ) (s : Server) {Broken : Type 0} (clear : Clear (curve_lines f or server_lines s or UNBOUNDED when Broken)) where
  -- the curve is not refused,
  pub port_curve : Clear (curve_lines f)
  port_curve r h = clear r (inl (inl h))

  -- it is in normal form,
  pub port_form : NormalForm (curve_of f)
  port_form = clear_form f port_curve

  -- the server is in range,
  pub port_server : ServerInRange s
  port_server = server_stable s (λ out. clear RANGE (inl (inr (refl, out))))

  -- and the bound is not broken
  pub port_bounded : Broken → ⊥
  port_bounded broken = clear UNBOUNDED (inr (refl, broken))

-- ---- Demand 2: what is answered.

-- The curve behind: in normal form, taken wherever a curve is; and what it lets through by a tick t is the most that can be left over
-- if the server has had u ticks and the traffic t more, whatever whole u is.
pub record BehindRead (f : List ℕ) (s : Server) (g : List ℕ) : Type 0 where
  pub definition : Behind (curve_of f) s (curve_of g)
  pub normal_form : NormalForm (curve_of g)
  pub accepted : Clear (curve_lines g)
  pub greatest : (t : ℕ) → GreatestGap (λ u. reads (curve_of f) (t + u)) (served s) (reads (curve_of g) t)

-- An answered delay: every larger number suffices at every whole tick, and no smaller one does for a curve that carries anything.
pub record DelayRead (f : List ℕ) (s : Server) (d : ℕ) : Type 0 where
  pub larger_suffices : (m : ℕ) → d < m → Suffices (curve_of f) s m
  pub no_smaller : (t : ℕ) → 0 < reads (curve_of f) t → (m : ℕ) → m < d → Suffices (curve_of f) s m → ⊥

-- At a rate-latency server it suffices itself, and no smaller number does, whatever the curve carries.
pub record DelayReadRated (f : List ℕ) (s : RateLatency) (d : ℕ) : Type 0 where
  pub suffices : (t : ℕ) → reads (curve_of f) t ≤ by_rate s (t + d)
  pub no_less : (m : ℕ) → m < d → ((t : ℕ) → reads (curve_of f) t ≤ by_rate s (t + m)) → ⊥

-- An answered residual: a rate-latency server, by its rule; and what it has served by a tick past its latency, with what the cross
-- traffic may have sent since, is within what the whole server has served.
pub record ResidualRead (cross : List ℕ) (s left : RateLatency) : Type 0 where
  pub definition : ResidualRated (curve_of cross) s left
  pub in_range : RatedInRange left
  pub never_more :
      (t : ℕ) → left.latency ≤ t
      → by_rate left t + reads (curve_of cross) (t - left.latency) ≤ s.rate * (t - s.latency)

-- An answered joined server: it serves by each tick the min-plus convolution of what the two serve.
pub record JoinRead (s next joined : Server) : Type 0 where
  pub definition : joined ≡ join s next
  pub in_range : ServerInRange joined
  pub convolution : (t : ℕ) → Convolved (served s) (served next) t (served joined t)

-- where no line holds a figure is answered
pub figure_clear :
    {lines : Lines} {Figure : ℕ → Type 0} {code figure : ℕ}
    → Clear lines → FigureOutcome lines Figure code figure → (code ≡ 0) × Figure figure
figure_clear none (FigureOutcome.refused v) = absurd (refused_or_clear v none)
figure_clear none (FigureOutcome.answered clear e x) = (e, x)

-- no line holds of the operands of an answered server, and it is in range
server_answered :
    {operands : Lines} {Answer : Server → Type 0} {s : Server}
    → ServerOutcome operands Answer 0 s → Clear operands × Answer s × ServerInRange s
server_answered (ServerOutcome.refused v e) = absurd (omega (arith, v.code_is, number_positive v.why))
server_answered {s = s} (ServerOutcome.answered clear e x) =
    (λ r h. clear r (inl h), x, server_stable s (λ out. clear LARGE (inr (refl, (s, x, out)))))

-- what is answered to join,
pub answered_join : (s next : Server) {joined : Server} → JoinOutcome s next 0 joined → JoinRead s next joined
unfolding JoinOutcome
answered_join s next o =
    let known = server_answered o in
    record { definition = known.1; in_range = known.2; convolution = rw known.1 (join_convolution s next) }

module _ (f : List ℕ) (s : Server) where
  -- a list that is answered is the curve behind
  read_behind :
      {before after : List ℕ} {count : ℕ} {g : List ℕ} → AnsweredList (passing f s) before after count g → BehindRead f s g
  unfolding passing
  read_behind good =
      record {
        definition = good.right;
        normal_form = behind_form good.right;
        accepted = accepted_again good (behind_form good.right);
        greatest = behind_greatest (port_form f s good.operands_clear).some good.right;
      }

  -- to behind,
  pub answered_behind :
      {before after : List ℕ} {count : ℕ} → Outcome (passing f s) before after 0 count → BehindRead f s (read_back after count)
  answered_behind o = read_behind (answered_list o)

  -- to backlog: the greatest over whole u of value(u) minus what is served by u
  pub answered_backlog : {n : ℕ} → BacklogOutcome f s 0 n → GreatestGap (reads (curve_of f)) (served s) n
  unfolding BacklogOutcome
  answered_backlog o = (figure_answered o).1

  -- and to delay
  pub answered_delay : {d : ℕ} → DelayOutcome f s 0 d → DelayRead f s d
  unfolding DelayOutcome
  answered_delay o =
      let known = figure_answered o in
      record {
        larger_suffices = larger_suffices known.1;
        no_smaller = smaller_fails known.1;
      }

-- at a rate-latency server too,
pub answered_delay_rated : (f : List ℕ) (s : RateLatency) {d : ℕ} → DelayOutcome f (rated s) 0 d → DelayReadRated f s d
unfolding DelayOutcome
answered_delay_rated f s o =
    let known = delay_rate (figure_answered o).1 in
    record { suffices = known.suffices; no_less = λ m less enough. omega (arith, known.smallest m enough) }

-- and to residual: a rate-latency server asked, and one answered
pub answered_residual :
    (f : List ℕ) (s : Server) {left : Server} → ResidualOutcome f s 0 left
    → (r : RateLatency) × (r' : RateLatency) × (s ≡ rated r) × (left ≡ rated r') × ResidualRead f r r'
unfolding ResidualOutcome
answered_residual f (rated s) {left = rated left} o =
    let known = server_answered o in
    let clear = known.0 in (
      s,
      left,
      refl,
      refl,
      record {
        definition = known.1;
        in_range = known.2;
        never_more =
            residual_law (port_form f (rated s) clear).some known.1
            (not_above (λ h. port_bounded f (rated s) clear (omega arith)));
      },
    )
answered_residual f (rated s) {left = pure_delay latency} o = absurd (server_answered o).1
answered_residual f (pure_delay latency) o = absurd (server_answered o).1

-- ---- Demand 3: hop by hop is one step through the joined server.

-- A hop that is answered: the curve f, passed through the server s, and the list g that stands in the lent list afterwards.
pub record Hop (f : List ℕ) (s : Server) (g : List ℕ) : Type 0 where
  pub before : List ℕ
  pub after : List ℕ
  pub count : ℕ
  pub answered : Outcome (passing f s) before after 0 count
  pub list_is : read_back after count ≡ g

-- The same where the output is a part of a table.
pub hop_in_part :
    (f : List ℕ) (s : Server) {at room : ℕ} {before after : List ℕ} {count : ℕ}
    → PartOutcome (passing f s) at room before after 0 count → Hop f s (read_back (part at room after) count)
hop_in_part f s o = record { before = _; after = _; count = _; answered = o.inside; list_is = refl }

-- Two hops in a row, both answered, and the join of their servers, answered as well.
pub record TwoHops (f : List ℕ) (s next joined : Server) (a g : List ℕ) : Type 0 where
  pub first : Hop f s a
  pub second : Hop a next g
  pub joining : JoinOutcome s next 0 joined

-- An outcome is the answer g, of n buckets.
pub record AnsweredWith (g : List ℕ) (n : ℕ) (before after : List ℕ) (code count : ℕ) : Type 0 where
  pub code_is_0 : code ≡ 0
  pub count_is_the_same : count ≡ n
  pub list_is_the_same : read_back after count ≡ g
  pub beyond_stays : after ≡ over g before

-- What then holds, n being the second hop's count.
pub record OneStep (f : List ℕ) (s next joined : Server) (a g : List ℕ) (n : ℕ) : Type 0 where
  -- In one step through the joined server the curve passes as well, if the output has room, and the list is that of the two hops,
  -- number for number
  pub one_step_is_answered_too :
      {before after : List ℕ} {code count : ℕ}
      → Outcome (passing f joined) before after code count → length g ≤ length before → AnsweredWith g n before after code count
  -- (there is such an outcome,
  pub one_step_has_an_outcome :
      (before : List ℕ) → length g ≤ length before → Outcome (passing f joined) before (over g before) 0 n
  -- and without room it is refused for that alone),
  pub one_step_without_room : (before : List ℕ) → length before < length g → Outcome (passing f joined) before before 10 0
  -- both being the curve of demand 2.
  pub curve_of_the_one_step : BehindRead f joined g
  pub curve_of_the_hops : BehindRead a next g
  -- Exchanging the servers changes nothing in the list, where the hops in that order are answered.
  pub other_way_round : {b h : List ℕ} → Hop f next b → Hop b s h → h ≡ g
  -- The joined server's delay is answered and at most the sum of the delays at the hops.
  pub joined_delay_is_never_more :
      (code d code' e code'' n : ℕ) → DelayOutcome f s code d → DelayOutcome a next code' e → DelayOutcome f joined code'' n
      → (code'' ≡ 0) × (n ≤ d + e)

-- what is known of a hop
hop_read : {f : List ℕ} {s : Server} {g : List ℕ} (h : Hop f s g) → AnsweredList (passing f s) h.before h.after h.count g
hop_read h = rw h.list_is at (answered_list h.answered)

module _ {f : List ℕ} {s next joined : Server} {a g : List ℕ} (hops : TwoHops f s next joined a g) where
  -- both hops are the curves behind their servers,
  first_behind : BehindRead f s a
  first_behind = read_behind f s (hop_read hops.first)

  -- the second with its list,
  last_list : AnsweredList (passing a next) hops.second.before hops.second.after hops.second.count g
  last_list = hop_read hops.second

  second_behind : BehindRead a next g
  second_behind = read_behind a next last_list

  -- the joined server is what join says,
  joined_is : joined ≡ join s next
  joined_is = (answered_join s next hops.joining).definition

  -- no line holds of the first curve, which is in normal form,
  first_clear : Clear (curve_lines f)
  unfolding passing
  first_clear = port_curve f s (hop_read hops.first).operands_clear

  curve_form : NormalForm (curve_of f)
  curve_form = clear_form f first_clear

  -- the second hop's curve stands behind the joined server,
  joined_behind : Behind (curve_of f) joined (curve_of g)
  joined_behind = rw joined_is (hop_by_hop curve_form.some first_behind.definition second_behind.definition)

  -- no line holds of the first curve and the joined server,
  joined_clear : Clear (port_lines f joined)
  joined_clear =
      clear_or (clear_or first_clear (λ r h. h.1 (answered_join s next hops.joining).in_range))
      (λ r h. not_outrun (curve_of f) joined (behind_keeps_up curve_form joined_behind) h.1)

  -- so the one step is answered with that list, given room,
  step_answered :
      (before : List ℕ) → length g ≤ length before → Outcome (passing f joined) before (over g before) 0 hops.second.count
  unfolding passing
  step_answered before room =
      rw last_list.count_is
      (rw last_list.numbers at
      (written_out (passing f joined) before joined_clear joined_behind (single_behind f joined) last_list.fits
      (rw last_list.numbers room)))

  -- refused without,
  step_short : (before : List ℕ) → length before < length g → Outcome (passing f joined) before before 10 0
  unfolding passing
  step_short before short =
      no_room (passing f joined) before joined_clear joined_behind (single_behind f joined) last_list.fits
      (rw last_list.numbers short)

  -- and nothing else comes of it
  step_same :
      {before after : List ℕ} {code count : ℕ} → Outcome (passing f joined) before after code count → length g ≤ length before
      → AnsweredWith g hops.second.count before after code count
  step_same {before} {after} {code} {count} o room =
      record {
        code_is_0 = same.code_same;
        count_is_the_same = same.figure_same;
        list_is_the_same = rw (numbers, same.after_same) (over_start g before);
        beyond_stays = same.after_same;
      }
    where
      same : Same code count 0 hops.second.count after (over g before)
      same = (one_behind f joined).of_list o (step_answered before room)

      numbers : 2 * count ≡ length g
      numbers = omega (arith, same.figure_same, answered_length last_list)

  -- exchanging the servers keeps the list
  order_same : {b h : List ℕ} → Hop f next b → Hop b s h → h ≡ g
  order_same {b} {h} x y = sym (hop_read y).numbers ∙ ap list_of (sym curves) ∙ last_list.numbers
    where
      curves : curve_of g ≡ curve_of h
      curves =
          either_order curve_form.some first_behind.definition second_behind.definition
          (read_behind f next (hop_read x)).definition (read_behind b s (hop_read y)).definition

  -- the joined server's delay is at most the two hops' together
  delay_less :
      (code d code' e code'' n : ℕ) → DelayOutcome f s code d → DelayOutcome a next code' e → DelayOutcome f joined code'' n
      → (code'' ≡ 0) × (n ≤ d + e)
  unfolding DelayOutcome passing
  delay_less code d code' e code'' n x y z =
      let through = figure_clear joined_clear z in
      (through.0, bound through.1)
    where
      bound : Delay (curve_of f) joined n → n ≤ d + e
      bound through =
          joined_delay curve_form.some first_behind.definition
          (figure_clear (hop_read hops.first).operands_clear x).1 (figure_clear last_list.operands_clear y).1
          (rw joined_is at through)

  -- Demand 3.
  pub hop_by_hop_is_one_step : OneStep f s next joined a g hops.second.count
  hop_by_hop_is_one_step =
      record {
        one_step_is_answered_too = step_same;
        one_step_has_an_outcome = step_answered;
        one_step_without_room = step_short;
        curve_of_the_one_step =
            record {
              definition = joined_behind;
              normal_form = second_behind.normal_form;
              accepted = second_behind.accepted;
              greatest = behind_greatest curve_form.some joined_behind;
            };
        curve_of_the_hops = second_behind;
        other_way_round = order_same;
        joined_delay_is_never_more = delay_less;
      }

-- ---- A last rate above the server's.

-- the lines of a server have numbers up to 8,
pub server_up_to : (s : Server) → UpTo 8 (server_lines s)
unfolding number
server_up_to s = up_to_when RANGE (lit≤ tt)

-- and so have those of a curve and a server, and a bound that the last rate breaks
pub port_up_to : (f : List ℕ) (s : Server) {Broken : Type 0} → UpTo 8 (curve_lines f or server_lines s or UNBOUNDED when Broken)
unfolding number
port_up_to f s = up_to_or (up_to_or (curve_up_to f) (server_up_to s)) (up_to_when UNBOUNDED (lit≤ tt))

-- an operand of a question that a server answers is refused
pub server_refused :
    {operands : Lines} {Answer : Server → Type 0} {code : ℕ}
    → UpTo 8 operands → 1 ≤ code → Verdict operands code → ServerOutcome operands Answer code no_server
unfolding number
server_refused h some v = ServerOutcome.refused (refusal [] some (refused_first h (from_when LARGE (lit≤ tt)) some v)) refl

-- A curve and a server that no other line refuses, the last rate above R: UNBOUNDED, and nothing else comes of it.
module _ (f : List ℕ) (s : Server) (curve : Clear (curve_lines f)) (server : ServerInRange s) where
  -- the code is 8
  port_unbounded : {Broken : Type 0} → Broken → Verdict (curve_lines f or server_lines s or UNBOUNDED when Broken) 8
  unfolding number
  port_unbounded broken = refused_then (accepted (clear_or curve (λ r h. h.1 server)) refl) (line_hit UNBOUNDED broken)

  module _ (above : Outruns (curve_of f) s) where
    -- so behind is refused, with no count, and the whole table stays,
    pub refused_behind : (at room : ℕ) (lent : List ℕ) → PartOutcome (passing f s) at room lent lent 8 0
    unfolding passing
    refused_behind at room lent =
        refuse_in_part (passing f s) at room lent (port_up_to f s) (lit≤ tt) (port_unbounded above)

    -- and backlog and delay are, with no figure
    pub refused_figure : {Figure : ℕ → Type 0} → FigureOutcome (port_lines f s) Figure 8 0
    refused_figure = FigureOutcome.refused (refusal [] (lit≤ tt) (port_unbounded above))

    -- no other outcome of behind is right,
    pub unbounded_behind :
        {before after : List ℕ} {code count : ℕ} → Outcome (passing f s) before after code count
        → Same code count 8 0 after before
    unfolding passing
    unbounded_behind {before} o =
        (one_behind f s).of_list o (refuse (passing f s) before (port_up_to f s) (lit≤ tt) (port_unbounded above))

    -- none of backlog
    pub unbounded_backlog : {code n : ℕ} → BacklogOutcome f s code n → (code ≡ 8) × (n ≡ 0)
    unfolding BacklogOutcome
    unbounded_backlog o = one_backlog f s o refused_figure

    -- and none of delay
    pub unbounded_delay : {code n : ℕ} → DelayOutcome f s code n → (code ≡ 8) × (n ≡ 0)
    unfolding DelayOutcome
    unbounded_delay o = one_delay f s o refused_figure

-- residual, already where the last rate is R: with no server
pub unbounded_residual :
    (f : List ℕ) (s : RateLatency) → Clear (curve_lines f) → RatedInRange s → {code : ℕ} {left : Server}
    → s.rate ≤ (last (curve_of f)).rate → ResidualOutcome f (rated s) code left → (code ≡ 8) × (left ≡ no_server)
unfolding ResidualOutcome
unbounded_residual f s curve ranged above o =
    one_residual f (rated s) o (server_refused (port_up_to f (rated s)) (lit≤ tt) (port_unbounded f (rated s) curve ranged above))

-- ---- A pure delay.

-- its residual is RANGE, where the curve is not refused
pub residual_of_delay :
    (f : List ℕ) (latency : ℕ) → Clear (curve_lines f) → {code : ℕ} {left : Server}
    → ResidualOutcome f (pure_delay latency) code left → (code ≡ 6) × (left ≡ no_server)
unfolding ResidualOutcome number
residual_of_delay f latency curve o =
    one_residual f (pure_delay latency) o
    (server_refused
    (up_to_or (up_to_or (curve_up_to f) (server_up_to (pure_delay latency))) (up_to_when RANGE (lit≤ tt))) (lit≤ tt)
    (rejected RANGE
    (record {
      holds = inr (refl, tt);
      smallest = from_or (from_or (λ r h. absurd (curve r h)) (from_when RANGE (lit≤ tt))) (from_when RANGE (lit≤ tt));
    }) refl))

-- no line of a curve and a pure delay is above FORM,
pub delay_up_to : (f : List ℕ) (latency : ℕ) → UpTo 7 (port_lines f (pure_delay latency))
unfolding number
delay_up_to f latency =
    up_to_or
    (up_to_or
    (up_to_or (up_to_or (up_to_or (up_to_when LIST (lit≤ tt)) (up_to_when COUNT (lit≤ tt))) (up_to_when RANGE (lit≤ tt)))
    (up_to_when FORM (lit≤ tt)))
    (up_to_when RANGE (lit≤ tt)))
    (λ r h. absurd h.1)

module _ (f : List ℕ) (latency : ℕ) where
  -- so it is never UNBOUNDED: neither is backlog or delay,
  pub figure_bounded : {Figure : ℕ → Type 0} {code n : ℕ} → FigureOutcome (port_lines f (pure_delay latency)) Figure code n → code ≢ 8
  figure_bounded (FigureOutcome.refused v) e = omega (arith, v.code_is, delay_up_to f latency v.why v.wins.holds)
  figure_bounded (FigureOutcome.answered clear none x) e = omega arith

  -- nor behind
  pub behind_bounded :
      {before after : List ℕ} {code count : ℕ} → Outcome (passing f (pure_delay latency)) before after code count → code ≢ 8
  unfolding passing number
  behind_bounded (Outcome.refused v) e =
      elim v.wins.holds [
        | inl h ↦ omega (arith, v.code_is, delay_up_to f latency v.why h)
        | inr h ↦
            omega (arith, v.code_is, from_or {n = 9} (from_when LARGE (lit≤ tt)) (from_when ROOM (lit≤ tt)) v.why h)
      ]
  behind_bounded (Outcome.answered v) e = omega (arith, v.code_is)

  -- and a pure delay is clear of all but what the curve and its own latency say
  pub delay_clear : Clear (curve_lines f) → latency < 2 ^ 20 → Clear (port_lines f (pure_delay latency))
  delay_clear curve ranged = clear_or (clear_or curve (λ r h. h.1 ranged)) (λ r h. h.1)
