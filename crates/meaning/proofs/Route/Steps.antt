-- A route, step by step, for a program that goes through the input hop by hop: what is known before the first server, after each
-- hop, where a server is refused, where the input ends, and where bytes are left after 32 servers. Lists are lists of numbers, as
-- they are lent, and a place in the input is a position.
-- Assumes nothing.
use mathlib.Core.Path.{◌≡◌, refl, ◌∙◌, ap}
use mathlib.Core.Logic.{inl, inr, ◌≢◌}
use mathlib.Core.Option.{Option, none, some}
use mathlib.Core.List.{List, [], ◌∷◌, ◌++◌}
use Prim.Native.Nat.{ℕ, ◌+◌, ◌≤◌, ◌<◌}
use native.Mathlib.Omega.{arith}
use lib.Dec.{lit≤}
use lib.ListN.{length, drop, length-append, length-drop}
use lib.Seq.{drop-length, drop-drop}
use Rattle.meaning.specs.Curve.{Bucket, curve_of, list_of}
use Rattle.meaning.specs.Server.{Server, Behind}
use Rattle.meaning.specs.Refusal.{LARGE, Clear, Verdict, TooLarge, curve_lines}
use Rattle.meaning.specs.ServerQuestions.{port_lines, BacklogOutcome, DelayOutcome}
use Rattle.meaning.specs.Profile.{profile_of, bytes_taken, buckets_of, server_in}
use Rattle.meaning.specs.Route.{after_first, IsCurve, due_lines, joined_with, hop_lines, Figures, FiguresOf, hop_text, route_text, refused_text, hop_texts, Route}
use Rattle.meaning.proofs.Lists.{curve_list}
use Rattle.meaning.proofs.Outcome.Outcomes.{clear_or}
use Rattle.meaning.proofs.Outcome.Answers.{fits_few, fits_ranged, sound_clear}
use Rattle.meaning.proofs.Outcome.Demands.{figure_clear}
use Rattle.meaning.proofs.Server.BothKinds.{not_outrun, behind_form, behind_keeps_up}
use Rattle.meaning.proofs.Profile.Files.{held_few, read_in_range}
use Rattle.meaning.proofs.Route.BackToBack.{due_curve_whole, due_form, due_server_whole}
use Rattle.meaning.proofs.Route.Line.{figures_exist, Sofar, sofar_small, through, hop_passable}
use Rattle.meaning.proofs.Route.Text.{hop_texts_length, hop_texts_more}
use Rattle.meaning.proofs.Route.Standing.{Standing, standing_start, standing_over, standing_stops, standing_hop, standing_ends}

-- ---- What is known on the way.

-- The program stands at byte `at` of the input: n hops are passed, whose lines are `printed`; their servers joined are `joined`,
-- `first` is the list of the first curve and f that of the curve from the hop before. What is left of the input decides.
pub record Going (input first printed : List ℕ) (n : ℕ) (joined : Option Server) (f : List ℕ) (at : ℕ) : Type 0 where
  pub hops : List Figures
  pub count_is : n ≡ length hops
  pub few : n ≤ 32
  pub printed_is : printed ≡ hop_texts 1 hops
  pub inside : at ≤ length input
  pub first_taken : Clear (curve_lines first)
  pub list_is : list_of (curve_of f) ≡ f
  pub taken : Clear (curve_lines f)
  pub sofar : Sofar (curve_of first) hops joined (curve_of f)
  pub standing : Standing input (curve_of first) hops joined (curve_of f) (drop at input)

-- where the curve is not refused the way starts
pub going_start :
    (input : List ℕ) → Clear (due_lines IsCurve input)
    → Going input (list_of (buckets_of (profile_of input))) [] 0 none (list_of (buckets_of (profile_of input))) (bytes_taken input)
unfolding after_first hop_texts
going_start input clear =
    let sound = sound_clear (buckets_of (profile_of input)) (due_form input clear) (read_in_range input) (held_few input) in
    record {
      hops = [];
      count_is = refl;
      few = lit≤ tt;
      printed_is = refl;
      inside = due_curve_whole input clear;
      first_taken = sound;
      list_is = rw curve_list;
      taken = sound;
      sofar = (refl, refl);
      standing = rw (curve_list (buckets_of (profile_of input))) (standing_start input clear);
    }

-- ---- A server.

-- A server is due: there are bytes left, or no hop is passed yet.
pub data ServerDue (input : List ℕ) (at : ℕ) : Option Server → Type 0 where
  bytes_there : {joined : Option Server} → at < length input → ServerDue input at joined
  none_yet : ServerDue input at none

-- where nothing is left, no hop is passed yet
due_more : {input : List ℕ} {at : ℕ} {joined : Option Server} → ServerDue input at joined → drop at input ≡ [] → joined ≡ none
due_more {input} {at} (bytes_there h) e = absurd (omega (arith, length-drop at input, ap length e))
due_more none_yet e = refl

-- What stands at a place of the input, read as a server.
abbrev pub server_at : List ℕ → ℕ → Server
server_at input at = server_in (profile_of (drop at input))

module _
    {input first printed : List ℕ} {n : ℕ} {joined : Option Server} {f : List ℕ} {at : ℕ}
    (go : Going input first printed n joined f at)
  where
    -- what is printed so far has at most 1,111 bytes
    pub going_printed : length printed ≤ 1111
    going_printed =
        omega (
          arith,
          ap length go.printed_is,
          hop_texts_length go.hops (sofar_small (curve_of first) go.hops joined (curve_of f) go.sofar)
              (omega (arith, go.count_is, go.few)),
        )

    -- bytes are left after 32 servers: the program ends
    pub going_over : n ≡ 32 → at < length input → Route input (refused_text 5 34)
    going_over all more =
        standing_over go.standing (omega (arith, go.count_is)) (λ e. omega (arith, length-drop at input, ap length e))

    module _ (short : n < 32) (due : ServerDue input at joined) where
      -- a server is refused: the program ends,
      pub going_stops :
          {code : ℕ} → Verdict (hop_lines (curve_of f) joined (drop at input)) code → code ≢ 0
          → Route input (refused_text code (n + 2))
      going_stops v nonzero =
          rw go.count_is (standing_stops go.standing (omega (arith, go.count_is)) (due_more due) v nonzero)

      -- it is not: the way goes on behind it
      pub going_hop :
          (x : Figures) (g : List Bucket) → Clear (hop_lines (curve_of f) joined (drop at input))
          → FiguresOf (curve_of f) (server_at input at) x → Behind (curve_of f) (server_at input at) g
          → Going input first (printed ++ hop_text (n + 1) x) (n + 1) (some (joined_with joined (server_at input at))) (list_of g)
          (at + bytes_taken (drop at input))
      unfolding after_first
      going_hop x g clear figures behind =
          let fits : TooLarge g → ⊥ = λ large. clear LARGE (inr (refl, (g, behind, large))) in
          let early : length go.hops < 32 = omega (arith, go.count_is) in
          let next : n + 1 ≡ 1 + length go.hops = omega (arith, go.count_is) in
          record {
            hops = go.hops ++ x ∷ [];
            count_is = simp length-append (omega (arith, go.count_is));
            few = omega arith;
            printed_is = cc (go.printed_is, hop_texts_more 1 go.hops x);
            inside =
                omega (
                  arith,
                  go.inside,
                  due_server_whole (drop at input) (λ r l. clear r (inl (inl (inl l)))),
                  length-drop at input,
                );
            first_taken = go.first_taken;
            list_is = rw curve_list;
            taken = sound_clear g (behind_form behind) (fits_ranged fits) (fits_few fits);
            sofar =
                rw (curve_list g)
                (through go.hops joined early (hop_passable (curve_of f) joined (drop at input) clear) figures behind
                go.sofar);
            standing =
                rw (curve_list g, ← drop-drop (bytes_taken (drop at input)) at input)
                (standing_hop go.standing early (due_more due) x g clear figures behind);
          }

-- ---- The end of the input.

module _
    {input first printed : List ℕ} {n : ℕ} {joined : Server} {f : List ℕ} {at : ℕ}
    (go : Going input first printed n (some joined) f at)
  where
    -- the servers joined have figures over the first curve: once every hop is answered, the route line is never refused;
    pub going_figures : (x : Figures) × FiguresOf (curve_of first) joined x
    going_figures = figures_exist go.sofar.form.some go.sofar.in_range go.sofar.stands

    module _ (all : length input ≤ at) where
      -- it follows the hops' lines,
      pub going_ends : (x : Figures) → FiguresOf (curve_of first) joined x → Route input (printed ++ route_text x)
      going_ends x figures =
          let place : at ≡ length input = omega (arith, go.inside) in
          let none_left : drop at input ≡ [] = ap (λ (i : ℕ). drop i input) place ∙ drop-length input in
          rw go.printed_is (standing_ends (rw none_left at go.standing) x figures)

      -- and so do the figures that backlog and delay answer, with codes that are 0
      pub going_answered :
          (x : Figures) {code code' : ℕ}
          → BacklogOutcome first joined code x.backlog → DelayOutcome first joined code' x.delay
          → (code ≡ 0) × (code' ≡ 0) × Route input (printed ++ route_text x)
      unfolding BacklogOutcome DelayOutcome
      going_answered x b d =
          let backlog = figure_clear clear b in
          let delay = figure_clear clear d in
          (backlog.0, delay.0, going_ends x (record { backlog_is = backlog.1; delay_is = delay.1 }))
        where
          clear : Clear (port_lines first joined)
          clear =
              clear_or (clear_or go.first_taken (λ r h. h.1 go.sofar.in_range))
              (λ r h. not_outrun (curve_of first) joined (behind_keeps_up go.sofar.form go.sofar.stands) h.1)
