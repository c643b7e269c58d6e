-- Every input has an output, and so an outcome over every lent buffer: at each place each line of the table can be decided, and
-- where none holds there are figures and a curve behind; after 32 hops at most the input ends or bytes are left.
-- Assumes nothing.
use mathlib.Core.Path.{◌≡◌, refl, ap}
use mathlib.Core.Logic.Dec
use mathlib.Core.Logic.{inl, inr}
use mathlib.Core.Option.{Option, none, some}
use mathlib.Core.List.{List, [], ◌∷◌, ◌++◌}
use Prim.Native.Nat.{ℕ, zero, suc, ◌+◌, ◌<◌}
use native.Mathlib.Decide.{map_dec}
use native.Mathlib.Omega.{arith}
use lib.Dec.{lit≤}
use lib.ListN.{length, length-append}
use Rattle.meaning.specs.Curve.{Bucket, curve_of, list_of}
use Rattle.meaning.specs.Server.{Server, join, Behind}
use Rattle.meaning.specs.Refusal.{HEADER, RANGE, LARGE, number, Lines, ◌when◌, ◌or◌, Clear, accepted, rejected, TooLarge}
use Rattle.meaning.specs.ServerQuestions.{port_lines}
use Rattle.meaning.specs.Profile.{Profile, curve, server, profile_of, server_in}
use Rattle.meaning.specs.Computed.{behind}
use Rattle.meaning.specs.Route.{first_file, after_first, IsCurve, IsServer, due_lines, join_lines, hop_lines, Figures, Report, passed, refused_at, Onward, ends, bytes_left, stops, hop, Reported, no_curve, from_curve, text, Route, routing, RouteOutcome}
use Rattle.meaning.proofs.Outcome.Outcomes.{number_positive, Same, Single, UpTo, up_to_or, up_to_when, from_when, refused_first, refused_then}
use Rattle.meaning.proofs.Outcome.Stable.{decide_server}
use Rattle.meaning.proofs.Outcome.Demands.{port_up_to}
use Rattle.meaning.proofs.Outcome.EveryInput.{Decided, decide_line, decide_or, decide_too_large, server_decided, port_decided, decide_outruns, HasBytes, bytes_outcome}
use Rattle.meaning.proofs.Outcome.Bytes.{one_bytes, OnlyBytes, only_bytes}
use Rattle.meaning.proofs.Profile.Outcomes.{file_up_to}
use Rattle.meaning.proofs.Profile.Decided.{file_decided}
use Rattle.meaning.proofs.Server.BothKinds.{behind_unique}
use Rattle.meaning.proofs.Route.Routes.{one_route}
use Rattle.meaning.proofs.Route.Line.{passable, hop_passable, passable_behind, figures_exist, Through, Sofar, through}

-- ---- The lines at a place.

-- a profile is a curve, or it is not,
decide_curve : (p : Profile) → Dec (IsCurve p)
decide_curve (curve f) = yes tt
decide_curve (server s) = no (λ x. x)

-- and so for a server
decide_is_server : (p : Profile) → Dec (IsServer p)
decide_is_server (curve f) = no (λ x. x)
decide_is_server (server s) = yes tt

module _ (Due : Profile → Type 0) (input : List ℕ) where
  -- the lines of what is due can be decided,
  due_decided : Dec (Due (profile_of input)) → Decided (due_lines Due input)
  due_decided due = decide_or (decide_line HEADER (Dec.not due)) (file_decided (first_file input))

  -- each of a number up to 8
  due_up_to : UpTo 8 (due_lines Due input)
  unfolding number
  due_up_to = up_to_or (up_to_when HEADER (lit≤ tt)) (file_up_to (first_file input))

-- those of joining can be decided,
join_decided : (before : Option Server) (s : Server) → Decided (join_lines before s)
join_decided none s = (0, accepted (λ r h. h) refl)
join_decided (some b) s =
    decide_or (decide_or (server_decided b) (server_decided s))
    (decide_line LARGE
    (map_dec (λ out. (join b s, refl, out)) (λ h. rw h.1 at h.2) (Dec.not (decide_server (join b s)))))

-- each of a number up to 9
pub join_up_to : (before : Option Server) (s : Server) → UpTo 9 (join_lines before s)
unfolding number
join_up_to none s = λ r h. absurd h
join_up_to (some b) s = up_to_or (up_to_or (up_to_when RANGE (lit≤ tt)) (up_to_when RANGE (lit≤ tt))) (up_to_when LARGE (lit≤ tt))

-- A server where one is due, with the curve and the servers before it.
module _ (f : List Bucket) (before : Option Server) (input : List ℕ) where
  -- what is tested before the curve behind is known
  abbrev operand_lines : Lines
  operand_lines =
      due_lines IsServer input or port_lines (list_of f) (server_in (profile_of input)) or join_lines before (server_in (profile_of input))

  -- it can be decided,
  operands_decided : Decided operand_lines
  operands_decided =
      decide_or (decide_or (due_decided IsServer input (decide_is_server (profile_of input)))
      (port_decided (list_of f) (server_in (profile_of input)) (decide_outruns (curve_of (list_of f)) (server_in (profile_of input)))))
      (join_decided before (server_in (profile_of input)))

  -- each line of a number up to 9,
  operands_up_to : UpTo 9 operand_lines
  operands_up_to =
      up_to_or (up_to_or (λ r h. omega (arith, due_up_to IsServer input r h))
      (λ r h. omega (arith, port_up_to (list_of f) (server_in (profile_of input)) r h)))
      (join_up_to before (server_in (profile_of input)))

  -- and so can all lines of a hop
  pub hop_decided : Decided (hop_lines f before input)
  unfolding number
  hop_decided = by_operands operands_decided
    where
      with_behind :
          Clear operand_lines → (g : List Bucket) → Behind f (server_in (profile_of input)) g → Decided (hop_lines f before input)
      with_behind clear g b =
          let large : Decided (LARGE when ((g : List Bucket) × Behind f (server_in (profile_of input)) g × TooLarge g)) =
          decide_line LARGE
          (map_dec (λ big. (g, b, big)) (λ h. rw (behind_unique h.1 b) at h.2) (decide_too_large g))
          in
          (large.0, refused_then (accepted clear refl) large.1)

      by_operands : Decided operand_lines → Decided (hop_lines f before input)
      by_operands (code, rejected r w e) =
          (code, refused_first operands_up_to (from_when LARGE (lit≤ tt)) (omega (arith, e, number_positive r)) (rejected r w e))
      by_operands (code, accepted clear e) =
          let known = passable f before (server_in (profile_of input)) (λ r h. clear r (inl (inr h))) (λ r h. clear r (inr h)) in
          with_behind clear (behind f (server_in (profile_of input))) (passable_behind known)

-- ---- From a place on.

-- There is a report.
record HasReport
    (first : List Bucket) (hops : List Figures) (before : Option Server) (f : List Bucket) (input : List ℕ)
    : Type 0 where
  report : Report
  onward : Onward first hops before f input report

-- the input ends: the route line is never refused
at_end :
    {first : List Bucket} {hops : List Figures} {joined : Server} {f : List Bucket} → Through first hops joined f
    → HasReport first hops (some joined) f []
at_end t =
    let x = figures_exist t.form.some t.in_range t.stands in
    record { report = passed _ x.0; onward = ends x.0 x.1 }

-- a server is due: it is refused, or the report goes on behind it
at_server :
    {first : List Bucket} {hops : List Figures} {before : Option Server} {f : List Bucket} {input : List ℕ}
    → length hops < 32 → (input ≡ [] → before ≡ none) → Sofar first hops before f
    → ((here : Figures) (joined : Server) (g : List Bucket)
    → Through first (hops ++ here ∷ []) joined g → HasReport first (hops ++ here ∷ []) (some joined) g (after_first input))
    → HasReport first hops before f input
at_server {first} {hops} {before} {f} {input} short due sofar again = by_lines (hop_decided f before input)
  where
    by_lines : Decided (hop_lines f before input) → HasReport first hops before f input
    by_lines (code, rejected r w e) = record { report = _; onward = stops r short due w }
    by_lines (code, accepted clear e) =
        let known = hop_passable f before input clear in
        let b = passable_behind known in
        let x = figures_exist known.form.some known.in_range b in
        let rest = again x.0 _ _ (through hops before short known x.1 b sofar) in
        record { report = rest.report; onward = hop x.0 _ short due clear x.1 b rest.onward }

-- what has a byte has not ended
not_ended : {x : ℕ} {l : List ℕ} → x ∷ l ≡ [] → ⊥
not_ended e = let z : ◌≡◌ {A = ℕ} 0 1 = cc in omega arith

-- with so many hops left
from_here :
    (left : ℕ) {first : List Bucket} (hops : List Figures) (before : Option Server) {f : List Bucket} (input : List ℕ)
    → length hops + left ≡ 32 → Sofar first hops before f → HasReport first hops before f input
from_here zero hops none input e sofar = absurd (omega (arith, ap length sofar.1))
from_here zero hops (some joined) [] e sofar = at_end sofar
from_here zero hops (some joined) (x ∷ input) e sofar =
    record { report = _; onward = bytes_left {hops = hops} (omega arith) not_ended }
from_here (suc left) hops none input e sofar =
    at_server (omega arith) (λ _. refl) sofar
    (λ here joined g t. from_here left (hops ++ here ∷ []) (some joined) (after_first input) (simp length-append (omega arith)) t)
from_here (suc left) hops (some joined) [] e sofar = at_end sofar
from_here (suc left) hops (some joined) (x ∷ input) e sofar =
    at_server (omega arith) (λ z. absurd (not_ended z)) sofar
    (λ here next g t.
    from_here left (hops ++ here ∷ []) (some next) (after_first (x ∷ input)) (simp length-append (omega arith)) t)

-- ---- From the first byte on.

-- every input has a report,
has_report : (input : List ℕ) → (report : Report) × Reported input report
has_report input = by_lines (due_decided IsCurve input (decide_curve (profile_of input)))
  where
    by_lines : Decided (due_lines IsCurve input) → (report : Report) × Reported input report
    by_lines (code, rejected r w e) = (refused_at r 1, no_curve r w refl)
    by_lines (code, accepted clear e) =
        let rest = from_here 32 [] none (after_first input) refl (refl, refl) in
        (rest.report, from_curve clear rest.onward)

-- so it has an output
pub route_has_text : (input : List ℕ) → (output : List ℕ) × Route input output
route_has_text input =
    let x = has_report input in
    (text x.0, record { report = x.0; reported = x.1; output_is = refl })

-- The program's output is the only answer,
pub single_route : (input : List ℕ) → Single (routing input).Answer
unfolding routing
single_route input a b v w = one_route v w

-- so there is an outcome over every lent buffer,
pub route_has_outcome : (input before : List ℕ) → HasBytes (routing input) before
unfolding routing
route_has_outcome input before =
    bytes_outcome (routing input) before (0, accepted (λ r h. h) refl) (λ r h. absurd h) (single_route input)
    (λ clear. route_has_text input)

-- and no other is right
pub one_route_outcome :
    (input : List ℕ) {before after after' : List ℕ} {code count code' count' : ℕ}
    → RouteOutcome input before after code count → RouteOutcome input before after' code' count'
    → Same code count code' count' after after'
one_route_outcome input = one_bytes (single_route input)

-- ---- The only text.

-- An input's text: the program prints it and no other, and with a buffer lent nothing else comes of it.
pub record OnlyText (input output : List ℕ) : Type 0 where
  pub printed : Route input output
  pub no_other : {other : List ℕ} → Route input other → other ≡ output
  pub outcome : OnlyBytes (routing input) output

-- what the program prints is such
pub only_text : {input output : List ℕ} → Route input output → OnlyText input output
unfolding routing
only_text {input} route =
    record {
      printed = route;
      no_other = λ other. one_route other route;
      outcome = only_bytes (single_route input) (λ r h. h) route;
    }
