-- The route program has one output for every input: at each place the input ends or not, 32 hops are passed or fewer, and a
-- refusal wins or no line holds; and the figures of a hop, the curve behind it and the number that wins are each one.
-- Assumes nothing.
use mathlib.Core.Path.{◌≡◌, refl, sym, ◌∙◌, ap}
use mathlib.Core.Option.{Option, none, some}
use mathlib.Core.List.{List, [], ◌∷◌}
use Prim.Native.Nat.{ℕ, ◌+◌, ◌-◌}
use native.Mathlib.Omega.{arith}
use lib.ListN.{length, get_or}
use Rattle.meaning.specs.Curve.{Bucket}
use Rattle.meaning.specs.Server.{Server}
use Rattle.meaning.specs.Refusal.{Refusal, HEADER, LENGTH, PAD, LIST, COUNT, RANGE, FORM, UNBOUNDED, LARGE, ROOM, number, Lines, Wins, Clear}
use Rattle.meaning.specs.Route.{Figures, FiguresOf, Report, passed, refused_at, Onward, ends, bytes_left, stops, hop, Reported, no_curve, from_curve, text, Route}
use Rattle.meaning.proofs.Outcome.Outcomes.{wins_once}
use Rattle.meaning.proofs.Server.Excess.{gap_unique}
use Rattle.meaning.proofs.Server.BothKinds.{behind_unique, delay_unique}

-- the refusal of a number
named : ℕ → Refusal
named n =
    get_or (HEADER ∷ LENGTH ∷ PAD ∷ LIST ∷ COUNT ∷ RANGE ∷ FORM ∷ UNBOUNDED ∷ LARGE ∷ ROOM ∷ []) (n - 1) HEADER

-- it is the refusal that has the number
named_number : (r : Refusal) → named (number r) ≡ r
unfolding named number
named_number HEADER = refl
named_number LENGTH = refl
named_number PAD = refl
named_number LIST = refl
named_number COUNT = refl
named_number RANGE = refl
named_number FORM = refl
named_number UNBOUNDED = refl
named_number LARGE = refl
named_number ROOM = refl

-- no two refusals have one number
pub number_names_one : {r s : Refusal} → number r ≡ number s → r ≡ s
number_names_one {r} {s} e = sym (named_number r) ∙ ap named e ∙ named_number s

-- a server has one backlog and one delay for a curve
figures_unique : {f : List Bucket} {s : Server} {x y : Figures} → FiguresOf f s x → FiguresOf f s y → x ≡ y
figures_unique v w =
    λ i.
    record {
      backlog = gap_unique v.backlog_is w.backlog_is i;
      delay = delay_unique v.delay_is w.delay_is i;
    }

-- a server is not none
no_server_there : {s : Server} → some s ≡ none → ⊥
no_server_there e = let z : ◌≡◌ {A = ℕ} 0 1 = cc in omega arith

-- where a refusal wins, some line holds
not_clear : {lines : Lines} {r : Refusal} → Wins lines r → Clear lines → ⊥
not_clear {r = r} w clear = clear r w.holds

-- from a place in the input on there is one report
one_onward :
    {first : List Bucket} {hops : List Figures} {before : Option Server} {f : List Bucket} {input : List ℕ} {a b : Report}
    → Onward first hops before f input a → Onward first hops before f input b → a ≡ b
one_onward (ends {hops = hops} route x) (ends route' x') = ap (passed hops) (figures_unique x x')
one_onward (ends route x) (bytes_left h more) = absurd (more refl)
one_onward (ends route x) (stops r h due w) = absurd (no_server_there (due refl))
one_onward (ends route x) (hop here g h due clear x' b onward) = absurd (no_server_there (due refl))
one_onward (bytes_left h more) (ends route x) = absurd (more refl)
one_onward (bytes_left h more) (bytes_left h' more') = refl
one_onward (bytes_left h more) (stops r h' due w) = absurd (omega arith)
one_onward (bytes_left h more) (hop here g h' due clear x b onward) = absurd (omega arith)
one_onward (stops r h due w) (ends route x) = absurd (no_server_there (due refl))
one_onward (stops r h due w) (bytes_left h' more) = absurd (omega arith)
one_onward (stops {hops = hops} r h due w) (stops r' h' due' w') =
    ap (λ (x : Refusal). refused_at x (length hops + 2)) (number_names_one (wins_once w w'))
one_onward (stops r h due w) (hop here g h' due' clear x b onward) = absurd (not_clear w clear)
one_onward (hop here g h due clear x b onward) (ends route x') = absurd (no_server_there (due refl))
one_onward (hop here g h due clear x b onward) (bytes_left h' more) = absurd (omega arith)
one_onward (hop here g h due clear x b onward) (stops r h' due' w) = absurd (not_clear w clear)
one_onward (hop here g h due clear x b onward) (hop here' g' h' due' clear' x' b' onward') =
    one_onward onward (rw (figures_unique x' x, behind_unique b' b) at onward')

-- so from the first byte on
one_report : {input : List ℕ} {a b : Report} → Reported input a → Reported input b → a ≡ b
one_report (no_curve r w e) (no_curve r' w' e') =
    e ∙ ap (λ (x : Refusal). refused_at x 1) (number_names_one (wins_once w w')) ∙ sym e'
one_report (no_curve r w e) (from_curve clear onward) = absurd (not_clear w clear)
one_report (from_curve clear onward) (no_curve r w e) = absurd (not_clear w clear)
one_report (from_curve clear onward) (from_curve clear' onward') = one_onward onward onward'

-- the program has one output for every input
pub one_route : {input a b : List ℕ} → Route input a → Route input b → a ≡ b
one_route v w = v.output_is ∙ ap text (one_report v.reported w.reported) ∙ sym w.output_is
