-- The first 675 bytes of an input decide its report: 482 of the longest curve, 192 of 32 servers, and one byte more. So a program
-- that reads no further reports what stands in the whole input.
-- Assumes nothing.
use mathlib.Core.Path.{◌≡◌, refl, sym, ◌∙◌, ap, subst}
use mathlib.Core.Logic.{inl, inr, ◌≢◌}
use mathlib.Core.Option.{Option}
use mathlib.Core.List.{List, [], ◌∷◌, ◌++◌}
use Prim.Native.Nat.{ℕ, ◌+◌, ◌-◌, ◌*◌, ◌≤◌}
use native.Mathlib.Nat.{le_of_lt}
use native.Mathlib.Decide.{ℕ_discrete}
use native.Mathlib.Omega.{arith}
use lib.ListN.{length, take, drop, length-append, length-drop, take-append-drop}
use lib.Seq.{take_all, length-take-le, take-append-le, drop-append-le}
use Rattle.meaning.specs.Curve.{Bucket}
use Rattle.meaning.specs.Server.{Server}
use Rattle.meaning.specs.Refusal.{Refusal, HEADER, number, Lines, Wins}
use Rattle.meaning.specs.Profile.{curve_kind, kind_in, profile_of, bytes_taken}
use Rattle.meaning.specs.Route.{first_file, after_first, hop_lines, Figures, Report, Onward, ends, bytes_left, stops, hop, Reported, no_curve, from_curve, Route}
use Rattle.meaning.proofs.Order.{le_or_lt}
use Rattle.meaning.proofs.Outcome.Outcomes.{number_positive, wins_once}
use Rattle.meaning.proofs.Profile.Fields.{field_fits}
use Rattle.meaning.proofs.Profile.Files.{byte_size_bounds, held_curve, curve_taken, server_taken, held_append, taken_append}
use Rattle.meaning.proofs.Route.BackToBack.{kind_of_server, due_server, kind_cut}
use Rattle.meaning.proofs.Route.Routes.{number_names_one, one_route}
use Rattle.meaning.proofs.Route.EveryRoute.{route_has_text}

-- ---- Bytes behind a profile that is whole.

-- no profile takes more than 482 bytes
pub taken_most : (input : List ℕ) → bytes_taken input ≤ 482
taken_most input =
    elim (ℕ_discrete (kind_in input) curve_kind) [
      | yes e ↦ omega (arith, curve_taken input e, field_fits input 8 6)
      | no e ↦ omega (arith, server_taken input e, (byte_size_bounds (kind_in input)).1)
    ]

-- so many bytes come after the first
after_length : (input : List ℕ) → length (after_first input) ≡ length input - bytes_taken input
unfolding after_first
after_length input = length-drop (bytes_taken input) input

module _ (input rest : List ℕ) (whole : bytes_taken input ≤ length input) where
  -- the first file is the same, whatever comes behind the input,
  first_more : first_file (input ++ rest) ≡ first_file input
  unfolding first_file
  first_more =
      ap (λ (n : ℕ). take n (input ++ rest)) (taken_append input rest whole)
      ∙ take-append-le (bytes_taken input) input rest whole

  -- and what comes after that file goes on with it
  after_more : after_first (input ++ rest) ≡ after_first input ++ rest
  unfolding after_first
  after_more =
      ap (λ (n : ℕ). drop n (input ++ rest)) (taken_append input rest whole)
      ∙ drop-append-le (bytes_taken input) input rest whole

-- ---- The lines at a server.

-- where HEADER holds it wins,
header_wins : {lines : Lines} → lines HEADER → Wins lines HEADER
unfolding number
header_wins holds = record { holds = holds; smallest = λ r _. number_positive r }

-- and nothing else does
only_header : {lines : Lines} {r : Refusal} → Wins lines r → lines HEADER → r ≡ HEADER
only_header w holds = number_names_one (wins_once w (header_wins holds))

-- a curve there is HEADER,
curve_header : (f : List Bucket) (before : Option Server) (input : List ℕ) → kind_in input ≡ curve_kind → hop_lines f before input HEADER
curve_header f before input kind = inl (inl (inl (inl (refl, λ due. rw (held_curve input kind) at due))))

-- and anything else has six bytes at most
server_whole : (input : List ℕ) → 6 ≤ length input → kind_in input ≢ curve_kind → bytes_taken input ≤ length input
server_whole input long kind = omega (arith, server_taken input kind, (byte_size_bounds (kind_in input)).1)

-- what wins there wins whatever comes behind,
wins_more :
    (f : List Bucket) (before : Option Server) (input rest : List ℕ) {r : Refusal} → 6 ≤ length input
    → Wins (hop_lines f before input) r → Wins (hop_lines f before (input ++ rest)) r
wins_more f before input rest long w =
    elim (ℕ_discrete (kind_in input) curve_kind) [
      | yes kind ↦
          subst (Wins (hop_lines f before (input ++ rest))) (sym (only_header w (curve_header f before input kind)))
          (header_wins (curve_header f before (input ++ rest) (kind_cut input rest (omega arith) ∙ kind)))
      | no kind ↦
          let whole = server_whole input long kind in
          rw (held_append input rest whole, first_more input rest whole) w
    ]

-- ---- From a place on.

-- where a byte is left, one is left with what comes behind
still_there : (input rest : List ℕ) → 1 ≤ length input → input ++ rest ≢ []
still_there input rest some e = omega (arith, length-append input rest, ap length e)

-- a report from a place on is the same whatever comes behind so many bytes
onward_more :
    {first : List Bucket} {hops : List Figures} {before : Option Server} {f : List Bucket} {input : List ℕ} {report : Report}
    (rest : List ℕ) → 6 * (32 - length hops) + 1 ≤ length input → Onward first hops before f input report
    → Onward first hops before f (input ++ rest) report
onward_more rest long (ends route x) = absurd (omega arith)
onward_more {input = input} rest long (bytes_left full more) =
    bytes_left full (still_there input rest (omega arith))
onward_more {before = before} {f = f} {input = input} rest long (stops r short due w) =
    stops r short (λ e. absurd (still_there input rest (omega arith) e))
    (wins_more f before input rest (omega arith) w)
onward_more {first} {hops} {before} {f} {input} {report} rest long (hop here g short due clear x b onward) =
    hop {hops = hops} {before = before} {f = f} {input = input ++ rest} {report = report} here g short
    (λ e. absurd (still_there input rest (omega arith) e))
    (rw (held, first_more input rest whole) clear) (rw held x) (rw held b)
    (rw (held, after_more input rest whole) (onward_more rest left onward))
  where
    kind : kind_in input ≢ curve_kind
    kind = kind_of_server input (due_server input (λ r h. clear r (inl (inl (inl h)))))

    whole : bytes_taken input ≤ length input
    whole = server_whole input (omega arith) kind

    held : profile_of (input ++ rest) ≡ profile_of input
    held = held_append input rest whole

    left : 6 * (32 - length (hops ++ here ∷ [])) + 1 ≤ length (after_first input)
    left = omega (
      arith,
      length-append hops (here ∷ []),
      server_taken input kind,
      (byte_size_bounds (kind_in input)).1,
      after_length input,
    )

-- ---- From the first byte on.

-- 675 bytes and what comes behind them have one report,
reported_more :
    (input rest : List ℕ) → 675 ≤ length input → {report : Report} → Reported input report → Reported (input ++ rest) report
reported_more input rest long (no_curve r w e) =
    no_curve r (rw (held_append input rest whole, first_more input rest whole) w) e
  where
    whole : bytes_taken input ≤ length input
    whole = omega (arith, taken_most input)
reported_more input rest long (from_curve clear onward) =
    from_curve (rw (held_append input rest whole, first_more input rest whole) clear)
    (rw (held_append input rest whole, after_more input rest whole) (onward_more rest left onward))
  where
    whole : bytes_taken input ≤ length input
    whole = omega (arith, taken_most input)

    left : 6 * 32 + 1 ≤ length (after_first input)
    left = omega (arith, taken_most input, after_length input)

-- so the first 675 bytes have the whole input's output,
pub first_decide : (input : List ℕ) {output : List ℕ} → Route (take 675 input) output → Route input output
first_decide input {output} route =
    elim (le_or_lt (length input) 675) [
      | inl short ↦ subst (λ (l : List ℕ). Route l output) (take_all 675 input short) route
      | inr long ↦
          subst (λ (l : List ℕ). Route l output) (take-append-drop 675 input)
          (record {
            report = route.report;
            reported =
                reported_more (take 675 input) (drop 675 input)
                (omega (arith, length-take-le 675 input (le_of_lt long))) route.reported;
            output_is = route.output_is;
          })
    ]

-- and no other
pub route_decided : (input : List ℕ) {output : List ℕ} → Route input output → Route (take 675 input) output
route_decided input {output} route =
    let text = route_has_text (take 675 input) in
    subst (Route (take 675 input)) (one_route (first_decide input text.1) route) text.1
