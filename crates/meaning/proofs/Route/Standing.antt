-- A place on the route: what is left of the input decides what the program prints. Where the way starts, goes on, and ends: at a
-- refusal, at the end of the input, or with bytes left after 32 servers.
-- Assumes nothing.
use mathlib.Core.Path.{◌≡◌, refl, ap}
use mathlib.Core.Logic.{◌≢◌}
use mathlib.Core.Option.{Option, none, some}
use mathlib.Core.List.{List, [], ◌∷◌, ◌++◌}
use Prim.Native.Nat.{ℕ, ◌+◌, ◌<◌}
use lib.ListN.{length}
use Rattle.meaning.specs.Curve.{Bucket}
use Rattle.meaning.specs.Server.{Server, Behind}
use Rattle.meaning.specs.Refusal.{COUNT, number, Clear, Verdict, accepted, rejected}
use Rattle.meaning.specs.Profile.{profile_of, buckets_of, server_in}
use Rattle.meaning.specs.Route.{after_first, IsCurve, due_lines, joined_with, hop_lines, Figures, FiguresOf, Report, passed, refused_at, Onward, ends, bytes_left, stops, hop, Reported, no_curve, from_curve, route_text, refused_text, hop_texts, text, Route}

-- The hops are passed; their servers joined are `joined`, `first` is the first curve and f the curve from the hop before. The
-- rest of the input decides.
pub record Standing
    (input : List ℕ) (first : List Bucket) (hops : List Figures) (joined : Option Server) (f : List Bucket) (rest : List ℕ)
    : Type 0 where
  pub decides : (report : Report) → Onward first hops joined f rest report → Reported input report

-- ---- The curve.

module _ (input : List ℕ) where
  -- the curve is refused: the program ends,
  pub curve_refused : {code : ℕ} → Verdict (due_lines IsCurve input) code → code ≢ 0 → Route input (refused_text code 1)
  unfolding text
  curve_refused (accepted clear e) nonzero = absurd (nonzero e)
  curve_refused (rejected r w e) nonzero =
      record { report = refused_at r 1; reported = no_curve r w refl; output_is = ap (λ (c : ℕ). refused_text c 1) e }

  -- it is not: the way starts
  pub standing_start :
      Clear (due_lines IsCurve input)
      → Standing input (buckets_of (profile_of input)) [] none (buckets_of (profile_of input)) (after_first input)
  standing_start clear = record { decides = λ report on. from_curve clear on }

-- ---- A server.

module _
    {input : List ℕ} {first : List Bucket} {hops : List Figures} {joined : Option Server} {f : List Bucket} {rest : List ℕ}
    (here : Standing input first hops joined f rest)
  where
    -- bytes are left after 32 servers: the program ends
    pub standing_over : length hops ≡ 32 → rest ≢ [] → Route input (refused_text 5 34)
    unfolding text number
    standing_over all more =
        record { report = refused_at COUNT 34; reported = here.decides _ (bytes_left all more); output_is = refl }

    module _ (short : length hops < 32) (due : rest ≡ [] → joined ≡ none) where
      -- a server is refused: the program ends,
      pub standing_stops :
          {code : ℕ} → Verdict (hop_lines f joined rest) code → code ≢ 0 → Route input (refused_text code (length hops + 2))
      unfolding text
      standing_stops (accepted clear e) nonzero = absurd (nonzero e)
      standing_stops (rejected r w e) nonzero =
          record {
            report = refused_at r (length hops + 2);
            reported = here.decides _ (stops r short due w);
            output_is = ap (λ (c : ℕ). refused_text c (length hops + 2)) e;
          }

      -- it is not: the way goes on behind it
      pub standing_hop :
          (x : Figures) (g : List Bucket) → Clear (hop_lines f joined rest)
          → FiguresOf f (server_in (profile_of rest)) x → Behind f (server_in (profile_of rest)) g
          → Standing input first (hops ++ x ∷ []) (some (joined_with joined (server_in (profile_of rest)))) g (after_first rest)
      standing_hop x g clear figures behind =
          record { decides = λ report on. here.decides report (hop x g short due clear figures behind on) }

-- ---- The end of the input.

-- the servers are joined: the route line follows the hops' lines
pub standing_ends :
    {input : List ℕ} {first : List Bucket} {hops : List Figures} {joined : Server} {f : List Bucket}
    → Standing input first hops (some joined) f [] → (x : Figures) → FiguresOf first joined x
    → Route input (hop_texts 1 hops ++ route_text x)
unfolding text
standing_ends {hops = hops} here x figures =
    record { report = passed hops x; reported = here.decides _ (ends x figures); output_is = refl }
