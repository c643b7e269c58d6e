-- From the first byte to the text, and from the text to the lent buffer.
-- Assumes nothing.
use mathlib.Core.Path.{◌≡◌, sym, ap}
use mathlib.Core.Logic.{◌≢◌}
use mathlib.Core.List.{List}
use Prim.Native.Nat.{ℕ}
use lib.ListN.{take}
use Rattle.meaning.specs.Refusal.{BytesOutcome}
use Rattle.meaning.specs.Profile.{bytes_taken}
use Rattle.meaning.specs.Route.{refused_text, Route, routing, RouteOutcome}
use Rattle.meaning.proofs.Outcome.Answers.{code_zero}
use Rattle.meaning.proofs.Route.EveryRoute.{single_route}
use Rattle.meaning.proofs.Route.Standing.{curve_refused}
use Rattle.profiles.specs.Cited.{handing}
use Rattle.profiles.proofs.Handing.{handed_answer}
use Rattle.routes.specs.Cited.{CurveRead, Starts}

-- ---- The curve.

module _ {input list : List ℕ} {code numbers : ℕ} (w : CurveRead input list code numbers) where
  -- it is refused: its line is the text,
  pub first_refused : {text : List ℕ} → code ≢ 0 → text ≡ refused_text code 1 → Route input text
  first_refused nonzero is = rw is (curve_refused input w.verdict nonzero)

  -- or the way starts
  pub first_starts : {start : ℕ} → code ≡ 0 → start ≡ bytes_taken input → Starts input (take numbers list) start list
  first_starts answered taken =
      record {
        clear = (code_zero w.verdict).0 answered;
        list = w.told answered;
        taken = taken;
        holds = ap (λ (n : ℕ). take n list) (sym w.lent);
        long = w.long;
      }

-- ---- The lent buffer.

-- the text is handed over
pub handed_text :
    {input held lent : List ℕ} {before after : List ℕ} {code count : ℕ} → Route input held → lent ≡ held
    → BytesOutcome (handing lent) before after code count → RouteOutcome input before after code count
unfolding routing
handed_text {input} t is o = handed_answer (routing input) (λ r h. h) t (single_route input) (rw is at o)
