-- What is due at a place of the input, read from its first file.
-- Assumes nothing.
use mathlib.Core.Path.{◌≡◌, refl, sym, ◌∙◌, ap}
use mathlib.Core.List.{List}
use Prim.Native.Nat.{ℕ, ◌*◌, ◌≤◌, min}
use native.Mathlib.Decide.{ℕ_discrete}
use native.Mathlib.Omega.{arith}
use lib.ListN.{length, take}
use lib.Seq.{length-take-le}
use mir.Syntax.{w64}
use mir.Val.{Fits}
use Rattle.std.proofs.Math.Nat.{min-le_right}
use Rattle.std.proofs.lemmas.List.{take_min}
use Rattle.meaning.specs.Server.{Server, rated, pure_delay, no_server, numbers_of}
use Rattle.meaning.specs.Refusal.{HEADER, number, Outcome, Question}
use Rattle.meaning.specs.Profile.{server, kind_of, kind_in, server_held, bytes_taken, Reading, ReadOutcome}
use Rattle.meaning.specs.Route.{first_file}
use Rattle.meaning.proofs.Outcome.Slips.{refusal_keeps}
use Rattle.meaning.proofs.Outcome.Answers.{fits_few, answered_list, outcome_length}
use Rattle.meaning.proofs.Profile.Files.{held_curve, held_server}
use Rattle.meaning.proofs.Route.BackToBack.{same_start}
use Rattle.meaning.proofs.Route.Winning.{curve_there, no_curve_there}
use Rattle.meaning.proofs.Route.Codes.{server_code, curve_code, server_told, curve_told}
use Rattle.routes.specs.Cited.{FirstEnd, CurveRead, ServerRead}

-- ---- The first file.

-- it ends behind its bytes, or with the input where that is sooner
pub end_least : (input : List ℕ) {taken end : ℕ} → taken ≡ bytes_taken input → end ≡ min taken (length input) → FirstEnd input end
unfolding first_file
end_least input {taken} {end} is least =
    let inside : end ≤ length input = rw least (min-le_right taken (length input)) in
    record {
      inside = inside;
      lent = sym (length-take-le end input inside);
      is = rw (least, is) (take_min (bytes_taken input) input);
    }

-- ---- The curve.

-- a count that is answered into a list is at most 64, and 0 where none is
count_few : {ask : Question} {before after : List ℕ} {code count : ℕ} → Outcome ask before after code count → count ≤ 64
count_few {code = code} {count = count} o =
    elim (ℕ_discrete code 0) [
      | yes e ↦ let list = answered_list (rw e at o) in omega (arith, list.count_is, fits_few list.fits)
      | no e ↦ omega (arith, (refusal_keeps o e).1)
    ]

module _ {input : List ℕ} {k : ℕ} (kind : k ≡ kind_in input) where
  -- something else stands there
  pub curve_missing : {list : List ℕ} → length list ≡ 128 → (k ≡ 1 → ⊥) → CurveRead input list (number HEADER) 0
  unfolding number
  curve_missing long other =
      record {
        verdict = no_curve_there input (λ e. other (kind ∙ e));
        told = λ e. absurd (omega arith);
        inside = omega arith;
        lent = refl;
        long = long;
      }

  module _ {end : ℕ} (first : FirstEnd input end) {before after : List ℕ} {x : Reading} where
    -- it is read
    pub curve_read :
        length before ≡ 128 → k ≡ 1 → ReadOutcome (take end input) before after x → CurveRead input after x.code (2 * x.count)
    curve_read long curve o =
        let file = rw first.is at o in
        let after_long : length after ≡ 128 = outcome_length o.list ∙ long in
        let few : 2 * x.count ≤ length after = omega (arith, count_few o.list) in
        record {
          verdict = curve_code input file (sym kind ∙ curve) (omega arith);
          told = λ e. curve_told input file e;
          inside = few;
          lent = sym (length-take-le (2 * x.count) after few);
          long = after_long;
        }

    -- its numbers can be counted
    pub curve_numbers : ReadOutcome (take end input) before after x → Fits w64 (2 * x.count)
    curve_numbers o = record { fits = omega (arith, count_few o.list) }

    -- ---- A server.

    -- it is read
    pub server_read : (k ≡ 1 → ⊥) → ReadOutcome (take end input) before after x → ServerRead input x.code x.server
    server_read other o =
        let file = rw first.is at o in
        record {
          verdict = server_code input file (λ e. other (kind ∙ e));
          told = λ e. server_told input file e;
        }

  -- a curve stands there
  pub server_missing : {s : Server} → k ≡ 1 → ServerRead input (number HEADER) s
  unfolding number
  server_missing curve = record { verdict = curve_there input (sym kind ∙ curve); told = λ e. absurd (omega arith) }

-- ---- What is read is what is due.

-- no server has the kind of a curve
server_kind : (s : Server) → (numbers_of s).kind ≡ 1 → ⊥
server_kind (rated s) e = omega (arith, e)
server_kind (pure_delay latency) e = omega (arith, e)

module _ {input : List ℕ} {k : ℕ} (kind : k ≡ kind_in input) {end : ℕ} (first : FirstEnd input end) where
  -- the first file has that kind
  first_kind : k ≡ kind_in (take end input)
  first_kind = rw first.is (kind ∙ sym (same_start input).kind_same)

  -- no server is read of a curve's file,
  pub no_server_read :
      {before after : List ℕ} {ed : ℕ} (s : Server) → k ≡ 1
      → ReadOutcome (take end input) before after (record { code = 0; edition = ed; kind = kind_of (server s); count = 0; server = s })
      → ⊥
  no_server_read s curve o =
      server_kind s ((o.told.accepted refl).1 ∙ ap kind_of (held_curve (take end input) (sym first_kind ∙ curve)))

  -- and no curve of a server's
  pub no_curve_read :
      {before after : List ℕ} {ed n : ℕ} → (k ≡ 1 → ⊥)
      → ReadOutcome (take end input) before after (record { code = 0; edition = ed; kind = 1; count = n; server = no_server })
      → ⊥
  no_curve_read other o =
      server_kind (server_held (take end input))
      (sym ((o.told.accepted refl).1 ∙ ap kind_of (held_server (take end input) (λ e. other (first_kind ∙ e)))))
