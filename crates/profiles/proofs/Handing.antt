-- Bytes handed over to a lent buffer: the answer to a question of their own, and to that of the profile whose file they are.
-- Assumes nothing.
use mathlib.Core.Path.{◌≡◌, refl, sym, ◌∙◌, ap}
use mathlib.Core.Bool.{Bool, true, false, not}
use mathlib.Core.Logic.{inl, inr}
use mathlib.Core.List.{List, ◌++◌}
use Prim.Native.Nat.{ℕ, ◌^◌, ◌≤◌, ◌<◌}
use native.Mathlib.Omega.{arith}
use lib.Dec.{lit≤}
use lib.ListN.{length, drop}
use borrow.Author.Tests.{not-true, not-false}
use Rattle.meaning.specs.Curve.{curve_of}
use Rattle.meaning.specs.Server.{Server, Numbers, numbers_of}
use Rattle.meaning.specs.Refusal.{Refusal, HEADER, ROOM, number, Lines, Clear, Verdict, curve_lines, over, BytesQuestion, bytes_lines, BytesOutcome}
use Rattle.meaning.specs.ServerQuestions.{server_lines}
use Rattle.meaning.specs.Profile.{Profile, curve, server, kind_of, Known, written, writing, WriteCurveOutcome, WriteServerOutcome}
use Rattle.meaning.proofs.Outcome.Outcomes.{Single, Same, UpTo}
use Rattle.meaning.proofs.Outcome.Answers.{curve_up_to}
use Rattle.meaning.proofs.Outcome.Demands.{server_up_to}
use Rattle.meaning.proofs.Outcome.Bytes.{one_bytes, refuse_bytes, no_room_bytes, filled_bytes}
use Rattle.meaning.proofs.Profile.Refusals.{edition_code, operand_code, write_up_to}
use Rattle.meaning.proofs.Profile.RoundTrip.{edition_fits}
use Rattle.checks.specs.Cited.{Tells}
use Rattle.checks.proofs.Checks.{passed}
use Rattle.servers.specs.Cited as of_servers
use Rattle.servers.proofs.Joins.{server_ranged}
use Rattle.profiles.specs.Cited.{padded, whole_bytes, RangedServer, server_bits, curve_bits, handing}
use Rattle.profiles.proofs.Packs.{whole_padded}

-- ---- Bytes as they are.

-- only these bytes are the answer
single_handing : (bytes : List ℕ) → Single (handing bytes).Answer
unfolding handing
single_handing bytes f g e e' = e ∙ sym e'

module _ (bytes : List ℕ) {before : List ℕ} where
  -- the buffer is too short
  pub handed_short : length before < length bytes → BytesOutcome (handing bytes) before before (number ROOM) 0
  unfolding handing number
  handed_short short = no_room_bytes (handing bytes) before (λ r h. h) refl short

  -- they are written
  pub handed :
      {copied : List ℕ} → length bytes ≤ length before → copied ≡ bytes
      → BytesOutcome (handing bytes) before (copied ++ drop (length bytes) before) 0 (length bytes)
  unfolding handing over
  handed room e = rw e (filled_bytes (handing bytes) before (λ r h. h) refl (single_handing bytes) room)

pub ruleset hands = (handed_short, handed)

-- One outcome for every input: the code, the count and the whole buffer are fixed.
pub one_handing :
    (bytes : List ℕ) {before after after' : List ℕ} {code count code' count' : ℕ}
    → BytesOutcome (handing bytes) before after code count → BytesOutcome (handing bytes) before after' code' count'
    → Same code count code' count' after after'
one_handing bytes = one_bytes (single_handing bytes)

-- ---- Bytes that are the answer to another question.

module _ (ask : BytesQuestion) {bytes : List ℕ} (clear : Clear ask.operands) (right : ask.Answer bytes) (one : Single ask.Answer) where
  -- what refuses the bytes refuses the answer,
  to_lines : {room : ℕ} (r : Refusal) → bytes_lines (handing bytes) room r → bytes_lines ask room r
  unfolding handing
  to_lines r (inl h) = absurd h
  to_lines r (inr h) = inr (h.0, (bytes, right, rw h.1.1 at h.1.2))

  -- and the other way round
  back_lines : {room : ℕ} (r : Refusal) → bytes_lines ask room r → bytes_lines (handing bytes) room r
  unfolding handing
  back_lines r (inl h) = absurd (clear r h)
  back_lines r (inr h) = inr (h.0, (bytes, refl, rw (one h.1.0 bytes h.1.1 right) at h.1.2))

  -- what comes of handing them over comes of it
  pub handed_answer :
      {before after : List ℕ} {code count : ℕ} → BytesOutcome (handing bytes) before after code count → BytesOutcome ask before after code count
  unfolding handing
  handed_answer (BytesOutcome.refused v) =
      BytesOutcome.refused
      (record {
        why = v.why;
        wins =
            record { holds = to_lines v.why v.wins.holds; smallest = λ r h. v.wins.smallest r (back_lines r h) };
        code_is = v.code_is;
        figure_is = v.figure_is;
        kept = v.kept;
      })
  handed_answer (BytesOutcome.filled v) =
      BytesOutcome.filled
      (record {
        bytes = v.bytes;
        clear = λ r h. v.clear r (back_lines r h);
        right = rw v.right right;
        code_is = v.code_is;
        count_is = v.count_is;
        written = v.written;
      })

-- ---- A profile written in an edition.

module _ (ed : ℕ) (operands : Lines) (p : Profile) (upto : UpTo 8 operands) {answer : Bool} (t : Tells (Known ed (kind_of p)) answer) where
  -- the edition has no such kind,
  edition_refused : {before : List ℕ} → not answer ≡ true → BytesOutcome (writing ed operands p) before before (number HEADER) 0
  unfolding number
  edition_refused n =
      refuse_bytes (writing ed operands p) _ (write_up_to ed operands p upto) (lit≤ tt)
      (edition_code ed operands p (t.no_means (not-true answer n)))

  module _ (n : not answer ≡ false) {code : ℕ} (v : Verdict operands code) where
    -- or has it: then the operand decides
    operand_decides : Verdict (writing ed operands p).operands code
    operand_decides = operand_code ed operands p (t.yes_means (not-false answer n)) v

    -- it is refused,
    operand_refused : {before : List ℕ} → (code ≡ 0 → ⊥) → BytesOutcome (writing ed operands p) before before code 0
    operand_refused some =
        refuse_bytes (writing ed operands p) _ (write_up_to ed operands p upto) (omega (arith, some)) operand_decides

    -- or its file is handed over
    operand_handed :
        code ≡ 0 → {file before after : List ℕ} {count told : ℕ} → file ≡ written ed p
        → BytesOutcome (handing file) before after told count → BytesOutcome (writing ed operands p) before after told count
    unfolding writing
    operand_handed right e o = handed_answer (writing ed operands p) (passed operand_decides right) e (λ f g a b. a ∙ sym b) o

-- ---- A curve.

module _ {ed : ℕ} (l : List ℕ) {answer : Bool} (t : Tells (Known ed 1) answer) where
  -- the edition has no curves
  pub write_curve_header : {before : List ℕ} → not answer ≡ true → WriteCurveOutcome ed l before before (number HEADER) 0
  write_curve_header n = edition_refused ed (curve_lines l) (curve (curve_of l)) (curve_up_to l) t n

  module _ (n : not answer ≡ false) where
    -- it fits its field
    pub write_curve_early : ed < 2 ^ 4
    write_curve_early = edition_fits (t.yes_means (not-false answer n))

    module _ {code : ℕ} (v : Verdict (curve_lines l) code) where
      -- the curve is refused
      pub write_curve_refused : {before : List ℕ} → (code ≡ 0 → ⊥) → WriteCurveOutcome ed l before before code 0
      write_curve_refused some = operand_refused ed (curve_lines l) (curve (curve_of l)) (curve_up_to l) t n v some

      -- and handed over
      pub write_curve_handed :
          code ≡ 0 → {bits bytes before after : List ℕ} {count told : ℕ} → bits ≡ padded (curve_bits ed l) → bytes ≡ whole_bytes bits
          → BytesOutcome (handing bytes) before after told count → WriteCurveOutcome ed l before after told count
      unfolding curve_bits
      write_curve_handed right e f o =
          operand_handed ed (curve_lines l) (curve (curve_of l)) (curve_up_to l) t n v right
          (f ∙ ap whole_bytes e ∙ whole_padded ed (curve (curve_of l))) o

pub ruleset curve_writes = (write_curve_header, write_curve_refused, write_curve_early, write_curve_handed)

-- ---- A server.

module _ {ed : ℕ} (s : Server) {k : Numbers} (e : k ≡ numbers_of s) {answer : Bool} (t : Tells (Known ed k.kind) answer) where
  -- the answer is for the server's kind
  of_server : Tells (Known ed (kind_of (server s))) answer
  of_server = rw e at t

  -- the edition has no such kind
  pub write_server_header : {before : List ℕ} → not answer ≡ true → WriteServerOutcome ed s before before (number HEADER) 0
  write_server_header n = edition_refused ed (server_lines s) (server s) (server_up_to s) of_server n

  module _ (n : not answer ≡ false) {code : ℕ} (v : of_servers.Tested s code) where
    -- the server is refused
    pub write_server_refused : {before : List ℕ} → (code ≡ 0 → ⊥) → WriteServerOutcome ed s before before code 0
    write_server_refused some = operand_refused ed (server_lines s) (server s) (server_up_to s) of_server n v.verdict some

    module _ (right : code ≡ 0) where
      -- it can be packed
      pub write_server_ranged : RangedServer ed s
      write_server_ranged =
          record {
            early = edition_fits (of_server.yes_means (not-false answer n));
            ranged = server_ranged s (passed v.verdict right);
          }

      -- and handed over
      pub write_server_handed :
          {bits bytes before after : List ℕ} {count told : ℕ} → bits ≡ padded (server_bits ed s) → bytes ≡ whole_bytes bits
          → BytesOutcome (handing bytes) before after told count → WriteServerOutcome ed s before after told count
      unfolding server_bits
      write_server_handed e f o =
          operand_handed ed (server_lines s) (server s) (server_up_to s) of_server n v.verdict right
          (f ∙ ap whole_bytes e ∙ whole_padded ed (server s)) o

pub ruleset server_writes = (write_server_header, write_server_refused, write_server_ranged, write_server_handed)
