-- A route with a buffer lent for its text. How its outcome is come by, and what it says to a caller: with 1,145 bytes lent there is
-- always an answer, a refusal among the texts; with fewer the one other outcome is ROOM.
-- Assumes nothing.
use mathlib.Core.Path.{◌≡◌}
use mathlib.Core.Logic.{inl, inr, ◌≢◌}
use mathlib.Core.List.{List}
use Prim.Native.Nat.{ℕ, ◌≤◌, ◌<◌}
use native.Mathlib.Omega.{arith}
use lib.ListN.{length, take, drop}
use Rattle.meaning.specs.Refusal.{over}
use Rattle.meaning.specs.Route.{Route, routing, RouteOutcome}
use Rattle.meaning.proofs.Order.{le_or_lt, not_apart}
use Rattle.meaning.proofs.Outcome.Bytes.{no_room_bytes, filled_bytes, filled_read}
use Rattle.meaning.proofs.Route.Text.{route_length}
use Rattle.meaning.proofs.Route.EveryRoute.{route_has_text, single_route, only_text}

module _ {input output : List ℕ} (route : Route input output) (before : List ℕ) where
  -- the buffer has room for the text: it is written from its start,
  pub route_written : length output ≤ length before → RouteOutcome input before (over output before) 0 (length output)
  unfolding routing
  route_written = filled_bytes (routing input) before (λ r h. h) route (single_route input)

  -- it has not: ROOM, and it stays
  pub route_no_room : length before < length output → RouteOutcome input before before 10 0
  unfolding routing
  route_no_room = no_room_bytes (routing input) before (λ r h. h) route

-- A text that is answered: the program's output, which stands at the start of the buffer, and the bytes beyond it stay.
pub record RouteAnswered (input before after : List ℕ) (count : ℕ) : Type 0 where
  pub output : Route input (take count after)
  pub room : count ≤ length before
  pub most : count ≤ 1145
  pub beyond : drop count after ≡ drop count before

-- code 0 is such,
pub route_answered :
    (input : List ℕ) {before after : List ℕ} {count : ℕ} → RouteOutcome input before after 0 count
    → RouteAnswered input before after count
unfolding routing
route_answered input o =
    let known = filled_read o in
    record {
      output = known.right;
      room = known.room;
      most = omega (arith, known.count_is, route_length known.right);
      beyond = known.beyond;
    }

-- and any other code is ROOM: the buffer stays, no count is told, and it is shorter than the text
pub route_refused :
    (input : List ℕ) {before after : List ℕ} {code count : ℕ} → RouteOutcome input before after code count → code ≢ 0
    → (code ≡ 10) × (count ≡ 0) × (after ≡ before) × (length before < 1145)
route_refused input {before} o nonzero =
    let text = route_has_text input in
    let only = (only_text text.1).outcome in
    elim (le_or_lt (length text.0) (length before)) [
      | inl room ↦ absurd (nonzero (only.with_room room o).code_same)
      | inr short ↦
          let same = only.without_room short o in
          (same.code_same, same.figure_same, same.after_same, omega (arith, route_length text.1))
    ]

-- so with 1,145 bytes lent the code is 0
pub room_enough :
    (input : List ℕ) {before after : List ℕ} {code count : ℕ} → 1145 ≤ length before → RouteOutcome input before after code count
    → code ≡ 0
room_enough input enough o = not_apart (λ nonzero. omega (arith, (route_refused input o nonzero).3))
