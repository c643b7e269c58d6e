-- Questions that bytes answer. Two outcomes over the same lent buffer have the same code, the same count and the same buffer
-- afterwards. How an outcome is come by: an operand is refused, or the buffer is too short, or the bytes are written. And what an
-- outcome says in a caller's words.
-- Assumes nothing.
use mathlib.Core.Path.{◌≡◌, refl, sym, ◌∙◌, ap}
use mathlib.Core.Logic.{inl, inr, ◌≢◌}
use mathlib.Core.List.{List}
use Prim.Native.Nat.{ℕ, ◌≤◌, ◌<◌}
use native.Mathlib.Omega.{arith}
use lib.Dec.{lit≤}
use lib.ListN.{length, take, drop}
use Rattle.meaning.specs.Refusal.{Refusal, ROOM, number, Wins, Clear, Verdict, accepted, rejected, over, BytesQuestion, bytes_lines, Filled, BytesOutcome}
use Rattle.meaning.proofs.Order.{le_or_lt, not_above}
use Rattle.meaning.proofs.Lists.{over_start, over_beyond, over_length}
use Rattle.meaning.proofs.Outcome.Outcomes.{number_positive, Same, Single, refused_once, refused_or_clear, UpTo, from_when, from_or, line_hit, clear_or, refused_first, refused_then, refusal}
use Rattle.meaning.proofs.Outcome.Answers.{wins_code}

-- ---- One outcome.

-- what is written is written once
filled_once :
    {ask : BytesQuestion} {before after after' : List ℕ} {code count code' count' : ℕ}
    → Single ask.Answer → Filled ask before after code count → Filled ask before after' code' count'
    → Same code count code' count' after after'
filled_once {before = before} one v w =
    let e : v.bytes ≡ w.bytes = one v.bytes w.bytes v.right w.right in
    record {
      code_same = v.code_is ∙ sym w.code_is;
      figure_same = v.count_is ∙ ap length e ∙ sym w.count_is;
      after_same = v.written ∙ ap (λ (bytes : List ℕ). over bytes before) e ∙ sym w.written;
    }

-- No other outcome: the code, the count and the full contents of the lent buffer are fixed.
pub one_bytes :
    {ask : BytesQuestion} {before after after' : List ℕ} {code count code' count' : ℕ}
    → Single ask.Answer → BytesOutcome ask before after code count → BytesOutcome ask before after' code' count'
    → Same code count code' count' after after'
one_bytes one (BytesOutcome.refused v) (BytesOutcome.refused w) = refused_once v w
one_bytes one (BytesOutcome.refused v) (BytesOutcome.filled w) = absurd (refused_or_clear v w.clear)
one_bytes one (BytesOutcome.filled v) (BytesOutcome.refused w) = absurd (refused_or_clear w v.clear)
one_bytes one (BytesOutcome.filled v) (BytesOutcome.filled w) = filled_once one v w

-- ---- How an outcome is come by.

module _ (ask : BytesQuestion) (before : List ℕ) where
  -- An operand is refused.
  pub refuse_bytes :
      {code : ℕ} → UpTo 9 ask.operands → 1 ≤ code → Verdict ask.operands code → BytesOutcome ask before before code 0
  unfolding number
  refuse_bytes h some v = BytesOutcome.refused (refusal before some (refused_first h (from_when ROOM (lit≤ tt)) some v))

  module _ (clear : Clear ask.operands) {bytes : List ℕ} (right : ask.Answer bytes) where
    -- None is, and the buffer has no room for the bytes.
    pub no_room_bytes : length before < length bytes → BytesOutcome ask before before 10 0
    unfolding number
    no_room_bytes short =
        BytesOutcome.refused
        (refusal before (lit≤ tt) (refused_then (accepted clear refl) (line_hit ROOM (bytes, right, short))))

    -- It has, and they are written.
    pub filled_bytes :
        Single ask.Answer → length bytes ≤ length before → BytesOutcome ask before (over bytes before) 0 (length bytes)
    filled_bytes one long =
        BytesOutcome.filled
        (record {
          bytes = bytes;
          clear = clear_or clear (λ r h. room h.1.0 h.1.1 h.1.2);
          right = right;
          code_is = refl;
          count_is = refl;
          written = refl;
        })
      where
        room : (other : List ℕ) → ask.Answer other → length before < length other → ⊥
        room other x short = omega (arith, ap length (one other bytes x right))

-- The only outcomes of a question: where the buffer has room, code 0, the count of these bytes, and they are written from its
-- start; where it has not, ROOM.
pub record OnlyBytes (ask : BytesQuestion) (bytes : List ℕ) : Type 0 where
  pub with_room :
      {before after : List ℕ} {code count : ℕ} → length bytes ≤ length before → BytesOutcome ask before after code count
      → Same code count 0 (length bytes) after (over bytes before)
  pub without_room :
      {before after : List ℕ} {code count : ℕ} → length before < length bytes → BytesOutcome ask before after code count
      → Same code count 10 0 after before

-- where no operand is refused there are no others
pub only_bytes :
    {ask : BytesQuestion} {bytes : List ℕ} → Single ask.Answer → Clear ask.operands → ask.Answer bytes
    → OnlyBytes ask bytes
only_bytes {ask} one clear right =
    record {
      with_room = λ {before} room o. one_bytes one o (filled_bytes ask before clear right one room);
      without_room = λ {before} short o. one_bytes one o (no_room_bytes ask before clear right short);
    }

-- what is written is these bytes, whatever the room
pub only_filled :
    {ask : BytesQuestion} {bytes before after : List ℕ} {count : ℕ} → OnlyBytes ask bytes → BytesOutcome ask before after 0 count
    → Same 0 count 0 (length bytes) after (over bytes before)
only_filled {bytes = bytes} {before = before} known o =
    elim (le_or_lt (length bytes) (length before)) [
      | inl room ↦ known.with_room room o
      | inr short ↦ absurd (omega (arith, (known.without_room short o).code_same))
    ]

-- ---- What an outcome says.

-- The code is that of the table: 0 exactly where no line holds, else the number that wins.
pub bytes_code :
    {ask : BytesQuestion} {before after : List ℕ} {code count : ℕ}
    → BytesOutcome ask before after code count → Verdict (bytes_lines ask (length before)) code
bytes_code (BytesOutcome.refused v) = rejected v.why v.wins v.code_is
bytes_code (BytesOutcome.filled v) = accepted v.clear v.code_is

-- What wins among the operands' lines is the code: ROOM comes after them all.
pub bytes_wins :
    {ask : BytesQuestion} {before after : List ℕ} {code count : ℕ} {r : Refusal} → BytesOutcome ask before after code count
    → number r ≤ 10 → Wins ask.operands r → code ≡ number r
unfolding number
bytes_wins o last w =
    wins_code (record { holds = inl w.holds; smallest = from_or w.smallest (from_when ROOM last) }) (bytes_code o)

-- A refusal leaves the lent buffer, and its count is 0.
pub refusal_keeps_bytes :
    {ask : BytesQuestion} {before after : List ℕ} {code count : ℕ} → BytesOutcome ask before after code count → code ≢ 0
    → (after ≡ before) × (count ≡ 0)
refusal_keeps_bytes (BytesOutcome.refused v) some = (v.kept, v.figure_is)
refusal_keeps_bytes (BytesOutcome.filled v) some = absurd (some v.code_is)

-- The only outcome of a question: refused with this number, whatever buffer is lent, which stays.
pub record OnlyRefusedBytes (ask : BytesQuestion) (code : ℕ) : Type 0 where
  pub whatever_buffer :
      {before after : List ℕ} {code' count : ℕ} → BytesOutcome ask before after code' count → Same code' count code 0 after before

-- where an operand is refused it is so
pub only_refused_bytes :
    {ask : BytesQuestion} {code : ℕ} → UpTo 9 ask.operands → 1 ≤ code → Verdict ask.operands code
    → OnlyRefusedBytes ask code
only_refused_bytes upto some (accepted clear e) = absurd (omega arith)
only_refused_bytes upto some (rejected r w e) =
    record {
      whatever_buffer =
          λ o.
          let number_is = bytes_wins o (omega (arith, upto r w.holds)) w in
          let kept = refusal_keeps_bytes o (omega arith) in
          record { code_same = number_is ∙ sym e; figure_same = kept.1; after_same = kept.0 };
    }

-- Bytes that are answered: no line holds of the operands, they are the answer, the buffer has room for them, they stand at its
-- start, and the bytes beyond them stay.
pub record FilledBytes (ask : BytesQuestion) (before after : List ℕ) (count : ℕ) (bytes : List ℕ) : Type 0 where
  pub operands_clear : Clear ask.operands
  pub right : ask.Answer bytes
  pub count_is : count ≡ length bytes
  pub room : count ≤ length before
  pub written : after ≡ over bytes before
  pub beyond : drop count after ≡ drop count before

-- such is what is written
read_filled :
    {ask : BytesQuestion} {before after : List ℕ} {code count : ℕ} → Filled ask before after code count
    → FilledBytes ask before after count (take count after)
read_filled {before = before} {after = after} {count = count} v =
    rw start
    (record {
      operands_clear = λ r h. v.clear r (inl h);
      right = v.right;
      count_is = v.count_is;
      room = not_above (λ short. v.clear ROOM (inr (refl, (v.bytes, v.right, omega (arith, v.count_is)))));
      written = v.written;
      beyond = rw (v.count_is, v.written) (over_beyond v.bytes before);
    })
  where
    start : take count after ≡ v.bytes
    start = rw (v.count_is, v.written) (over_start v.bytes before)

-- Code 0 is such: the bytes are those that one reads who has the buffer afterwards and the count.
pub filled_read :
    {ask : BytesQuestion} {before after : List ℕ} {count : ℕ} → BytesOutcome ask before after 0 count
    → FilledBytes ask before after count (take count after)
filled_read (BytesOutcome.refused v) = absurd (omega (arith, number_positive v.why, v.code_is))
filled_read (BytesOutcome.filled v) = read_filled v

-- The lent buffer is as long as it was.
pub bytes_length :
    {ask : BytesQuestion} {before after : List ℕ} {code count : ℕ} → BytesOutcome ask before after code count
    → length after ≡ length before
bytes_length (BytesOutcome.refused v) = ap length v.kept
bytes_length {before = before} (BytesOutcome.filled v) =
    ap length v.written
    ∙ over_length v.bytes before (not_above (λ short. v.clear ROOM (inr (refl, (v.bytes, v.right, short)))))

-- ---- Stand-ins.

module _ {ask : BytesQuestion} {before after : List ℕ} {code count : ℕ} where
  -- one that refuses everything: where no operand is refused and the buffer has room, the code is 0
  pub bytes_refuser :
      {bytes : List ℕ} → OnlyBytes ask bytes → length bytes ≤ length before → BytesOutcome ask before after code count
      → code ≢ 0 → ⊥
  bytes_refuser known room o some = some (known.with_room room o).code_same

-- one that writes nothing: code 0 over a buffer that stays, though it does not begin with the answer
pub writes_no_bytes :
    {ask : BytesQuestion} {bytes before : List ℕ} {count : ℕ} → OnlyBytes ask bytes → take (length bytes) before ≢ bytes
    → BytesOutcome ask before before 0 count → ⊥
writes_no_bytes {bytes = bytes} {before = before} known other o =
    other (ap (take (length bytes)) (only_filled known o).after_same ∙ over_start bytes before)

-- no more bytes are told than the buffer has
pub count_within :
    {ask : BytesQuestion} {before after : List ℕ} {code count : ℕ} → BytesOutcome ask before after code count → count ≤ length before
count_within (BytesOutcome.refused v) = omega (arith, v.figure_is)
count_within (BytesOutcome.filled v) = (read_filled v).room
