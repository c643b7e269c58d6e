-- One outcome for every input: two outcomes of one question, over the same lent list, have the same code, the same count or
-- figure and the same list afterwards. And how an outcome is come by: tests for refusals put together, the smallest number
-- winning over all operands, then LARGE, then ROOM, then the answer.
-- Assumes nothing.
use mathlib.Core.Path.{◌≡◌, refl, sym, ◌∙◌, ap, subst, subst₂}
use mathlib.Core.Logic.{inl, inr, ⊎_elim, ⊎_swap}
use mathlib.Core.Bool.{Bool, true, false, cond}
use mathlib.Core.List.{List, ◌++◌, append_assoc, append-nil}
use Prim.Native.Nat.{ℕ, ◌≤◌, ◌<◌, min}
use native.Mathlib.Nat.{le_trans, le_of_eq, le_antisymm, le_refl, min-eq_left, min-eq_right, le_of_lt}
use native.Mathlib.Omega.{arith}
use lib.ListN.{length, take, drop, take-append-drop}
use lib.Seq.{take-length, drop-length}
use lib.Dec.{eqb, lit≤}
use borrow.Author.Tests.{eqb-true, eqb-false}
use Rattle.meaning.specs.Curve.{Bucket, list_of}
use Rattle.meaning.specs.Refusal.{Refusal, HEADER, LENGTH, PAD, LIST, COUNT, RANGE, FORM, UNBOUNDED, LARGE, ROOM, number, Lines, ◌when◌, ◌or◌, Wins, Clear, Verdict, accepted, rejected, TooLarge, answer_lines, over, Refused, Answered, Question, all_lines, Outcome, part, PartOutcome, FigureOutcome}
use Rattle.meaning.specs.Computed.{earlier}
use Rattle.meaning.proofs.Order.{le_or_lt}

-- every refusal has a number
pub number_positive : (r : Refusal) → 1 ≤ number r
unfolding number
number_positive HEADER = lit≤ tt
number_positive LENGTH = lit≤ tt
number_positive PAD = lit≤ tt
number_positive LIST = lit≤ tt
number_positive COUNT = lit≤ tt
number_positive RANGE = lit≤ tt
number_positive FORM = lit≤ tt
number_positive UNBOUNDED = lit≤ tt
number_positive LARGE = lit≤ tt
number_positive ROOM = lit≤ tt

-- the number that wins is one
pub wins_once : {lines : Lines} {r s : Refusal} → Wins lines r → Wins lines s → number r ≡ number s
wins_once {r = r} {s = s} v w = le_antisymm (v.smallest s w.holds) (w.smallest r v.holds)

-- No other code is a test's: the verdict on some lines is one.
pub one_verdict : {lines : Lines} {code code' : ℕ} → Verdict lines code → Verdict lines code' → code ≡ code'
one_verdict (accepted v e) (accepted w e') = e ∙ sym e'
one_verdict (accepted v e) (rejected r w e') = absurd (v r w.holds)
one_verdict (rejected r v e) (accepted w e') = absurd (w r v.holds)
one_verdict (rejected r v e) (rejected r' w e') = e ∙ wins_once v w ∙ sym e'

-- What the caller gets to see of an outcome is the same.
pub record Same (code figure code' figure' : ℕ) (after after' : List ℕ) : Type 0 where
  pub code_same : code ≡ code'
  pub figure_same : figure ≡ figure'
  pub after_same : after ≡ after'

-- Only one curve answers.
abbrev pub Single {ℓ} : {X : Type ℓ} → (X → Type 0) → Type ℓ
Single {X = X} Answer = (f g : X) → Answer f → Answer g → f ≡ g

module _ {lines : Lines} {before : List ℕ} where
  -- what is refused is refused with one number, and leaves one list
  pub refused_once :
      {after after' : List ℕ} {code figure code' figure' : ℕ}
      → Refused lines before after code figure → Refused lines before after' code' figure'
      → Same code figure code' figure' after after'
  refused_once v w =
      record {
        code_same = v.code_is ∙ wins_once v.wins w.wins ∙ sym w.code_is;
        figure_same = v.figure_is ∙ sym w.figure_is;
        after_same = v.kept ∙ sym w.kept;
      }

  -- what is refused has no answer
  pub refused_or_clear : {after : List ℕ} {code figure : ℕ} → Refused lines before after code figure → Clear lines → ⊥
  refused_or_clear v none = none v.why v.wins.holds

  answered_once :
      {Answer : List Bucket → Type 0} {after after' : List ℕ} {code count code' count' : ℕ}
      → Single Answer → Answered lines Answer before after code count → Answered lines Answer before after' code' count'
      → Same code count code' count' after after'
  answered_once one v w =
      let e : v.curve ≡ w.curve = one v.curve w.curve v.right w.right in
      record {
        code_same = v.code_is ∙ sym w.code_is;
        figure_same = v.count_is ∙ ap length e ∙ sym w.count_is;
        after_same = v.written ∙ ap (λ (f : List Bucket). over (list_of f) before) e ∙ sym w.written;
      }

-- No other outcome: the code, the count and the full contents of the lent list are fixed.
pub one_outcome :
    {ask : Question} {before after after' : List ℕ} {code count code' count' : ℕ}
    → Single ask.Answer → Outcome ask before after code count → Outcome ask before after' code' count'
    → Same code count code' count' after after'
one_outcome one (Outcome.refused v) (Outcome.refused w) = refused_once v w
one_outcome one (Outcome.refused v) (Outcome.answered w) = absurd (refused_or_clear v w.clear)
one_outcome one (Outcome.answered v) (Outcome.refused w) = absurd (refused_or_clear w v.clear)
one_outcome one (Outcome.answered v) (Outcome.answered w) = answered_once one v w

-- The same with a part of a table for the output: the whole table is fixed.
pub one_part_outcome :
    {ask : Question} {at room : ℕ} {before after after' : List ℕ} {code count code' count' : ℕ}
    → Single ask.Answer → PartOutcome ask at room before after code count → PartOutcome ask at room before after' code' count'
    → Same code count code' count' after after'
one_part_outcome {at = at} {room = room} {before = before} one v w =
    let same = one_outcome one v.inside w.inside in
    record {
      code_same = same.code_same;
      figure_same = same.figure_same;
      after_same =
          v.outside
          ∙ ap (λ (l : List ℕ). take at before ++ l ++ drop room (drop at before)) same.after_same
          ∙ sym w.outside;
    }

-- No other figure.
pub one_figure :
    {lines : Lines} {Figure : ℕ → Type 0} {code figure code' figure' : ℕ}
    → Single Figure → FigureOutcome lines Figure code figure → FigureOutcome lines Figure code' figure'
    → (code ≡ code') × (figure ≡ figure')
one_figure one (FigureOutcome.refused v) (FigureOutcome.refused w) =
    let same = refused_once v w in (same.code_same, same.figure_same)
one_figure one (FigureOutcome.refused v) (FigureOutcome.answered clear e x) = absurd (refused_or_clear v clear)
one_figure one (FigureOutcome.answered clear e x) (FigureOutcome.refused w) = absurd (refused_or_clear w clear)
one_figure one (FigureOutcome.answered clear e x) (FigureOutcome.answered clear' e' x') = (e ∙ sym e', one _ _ x x')

-- ---- Tests for refusals put together.

-- No line below number n is among these.
abbrev pub From : ℕ → Lines → Type 0
From n lines = (r : Refusal) → lines r → n ≤ number r

-- No line above number n is among these.
abbrev pub UpTo : ℕ → Lines → Type 0
UpTo n lines = (r : Refusal) → lines r → number r ≤ n

module _ {n : ℕ} where
  -- one line is from its number on,
  pub from_when : (r : Refusal) {P : Type 0} → n ≤ number r → From n (r when P)
  from_when r h line holds = le_trans h (le_of_eq (ap number (sym holds.0)))

  -- and up to its number
  pub up_to_when : (r : Refusal) {P : Type 0} → number r ≤ n → UpTo n (r when P)
  up_to_when r h line holds = le_trans (le_of_eq (ap number holds.0)) h

module _ {a b : Lines} {n : ℕ} where
  -- so are several, if each is from a number on,
  pub from_or : From n a → From n b → From n (a or b)
  from_or ha hb line = ⊎_elim (ha line) (hb line)

  -- or up to a number
  pub up_to_or : UpTo n a → UpTo n b → UpTo n (a or b)
  up_to_or ha hb line = ⊎_elim (ha line) (hb line)

-- A line that holds.
pub line_hit : (r : Refusal) {P : Type 0} → P → Verdict (r when P) (number r)
line_hit r x = rejected r (record { holds = (refl, x); smallest = from_when r (le_refl (number r)) }) refl

-- A line that does not hold.
pub line_miss : {r : Refusal} {P : Type 0} → (P → ⊥) → Verdict (r when P) 0
line_miss none = accepted (λ line holds. none holds.1) refl

module _ {a b : Lines} where
  -- No line of either holds.
  pub clear_or : Clear a → Clear b → Clear (a or b)
  clear_or va vb line = ⊎_elim (va line) (vb line)

  -- What the first lines refuse, all of numbers up to the others', is refused.
  pub refused_first : {n code : ℕ} → UpTo n a → From n b → 1 ≤ code → Verdict a code → Verdict (a or b) code
  refused_first ha hb some (accepted v e) = absurd (omega (arith, e))
  refused_first ha hb some (rejected r w e) =
      rejected r
      (record { holds = inl w.holds; smallest = from_or w.smallest (λ line h. le_trans (ha r w.holds) (hb line h)) })
      e

  -- Where the first lines do not hold, the others decide.
  pub refused_then : {code : ℕ} → Verdict a 0 → Verdict b code → Verdict (a or b) code
  refused_then (rejected r w e) v = absurd (omega (arith, e, number_positive r))
  refused_then (accepted va e) (accepted vb e') = accepted (clear_or va vb) e'
  refused_then (accepted va e) (rejected r w e') =
      rejected r
      (record { holds = inr w.holds; smallest = from_or (λ line h. absurd (va line h)) w.smallest })
      e'

-- Two tests, of any lines: the smaller number wins.
smaller : {a b : Lines} {x y : ℕ} → 1 ≤ x → x ≤ y → Verdict a x → Verdict b y → Verdict (a or b) x
smaller some h (accepted v e) w = absurd (omega (arith, e))
smaller some h (rejected r v e) (accepted w e') = absurd (omega (arith, e'))
smaller some h (rejected r v e) (rejected s w e') =
    rejected r
    (record {
      holds = inl v.holds;
      smallest = from_or v.smallest (λ line x. le_trans (omega (arith, e, e')) (w.smallest line x));
    })
    e

module _ {a b : Lines} where
  swapped : {code : ℕ} → Verdict (b or a) code → Verdict (a or b) code
  swapped (accepted v e) = accepted (λ line h. v line (⊎_swap h)) e
  swapped (rejected r w e) =
      rejected r (record { holds = ⊎_swap w.holds; smallest = λ line h. w.smallest line (⊎_swap h) }) e

  -- The code of both together is the smaller one, where 0 is none.
  pub verdict_or : {x y : ℕ} → Verdict a x → Verdict b y → Verdict (a or b) (earlier x y)
  unfolding earlier
  verdict_or {x} {y} v w = by_first (eqb x 0) refl
    where
      by_size : 1 ≤ x → 1 ≤ y → Verdict (a or b) (min x y)
      by_size sx sy =
          elim (le_or_lt x y) [
            | inl h ↦ rw (min-eq_left h) (smaller sx h v w)
            | inr h ↦ rw (min-eq_right (le_of_lt h)) (swapped (smaller sy (le_of_lt h) w v))
          ]

      by_second : (t : Bool) → eqb y 0 ≡ t → 1 ≤ x → Verdict (a or b) (cond t x (min x y))
      by_second true e sx = swapped (refused_then (subst (Verdict b) (eqb-true y 0 e) w) v)
      by_second false e sx = by_size sx (omega (arith, eqb-false y 0 e))

      by_first : (t : Bool) → eqb x 0 ≡ t → Verdict (a or b) (cond t y (cond (eqb y 0) x (min x y)))
      by_first true e = refused_then (subst (Verdict a) (eqb-true x 0 e) v) w
      by_first false e = by_second (eqb y 0) refl (omega (arith, eqb-false x 0 e))

-- ---- From a verdict on the operands and the exact answer to the outcome.

-- A code that is not 0 is a refusal.
pub refusal : {lines : Lines} (before : List ℕ) {code : ℕ} → 1 ≤ code → Verdict lines code → Refused lines before before code 0
refusal before some (accepted v e) = absurd (omega (arith, e))
refusal before some (rejected r w e) = record { why = r; wins = w; code_is = e; figure_is = refl; kept = refl }

module _ (ask : Question) (before : List ℕ) where
  -- An operand is refused.
  pub refuse : {code : ℕ} → UpTo 8 ask.operands → 1 ≤ code → Verdict ask.operands code → Outcome ask before before code 0
  unfolding number
  refuse h some v =
      Outcome.refused
      (refusal before some (refused_first h (from_or (from_when LARGE (lit≤ tt)) (from_when ROOM (lit≤ tt))) some v))

  module _ (clear : Clear ask.operands) {f : List Bucket} (right : ask.Answer f) where
    -- The exact answer is too large.
    pub too_large : TooLarge f → Outcome ask before before 9 0
    unfolding number
    too_large large =
        Outcome.refused
        (refusal before (lit≤ tt)
        (refused_then (accepted clear refl)
        (refused_first {n = 9} (up_to_when LARGE (lit≤ tt)) (from_when ROOM (lit≤ tt)) (lit≤ tt)
        (line_hit LARGE (f, right, large)))))

    module _ (one : Single ask.Answer) (fits : TooLarge f → ⊥) where
      only_fits : (g : List Bucket) × ask.Answer g × TooLarge g → ⊥
      only_fits h = fits (subst TooLarge (one h.0 f h.1 right) h.2)

      -- It is not, and the list has no room for it.
      pub no_room : length before < length (list_of f) → Outcome ask before before 10 0
      unfolding number
      no_room short =
          Outcome.refused
          (refusal before (lit≤ tt)
          (refused_then (accepted clear refl) (refused_then (line_miss only_fits) (line_hit ROOM (f, right, short)))))

      -- It is written.
      pub written_out : length (list_of f) ≤ length before → Outcome ask before (over (list_of f) before) 0 (length f)
      written_out long =
          Outcome.answered
          (record {
            curve = f;
            clear = clear_or clear (clear_or (λ line h. only_fits h.1) (λ line h. has_room h.1));
            right = right;
            code_is = refl;
            count_is = refl;
            written = refl;
          })
        where
          has_room : (g : List Bucket) × ask.Answer g × (length before < length (list_of g)) → ⊥
          has_room h =
              let e : length (list_of h.0) ≡ length (list_of f) = ap (λ (g : List Bucket). length (list_of g)) (one h.0 f h.1 right) in
              omega (arith, h.2)

-- ---- One question in place of another, and the whole list as a part of itself.

module _ {X Y : List Bucket → Type 0} (to : (f : List Bucket) → X f → Y f) {room : ℕ} where
  same_answers : (r : Refusal) → answer_lines X room r → answer_lines Y room r
  same_answers r (inl h) = inl (h.0, (h.1.0, to h.1.0 h.1.1, h.1.2))
  same_answers r (inr h) = inr (h.0, (h.1.0, to h.1.0 h.1.1, h.1.2))

-- Two questions whose operands break the same lines, with the same answers, have the same outcome.
module _
    (ask other : Question)
    (breaks : (r : Refusal) → ask.operands r → other.operands r)
    (breaks_back : (r : Refusal) → other.operands r → ask.operands r)
    (to : (f : List Bucket) → ask.Answer f → other.Answer f)
    (back : (f : List Bucket) → other.Answer f → ask.Answer f)
  where
    lines_to : {room : ℕ} (r : Refusal) → all_lines ask room r → all_lines other room r
    lines_to r (inl h) = inl (breaks r h)
    lines_to r (inr h) = inr (same_answers to r h)

    lines_back : {room : ℕ} (r : Refusal) → all_lines other room r → all_lines ask room r
    lines_back r (inl h) = inl (breaks_back r h)
    lines_back r (inr h) = inr (same_answers back r h)

    pub asked_as : {before after : List ℕ} {code count : ℕ} → Outcome ask before after code count → Outcome other before after code count
    asked_as (Outcome.refused v) =
        Outcome.refused
        (record {
          why = v.why;
          wins =
              record {
                holds = lines_to v.why v.wins.holds;
                smallest = λ r h. v.wins.smallest r (lines_back r h);
              };
          code_is = v.code_is;
          figure_is = v.figure_is;
          kept = v.kept;
        })
    asked_as (Outcome.answered v) =
        Outcome.answered
        (record {
          curve = v.curve;
          clear = λ r h. v.clear r (lines_back r h);
          right = to v.curve v.right;
          code_is = v.code_is;
          count_is = v.count_is;
          written = v.written;
        })

-- So have two of which neither is refused by an operand, over a part of a table too.
pub asked_so_in_part :
    (ask other : Question) → Clear ask.operands → Clear other.operands
    → ((f : List Bucket) → ask.Answer f → other.Answer f) → ((f : List Bucket) → other.Answer f → ask.Answer f)
    → {at room : ℕ} {before after : List ℕ} {code count : ℕ}
    → PartOutcome ask at room before after code count → PartOutcome other at room before after code count
asked_so_in_part ask other clear clear' to back v =
    record {
      inside = asked_as ask other (λ r h. absurd (clear r h)) (λ r h. absurd (clear' r h)) to back v.inside;
      outside = v.outside;
    }

-- A table is what stands before a part, the part, and what stands after it.
pub three_parts : (at room : ℕ) (table : List ℕ) → table ≡ take at table ++ part at room table ++ drop room (drop at table)
unfolding part
three_parts at room table =
    sym (take-append-drop at table)
    ∙ ap (λ (l : List ℕ). take at table ++ l) (sym (take-append-drop room (drop at table)))
    ∙ sym (append_assoc (take at table) (take room (drop at table)) (drop room (drop at table)))

-- An operand is refused: the whole table stays.
pub refuse_in_part :
    (ask : Question) (at room : ℕ) (before : List ℕ) {code : ℕ}
    → UpTo 8 ask.operands → 1 ≤ code → Verdict ask.operands code → PartOutcome ask at room before before code 0
refuse_in_part ask at room before h some v =
    record { inside = refuse ask (part at room before) h some v; outside = three_parts at room before }

-- The whole list is a part of itself.
pub whole_list :
    (ask : Question) {before after : List ℕ} {code count : ℕ}
    → PartOutcome ask 0 (length before) before after code count → Outcome ask before after code count
unfolding part
whole_list ask {before} {after} {code} {count} v =
    subst₂ (λ (b a : List ℕ). Outcome ask b a code count) (take-length before)
    (sym (v.outside ∙ ap (λ (l : List ℕ). take (length before) after ++ l) (drop-length before) ∙ append-nil (take (length before) after)))
    v.inside
