-- Wrong answers that the contracts shut out. Each theorem takes what a slip would give back and finds that it satisfies no
-- contract, or says outright what every outcome that satisfies one has. The outcome over a part of a table holds one over the
-- part (`inside`), so what is said of a list is said of a part too.
-- Assumes nothing.
use mathlib.Core.Path.{◌≡◌, refl, sym, ◌∙◌, ap}
use mathlib.Core.Logic.{◌⊎◌, inl, inr, ◌≢◌}
use mathlib.Core.List.{List, [], ◌∷◌, ◌++◌, append_assoc}
use Prim.Native.Nat.{ℕ, ◌+◌, ◌-◌, ◌*◌, ◌≤◌, ◌<◌}
use native.Mathlib.Omega.{arith}
use lib.Dec.{lit≤}
use lib.ListN.{length, take, drop, get_or, length-append, length-take, length-drop, get_or-append}
use lib.Seq.{take_at, length-take-le, get_or-take, get_or-drop}
use Rattle.meaning.specs.Curve.{Bucket, buckets, width, curve_of, list_of}
use Rattle.meaning.specs.Figures.{C}
use Rattle.meaning.specs.Refusal.{Refusal, LIST, COUNT, RANGE, FORM, LARGE, ROOM, number, Lines, ◌or◌, Wins, Clear, Verdict, Uneven, list_lines, curve_lines, TooLarge, answer_lines, over, Question, all_lines, Outcome, part, PartOutcome, FigureOutcome}
use Rattle.meaning.specs.CurveQuestions.{normalising, lowering, summing}
use Rattle.meaning.proofs.Order.{le_or_lt}
use Rattle.meaning.proofs.Outcome.Outcomes.{Single, From, UpTo, from_when, from_or, three_parts}
use Rattle.meaning.proofs.Lists.{list_rate, falling_at, over_start, drop_behind, empty_same, list_length}
use Rattle.meaning.proofs.Outcome.Answers.{AsksNormal, code_zero, code_wins, wins_code, outcome_code, curve_up_to, AnsweredList, answered_list, answered_length, outcome_length, only_answered}
use Rattle.meaning.proofs.Outcome.Known.{p1_raw, p1_outcome, p2_raw, p2_outcome, p3_raw, p3_outcome}

-- ---- One bucket past the part.

module _
    {ask : Question} {at room : ℕ} {before after : List ℕ} {code count : ℕ} (v : PartOutcome ask at room before after code count)
  where
    -- the part is as long as it was
    part_length : length (part at room after) ≡ length (part at room before)
    part_length = outcome_length v.inside

    -- where the part stays, the table does
    pub part_kept : part at room after ≡ part at room before → after ≡ before
    part_kept e =
        v.outside
        ∙ ap (λ (l : List ℕ). take at before ++ l ++ drop room (drop at before)) e
        ∙ sym (three_parts at room before)

    -- nothing before the part changes
    pub before_part : take at after ≡ take at before
    unfolding part
    before_part =
        elim (le_or_lt at (length before)) [
          | inl h ↦
              ap (take at) (v.outside ∙ append_assoc (take at before) (part at room after) (drop room (drop at before)))
              ∙ take_at (take at before) (part at room after ++ drop room (drop at before)) at (length-take-le at before h)
          | inr h ↦
              let none : length (part at room before) ≡ 0 = simp (length-take, length-drop) (omega arith) in
              ap (take at) (part_kept (empty_same (part at room after) (part at room before) (part_length ∙ none) none))
        ]

    -- nothing after it changes
    pub after_part : drop (at + room) after ≡ drop (at + room) before
    unfolding part
    after_part =
        ap (drop (at + room)) v.outside
        ∙ drop_behind (take at before ++ part at room after) (take at before ++ part at room before) (drop room (drop at before))
        (at + room)
        (simp length-append (omega (arith, part_length)))
        (simp (length-append, length-take) (omega arith))
        ∙ sym (ap (drop (at + room)) (three_parts at room before))

    -- each number outside the part is what it was
    pub outside_stays : (i : ℕ) → (i < at) ⊎ (at + room ≤ i) → get_or after i 0 ≡ get_or before i 0
    outside_stays i (inl h) =
        sym (get_or-take at after i 0 h) ∙ ap (λ (l : List ℕ). get_or l i 0) before_part ∙ get_or-take at before i 0 h
    outside_stays i (inr h) =
        let e : at + room + (i - (at + room)) ≡ i = omega arith in
        ap (λ (n : ℕ). get_or after n 0) (sym e)
        ∙ sym (get_or-drop (at + room) after (i - (at + room)) 0)
        ∙ ap (λ (l : List ℕ). get_or l (i - (at + room)) 0) after_part
        ∙ get_or-drop (at + room) before (i - (at + room)) 0
        ∙ ap (λ (n : ℕ). get_or before n 0) e

-- so an outcome in which a number outside the part differs is none
pub written_past_the_part :
    {ask : Question} {at room : ℕ} {before after : List ℕ} {code count : ℕ} (i : ℕ) → (i < at) ⊎ (at + room ≤ i)
    → get_or after i 0 ≢ get_or before i 0 → PartOutcome ask at room before after code count → ⊥
written_past_the_part i out other v = other (outside_stays v i out)

-- ---- An output written before a refusal.

-- a refusal leaves the lent list, and its count is 0
pub refusal_keeps :
    {ask : Question} {before after : List ℕ} {code count : ℕ} → Outcome ask before after code count → code ≢ 0
    → (after ≡ before) × (count ≡ 0)
refusal_keeps (Outcome.refused v) some = (v.kept, v.figure_is)
refusal_keeps (Outcome.answered v) some = absurd (some v.code_is)

-- it leaves the whole table
pub refusal_keeps_table :
    {ask : Question} {at room : ℕ} {before after : List ℕ} {code count : ℕ} → PartOutcome ask at room before after code count
    → code ≢ 0 → (after ≡ before) × (count ≡ 0)
refusal_keeps_table v some =
    let kept = refusal_keeps v.inside some in
    (part_kept v kept.0, kept.1)

-- a figure that is refused is 0
pub refusal_figure :
    {lines : Lines} {Figure : ℕ → Type 0} {code figure : ℕ} → FigureOutcome lines Figure code figure → code ≢ 0 → figure ≡ 0
refusal_figure (FigureOutcome.refused v) some = v.figure_is
refusal_figure (FigureOutcome.answered clear e x) some = absurd (some e)

-- ---- A kept duplicate.

-- the number at width * i of an answered list is the rate of the bucket at position i
rate_written :
    {ask : Question} {before after : List ℕ} {count : ℕ} {g : List ℕ} (a : AnsweredList ask before after count g) (i : ℕ) (k : Bucket)
    → i < count → get_or after (width * i) 0 ≡ (get_or (curve_of g) i k).rate
unfolding over
rate_written {g = g} a i k h =
    ap (λ (l : List ℕ). get_or l (width * i) 0) a.written
    ∙ get_or-append g _ 0 (width * i) (omega (arith, answered_length a))
    ∙ ap (λ (l : List ℕ). get_or l (width * i) 0) (sym a.numbers)
    ∙ list_rate (curve_of g) i k (omega (arith, a.count_is))

-- an answered list never holds two buckets of one rate: the rates in it fall strictly
pub one_rate_once :
    {ask : Question} {raw : List Bucket} {before after : List ℕ} {count : ℕ} → AsksNormal ask raw
    → Outcome ask before after 0 count → (i j : ℕ) → i < j → j < count → get_or after (width * j) 0 < get_or after (width * i) 0
one_rate_once asks o i j l h =
    let a = answered_list o in
    let k : Bucket = record { rate = 0; burst = 0 } in
    rw (rate_written a i k (omega arith), rate_written a j k h)
    (falling_at _ (asks.answer_is _ a.right).form.falling k i j l (omega (arith, a.count_is)))

-- P1 with (10, 2) kept twice
pub kept_duplicate :
    {before : List ℕ} → Outcome (normalising p1_raw) before (over (list_of (buckets (10 ∷ 2 ∷ 10 ∷ 2 ∷ 3 ∷ 20 ∷ []))) before) 0 3 → ⊥
kept_duplicate o = omega (arith, (only_answered p1_outcome o).figure_same)

-- ---- Usefulness.

-- judged by < in place of ≤ (useless only where something is strictly lower): P2 with (3, 1) kept, though all three meet at 1
pub useful_by_less :
    {before : List ℕ} → Outcome (normalising p2_raw) before (over (list_of (buckets (4 ∷ 0 ∷ 3 ∷ 1 ∷ 2 ∷ 2 ∷ []))) before) 0 3 → ⊥
useful_by_less o = omega (arith, (only_answered p2_outcome o).figure_same)

-- judged at whole ticks only: P3 with (4, 2) dropped
pub useful_at_ticks :
    {before : List ℕ} → Outcome (normalising p3_raw) before (over (list_of (buckets (10 ∷ 0 ∷ 0 ∷ 5 ∷ []))) before) 0 2 → ⊥
useful_at_ticks o = omega (arith, (only_answered p3_outcome o).figure_same)

-- ---- The order of the refusals.

-- LIST is the first line of a list of numbers, and LARGE and ROOM are the last of all
list_from : (numbers : ℕ) (l : List ℕ) (f : List Bucket) → From 4 (list_lines numbers l f)
unfolding number
list_from numbers l f = from_or (from_or (from_when LIST (lit≤ tt)) (from_when COUNT (lit≤ tt))) (from_when RANGE (lit≤ tt))

curve_from : (l : List ℕ) → From 4 (curve_lines l)
unfolding number
curve_from l = from_or (list_from width l (curve_of l)) (from_when FORM (lit≤ tt))

answer_from : {n room : ℕ} (Answer : List Bucket → Type 0) → n ≤ 9 → From n (answer_lines Answer room)
unfolding number
answer_from Answer h = from_or (from_when LARGE h) (from_when ROOM (omega arith))

-- a list that is empty or uneven is LIST, which nothing goes before
pub list_wins : (l : List ℕ) → Uneven width l → Wins (curve_lines l) LIST
unfolding number
list_wins l h = record { holds = inl (inl (inl (refl, h))); smallest = curve_from l }

module _ {before after : List ℕ} {code count : ℕ} where
  -- COUNT before LIST: a list of odd length is LIST, 4, however long it is, and so is an empty one
  pub list_before_count : (raw : List ℕ) → Uneven 2 raw → Outcome (normalising raw) before after code count → code ≡ 4
  unfolding normalising number
  list_before_count raw h o =
      wins_code
      (record { holds = inl (inl (inl (refl, h))); smallest = from_or (list_from 2 raw (buckets raw)) (answer_from _ (lit≤ tt)) })
      (outcome_code o)

  -- ROOM before LARGE: where the exact answer is too large, the code is not ROOM
  pub large_before_room :
      {ask : Question} {f : List Bucket} → ask.Answer f → TooLarge f → Outcome ask before after code count → code ≢ 10
  unfolding number
  large_before_room {f = f} right large o e =
      let w = code_wins (outcome_code o) (omega arith) in
      omega (arith, w.1.smallest LARGE (inr (inl (refl, (f, right, large)))), w.2)

-- the refusal of the second operand, whatever its lines are, counts where nothing smaller holds of the first
pub second_counts :
    (f : List ℕ) (lines : Lines) (Answer : List Bucket → Type 0) {room code : ℕ} {r : Refusal} → UpTo 8 lines → Wins lines r
    → From (number r) (curve_lines f) → Verdict (curve_lines f or lines or answer_lines Answer room) code → code ≡ number r
second_counts f lines Answer {r = r} up w first v =
    wins_code
    (record {
      holds = inl (inr w.holds);
      smallest = from_or (from_or first w.smallest) (answer_from Answer (omega (arith, up r w.holds)));
    })
    v

module _ {before after : List ℕ} {code count : ℕ} (f g : List ℕ) where
  -- The second operand's smaller refusal hidden by the first's larger one: the second's is the code,
  pub lower_second_counts :
      {r : Refusal} → Wins (curve_lines g) r → From (number r) (curve_lines f) → Outcome (lowering f g) before after code count
      → code ≡ number r
  unfolding lowering
  lower_second_counts w first o = second_counts f (curve_lines g) _ (curve_up_to g) w first (outcome_code o)

  -- of a sum too,
  pub sum_second_counts :
      {r : Refusal} → Wins (curve_lines g) r → From (number r) (curve_lines f) → Outcome (summing f g) before after code count
      → code ≡ number r
  unfolding summing
  sum_second_counts w first o = second_counts f (curve_lines g) _ (curve_up_to g) w first (outcome_code o)

  -- so a second operand that is empty or odd is LIST, whatever the first is (out of form, say).
  pub lower_second_list : Uneven width g → Outcome (lowering f g) before after code count → code ≡ 4
  unfolding number
  lower_second_list h = lower_second_counts (list_wins g h) (curve_from f)

  -- For a sum too.
  pub sum_second_list : Uneven width g → Outcome (summing f g) before after code count → code ≡ 4
  unfolding number
  sum_second_list h = sum_second_counts (list_wins g h) (curve_from f)

-- ---- Stand-ins.

module _ {ask : Question} {before after : List ℕ} {code count : ℕ} where
  -- a refuser of everything: where no line holds, the code is 0
  pub refuser : Clear (all_lines ask (length before)) → Outcome ask before after code count → code ≢ 0 → ⊥
  refuser clear o some = some ((code_zero (outcome_code o)).1 clear)

  -- a taker of everything: where a line holds, it is not
  pub taker : (r : Refusal) → all_lines ask (length before) r → Outcome ask before after code count → code ≡ 0 → ⊥
  taker r holds o none = (code_zero (outcome_code o)).0 none r holds

-- a fixed reply: no one reply serves P1 and P3, in any list with room for both
pub fixed_reply :
    {before after : List ℕ} {code count : ℕ} → length (list_of (buckets p3_raw)) ≤ length before → Outcome (normalising p1_raw) before after code count
    → Outcome (normalising p3_raw) before after code count → ⊥
unfolding buckets
fixed_reply room o o' =
    let less : length (list_of C) ≤ length (list_of (buckets p3_raw)) = rw (list_length, list_length) (lit≤ tt) in
    omega (arith, (p1_outcome.with_room (omega (arith, less)) o).figure_same, (p3_outcome.with_room room o').figure_same)

-- A question that one curve answers, as those over curves and behind are:
module _
    (ask : Question) (f : List Bucket) (one : Single ask.Answer) (right : ask.Answer f) {before : List ℕ} {count : ℕ}
  where
    -- what is answered is the answer
    answered_curve : {after : List ℕ} → Outcome ask before after 0 count → (count ≡ length f) × (after ≡ over (list_of f) before)
    answered_curve o =
        let a = answered_list o in
        let e = one _ f a.right right in
        (a.count_is ∙ ap length e, a.written ∙ ap (λ (l : List ℕ). over l before) (sym a.numbers ∙ ap list_of e))

    -- one that writes nothing: code 0 over a list that stays, though it does not begin with the answer
    pub writes_nothing : take (length (list_of f)) before ≢ list_of f → Outcome ask before before 0 count → ⊥
    writes_nothing other o = other (ap (take (length (list_of f))) (answered_curve o).1 ∙ over_start (list_of f) before)

    -- an invented count
    pub invented_count : {after : List ℕ} → count ≢ length f → Outcome ask before after 0 count → ⊥
    invented_count other o = other (answered_curve o).0
