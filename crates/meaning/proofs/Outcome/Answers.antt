-- What an answer is, as one who asks reads it. The outcome of each question over curves is fixed: code, count and the whole list
-- afterwards. The code is 0 exactly where no line of the table holds, and otherwise the smallest number that applies. A curve
-- that is answered, read back from the list and the count alone, is in normal form, in range, taken wherever a curve is, and has
-- at every non-negative fraction the value that was asked for.
-- Assumes nothing.
use mathlib.Core.Path.{◌≡◌, refl, sym, ◌∙◌, ap, subst}
use mathlib.Core.Logic.{◌⊎◌, inl, inr, ◌≢◌, ◌↔◌}
use mathlib.Core.Bool.{true}
use mathlib.Core.List.{List, [], ◌∷◌, ◌++◌, append_assoc, append-nil}
use Prim.Native.Nat.{ℕ, ◌+◌, ◌*◌, ◌%◌, ◌^◌, ◌≤◌, ◌<◌, min}
use native.Mathlib.Nat.{le_of_lt}
use native.Mathlib.Omega.{arith}
use lib.Dec.{lit≤}
use lib.ListN.{length, take, drop, length-append, length-take, length-drop, drop_of_length-le}
use lib.Seq.{take_all, take_at, drop_at, take-take, length-take-le}
use Rattle.meaning.specs.Curve.{Bucket, buckets, width, curve_of, list_of, bucket_at, value_at, value, Burst, NormalForm, NormalOf, pairs, link_bucket}
use Rattle.meaning.specs.Refusal.{Refusal, LIST, COUNT, RANGE, FORM, LARGE, ROOM, number, Lines, ◌or◌, Wins, Clear, Verdict, accepted, rejected, AllInRange, list_lines, raw_lines, curve_lines, TooLarge, over, Answered, Question, all_lines, Outcome, part, PartOutcome, FigureOutcome}
use Rattle.meaning.specs.CurveQuestions.{normalising, lowering, summing, link_line, shaping, ValueOutcome, BurstOutcome}
use Rattle.meaning.specs.Computed.{is_normal}
use Rattle.meaning.proofs.Order.{le_or_lt, not_above, not_apart}
use Rattle.meaning.proofs.Curve.Reads.{one_burst}
use Rattle.meaning.proofs.Curve.Unique.{normal_of_unique}
use Rattle.meaning.proofs.Curve.Neighbours.{neighbours_sound}
use Rattle.meaning.proofs.Outcome.Stable.{range_stable, normal_stable}
use Rattle.meaning.proofs.Curve.Curves.{value_both, value_pairs}
use Rattle.meaning.proofs.Outcome.Outcomes.{number_positive, clear_or, wins_once, Same, Single, one_outcome, one_part_outcome, one_figure, UpTo, up_to_when, up_to_or, no_room, written_out}
use Rattle.meaning.proofs.Lists.{buckets_use, curve_use, list_length, curve_list, list_curve, EachInRange, all_in_range, over_start, over_beyond, over_length, empty_same}

-- ---- One outcome.

-- No other outcome satisfies the contract, over a lent list or over a part of a table: the code, the count and the full contents
-- of the list or the table are fixed.
pub record OneOutcome (ask : Question) : Type 0 where
  pub of_list :
      {before after after' : List ℕ} {code count code' count' : ℕ}
      → Outcome ask before after code count → Outcome ask before after' code' count' → Same code count code' count' after after'
  pub of_part :
      {at room : ℕ} {before after after' : List ℕ} {code count code' count' : ℕ}
      → PartOutcome ask at room before after code count → PartOutcome ask at room before after' code' count'
      → Same code count code' count' after after'

-- where one curve answers there is one outcome
pub one_curve : (ask : Question) → Single ask.Answer → OneOutcome ask
one_curve ask one = record { of_list = one_outcome one; of_part = one_part_outcome one }

-- A question that the normal form of some buckets answers.
pub record AsksNormal (ask : Question) (raw : List Bucket) : Type 0 where
  pub answer_is : (f : List Bucket) → ask.Answer f → NormalOf raw f

-- one curve answers it
pub single_normal : {ask : Question} {raw : List Bucket} → AsksNormal ask raw → Single ask.Answer
single_normal asks f g hf hg = normal_of_unique (asks.answer_is f hf) (asks.answer_is g hg)

-- normalise is such a question,
pub normalising_asks : (raw : List ℕ) → AsksNormal (normalising raw) (buckets raw)
unfolding normalising
normalising_asks raw = record { answer_is = λ f right. right }

-- lower is,
pub lowering_asks : (f g : List ℕ) → AsksNormal (lowering f g) (curve_of f ++ curve_of g)
unfolding lowering
lowering_asks f g = record { answer_is = λ h right. right }

-- sum is,
pub summing_asks : (f g : List ℕ) → AsksNormal (summing f g) (pairs (curve_of f) (curve_of g))
unfolding summing
summing_asks f g = record { answer_is = λ h right. right }

-- and shape is
pub shaping_asks : (f : List ℕ) (d l : ℕ) → AsksNormal (shaping f d l) (curve_of f ++ link_bucket d l ∷ [])
unfolding shaping
shaping_asks f d l = record { answer_is = λ h right. right }

-- normalise has one outcome,
pub one_normalise : (raw : List ℕ) → OneOutcome (normalising raw)
one_normalise raw = one_curve (normalising raw) (single_normal (normalising_asks raw))

-- lower one,
pub one_lower : (f g : List ℕ) → OneOutcome (lowering f g)
one_lower f g = one_curve (lowering f g) (single_normal (lowering_asks f g))

-- sum one,
pub one_sum : (f g : List ℕ) → OneOutcome (summing f g)
one_sum f g = one_curve (summing f g) (single_normal (summing_asks f g))

-- shape one,
pub one_shape : (f : List ℕ) (d l : ℕ) → OneOutcome (shaping f d l)
one_shape f d l = one_curve (shaping f d l) (single_normal (shaping_asks f d l))

-- value has one figure,
pub one_value :
    (f : List ℕ) (t : ℕ) {code figure code' figure' : ℕ}
    → ValueOutcome f t code figure → ValueOutcome f t code' figure' → (code ≡ code') × (figure ≡ figure')
unfolding ValueOutcome
one_value f t = one_figure (λ x y ex ey. ex ∙ sym ey)

-- and burst has one
pub one_burst_outcome :
    (f : List ℕ) {code figure code' figure' : ℕ}
    → BurstOutcome f code figure → BurstOutcome f code' figure' → (code ≡ code') × (figure ≡ figure')
unfolding BurstOutcome
one_burst_outcome f = one_figure (λ x y b c. one_burst b c)

-- ---- The code.

module _ {lines : Lines} {code : ℕ} where
  -- 0 exactly where no line holds
  pub code_zero : Verdict lines code → (code ≡ 0) ↔ Clear lines
  code_zero (accepted clear e) = (λ _. clear, λ _. e)
  code_zero (rejected r w e) = (λ z. absurd (omega (arith, number_positive r)), λ clear. absurd (clear r w.holds))

  -- otherwise a number that wins
  pub code_wins : Verdict lines code → code ≢ 0 → (r : Refusal) × Wins lines r × (code ≡ number r)
  code_wins (accepted clear e) some = absurd (some e)
  code_wins (rejected r w e) some = (r, w, e)

  -- and any that wins is that number
  pub wins_code : {r : Refusal} → Wins lines r → Verdict lines code → code ≡ number r
  wins_code {r} w (accepted clear e) = absurd (clear r w.holds)
  wins_code w (rejected s v e) = e ∙ wins_once v w

-- this is so of the code of every outcome over a curve,
pub outcome_code :
    {ask : Question} {before after : List ℕ} {code count : ℕ}
    → Outcome ask before after code count → Verdict (all_lines ask (length before)) code
outcome_code (Outcome.refused v) = rejected v.why v.wins v.code_is
outcome_code (Outcome.answered v) = accepted v.clear v.code_is

-- and over a figure
pub figure_code :
    {lines : Lines} {Figure : ℕ → Type 0} {code figure : ℕ} → FigureOutcome lines Figure code figure → Verdict lines code
figure_code (FigureOutcome.refused v) = rejected v.why v.wins v.code_is
figure_code (FigureOutcome.answered clear e x) = accepted clear e

-- ---- Operands that no line refuses.

-- a raw list that is not refused has a bucket
pub raw_some : (l : List ℕ) → Clear (raw_lines l) → 1 ≤ length (buckets l)
raw_some l clear =
    let full : length l ≢ 0 = λ e. clear LIST (inl (inl (refl, inl e))) in
    let even : length l % 2 ≡ 0 = not_apart (λ e. clear LIST (inl (inl (refl, inr e)))) in
    omega (arith, buckets_use l)

-- a curve that is not refused is in normal form,
pub clear_form : (f : List ℕ) → Clear (curve_lines f) → NormalForm (curve_of f)
clear_form f clear = normal_stable (λ out. clear FORM (inr (refl, out)))

-- it is not too large,
pub clear_fits : (f : List ℕ) → Clear (curve_lines f) → TooLarge (curve_of f) → ⊥
clear_fits f clear (inl many) = clear COUNT (inl (inl (inr (refl, many))))
clear_fits f clear (inr out) = clear RANGE (inl (inr (refl, out)))

-- and its list has its numbers for each bucket, and no more
pub clear_list : (f : List ℕ) → Clear (curve_lines f) → list_of (curve_of f) ≡ f
clear_list f clear = list_curve f (not_apart (λ e. clear LIST (inl (inl (inl (refl, inr e))))))

-- two curves that are not refused are both in normal form
pub both_form : (f g : List ℕ) → Clear (curve_lines f or curve_lines g) → NormalForm (curve_of f) × NormalForm (curve_of g)
both_form f g clear = (clear_form f (λ r h. clear r (inl h)), clear_form g (λ r h. clear r (inr h)))

module _ {f : List Bucket} (fits : TooLarge f → ⊥) where
  -- what is not too large has at most 64 buckets,
  pub fits_few : length f ≤ 64
  fits_few = not_above (λ many. fits (inl many))

  -- all of them in range
  pub fits_ranged : AllInRange f
  fits_ranged = range_stable (λ out. fits (inr out))

-- the lines of a list have numbers up to 8,
pub list_up_to : (numbers : ℕ) (l : List ℕ) (f : List Bucket) → UpTo 8 (list_lines numbers l f)
unfolding number
list_up_to numbers l f = up_to_or (up_to_or (up_to_when LIST (lit≤ tt)) (up_to_when COUNT (lit≤ tt))) (up_to_when RANGE (lit≤ tt))

-- and those of a curve
pub curve_up_to : (f : List ℕ) → UpTo 8 (curve_lines f)
unfolding number
curve_up_to f = up_to_or (list_up_to width f (curve_of f)) (up_to_when FORM (lit≤ tt))

-- ---- A curve that is answered.

-- The list that one reads who has the lent list afterwards and the count: its numbers for each bucket.
abbrev pub read_back : List ℕ → ℕ → List ℕ
read_back after count = take (width * count) after

-- A list g that is answered: no line holds of the operands, it is the exact answer and not too large, and it stands in the lent
-- list, with its count.
pub record AnsweredList (ask : Question) (before after : List ℕ) (count : ℕ) (g : List ℕ) : Type 0 where
  pub operands_clear : Clear ask.operands
  pub right : ask.Answer (curve_of g)
  pub fits : TooLarge (curve_of g) → ⊥
  pub count_is : count ≡ length (curve_of g)
  pub numbers : list_of (curve_of g) ≡ g
  pub room : length g ≤ length before
  pub written : after ≡ over g before

-- such is the list that is read back of an answer,
read_answer :
    {ask : Question} {before after : List ℕ} {code count : ℕ}
    → Answered (all_lines ask (length before)) ask.Answer before after code count
    → AnsweredList ask before after count (read_back after count)
read_answer {before = before} {after = after} {count = count} v =
    rw read_back_is
    (record {
      operands_clear = λ r h. v.clear r (inl h);
      right = rw (curve_list v.curve) v.right;
      fits = rw (curve_list v.curve) (λ large. v.clear LARGE (inr (inl (refl, (v.curve, v.right, large)))));
      count_is = rw (curve_list v.curve) v.count_is;
      numbers = rw (curve_list v.curve);
      room = not_above (λ short. v.clear ROOM (inr (inr (refl, (v.curve, v.right, short)))));
      written = v.written;
    })
  where
    read_back_is : read_back after count ≡ list_of v.curve
    read_back_is =
        let n : width * count ≡ length (list_of v.curve) = omega (arith, v.count_is, list_length v.curve) in
        rw (n, v.written) (over_start (list_of v.curve) before)

-- and code 0 is an answer
pub answered_list :
    {ask : Question} {before after : List ℕ} {count : ℕ} → Outcome ask before after 0 count
    → AnsweredList ask before after count (read_back after count)
answered_list (Outcome.refused v) = absurd (omega (arith, number_positive v.why, v.code_is))
answered_list (Outcome.answered v) = read_answer v

module _ {ask : Question} {before after : List ℕ} {count : ℕ} {g : List ℕ} (a : AnsweredList ask before after count g) where
  -- an answered list has its numbers for each bucket
  pub answered_length : length g ≡ width * count
  answered_length = ap length (sym a.numbers) ∙ omega (arith, list_length (curve_of g), a.count_is)

  -- and in normal form it is itself a curve that no line refuses
  pub accepted_again : NormalForm (curve_of g) → Clear (curve_lines g)
  accepted_again form r (inl (inl (inl (e, inl none)))) = omega (arith, answered_length, a.count_is, form.some)
  accepted_again form r (inl (inl (inl (e, inr odd)))) = omega (arith, answered_length, a.count_is, curve_use g)
  accepted_again form r (inl (inl (inr h))) = a.fits (inl h.1)
  accepted_again form r (inl (inr h)) = a.fits (inr h.1)
  accepted_again form r (inr h) = h.1 form

-- the lent list is as long as it was
pub outcome_length :
    {ask : Question} {before after : List ℕ} {code count : ℕ} → Outcome ask before after code count
    → length after ≡ length before
outcome_length (Outcome.refused v) = ap length v.kept
outcome_length {ask} {before} {after} {count = count} (Outcome.answered v) =
    let a : AnsweredList ask before after count (read_back after count) = read_answer v in
    ap length a.written ∙ over_length (read_back after count) before a.room

-- the numbers beyond the answer stay
pub beyond_stays :
    {ask : Question} {before after : List ℕ} {code count : ℕ} → Outcome ask before after code count
    → drop (width * count) after ≡ drop (width * count) before
beyond_stays {count = count} (Outcome.refused v) = ap (drop (width * count)) v.kept
beyond_stays {before = before} (Outcome.answered v) =
    rw (v.count_is, v.written, ← list_length v.curve) (over_beyond (list_of v.curve) before)

-- A part that is put back in its place, as long as it was, is the part of the new table.
put_back :
    (at room : ℕ) (table p : List ℕ) → length p ≡ length (part at room table)
    → part at room (take at table ++ p ++ drop room (drop at table)) ≡ p
unfolding part
put_back at room table p same =
    elim (le_or_lt at (length table)) [
      | inl inside ↦
          ap (λ (l : List ℕ). take room (drop at l)) (append_assoc (take at table) p rest)
          ∙ ap (take room) (drop_at (take at table) (p ++ rest) at (length-take-le at table inside))
          ∙ from_start (le_or_lt room (length (drop at table)))
      | inr outside ↦
          empty_same _ p (simp (length-take, length-drop, length-append) (omega (arith, size, length-drop at table)))
          (omega (arith, size, length-drop at table))
    ]
  where
    rest : List ℕ
    rest = drop room (drop at table)

    size : length p ≡ min room (length (drop at table))
    size = same ∙ length-take room (drop at table)

    from_start : (room ≤ length (drop at table)) ⊎ (length (drop at table) < room) → take room (p ++ rest) ≡ p
    from_start (inl h) = take_at p rest room (omega (arith, size))
    from_start (inr h) =
        ap (λ (l : List ℕ). take room (p ++ l)) (drop_of_length-le (drop at table) (le_of_lt h))
        ∙ ap (take room) (append-nil p)
        ∙ take_all room p (omega (arith, size))

-- What comes of a question over the part comes of it over the part of the table.
pub in_part :
    {ask : Question} {at room : ℕ} {before p : List ℕ} {code count : ℕ} → Outcome ask (part at room before) p code count
    → PartOutcome ask at room before (take at before ++ p ++ drop room (drop at before)) code count
in_part {ask} {at} {room} {before} {p} {code} {count} o =
    let same = put_back at room before p (outcome_length o) in
    record {
      inside = subst (λ (l : List ℕ). Outcome ask (part at room before) l code count) (sym same) o;
      outside = ap (λ (l : List ℕ). take at before ++ l ++ drop room (drop at before)) (sym same);
    }

-- A list in normal form, of `count` buckets, 1 to 64 and all in range, so that it is taken wherever a curve is, with this value
-- at every non-negative fraction (times q).
pub record AnswersWith (Value : ℕ → ℕ → ℕ) (g : List ℕ) (count : ℕ) : Type 0 where
  pub form : NormalForm (curve_of g)
  pub counted : count ≡ length (curve_of g)
  pub some : 1 ≤ count
  pub few : count ≤ 64
  pub ranged : AllInRange (curve_of g)
  pub accepted : Clear (curve_lines g)
  pub value_is : (p q : ℕ) → 0 < q → value_at (curve_of g) p q ≡ Value p q

-- an answer in a part of a table is read from the part's start on
pub part_read :
    {ask : Question} {at room : ℕ} {before after : List ℕ} {count : ℕ} → PartOutcome ask at room before after 0 count
    → read_back (part at room after) count ≡ read_back (drop at after) count
unfolding part
part_read {at = at} {room = room} {before = before} {after = after} {count = count} o =
    let a = answered_list o.inside in
    take-take (width * count) room (drop at after)
    (omega (arith, answered_length a, a.room, length-take room (drop at before)))

-- A question that the normal form of some buckets answers, whose value is known:
module _
    {ask : Question} {raw : List Bucket} {Value : ℕ → ℕ → ℕ} (asks : AsksNormal ask raw) (value : (p q : ℕ) → value_at raw p q ≡ Value p q)
    {before after : List ℕ} {count : ℕ}
  where
    -- what is answered is such a list,
    pub answers : Outcome ask before after 0 count → AnswersWith Value (read_back after count) count
    answers o =
        let a = answered_list o in
        let n = asks.answer_is _ a.right in
        record {
          form = n.form;
          counted = a.count_is;
          some = omega (arith, a.count_is, n.form.some);
          few = omega (arith, a.count_is, fits_few a.fits);
          ranged = fits_ranged a.fits;
          accepted = accepted_again a n.form;
          value_is = λ p q h. sym (n.same p q h) ∙ value p q;
        }

-- and so is what is answered in a part of a table
pub answers_in_part :
    {ask : Question} {raw : List Bucket} {Value : ℕ → ℕ → ℕ} (asks : AsksNormal ask raw) (value : (p q : ℕ) → value_at raw p q ≡ Value p q)
    {at room : ℕ} {before after : List ℕ} {count : ℕ} → PartOutcome ask at room before after 0 count
    → AnswersWith Value (read_back (drop at after) count) count
answers_in_part asks value o = rw (part_read o) at (answers asks value o.inside)

module _ {before after : List ℕ} {count : ℕ} where
  -- normalise: the raw list's values
  pub normalise_answers :
      (raw : List ℕ) → Outcome (normalising raw) before after 0 count
      → AnswersWith (value_at (buckets raw)) (read_back after count) count
  normalise_answers raw o = answers (normalising_asks raw) (λ p q. refl) o

  -- lower: the minimum of the two curves' values
  pub lower_answers :
      (f g : List ℕ) → Outcome (lowering f g) before after 0 count
      → AnswersWith (λ p q. min (value_at (curve_of f) p q) (value_at (curve_of g) p q)) (read_back after count) count
  unfolding lowering
  lower_answers f g o =
      let forms = both_form f g (answered_list o).operands_clear in
      answers (lowering_asks f g) (λ p q. value_both (curve_of f) (curve_of g) p q forms.0.some forms.1.some) o

  -- sum: the sum of the two curves' values
  pub sum_answers :
      (f g : List ℕ) → Outcome (summing f g) before after 0 count
      → AnswersWith (λ p q. value_at (curve_of f) p q + value_at (curve_of g) p q) (read_back after count) count
  unfolding summing
  sum_answers f g o =
      let forms = both_form f g (answered_list o).operands_clear in
      answers (summing_asks f g) (λ p q. value_pairs (curve_of f) (curve_of g) p q forms.0.some forms.1.some) o

  -- shape: the minimum of the curve's value and D·p/q + L, which times q is D·p + L·q
  pub shape_answers :
      (f : List ℕ) (d l : ℕ) → Outcome (shaping f d l) before after 0 count
      → AnswersWith (λ p q. min (value_at (curve_of f) p q) (d * p + l * q)) (read_back after count) count
  unfolding shaping value_at bucket_at
  shape_answers f d l o =
      let form = clear_form f (λ r h. (answered_list o).operands_clear r (inl h)) in
      answers (shaping_asks f d l)
      (λ p q. value_both (curve_of f) (link_bucket d l ∷ []) p q form.some (omega arith)) o

-- a figure that is answered is the figure, and no line holds
pub figure_answered :
    {lines : Lines} {Figure : ℕ → Type 0} {figure : ℕ} → FigureOutcome lines Figure 0 figure → Clear lines × Figure figure
figure_answered (FigureOutcome.refused v) = absurd (omega (arith, v.code_is, number_positive v.why))
figure_answered (FigureOutcome.answered clear e x) = (clear, x)

-- value: the curve's value at the tick
pub value_answer : (f : List ℕ) (t : ℕ) {figure : ℕ} → ValueOutcome f t 0 figure → figure ≡ value (curve_of f) t
unfolding ValueOutcome
value_answer f t o = (figure_answered o).1

-- burst: the curve's smallest burst
pub burst_answer : (f : List ℕ) {figure : ℕ} → BurstOutcome f 0 figure → Burst (curve_of f) figure
unfolding BurstOutcome
burst_answer f o = (figure_answered o).1

-- ---- The only answer.

-- A list of numbers that is taken: not empty, even, of at most 64 buckets, each in range.
pub record Taken (numbers : ℕ) (l : List ℕ) (f : List Bucket) : Type 0 where
  pub filled : 1 ≤ length l
  pub even : length l % numbers ≡ 0
  pub few : length f ≤ 64
  pub ranged : EachInRange f

-- none of a list's lines holds of it
pub list_clear : {numbers : ℕ} {l : List ℕ} {f : List Bucket} → Taken numbers l f → Clear (list_lines numbers l f)
list_clear t r (inl (inl (e, inl none))) = omega (arith, t.filled)
list_clear t r (inl (inl (e, inr uneven))) = uneven t.even
list_clear t r (inl (inr h)) = omega (arith, t.few)
list_clear {f = f} t r (inr h) = h.1 (all_in_range f t.ranged)

-- none of a curve's lines holds of one that passes the test of normal form
pub curve_clear : (l : List ℕ) → Taken width l (curve_of l) → is_normal (curve_of l) ≡ true → Clear (curve_lines l)
curve_clear l t form = clear_or (list_clear t) (λ r h. h.1 (neighbours_sound (curve_of l) form))

-- none holds of the list of a curve in normal form, in range and of at most 64 buckets
pub sound_clear : (f : List Bucket) → NormalForm f → AllInRange f → length f ≤ 64 → Clear (curve_lines (list_of f))
sound_clear f form ranged few r (inl (inl (inl (e, inl none)))) = omega (arith, list_length f, form.some)
sound_clear f form ranged few r (inl (inl (inl (e, inr uneven)))) = omega (arith, list_length f)
sound_clear f form ranged few r (inl (inl (inr h))) = omega (arith, h.1, ap length (curve_list f))
sound_clear f form ranged few r (inl (inr h)) = h.1 (rw curve_list ranged)
sound_clear f form ranged few r (inr h) = h.1 (rw curve_list form)

-- a link's rate and frame in their ranges are not refused
pub link_clear : {d l : ℕ} → 1 ≤ d → d < 2 ^ 20 → l < 2 ^ 40 → Clear (link_line d l)
link_clear some slow short r (e, inl still) = omega arith
link_clear some slow short r (e, inr (inl fast)) = omega arith
link_clear some slow short r (e, inr (inr long)) = omega arith

-- The only outcomes of a question: where the list has room, code 0, this count, and these numbers written from its start; where
-- it has not, ROOM.
pub record OnlyAnswer (ask : Question) (numbers : List ℕ) (count : ℕ) : Type 0 where
  pub with_room :
      {before after : List ℕ} {code count' : ℕ} → length numbers ≤ length before → Outcome ask before after code count'
      → Same code count' 0 count after (over numbers before)
  pub without_room :
      {before after : List ℕ} {code count' : ℕ} → length before < length numbers → Outcome ask before after code count'
      → Same code count' 10 0 after before

-- what is answered is these numbers, whatever the room
pub only_answered :
    {ask : Question} {numbers : List ℕ} {count : ℕ} {before after : List ℕ} {count' : ℕ} → OnlyAnswer ask numbers count
    → Outcome ask before after 0 count' → Same 0 count' 0 count after (over numbers before)
only_answered {numbers = numbers} {before = before} known o =
    elim (le_or_lt (length numbers) (length before)) [
      | inl room ↦ known.with_room room o
      | inr short ↦ absurd (omega (arith, (known.without_room short o).code_same))
    ]

-- where no operand is refused and the one answer is not too large, it is the only one
module _
    {ask : Question} (f : List Bucket)
    (one : Single ask.Answer) (clear : Clear ask.operands) (right : ask.Answer f) (fits : (length f ≤ 64) × EachInRange f)
  where
    small : TooLarge f → ⊥
    small (inl many) = omega (arith, fits.0)
    small (inr out) = out (all_in_range f fits.1)

    -- given room it is written,
    pub is_answered : (before : List ℕ) → length (list_of f) ≤ length before → Outcome ask before (over (list_of f) before) 0 (length f)
    is_answered before room = written_out ask before clear right one small room

    -- and nothing else comes of the question
    pub only_single : OnlyAnswer ask (list_of f) (length f)
    only_single =
        record {
          with_room = λ {before} room o. one_outcome one o (is_answered before room);
          without_room = λ {before} short o. one_outcome one o (no_room ask before clear right one small short);
        }

-- so it is of a question that the normal form of some buckets answers
pub only_answer :
    {ask : Question} {raw f : List Bucket} → AsksNormal ask raw → Clear ask.operands → ask.Answer f
    → (length f ≤ 64) × EachInRange f → OnlyAnswer ask (list_of f) (length f)
only_answer {f = f} asks = only_single f (single_normal asks)
