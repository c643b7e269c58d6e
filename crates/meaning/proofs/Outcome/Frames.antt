-- Links that hand over whole frames: what shape leaves of a curve. It is the lower of the curve and the link's bucket, it obeys the
-- link, and a curve that obeys already stays. The figures as the only outcomes, and the wrong answers that they shut out.
-- Assumes nothing.
use mathlib.Core.Path.{◌≡◌, refl, sym, ◌∙◌, ap, subst}
use mathlib.Core.Logic.{◌⊎◌, inl, inr, ◌≢◌, ◌↔◌}
use mathlib.Core.List.Memᴰ
use mathlib.Core.List.{List, [], ◌∷◌}
use Prim.Native.Nat.{ℕ, ◌+◌, ◌-◌, ◌*◌, ◌^◌, ◌≤◌, ◌<◌, min}
use native.Mathlib.Nat.{le_refl, min-eq_left, mul-le-mul_left}
use native.Mathlib.Omega.{arith}
use lib.Dec.{lit≤}
use lib.ListN.{length}
use Rattle.meaning.specs.Curve.{Bucket, ◌∈◌, buckets, curve_of, list_of, bucket_at, value_at, reads, Lower, link_bucket, Shape}
use Rattle.meaning.specs.Server.{Server, last}
use Rattle.meaning.specs.Refusal.{Refusal, RANGE, number, ◌when◌, ◌or◌, Clear, InRange, AllInRange, curve_lines, over, Question, Outcome}
use Rattle.meaning.specs.CurveQuestions.{lowering, link_line, shaping, BurstOutcome}
use Rattle.meaning.specs.ServerQuestions.{BacklogOutcome, DelayOutcome}
use Rattle.meaning.specs.Figures.{C}
use Rattle.meaning.proofs.Order.{le_or_lt}
use Rattle.meaning.proofs.Lists.{curve_list, list_length, EachInRange, all_in_range, each_in_range, over_start}
use Rattle.meaning.proofs.Figures.{table}
use Rattle.meaning.proofs.Curve.Value.{value_least}
use Rattle.meaning.proofs.Curve.Curves.{value_both}
use Rattle.meaning.proofs.Server.BothKinds.{backlog_rises, delay_rises}
use Rattle.meaning.proofs.Outcome.Outcomes.{clear_or, From, from_when, up_to_when, asked_as}
use Rattle.meaning.proofs.Outcome.Answers.{shaping_asks, outcome_code, code_zero, code_wins, clear_form, clear_list, clear_fits, fits_few, fits_ranged, read_back, answered_list, figure_answered, shape_answers, link_clear, sound_clear, OnlyAnswer, only_answered, only_answer}
use Rattle.meaning.proofs.Outcome.Known.{c_clear}
use Rattle.meaning.proofs.Outcome.KnownServers.{one_form}
use Rattle.meaning.proofs.Outcome.AtOnce.{read_at_zero}
use Rattle.meaning.proofs.Outcome.Slips.{second_counts}

-- ---- For the caller. (`shape_answers` in Answers: at every fraction what is answered is the smaller of the curve and D·t + L.)

-- A curve obeys a link of rate D and longest frame L: at no fraction is it above D·t + L.
abbrev pub Obeys : List Bucket → ℕ → ℕ → Type 0
Obeys f d l = (p q : ℕ) → 0 < q → value_at f p q ≤ d * p + l * q

-- so does every curve with a bucket that is no steeper than the link and has no more at once than a frame
pub bucket_obeys : {f : List Bucket} {k : Bucket} {d l : ℕ} → k ∈ f → k.rate ≤ d → k.burst ≤ l → Obeys f d l
unfolding bucket_at
bucket_obeys {f} {k} {d} {l} m slow short p q h =
    omega (arith, value_least f p q m, mul-le-mul_left p slow, mul-le-mul_left q short)

-- a curve that obeys the link stays as it is
pub obeying_stays :
    (f : List ℕ) {d l : ℕ} → Clear (curve_lines f) → Clear (link_line d l) → Obeys (curve_of f) d l
    → OnlyAnswer (shaping f d l) f (length (curve_of f))
unfolding shaping value_at bucket_at
obeying_stays f {d} {l} clear link below =
    let form = clear_form f clear in
    let fits = clear_fits f clear in
    rw (clear_list f clear) at
    (only_answer {f = curve_of f} (shaping_asks f d l) (clear_or clear link)
    (record {
      form = form;
      same = λ p q h. value_both (curve_of f) (link_bucket d l ∷ []) p q form.some (omega arith) ∙ min-eq_left (below p q h);
    })
    (fits_few fits, each_in_range (curve_of f) (fits_ranged fits)))

module _ (f : List ℕ) (d l : ℕ) {before after : List ℕ} {count : ℕ} (o : Outcome (shaping f d l) before after 0 count) where
  -- what is answered obeys the link,
  pub shaped_obeys : Obeys (curve_of (read_back after count)) d l
  shaped_obeys p q h = omega (arith, (shape_answers f d l o).value_is p q h)

  -- so that shaping it by the same link again leaves it
  pub shape_twice : OnlyAnswer (shaping (read_back after count) d l) (read_back after count) count
  unfolding shaping
  shape_twice =
      let a = shape_answers f d l o in
      subst (OnlyAnswer (shaping (read_back after count) d l) (read_back after count)) (sym a.counted)
      (obeying_stays (read_back after count) a.accepted (λ r h. (answered_list o).operands_clear r (inr h)) shaped_obeys)

  -- what may come at once is the burst, or a frame where that is less
  pub shaped_burst :
      (burst : ℕ) {shaped : ℕ} → BurstOutcome f 0 burst → BurstOutcome (read_back after count) 0 shaped → shaped ≡ min burst l
  unfolding reads
  shaped_burst burst b s =
      omega (arith, read_at_zero f b, read_at_zero (read_back after count) s, (shape_answers f d l o).value_is 0 1 (lit≤ tt))

-- Two frames, the second no shorter: a caller who is not sure of the frame errs on the safe side with the longer one.
module _
    (f : List ℕ) (d l l' : ℕ) (longer : l ≤ l') {before after before' after' : List ℕ} {count count' : ℕ}
    (o : Outcome (shaping f d l) before after 0 count) (o' : Outcome (shaping f d l') before' after' 0 count')
  where
    -- the curve of the longer frame is nowhere lower,
    pub longer_frame :
        (p q : ℕ) → 0 < q → value_at (curve_of (read_back after count)) p q ≤ value_at (curve_of (read_back after' count')) p q
    longer_frame p q h =
        omega (
          arith,
          (shape_answers f d l o).value_is p q h,
          (shape_answers f d l' o').value_is p q h,
          mul-le-mul_left q longer,
        )

    -- at every tick too;
    longer_read : (t : ℕ) → reads (curve_of (read_back after count)) t ≤ reads (curve_of (read_back after' count')) t
    unfolding reads
    longer_read t = longer_frame t 1 (lit≤ tt)

    -- its backlog is no smaller,
    pub longer_frame_backlog :
        (s : Server) {n n' : ℕ}
        → BacklogOutcome (read_back after count) s 0 n → BacklogOutcome (read_back after' count') s 0 n' → n ≤ n'
    unfolding BacklogOutcome
    longer_frame_backlog s b b' = backlog_rises _ _ s longer_read (figure_answered b).1 (figure_answered b').1

    -- and neither is its delay
    pub longer_frame_delay :
        (s : Server) {n n' : ℕ} → DelayOutcome (read_back after count) s 0 n → DelayOutcome (read_back after' count') s 0 n' → n ≤ n'
    unfolding DelayOutcome
    longer_frame_delay s d d' = delay_rises _ _ longer_read (figure_answered d).1 (figure_answered d').1

-- ---- Said in two other ways.

-- What shape was before frames counted: the link's bucket was (D, 0), and D alone could be out of range.
abbrev pub bit_by_bit : List ℕ → ℕ → Question
bit_by_bit f d =
    record {
      operands = curve_lines f or RANGE when ((d ≡ 0) ⊎ (2 ^ 20 ≤ d));
      Answer = Lower (curve_of f) (record { rate = d; burst = 0 } ∷ []);
    }

module _ {before after : List ℕ} {code count : ℕ} where
  -- with frames of 0 bits it is what it was, answers and refusals
  pub no_frames :
      (f : List ℕ) (d : ℕ) → Outcome (shaping f d 0) before after code count ↔ Outcome (bit_by_bit f d) before after code count
  unfolding shaping
  no_frames f d = (
    asked_as (shaping f d 0) (bit_by_bit f d) to_old to_new (λ g n. n) (λ g n. n),
    asked_as (bit_by_bit f d) (shaping f d 0) to_new to_old (λ g n. n) (λ g n. n),
  )
    where
      to_old : (r : Refusal) → (shaping f d 0).operands r → (bit_by_bit f d).operands r
      to_old r (inl h) = inl h
      to_old r (inr (e, inl still)) = inr (e, inl still)
      to_old r (inr (e, inr (inl fast))) = inr (e, inr fast)
      to_old r (inr (e, inr (inr long))) = absurd (omega arith)

      to_new : (r : Refusal) → (bit_by_bit f d).operands r → (shaping f d 0).operands r
      to_new r (inl h) = inl h
      to_new r (inr (e, inl still)) = inr (e, inl still)
      to_new r (inr (e, inr fast)) = inr (e, inr (inl fast))

  -- and by a link whose rate is not 0 it is lower with the link's one bucket as the second curve
  pub shape_is_lower :
      (f : List ℕ) (d l : ℕ) → 1 ≤ d
      → Outcome (shaping f d l) before after code count ↔ Outcome (lowering f (list_of (link_bucket d l ∷ []))) before after code count
  unfolding shaping lowering buckets
  shape_is_lower f d l some = (
    asked_as (shaping f d l) (lowering f link) to_curve to_link (λ g n. rw curve_list n) (λ g n. rw curve_list at n),
    asked_as (lowering f link) (shaping f d l) to_link to_curve (λ g n. rw curve_list at n) (λ g n. rw curve_list n),
  )
    where
      link : List ℕ
      link = list_of (link_bucket d l ∷ [])

      within : AllInRange (curve_of link) → InRange (link_bucket d l)
      within all = rw curve_list at all (link_bucket d l) (Memᴰ.head refl)

      to_curve : (r : Refusal) → (shaping f d l).operands r → (lowering f link).operands r
      to_curve r (inl h) = inl h
      to_curve r (inr (e, inl still)) = absurd (omega arith)
      to_curve r (inr (e, inr (inl fast))) = inr (inl (inr (e, λ all. omega (arith, (within all).rate_fits))))
      to_curve r (inr (e, inr (inr long))) = inr (inl (inr (e, λ all. omega (arith, (within all).burst_fits))))

      fits : d < 2 ^ 20 → l < 2 ^ 40 → AllInRange (curve_of link)
      fits slow short = rw curve_list (all_in_range (link_bucket d l ∷ []) (record { rate_fits = slow; burst_fits = short }, tt))

      to_link : (r : Refusal) → (lowering f link).operands r → (shaping f d l).operands r
      to_link r (inl h) = inl h
      to_link r (inr (inl (inl (inl (e, inl none))))) = absurd (omega (arith, list_length (link_bucket d l ∷ [])))
      to_link r (inr (inl (inl (inl (e, inr uneven))))) = absurd (omega (arith, list_length (link_bucket d l ∷ [])))
      to_link r (inr (inl (inl (inr h)))) = absurd (omega (arith, h.1, ap length (curve_list (link_bucket d l ∷ []))))
      to_link r (inr (inl (inr (e, out)))) =
          elim (le_or_lt (2 ^ 20) d) [
            | inl fast ↦ inr (e, inr (inl fast))
            | inr slow ↦
                elim (le_or_lt (2 ^ 40) l) [
                  | inl long ↦ inr (e, inr (inr long))
                  | inr short ↦ absurd (out (fits slow short))
                ]
          ]
      to_link r (inr (inr h)) = absurd (h.1 (rw curve_list (one_form d l)))

-- ---- The figures, as the only outcomes.

-- The curve of these figures.
abbrev slow : List Bucket
slow = buckets (3 ∷ 20 ∷ [])

slow_clear : Clear (curve_lines (list_of slow))
unfolding buckets
slow_clear = sound_clear slow (one_form 3 20) (all_in_range slow (omega arith)) (lit≤ tt)

-- shaped by a link of rate 10
only_shape :
    {l : ℕ} {f : List Bucket} → l < 2 ^ 40 → Shape slow (link_bucket 10 l) f → (length f ≤ 64) × EachInRange f
    → OnlyAnswer (shaping (list_of slow) 10 l) (list_of f) (length f)
unfolding shaping
only_shape {l} short right fits =
    only_answer (shaping_asks (list_of slow) 10 l) (clear_or slow_clear (link_clear (omega arith) (omega arith) short))
    (rw curve_list right) fits

-- bit by bit it becomes (10,0),(3,20),
pub shape_outcome : OnlyAnswer (shaping (list_of slow) 10 0) (list_of (buckets (10 ∷ 0 ∷ 3 ∷ 20 ∷ []))) 2
unfolding buckets
shape_outcome = only_shape (omega arith) table.frames.0 (omega arith)

-- and in frames of up to 2 bits it becomes C
pub shape_with_frames : OnlyAnswer (shaping (list_of slow) 10 2) (list_of C) 2
unfolding buckets
shape_with_frames = only_shape (omega arith) table.frames.1 (omega arith)

-- C obeys every link that is no slower than 10 and has frames of 2 bits or more, up to the longest: by these it stays
pub c_stays :
    {d l : ℕ} → 10 ≤ d → d < 2 ^ 20 → 2 ≤ l → l < 2 ^ 40 → OnlyAnswer (shaping (list_of C) d l) (list_of C) 2
unfolding buckets
c_stays {d} {l} quick in_range long short =
    subst (OnlyAnswer (shaping (list_of C) d l) (list_of C)) (ap length (curve_list C))
    (obeying_stays (list_of C) c_clear (link_clear (omega arith) in_range short)
    (rw curve_list (bucket_obeys (Memᴰ.head refl) quick long)))

-- one bit less, and it becomes (10,1),(3,20)
pub c_shaped : OnlyAnswer (shaping (list_of C) 10 1) (list_of (buckets (10 ∷ 1 ∷ 3 ∷ 20 ∷ []))) 2
unfolding buckets shaping
c_shaped =
    only_answer (shaping_asks (list_of C) 10 1) (clear_or c_clear (link_clear (omega arith) (omega arith) (omega arith)))
    (rw curve_list table.frames.3) (omega arith)

-- ---- Refusals.

module _ {before after : List ℕ} {code count : ℕ} (f : List ℕ) (d l : ℕ) (o : Outcome (shaping f d l) before after code count) where
  -- a link that stands still or is too fast, and a frame of 2^40 bits or more: RANGE, where no smaller number holds of the curve
  pub link_refused : (d ≡ 0) ⊎ (2 ^ 20 ≤ d) ⊎ (2 ^ 40 ≤ l) → From 6 (curve_lines f) → code ≡ 6
  unfolding shaping number
  link_refused wrong first =
      second_counts f (link_line d l) _ (up_to_when RANGE (lit≤ tt))
      (record { holds = (refl, wrong); smallest = from_when RANGE (le_refl 6) }) first (outcome_code o)

  -- so a frame of 2^40 bits is never taken,
  pub too_long_frame : 2 ^ 40 ≤ l → code ≢ 0
  unfolding shaping
  too_long_frame long none = (code_zero (outcome_code o)).0 none RANGE (inl (inr (refl, inr (inr long))))

  -- and one of 2^40-1 is never refused for its length: where the curve and the rate are right the code is no operand's
  pub longest_frame : Clear (curve_lines f) → 1 ≤ d → d < 2 ^ 20 → l ≤ 2 ^ 40 - 1 → code ≢ 0 → 9 ≤ code
  unfolding shaping number
  longest_frame clear rate slow short some =
      let w = code_wins (outcome_code o) some in
      elim w.1.holds [
        | inl h ↦ absurd (clear_or clear (link_clear rate slow (omega arith)) w.0 h)
        | inr (inl h) ↦ omega (arith, ap number h.0, w.2)
        | inr (inr h) ↦ omega (arith, ap number h.0, w.2)
      ]

-- ---- Wrong answers.

-- The frame left out: what is answered would have no burst, and it has one where the curve has one and the frame a bit
pub frame_left_out :
    (f : List ℕ) (d l : ℕ) {before after : List ℕ} {count : ℕ} (burst : ℕ) → 1 ≤ burst → 1 ≤ l → BurstOutcome f 0 burst
    → Outcome (shaping f d l) before after 0 count → BurstOutcome (read_back after count) 0 0 → ⊥
frame_left_out f d l burst some frame b o none = omega (arith, shaped_burst f d l o burst b none)

-- two curves of one count that are written over one list the same way are one
written_same : (f g : List Bucket) (before : List ℕ) → length f ≡ length g → over (list_of f) before ≡ over (list_of g) before → f ≡ g
written_same f g before count same =
    let n : length (list_of f) ≡ length (list_of g) = omega (arith, list_length f, list_length g) in
    sym (curve_list f)
    ∙ ap curve_of
    (sym (over_start (list_of f) before) ∙ rw (n, same) (over_start (list_of g) before))
    ∙ curve_list g

-- The frame added to every bucket: (3,20) made (3,22)
pub frame_on_every_bucket :
    {before : List ℕ} → Outcome (shaping (list_of slow) 10 2) before (over (list_of (buckets (10 ∷ 2 ∷ 3 ∷ 22 ∷ []))) before) 0 2 → ⊥
unfolding buckets last
frame_on_every_bucket {before} o =
    let e : buckets (10 ∷ 2 ∷ 3 ∷ 22 ∷ []) ≡ C = written_same _ C before refl (only_answered shape_with_frames o).after_same in
    omega (arith, ap (λ (f : List Bucket). (last f).burst) e)

-- The frame in the rate's place, with the rate as the frame or with nothing: {(2,10)} or {(2,0)}, one bucket where C has two
pub frame_for_rate :
    {before : List ℕ} (k : Bucket) → Outcome (shaping (list_of slow) 10 2) before (over (list_of (k ∷ [])) before) 0 1 → ⊥
frame_for_rate k o = omega (arith, (only_answered shape_with_frames o).figure_same)
