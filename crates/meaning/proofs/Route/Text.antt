-- The text of a report. Every number in it is below 2^64, so that it stands there as its decimal. No text has more than 1,145
-- bytes: 32 hop lines, 9 of at most 34 bytes and 23 of at most 35, and a route line of at most 34. The text line by line, and
-- what every output says.
-- Assumes nothing.
use mathlib.Core.Path.{◌≡◌, refl, sym, ◌∙◌, ap, subst}
use mathlib.Core.Logic.{inl, inr}
use mathlib.Core.Option.{Option}
use mathlib.Core.List.{List, [], ◌∷◌, ◌++◌, append_assoc, append-nil}
use Prim.Native.Nat.{ℕ, suc, ◌+◌, ◌-◌, ◌*◌, ◌^◌, ◌≤◌, ◌<◌}
use native.Mathlib.Nat.{lt_of_lt_of_le, add-zero}
use native.Mathlib.Omega.{arith}
use lib.Dec.{lit≤}
use lib.ListN.{length, length-append}
use Rattle.meaning.specs.Curve.{Bucket}
use Rattle.meaning.specs.Server.{Server}
use Rattle.meaning.specs.Refusal.{Refusal, HEADER, LENGTH, PAD, LIST, COUNT, RANGE, FORM, UNBOUNDED, LARGE, ROOM, number}
use Rattle.meaning.specs.Route.{Figures, Report, passed, refused_at, Onward, ends, bytes_left, stops, hop, Reported, no_curve, from_curve, bytes, digits, numbers, hop_text, route_text, refused_text, hop_texts, text, Route}
use Rattle.meaning.proofs.Order.{le_or_lt}
use Rattle.meaning.proofs.Route.Decimal.{AllDigits, Decimal, decimal, digits_each, digits_length}
use Rattle.meaning.proofs.Route.Line.{Small, AllSmall, RouteLine, route_line, RouteOf, route_of}

-- ---- Which profile is refused.

-- Profiles are numbered from 1, the curve, to 34, the bytes after 32 servers.
abbrev Placed : Report → Type 0
Placed (passed hops route) = Unit {0}
Placed (refused_at r k) = (1 ≤ k) × (k ≤ 34)

-- from a place on a report is so
onward_placed :
    {first : List Bucket} {hops : List Figures} {before : Option Server} {f : List Bucket} {input : List ℕ} {report : Report}
    → Onward first hops before f input report → Placed report
onward_placed (ends route x) = tt
onward_placed (bytes_left h more) = (lit≤ tt, lit≤ tt)
onward_placed (stops r h due w) = (omega arith, omega arith)
onward_placed (hop here g h due clear x b onward) = onward_placed onward

-- a refusal names a profile from 1 to 34
pub refused_where : {input : List ℕ} {r : Refusal} {k : ℕ} → Reported input (refused_at r k) → (1 ≤ k) × (k ≤ 34)
refused_where {k = k} (no_curve r w e) = let z : k ≡ 1 = cc in (omega arith, omega arith)
refused_where (from_curve clear onward) = onward_placed onward

-- its number is at most 10
number_most : (r : Refusal) → number r ≤ 10
unfolding number
number_most HEADER = lit≤ tt
number_most LENGTH = lit≤ tt
number_most PAD = lit≤ tt
number_most LIST = lit≤ tt
number_most COUNT = lit≤ tt
number_most RANGE = lit≤ tt
number_most FORM = lit≤ tt
number_most UNBOUNDED = lit≤ tt
number_most LARGE = lit≤ tt
number_most ROOM = lit≤ tt

-- ---- How long the text is.

-- a number and the space before it
numbers_length : (n : ℕ) (l : List ℕ) → length (numbers (n ∷ l)) ≡ 1 + length (digits 20 n) + length (numbers l)
unfolding numbers bytes
numbers_length n l = omega (arith, length-append (digits 20 n) (numbers l))

-- no number has no byte
no_numbers_lem : length (numbers []) ≡ 0
unfolding numbers
no_numbers_lem = refl

-- a small figure has at most 13 digits
small_length : (n : ℕ) → n < 2 ^ 41 → length (digits 20 n) ≤ 13
small_length n h = digits_length 20 n 13 (lit≤ tt) (lt_of_lt_of_le h (lit≤ tt))

-- both figures stand in the text as their decimals,
pub figures_decimal :
    (x : Figures) → Small x → Decimal x.backlog (digits 20 x.backlog) × Decimal x.delay (digits 20 x.delay)
figures_decimal x h = (
  decimal x.backlog (lt_of_lt_of_le h.backlog_small (lit≤ tt)),
  decimal x.delay (lt_of_lt_of_le h.delay_small (lit≤ tt)),
)

-- and have at most 28 bytes with the spaces before them
figures_length : (x : Figures) → Small x → length (numbers (x.backlog ∷ x.delay ∷ [])) ≤ 28
figures_length x h =
    omega (
      arith,
      numbers_length x.backlog (x.delay ∷ []),
      numbers_length x.delay [],
      no_numbers_lem,
      small_length x.backlog h.backlog_small,
      small_length x.delay h.delay_small,
    )

-- a hop's line has at most 33 bytes beside its number,
hop_length : (n : ℕ) (x : Figures) → Small x → length (hop_text n x) ≤ 33 + length (digits 20 n)
unfolding hop_text bytes
hop_length n x small =
    simp length-append (omega (arith, numbers_length n (x.backlog ∷ x.delay ∷ []), figures_length x small))

-- the route's at most 34,
pub route_text_length : (x : Figures) → Small x → length (route_text x) ≤ 34
unfolding route_text bytes
route_text_length x small = simp length-append (omega (arith, figures_length x small))

-- and that of a refusal at most 17
pub refused_text_length : (c k : ℕ) → c < 100 → k < 100 → length (refused_text c k) ≤ 17
unfolding refused_text bytes
refused_text_length c k hc hk =
    simp length-append
    (omega (
      arith,
      numbers_length c [],
      numbers_length k [],
      no_numbers_lem,
      digits_length 20 c 2 (lit≤ tt) (omega arith),
      digits_length 20 k 2 (lit≤ tt) (omega arith),
    ))

-- so many hop lines, from number n on, have 35 bytes each, and one less for each number of one digit
hops_length :
    (n : ℕ) (l : List Figures) → AllSmall l → n + length l ≤ 100
    → length (hop_texts n l) + (10 - n) ≤ 35 * length l + (10 - n - length l)
unfolding hop_texts
hops_length n [] small h = omega arith
hops_length n (x ∷ l) small h =
    let rest = hops_length (n + 1) l small.1 (omega arith) in
    let both = length-append (hop_text n x) (hop_texts (n + 1) l) in
    elim (le_or_lt 10 n) [
      | inl two ↦ omega (arith, hop_length n x small.0, digits_length 20 n 2 (lit≤ tt) (omega arith))
      | inr one ↦ omega (arith, hop_length n x small.0, digits_length 20 n 1 (lit≤ tt) (omega arith))
    ]

-- those of a route at most 1,111
pub hop_texts_length : (hops : List Figures) → AllSmall hops → length hops ≤ 32 → length (hop_texts 1 hops) ≤ 1111
hop_texts_length hops small few = omega (arith, hops_length 1 hops small (omega arith))

-- no text has more than 1,145 bytes
text_length : {input : List ℕ} (report : Report) → Reported input report → length (text report) ≤ 1145
unfolding text
text_length (passed hops route) h =
    let line = route_line h in
    simp length-append
    (omega (arith, hop_texts_length hops line.hops_small line.at_most, route_text_length route line.route_small))
text_length (refused_at r k) h =
    omega (arith, refused_text_length (number r) k (omega (arith, number_most r)) (omega (arith, (refused_where h).1)))

-- so no output has
pub route_length : {input output : List ℕ} → Route input output → length output ≤ 1145
route_length r = omega (arith, ap length r.output_is, text_length r.report r.reported)

-- ---- Line by line.

-- one hop more is one line more,
pub hop_texts_more :
    (n : ℕ) (l : List Figures) (x : Figures) → hop_texts n (l ++ x ∷ []) ≡ hop_texts n l ++ hop_text (n + length l) x
unfolding hop_texts
hop_texts_more n [] x = rw add-zero (append-nil (hop_text n x))
hop_texts_more n (y ∷ l) x =
    let next : n + 1 + length l ≡ n + suc (length l) = omega arith in
    ap (λ (t : List ℕ). hop_text n y ++ t) (hop_texts_more (n + 1) l x ∙ ap (λ (m : ℕ). hop_texts (n + 1) l ++ hop_text m x) next)
    ∙ sym (append_assoc (hop_text n y) (hop_texts (n + 1) l) (hop_text (n + suc (length l)) x))

-- a word and a space: that of a hop,
hop_word : bytes "hop " ≡ bytes "hop" ++ bytes " "
unfolding bytes
hop_word = refl

-- of the route,
route_word : bytes "route " ≡ bytes "route" ++ bytes " "
unfolding bytes
route_word = refl

-- of a refusal,
refused_word : bytes "refused " ≡ bytes "refused" ++ bytes " "
unfolding bytes
refused_word = refl

-- and the one between its numbers
at_word : bytes " at " ≡ bytes " at" ++ bytes " "
unfolding bytes
at_word = refl

-- each line is its word and its numbers' decimals, a space between: a hop's line,
pub hop_text_is :
    (n : ℕ) (x : Figures)
    → hop_text n x
    ≡ bytes "hop " ++ digits 20 n ++ bytes " " ++ digits 20 x.backlog ++ bytes " " ++ digits 20 x.delay ++ bytes "\n"
unfolding hop_text numbers
hop_text_is n x = rw hop_word (simp (append_assoc, append-nil))

-- the route's,
pub route_text_is :
    (x : Figures) → route_text x ≡ bytes "route " ++ digits 20 x.backlog ++ bytes " " ++ digits 20 x.delay ++ bytes "\n"
unfolding route_text numbers
route_text_is x = rw route_word (simp (append_assoc, append-nil))

-- and that of a refusal
pub refused_text_is : (c k : ℕ) → refused_text c k ≡ bytes "refused " ++ digits 20 c ++ bytes " at " ++ digits 20 k ++ bytes "\n"
unfolding refused_text numbers
refused_text_is c k = rw (refused_word, at_word) (simp (append_assoc, append-nil))

-- ---- What the program prints.

-- A route, whose lines stand for what they say and add up; or a refusal, by its number and the profile that is refused.
pub data Printed (input output : List ℕ) : Type 0 where
  a_route :
      (hops : List Figures) (route : Figures) → output ≡ hop_texts 1 hops ++ route_text route → RouteOf input hops route
      → RouteLine hops route → Printed input output
  a_refusal : (r : Refusal) (k : ℕ) → output ≡ refused_text (number r) k → 1 ≤ k → k ≤ 34 → Printed input output

-- so it is for every output
pub route_prints : {input output : List ℕ} → Route input output → Printed input output
unfolding text
route_prints {input} {output} r = by_report r.report r.reported r.output_is
  where
    by_report : (report : Report) → Reported input report → output ≡ text report → Printed input output
    by_report (passed hops route) h e = a_route hops route e (route_of h) (route_line h)
    by_report (refused_at why k) h e = a_refusal why k e (refused_where h).0 (refused_where h).1

-- ---- The output is bytes.

-- Every number of the list is a byte of text: below 128.
abbrev pub AllText : List ℕ → Type 0
AllText [] = Unit {0}
AllText (c ∷ l) = (c < 128) × AllText l

-- two such lists together are one,
text_append : (l r : List ℕ) → AllText l → AllText r → AllText (l ++ r)
text_append [] r h k = k
text_append (c ∷ l) r h k = (h.0, text_append l r h.1 k)

-- digits are such,
digits_text : (l : List ℕ) → AllDigits l → AllText l
digits_text [] h = tt
digits_text (c ∷ l) h = (omega (arith, h.1), digits_text l h.2)

-- numbers are,
numbers_text : (l : List ℕ) → AllText (numbers l)
unfolding numbers bytes
numbers_text [] = tt
numbers_text (n ∷ l) =
    (omega arith, text_append (digits 20 n) (numbers l) (digits_text (digits 20 n) (digits_each 20 n)) (numbers_text l))

-- a word with numbers behind it is,
line_text_lem : (word l : List ℕ) → AllText word → AllText (word ++ numbers l ++ bytes "\n")
unfolding bytes
line_text_lem word l h = text_append (word ++ numbers l) (bytes "\n") (text_append word (numbers l) h (numbers_text l)) (omega arith)

-- and so are the lines,
hops_text : (n : ℕ) (l : List Figures) → AllText (hop_texts n l)
unfolding hop_texts hop_text bytes
hops_text n [] = tt
hops_text n (x ∷ l) =
    text_append (hop_text n x) (hop_texts (n + 1) l)
    (line_text_lem (bytes "hop") (n ∷ x.backlog ∷ x.delay ∷ []) (omega arith)) (hops_text (n + 1) l)

-- and every report's text,
report_text : (report : Report) → AllText (text report)
unfolding text route_text refused_text bytes
report_text (passed hops x) =
    text_append (hop_texts 1 hops) (route_text x) (hops_text 1 hops)
    (line_text_lem (bytes "route") (x.backlog ∷ x.delay ∷ []) (omega arith))
report_text (refused_at r k) =
    line_text_lem (bytes "refused" ++ numbers (number r ∷ []) ++ bytes " at") (k ∷ [])
    (text_append (bytes "refused" ++ numbers (number r ∷ [])) (bytes " at")
    (text_append (bytes "refused") (numbers (number r ∷ [])) (omega arith) (numbers_text (number r ∷ []))) (omega arith))

-- so that every output is
pub route_text_lem : {input output : List ℕ} → Route input output → AllText output
route_text_lem r = subst AllText (sym r.output_is) (report_text r.report)
