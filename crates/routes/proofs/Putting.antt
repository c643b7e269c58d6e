-- A number in decimal, and lines put piece by piece.
-- Assumes nothing.
use mathlib.Core.Path.{◌≡◌, refl, sym, ◌∙◌, ap, subst}
use mathlib.Core.List.{List, ◌∷◌, [], ◌++◌, append_assoc, append-nil}
use Prim.Native.Nat.{ℕ, suc, ◌+◌, ◌^◌, ◌≤◌, ◌<◌}
use native.Mathlib.Nat.{lt_of_lt_of_le}
use native.Mathlib.Numerals.{add-one}
use native.Mathlib.Omega.{arith}
use lib.Dec.{lit≤}
use lib.ListN.{length, take, drop, get_or, length-append}
use lib.Seq.{take_all, take-suc}
use Rattle.std.specs.Prelude.{decimal}
use Rattle.std.proofs.Common.{take-append-drop}
use Rattle.std.proofs.lemmas.Fmt.{decimal_from_appends, length-decimal-le}
use Rattle.meaning.specs.Route.{bytes, digits, numbers, refused_text}
use Rattle.meaning.proofs.Route.Decimal.{digits_one, digits_more, digits_length}
use Rattle.routes.specs.Cited.{Room, line_text}

-- ---- A number.

-- what is printed for a number is its decimal
printed : (n : ℕ) → n < 2 ^ 64 → decimal n ≡ digits 20 n
printed n h =
    sym (decimal_from_appends digits (record { one = digits_one; more = digits_more }) 20 n h
    (length-decimal-le 20 n (lit≤ tt) (lt_of_lt_of_le h (lit≤ tt)) h))

module _
    {n : ℕ} (text : List ℕ) {spaced out : List ℕ} (h : n < 2 ^ 64) (space : spaced ≡ text ++ (32 ∷ [])) (is : out ≡ decimal n)
  where
    -- behind a space there is room for it,
    pub number_room : Room text (32 ∷ digits 20 n) → Room spaced out
    number_room room =
        record { fits = omega (arith, room.fits, ap length space, length-append text (32 ∷ []), ap length (is ∙ printed n h)) }

    -- and there it is put
    pub number_put : {all : List ℕ} → all ≡ spaced ++ out → all ≡ text ++ (32 ∷ digits 20 n)
    number_put put = rw (put, space, is, printed n h) (append_assoc text (32 ∷ []) (digits 20 n))

pub ruleset putting = (number_room, number_put)

-- ---- Numbers.

-- numbers behind others
numbers_append : (a b : List ℕ) → numbers (a ++ b) ≡ numbers a ++ numbers b
unfolding numbers bytes
numbers_append [] b = refl
numbers_append (n ∷ a) b =
    ap (λ (l : List ℕ). 32 ∷ (digits 20 n ++ l)) (numbers_append a b)
    ∙ ap (λ (l : List ℕ). 32 ∷ l) (sym (append_assoc (digits 20 n) (numbers a) (numbers b)))

-- one number
numbers_one : (n : ℕ) → numbers (n ∷ []) ≡ 32 ∷ digits 20 n
unfolding numbers bytes
numbers_one n = ap (λ (l : List ℕ). 32 ∷ l) (append-nil (digits 20 n))

-- one number more
numbers_more :
    (list : List ℕ) (i : ℕ) → i < length list
    → numbers (take (suc i) list) ≡ numbers (take i list) ++ (32 ∷ digits 20 (get_or list i 0))
numbers_more list i h =
    ap numbers (take-suc list i 0 h) ∙ numbers_append (take i list) (get_or list i 0 ∷ [])
    ∙ ap (λ (l : List ℕ). numbers (take i list) ++ l) (numbers_one (get_or list i 0))

-- the first of them take no more than all
numbers_most : (list : List ℕ) (i : ℕ) → length (numbers (take i list)) ≤ length (numbers list)
numbers_most list i =
    omega (
      arith,
      length-append (numbers (take i list)) (numbers (drop i list)),
      ap length (sym (numbers_append (take i list) (drop i list)) ∙ ap numbers (take-append-drop i list)),
    )

-- The first i of them are put.
pub record Counting (before list : List ℕ) (i : ℕ) (now : List ℕ) : Type 0 where
  pub inside : i ≤ length list
  pub room : Room before (numbers list)
  pub is : now ≡ before ++ numbers (take i list)

-- none is put yet
pub counting_start : {before list : List ℕ} → Room before (numbers list) → Counting before list 0 before
unfolding numbers
counting_start {before} room = record { inside = omega arith; room = room; is = sym (append-nil before) }

module _ {before list : List ℕ} {i : ℕ} {now : List ℕ} (w : Counting before list i now) where
  module _ (h : i < length list) where
    -- there is room for the next number,
    pub counting_room : Room now (32 ∷ digits 20 (get_or list i 0))
    counting_room =
        record {
          fits =
              omega (
                arith,
                ap length w.is,
                length-append before (numbers (take i list)),
                w.room.fits,
                numbers_most list (suc i),
                ap length (numbers_more list i h),
                length-append (numbers (take i list)) (32 ∷ digits 20 (get_or list i 0)),
              );
        }

    -- and then one more is put,
    pub counting_step : {next : List ℕ} → next ≡ now ++ (32 ∷ digits 20 (get_or list i 0)) → Counting before list (i + 1) next
    counting_step put =
        record {
          inside = omega arith;
          room = w.room;
          is =
              rw (add-one, put, w.is, numbers_more list i h)
              (append_assoc before (numbers (take i list)) (32 ∷ digits 20 (get_or list i 0)));
        }

  -- until all are
  pub counting_end : length list ≤ i → now ≡ before ++ numbers list
  counting_end h = w.is ∙ ap (λ (l : List ℕ). before ++ numbers l) (take_all i list h)

pub ruleset counting = (counting_start, counting_room, counting_step, counting_end)

-- ---- The line of a refusal.

-- a number and the space before it have 21 bytes at most
number_few : (n : ℕ) → n < 2 ^ 64 → length (32 ∷ digits 20 n) ≤ 21
number_few n h = omega (arith, digits_length 20 n 20 (lit≤ tt) (lt_of_lt_of_le h (lit≤ tt)))

module _ {word : List ℕ} (first : word ≡ 114 ∷ 101 ∷ 102 ∷ 117 ∷ 115 ∷ 101 ∷ 100 ∷ []) (code : ℕ) where
  -- behind its word there is room for the number,
  pub refused_number : code < 2 ^ 64 → Room word (32 ∷ digits 20 code)
  refused_number h = record { fits = omega (arith, ap length first, number_few code h) }

  module _ {numbered : List ℕ} (second : numbered ≡ word ++ (32 ∷ digits 20 code)) (profile : ℕ) where
    -- behind that for the profile,
    pub refused_profile :
        code < 2 ^ 64 → profile < 2 ^ 64 → Room numbered (line_text (32 ∷ 97 ∷ 116 ∷ []) (profile ∷ []))
    refused_profile h k =
        record {
          fits =
              omega (
                arith,
                ap length first,
                ap length second,
                number_few code h,
                number_few profile k,
                ap length (numbers_one profile),
                length-append word (32 ∷ digits 20 code),
                length-append (numbers (profile ∷ [])) (10 ∷ []),
              );
        }

    -- and then its line is put,
    line_put : {all : List ℕ} → all ≡ numbered ++ line_text (32 ∷ 97 ∷ 116 ∷ []) (profile ∷ []) → all ≡ refused_text code profile
    unfolding refused_text bytes
    line_put put =
        let listed : numbered ≡ word ++ numbers (code ∷ []) = second ∙ ap (λ (l : List ℕ). word ++ l) (sym (numbers_one code)) in
        rw (put, listed, first) (simp append_assoc refl)

    -- the refusal's whose number it is
    pub refused_put :
        {told : ℕ} {all : List ℕ}
        → code ≡ told → all ≡ numbered ++ line_text (32 ∷ 97 ∷ 116 ∷ []) (profile ∷ []) → all ≡ refused_text told profile
    refused_put {all = all} is put = subst (λ (n : ℕ). all ≡ refused_text n profile) is (line_put put)

pub ruleset refusing = (refused_number, refused_profile, refused_put)
