-- What is printed for a number is its decimal: digits 0 to 9 that spell it, with no 0 in front unless it is 0; no other text is.
-- How long it is, and how it comes digit by digit.
-- Assumes nothing.
use mathlib.Core.Path.{◌≡◌, refl, sym, ◌∙◌, ap, subst}
use mathlib.Core.Logic.{inl, inr, ◌≢◌}
use mathlib.Core.List.{List, [], ◌∷◌, ◌++◌}
use Prim.Native.Nat.{ℕ, zero, suc, ◌+◌, ◌-◌, ◌*◌, ◌/◌, ◌%◌, ◌^◌, ◌≤◌, ◌<◌}
use native.Mathlib.Nat.{pow-succ', div-add-mod', lt_of_lt_of_le}
use native.Mathlib.Omega.{arith}
use lib.Dec.{lit≤}
use lib.ListN.{length, get_or, length-append}
use borrow.Author.Tests.{lt-ltb, le-ltb}
use Rattle.meaning.specs.Route.{digits}
use Rattle.meaning.proofs.Order.{le_or_lt}

-- ---- One digit, and one digit more.

module _ (most n : ℕ) where
  -- a number below 10 is one digit
  pub digits_one : n < 10 → digits (suc most) n ≡ (48 + n) ∷ []
  unfolding digits
  digits_one h = rw (lt-ltb n 10 h)

  -- any other is its tenth and one digit more
  pub digits_more : 10 ≤ n → digits (suc most) n ≡ digits most (n / 10) ++ (48 + n % 10) ∷ []
  unfolding digits
  digits_more h = rw (le-ltb n 10 h)

-- ---- What a decimal is.

-- Every byte is a digit, '0' to '9'.
abbrev pub AllDigits : List ℕ → Type 0
AllDigits [] = Unit {0}
AllDigits (c ∷ l) = (48 ≤ c) × (c ≤ 57) × AllDigits l

-- The number that digits spell, behind a number that stands before them: ten times that number and the digit, again and again.
unfoldable pub spells : ℕ → List ℕ → ℕ
spells n [] = n
spells n (c ∷ l) = spells (n * 10 + (c - 48)) l

-- The text is the decimal of the number: at least one digit, no 0 in front of others, and they spell it.
pub record Decimal (n : ℕ) (l : List ℕ) : Type 0 where
  pub filled : 1 ≤ length l
  pub each : AllDigits l
  pub spelt : spells 0 l ≡ n
  pub no_zero_first : 1 < length l → get_or l 0 0 ≢ 48

-- one digit more is ten times as much and the digit
spells_more : (n : ℕ) (l : List ℕ) (c : ℕ) → spells n (l ++ c ∷ []) ≡ spells n l * 10 + (c - 48)
unfolding spells
spells_more n [] c = refl
spells_more n (x ∷ l) c = spells_more (n * 10 + (x - 48)) l c

-- digits do not make a number less
spells_least : (n : ℕ) (l : List ℕ) → n ≤ spells n l
unfolding spells
spells_least n [] = omega arith
spells_least n (c ∷ l) = omega (arith, spells_least (n * 10 + (c - 48)) l)

-- one digit more is digits
each_more : (l : List ℕ) (c : ℕ) → AllDigits l → 48 ≤ c → c ≤ 57 → AllDigits (l ++ c ∷ [])
each_more [] c h low high = (low, high, tt)
each_more (x ∷ l) c h low high = (h.0, h.1, each_more l c h.2 low high)

-- and so without the last digit, which is one
each_front : (l : List ℕ) (c : ℕ) → AllDigits (l ++ c ∷ []) → AllDigits l × (48 ≤ c) × (c ≤ 57)
each_front [] c h = (tt, h.0, h.1)
each_front (x ∷ l) c h = let rest = each_front l c h.2 in ((h.0, h.1, rest.0), rest.1, rest.2)

-- ---- What is printed is a decimal.

-- the decimal of a number that is not 0, and one digit more
decimal_more : {n : ℕ} {l : List ℕ} (d : ℕ) → Decimal n l → 1 ≤ n → d < 10 → Decimal (n * 10 + d) (l ++ (48 + d) ∷ [])
unfolding spells
decimal_more {n} {l} d h some small =
    record {
      filled = simp length-append (omega arith);
      each = each_more l (48 + d) h.each (omega arith) (omega arith);
      spelt = omega (arith, spells_more 0 l (48 + d), h.spelt);
      no_zero_first = λ _. front l h;
    }
  where
    front : (l : List ℕ) → Decimal n l → get_or (l ++ (48 + d) ∷ []) 0 0 ≢ 48
    front [] h e = omega (arith, h.filled)
    front (c ∷ []) h e = omega (arith, h.spelt)
    front (c ∷ b ∷ l) h e = h.no_zero_first (omega arith) e

-- one digit is a decimal
decimal_one : (most n : ℕ) → n < 10 → Decimal n (digits (suc most) n)
unfolding spells
decimal_one most n h =
    rw (digits_one most n h)
    (record {
      filled = omega arith;
      each = (omega arith, omega arith, tt);
      spelt = omega arith;
      no_zero_first = λ more. absurd (omega arith);
    })

-- what is printed for a number of so many digits at most is its decimal,
pub digits_decimal : (most n : ℕ) → n < 10 ^ suc most → Decimal n (digits (suc most) n)
digits_decimal zero n h = decimal_one zero n h
digits_decimal (suc most) n h =
    elim (le_or_lt 10 n) [
      | inl many ↦
          rw (digits_more (suc most) n many)
          (subst (λ (x : ℕ). Decimal x (digits (suc most) (n / 10) ++ (48 + n % 10) ∷ [])) (div-add-mod' n 10)
          (decimal_more (n % 10) (digits_decimal most (n / 10) (omega (arith, pow-succ' 10 (suc most))))
          (omega arith) (omega arith)))
      | inr few ↦ decimal_one (suc most) n few
    ]

-- so for a number of 64 bits
pub decimal : (n : ℕ) → n < 2 ^ 64 → Decimal n (digits 20 n)
decimal n h = digits_decimal 19 n (lt_of_lt_of_le h (lit≤ tt))

-- every byte that is printed for a number is a digit
pub digits_each : (most n : ℕ) → AllDigits (digits most n)
unfolding digits
digits_each zero n = tt
digits_each (suc most) n =
    elim (le_or_lt 10 n) [
      | inl many ↦
          rw (digits_more most n many)
          (each_more (digits most (n / 10)) (48 + n % 10) (digits_each most (n / 10)) (omega arith) (omega arith))
      | inr few ↦ rw (digits_one most n few) (omega arith, omega arith, tt)
    ]

-- ---- No other text is.

-- Digits, and the last of them.
record Ending (l : List ℕ) : Type 0 where
  front : List ℕ
  final : ℕ
  split : l ≡ front ++ final ∷ []

-- every text that is not empty has one
ending : (c : ℕ) (l : List ℕ) → Ending (c ∷ l)
ending c [] = record { front = []; final = c; split = refl }
ending c (b ∷ l) =
    let rest = ending b l in
    record { front = c ∷ rest.front; final = rest.final; split = ap (λ (x : List ℕ). c ∷ x) rest.split }

-- a decimal without its last digit is the decimal of the tenth
decimal_front :
    {n : ℕ} (x : ℕ) (l : List ℕ) (c : ℕ) → Decimal n ((x ∷ l) ++ c ∷ [])
    → Decimal (n / 10) (x ∷ l) × (1 ≤ n / 10) × (48 + n % 10 ≡ c)
unfolding spells
decimal_front {n} x l c d =
    let parts = each_front (x ∷ l) c d.each in
    let more = spells_more 0 (x ∷ l) c in
    let most = spells_least (0 * 10 + (x - 48)) l in
    let lead : x ≢ 48 = d.no_zero_first (simp length-append (omega arith)) in
    let tenth : spells 0 (x ∷ l) ≡ n / 10 = omega (arith, d.spelt) in (
      record {
        filled = omega arith;
        each = parts.0;
        spelt = tenth;
        no_zero_first = λ _. lead;
      },
      omega (arith, parts.0.0),
      omega (arith, d.spelt),
    )

-- a decimal is what is printed, if it is so without its last digit
printed_more :
    (most n : ℕ) → ((m : ℕ) (l : List ℕ) → Decimal m l → length l ≤ most → digits most m ≡ l) → (front : List ℕ) (c : ℕ)
    → Decimal n (front ++ c ∷ []) → length (front ++ c ∷ []) ≤ suc most → digits (suc most) n ≡ front ++ c ∷ []
unfolding spells
printed_more most n again [] c d h =
    let e : 48 + n ≡ c = omega (arith, d.each.0, d.spelt) in
    digits_one most n (omega (arith, d.each.1)) ∙ ap (λ (x : ℕ). x ∷ []) e
printed_more most n again (x ∷ l) c d h =
    let parts = decimal_front x l c d in
    digits_more most n (omega (arith, parts.1))
    ∙ cc (again (n / 10) (x ∷ l) parts.0 (omega (arith, length-append (x ∷ l) (c ∷ []))), parts.2)

-- a decimal of so many digits at most is what is printed
pub decimal_digits : (most n : ℕ) (l : List ℕ) → Decimal n l → length l ≤ most → digits most n ≡ l
decimal_digits zero n l d h = absurd (omega (arith, d.filled))
decimal_digits (suc most) n [] d h = absurd (omega (arith, d.filled))
decimal_digits (suc most) n (c ∷ l) d h =
    let e = ending c l in
    printed_more most n (decimal_digits most) e.front e.final (rw e.split at d)
    (omega (arith, ap length e.split))
    ∙ sym e.split

-- so a number has one decimal
pub one_decimal : {n : ℕ} {a b : List ℕ} → Decimal n a → Decimal n b → a ≡ b
one_decimal {n} {a} {b} v w =
    sym (decimal_digits (length a + length b) n a v (omega arith)) ∙ decimal_digits (length a + length b) n b w (omega arith)

-- ---- How long it is.

-- one more digit, for a number that is not below 10
one_more : {n : ℕ} (k : ℕ) → 10 ≤ n → n < 10 ^ suc k → 1 ≤ k
one_more zero many h = absurd (omega arith)
one_more (suc k) many h = omega arith

-- a number below 10^k is printed with k digits at most
pub digits_length : (most n k : ℕ) → 1 ≤ k → n < 10 ^ k → length (digits most n) ≤ k
unfolding digits
digits_length zero n k some h = omega arith
digits_length (suc most) n zero some h = absurd (omega arith)
digits_length (suc most) n (suc k) some h =
    elim (le_or_lt 10 n) [
      | inl many ↦
          rw (digits_more most n many)
          (simp length-append
          (omega (arith, digits_length most (n / 10) k (one_more k many h) (omega (arith, pow-succ' 10 k)))))
      | inr few ↦ rw (digits_one most n few) (omega arith)
    ]

-- ---- Digit by digit.

-- what is printed for a number of up to 20 digits is what is printed for its tenth, and one digit more
pub digits_step : (n : ℕ) → 10 ≤ n → n < 10 ^ 20 → digits 20 n ≡ digits 20 (n / 10) ++ (48 + n % 10) ∷ []
digits_step n many h =
    digits_more 19 n many
    ∙ ap (λ (l : List ℕ). l ++ (48 + n % 10) ∷ [])
    (decimal_digits 19 (n / 10) (digits 20 (n / 10)) (digits_decimal 19 (n / 10) (omega arith))
    (digits_length 20 (n / 10) 19 (omega arith) (omega arith)))
