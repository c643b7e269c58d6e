-- The numbers of refusals, and which of two wins.
-- Assumes nothing.
use Rattle.std.proofs.Common.{◌≡◌, refl, ap, ◌+◌, min, Result, Ok, Err, arith}
use Rattle.std.specs.Result.{IsErrAnd}
use borrow.Author.Tests.{ne_eqb}
use Rattle.std.specs.Ordering.{ord_min}
use denote.Enum.Declared.{tag_of}
use Rattle.meaning.specs.Refusal.{number}
use Rattle.meaning.specs.Computed.{earlier}
use Rattle.meaning.proofs.Outcome.Outcomes.{number_positive}
use Rattle.checks.specs.Table.{GivesNumber, line_of, code_of}
use Rattle.checks.specs.contracts.refusal.Refusal as held
use Rattle.checks.specs.contracts.refusal.RefusalOrd.TheImpl
use Rattle.checks.specs.declared.refusal.Refusal.{Refusal}
use Rattle.checks.specs.declared.refusal.Refusal.TheVariants.{Header, Length, Pad, List, Count, Range, Form, Unbounded, Large, Room}

-- a refusal's place among the others, from 0, is its number less one
pub number_is : (r : Refusal) → GivesNumber r (tag_of held.the_type r + 1)
unfolding number
number_is Header = refl
number_is Length = refl
number_is Pad = refl
number_is List = refl
number_is Count = refl
number_is Range = refl
number_is Form = refl
number_is Unbounded = refl
number_is Large = refl
number_is Room = refl

-- what holds of each refusal holds of all
each :
    (P : Refusal → Type 0)
    → P Header × P Length × P Pad × P List × P Count × P Range × P Form × P Unbounded × P Large × P Room → (r : Refusal) → P r
each P all Header = all.0
each P all Length = all.1
each P all Pad = all.2
each P all List = all.3
each P all Count = all.4
each P all Range = all.5
each P all Form = all.6
each P all Unbounded = all.7
each P all Large = all.8
each P all Room = all.9

-- the number of the smaller refusal is the smaller number
pub number_min : (a b : Refusal) → number (line_of (ord_min (TheImpl.cmp-value).it a b)) ≡ min (number (line_of a)) (number (line_of b))
unfolding number
number_min Header = each _ (refl, refl, refl, refl, refl, refl, refl, refl, refl, refl)
number_min Length = each _ (refl, refl, refl, refl, refl, refl, refl, refl, refl, refl)
number_min Pad = each _ (refl, refl, refl, refl, refl, refl, refl, refl, refl, refl)
number_min List = each _ (refl, refl, refl, refl, refl, refl, refl, refl, refl, refl)
number_min Count = each _ (refl, refl, refl, refl, refl, refl, refl, refl, refl, refl)
number_min Range = each _ (refl, refl, refl, refl, refl, refl, refl, refl, refl, refl)
number_min Form = each _ (refl, refl, refl, refl, refl, refl, refl, refl, refl, refl)
number_min Unbounded = each _ (refl, refl, refl, refl, refl, refl, refl, refl, refl, refl)
number_min Large = each _ (refl, refl, refl, refl, refl, refl, refl, refl, refl, refl)
number_min Room = each _ (refl, refl, refl, refl, refl, refl, refl, refl, refl, refl)

-- ---- A refusal that a caller hands on.

-- it is not 0
pub number_some : (r : Refusal) → number (line_of r) ≡ 0 → ⊥
number_some r z = omega (arith, z, number_positive (line_of r))

-- it is handed on as it is
pub refused_as : {A : Type 0} (x : Result A Refusal) (r : Refusal) → IsErrAnd x (λ q. q ≡ r) → x ≡ Err r
refused_as (Ok y) r h = absurd h
refused_as (Err q) r h = ap Err h

-- ---- Two tests: the refusal that wins.

module _ {A B : Type 0} {x : Result A Refusal} {y : Result B Refusal} where
  -- neither refuses
  pub both_right : {a : A} {b : B} → x ≡ Ok a → y ≡ Ok b → 0 ≡ earlier (code_of x) (code_of y)
  unfolding earlier
  both_right h e = rw (h, e)

  -- the second alone does
  pub second_wins : {a : A} {r : Refusal} → x ≡ Ok a → y ≡ Err r → number (line_of r) ≡ earlier (code_of x) (code_of y)
  unfolding earlier
  second_wins h e = rw (h, e)

  -- the first alone does
  pub first_wins : {b : B} {r : Refusal} → x ≡ Err r → y ≡ Ok b → number (line_of r) ≡ earlier (code_of x) (code_of y)
  unfolding earlier
  first_wins {r = r} h e = rw (h, e, ne_eqb (number (line_of r)) 0 (number_some r))

  -- both do
  pub smaller_wins :
      {r q least : Refusal} → x ≡ Err r → y ≡ Err q → least ≡ ord_min (TheImpl.cmp-value).it r q
      → number (line_of least) ≡ earlier (code_of x) (code_of y)
  unfolding earlier
  smaller_wins {r = r} {q = q} h e is =
      rw (
        h,
        e,
        is,
        ne_eqb (number (line_of r)) 0 (number_some r),
        ne_eqb (number (line_of q)) 0 (number_some q),
      )
      (number_min r q)

pub ruleset two_tests = (both_right, second_wins, first_wins, smaller_wins)
