-- Numbers written to the start of what is left of a list from a place on.
-- Assumes nothing.
use mathlib.Core.Path.{◌≡◌, ◌∙◌, ap}
use mathlib.Core.List.{List, ◌++◌, append-nil}
use Prim.Native.Nat.{ℕ, ◌+◌, ◌≤◌}
use native.Mathlib.Omega.{arith}
use lib.ListN.{length, take, drop, length-drop, drop_of_length-le}
use lib.Seq.{take_all}
use Rattle.meaning.specs.Refusal.{over}

-- That is lent, and so the numbers are in the whole list.
module _ (answer : List ℕ) (at : ℕ) (whole : List ℕ) (size : ℕ) (all : length whole ≤ at + size) where
  tail_all : length (drop at whole) ≤ size
  tail_all = omega (arith, length-drop at whole)

  -- all that is left is lent
  pub tail_is : take size (drop at whole) ≡ drop at whole
  tail_is = take_all size (drop at whole) tail_all

  pub tail_over :
      {now : List ℕ} → now ≡ over answer (take size (drop at whole))
      → take at whole ++ (now ++ drop size (drop at whole)) ≡ take at whole ++ over answer (drop at whole)
  tail_over {now} written =
      ap (λ (l : List ℕ). take at whole ++ l)
      (ap (λ (l : List ℕ). now ++ l) (drop_of_length-le (drop at whole) tail_all)
      ∙ append-nil now
      ∙ written
      ∙ ap (over answer) tail_is)
