-- Numbers compared: the cases that the other laws split on, what `min` is, and products compared crosswise.
-- Assumes nothing.
use mathlib.Core.Path.{◌≡◌}
use mathlib.Core.Logic.{◌⊎◌, inl, inr, ◌≢◌}
use Prim.Native.Nat.{ℕ, ◌+◌, ◌*◌, ◌≤◌, ◌<◌, min}
use native.Mathlib.Nat.{lt_of_not-le, le_of_lt, min-eq_left, min-eq_right, eq-or-lt_of_le, le_dest}
use native.Mathlib.Decide.{dec_le, ℕ_discrete}
use native.Mathlib.Omega.{arith}

-- a number is at most another, or above it
pub le_or_lt : (a b : ℕ) → (a ≤ b) ⊎ (b < a)
le_or_lt a b = elim (dec_le a b) [ yes h ↦ inl h | no h ↦ inr (lt_of_not-le h) ]

-- it is below the other, the same, or above it
pub lt_or_eq_or_gt : (a b : ℕ) → (a < b) ⊎ ((a ≡ b) ⊎ (b < a))
lt_or_eq_or_gt a b =
    elim (le_or_lt a b) [ inl h ↦ elim (eq-or-lt_of_le h) [ inl e ↦ inr (inl e) | inr l ↦ inl l ] | inr h ↦ inr (inr h) ]

-- what is not above is at most
pub not_above : {a b : ℕ} → (b < a → ⊥) → a ≤ b
not_above h = omega arith

-- what is not apart is the same
pub not_apart : {a b : ℕ} → (a ≢ b → ⊥) → a ≡ b
not_apart {a} {b} h = elim (ℕ_discrete a b) [ yes e ↦ e | no n ↦ absurd (h n) ]

-- the smaller of two numbers is one of them
pub min_is : (a b : ℕ) → (min a b ≡ a) ⊎ (min a b ≡ b)
min_is a b = elim (le_or_lt a b) [ inl h ↦ inl (min-eq_left h) | inr h ↦ inr (min-eq_right (le_of_lt h)) ]

-- of two products, larger by larger and smaller by smaller make no less than each larger by a smaller
pub crosswise : {a b c d : ℕ} → a ≤ b → c ≤ d → a * d + b * c ≤ a * c + b * d
crosswise {a} {b} {c} {d} h h' = apart (le_dest h) (le_dest h')
  where
    apart : (x : ℕ) × (a + x ≡ b) → (y : ℕ) × (c + y ≡ d) → a * d + b * c ≤ a * c + b * d
    apart (x, e) (y, e') = rw (← e, ← e') (omega arith)
