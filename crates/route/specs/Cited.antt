-- What the contract of the program's function cites.
-- Assumes nothing.
use Rattle.std.specs.Prelude.{◌≤◌, ℤ, pos, negsuc}

-- An exit status: 0, 1 or 2.
abbrev pub Status : ℤ → Type 0
Status (pos k) = k ≤ 2
Status (negsuc k) = ⊥
