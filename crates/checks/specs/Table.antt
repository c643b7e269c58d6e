-- The refusals that code holds, and what the table says of them.
-- Assumes nothing.
use Rattle.std.specs.Prelude.{◌≡◌, ℕ, Result, Ok, Err}
use Rattle.meaning.specs.Refusal as meant
use Rattle.meaning.specs.Refusal.{number, HEADER, LENGTH, PAD, LIST, COUNT, RANGE, FORM, UNBOUNDED, LARGE, ROOM}
use Rattle.checks.specs.declared.refusal.Refusal.{Refusal}
use Rattle.checks.specs.declared.refusal.Refusal.TheVariants.{Header, Length, Pad, List, Count, Range, Form, Unbounded, Large, Room}

-- A refusal by its name in the table.
abbrev pub line_of : Refusal → meant.Refusal
line_of Header = HEADER
line_of Length = LENGTH
line_of Pad = PAD
line_of List = LIST
line_of Count = COUNT
line_of Range = RANGE
line_of Form = FORM
line_of Unbounded = UNBOUNDED
line_of Large = LARGE
line_of Room = ROOM

-- A refusal's number.
abbrev pub GivesNumber : Refusal → ℕ → Type 0
GivesNumber r n = n ≡ number (line_of r)

-- The code of an answer: 0, or the number of the refusal.
abbrev pub code_of : {A : Type 0} → Result A Refusal → ℕ
code_of (Ok x) = 0
code_of (Err r) = number (line_of r)

-- The count or figure of an answer, 0 beside a refusal.
abbrev pub told : Result ℕ Refusal → ℕ
told (Ok n) = n
told (Err r) = 0
