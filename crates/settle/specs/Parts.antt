-- What comes of a question, in the part of a table that code is told.
-- Assumes nothing.
use Rattle.std.specs.Prelude.{List, ℕ, Result}
use Rattle.meaning.specs.Refusal.{Question, PartOutcome}
use Rattle.checks.specs.Table.{code_of, told}
use Rattle.checks.specs.declared.refusal.Refusal.{Refusal}
use Rattle.settle.specs.declared.part.Part.{Part}

-- The outcome, with the table before and after: the code, and the count of buckets.
abbrev pub Answers : Question → Part → List ℕ → List ℕ → Result ℕ Refusal → Type 0
Answers ask part before after answer = PartOutcome ask part.at part.room before after (code_of answer) (told answer)
