-- How much of the text is there.
-- Assumes nothing.
use Rattle.std.proofs.Common.{◌≡◌, refl, ℕ}
use Rattle.std.specs.Prelude.{Result, Ok, Err}
use Rattle.std.specs.Result.{result_unwrap_or}
use Rattle.checks.specs.Table.{told}
use Rattle.checks.specs.declared.refusal.Refusal.{Refusal}

-- what is told of an answer, 0 of a refusal
pub told_or_none : (answer : Result ℕ Refusal) → result_unwrap_or answer 0 ≡ told answer
told_or_none (Ok n) = refl
told_or_none (Err r) = refl
