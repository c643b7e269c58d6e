-- `settle` meets its contract: each refusal in its place, and the normal form handed over.
-- Assumes nothing.
use Rattle.std.proofs.Common.{refl}
use Rattle.checks.proofs.Numbers.{number_some, refused_as}
use Rattle.settle.proofs.Settling.{accept, wide_pairs, settled_refused, settled_many, settled}
use Rattle.settle.proofs.settle.Goals as goal

pub returns-in_err-refusal : goal.returns-in_err-refusal
returns-in_err-refusal c =
    rw (refused_as _ _ c.from_residual.ensures.1) (settled_refused _ c.in_err-refusal.ensures (number_some _))

pub choose-requires-clause-wide : goal.choose-requires-clause-wide
choose-requires-clause-wide c = wide_pairs _ c.in_ok-refusal.ensures refl c.as_chunks.ensures.front

pub returns-then-is_err : goal.returns-then-is_err
returns-then-is_err c =
    settled_many _ (accept _ c.in_ok-refusal.ensures refl) c.as_chunks.ensures.front c.choose.ensures c.is_err.ensures.value c.if-is_err.true

pub returns : goal.returns
returns c =
    settled _ (accept _ c.in_ok-refusal.ensures refl) c.as_chunks.ensures.front c.choose.ensures c.is_err.ensures.negation c.if-is_err.false
    c.as_slice.ensures.value c.as_flattened.ensures.value c.deliver.ensures
