-- `refusal` tests raw buckets: LIST is handed on, then comes RANGE.
-- Assumes nothing.
use Rattle.std.proofs.Common.{refl}
use Rattle.checks.proofs.Numbers.{number_some, refused_as}
use Rattle.settle.proofs.Settling.{refused_uneven, refused_range, refused_not}
use Rattle.settle.proofs.refusal.Goals as goal

pub returns-in_err-even : goal.returns-in_err-even
returns-in_err-even c =
    rw (refused_as _ _ c.from_residual.ensures.1) (refused_uneven _ c.in_err-even.ensures (number_some _))

pub returns-then-not-within : goal.returns-then-not-within
returns-then-not-within c = refused_range _ c.in_ok-even.ensures refl c.within.ensures c.if-not-within.true

pub returns : goal.returns
returns c = refused_not _ c.in_ok-even.ensures refl c.within.ensures c.if-not-within.false
