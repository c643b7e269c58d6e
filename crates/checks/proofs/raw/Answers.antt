-- `raw` tests a raw list: its tests stand in the order of the table's numbers, and LIST is handed on.
-- Assumes nothing.
use Rattle.std.proofs.Common.{refl}
use Rattle.checks.proofs.Numbers.{number_some, refused_as}
use Rattle.checks.proofs.Checks.{raw_uneven, raw_many, raw_out_of_range, raw_right}
use Rattle.checks.proofs.raw.Goals as goal

pub returns-in_err-even : goal.returns-in_err-even
returns-in_err-even c =
    rw (refused_as _ _ c.from_residual.ensures.1) (raw_uneven _ c.in_err-even.ensures (number_some _))

pub returns-then-list : goal.returns-then-list
returns-then-list c = raw_many _ c.in_ok-even.ensures refl c.if-list.true

pub returns-then-not-within : goal.returns-then-not-within
returns-then-not-within c = raw_out_of_range _ c.in_ok-even.ensures refl c.if-list.false c.within.ensures c.if-not-within.true

pub returns : goal.returns
returns c = raw_right _ c.in_ok-even.ensures refl c.if-list.false c.within.ensures c.if-not-within.false
