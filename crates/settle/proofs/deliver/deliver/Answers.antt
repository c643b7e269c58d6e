-- `deliver` hands buckets over: each refusal in its place, and the curve in the part of the table.
-- Assumes nothing.
use Rattle.std.proofs.Common.{refl}
use Rattle.checks.proofs.Numbers.{number_some, refused_as}
use Rattle.settle.proofs.Delivering.{delivery_some, delivered_uneven, delivered_many, delivered_large, delivered_short, delivered}
use Rattle.settle.proofs.deliver.deliver.Goals as goal

pub returns-in_err-even : goal.returns-in_err-even
returns-in_err-even c =
    rw (refused_as _ _ c.from_residual.ensures.1) (delivered_uneven _ c.in_err-even.ensures (number_some _))

pub returns-then-pairs : goal.returns-then-pairs
returns-then-pairs c = delivered_many _ c.in_ok-even.ensures refl c.if-pairs.true

pub returns-then-not-within : goal.returns-then-not-within
returns-then-not-within c =
    delivered_large _ c.in_ok-even.ensures refl c.if-pairs.false c.within.ensures c.if-not-within.true

pub write-requires : goal.write-requires
write-requires c = delivery_some _ c.in_ok-even.ensures refl

pub returns-in_err-write : goal.returns-in_err-write
returns-in_err-write c =
    rw (refused_as _ _ c.from_residual-in_err-write.ensures.1)
    (delivered_short _ c.in_ok-even.ensures refl c.if-pairs.false c.within.ensures c.if-not-within.false c.in_err-write.ensures (number_some _))

pub returns : goal.returns
returns c =
    delivered _ c.in_ok-even.ensures refl c.if-pairs.false c.within.ensures c.if-not-within.false c.in_ok-write.ensures refl
