-- `next_of` is the next bucket of two curves merged, case by case.
-- Assumes nothing.
use Rattle.std.proofs.Common.{arith}
use Rattle.checks.specs.Held.{curve_held}
use Rattle.operations.proofs.Merging.{next_first_left, next_second_left, next_first_steeper, next_second_steeper, next_first_lower, next_second_lower}
use Rattle.operations.proofs.gather.next_of.Goals as goal

pub returns-then-count-j : goal.returns-then-count-j
returns-then-count-j c =
    next_first_left (curve_held c.args.f) (curve_held c.args.g) c.bucket-a.ensures (omega (arith, c.requires.some_left, c.requires.inside.1, c.count.ensures, c.if-count-j.true))
    (omega (arith, c.count.ensures, c.if-count-j.true))

pub returns-then-count-i : goal.returns-then-count-i
returns-then-count-i c =
    next_second_left (curve_held c.args.f) (curve_held c.args.g) c.bucket-b.ensures (omega (arith, c.count.ensures, c.if-count-j.false))
    (omega (arith, c.count-2.ensures, c.if-count-i.true))

pub returns-then-b-a : goal.returns-then-b-a
returns-then-b-a c =
    next_first_steeper (curve_held c.args.f) (curve_held c.args.g) c.bucket-a.ensures c.bucket-b.ensures (omega (arith, c.count-2.ensures, c.if-count-i.false))
    (omega (arith, c.count.ensures, c.if-count-j.false)) c.if-b-a.true

pub returns-then-a-b : goal.returns-then-a-b
returns-then-a-b c =
    next_second_steeper (curve_held c.args.f) (curve_held c.args.g) c.bucket-a.ensures c.bucket-b.ensures (omega (arith, c.count-2.ensures, c.if-count-i.false))
    (omega (arith, c.count.ensures, c.if-count-j.false)) c.if-a-b.true

pub returns-then-a-b-2 : goal.returns-then-a-b-2
returns-then-a-b-2 c =
    next_first_lower (curve_held c.args.f) (curve_held c.args.g) c.bucket-a.ensures c.bucket-b.ensures (omega (arith, c.count-2.ensures, c.if-count-i.false))
    (omega (arith, c.count.ensures, c.if-count-j.false)) c.if-b-a.false c.if-a-b.false c.if-a-b-2.true

pub returns : goal.returns
returns c =
    next_second_lower (curve_held c.args.f) (curve_held c.args.g) c.bucket-a.ensures c.bucket-b.ensures (omega (arith, c.count-2.ensures, c.if-count-i.false))
    (omega (arith, c.count.ensures, c.if-count-j.false)) c.if-b-a.false c.if-a-b.false c.if-a-b-2.false
