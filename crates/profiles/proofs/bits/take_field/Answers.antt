-- `take_field` reads the bytes that a field touches, and cuts off the bits before and behind it.
-- Assumes nothing.
use Rattle.profiles.proofs.Taking.{taking}
use Rattle.std.proofs.Common.{rules}
use Rattle.profiles.proofs.bits.take_field.Goals as goal

pub loop-byte-init : goal.loop-byte-init
loop-byte-init c = search (taking, rules)

pub overflow_mul-taken : goal.overflow_mul-taken
overflow_mul-taken c = search (taking, rules)

pub overflow_add-taken : goal.overflow_add-taken
overflow_add-taken c = search (taking, rules)

pub loop-byte-preserved : goal.loop-byte-preserved
loop-byte-preserved c = search (taking, rules)

pub returns : goal.returns
returns c = search (taking, rules)
