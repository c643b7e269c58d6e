-- `in_form` answers no at the first bucket that is not flatter and later than the one before, and yes behind the last.
-- Assumes nothing.
use Rattle.checks.proofs.Forms.{rising}
use Rattle.std.proofs.Common.{rules}
use Rattle.checks.proofs.in_form.Goals as goal

pub loop-k-init : goal.loop-k-init
loop-k-init c = search (rising, rules)

pub returns-then-before-here : goal.returns-then-before-here
returns-then-before-here c = search (rising, rules)

pub overflow_mul-rise : goal.overflow_mul-rise
overflow_mul-rise c = search (rising, rules)

pub returns-then-rise-y : goal.returns-then-rise-y
returns-then-rise-y c = search (rising, rules)

pub loop-k-preserved : goal.loop-k-preserved
loop-k-preserved c = search (rising, rules)

pub returns : goal.returns
returns c = search (rising, rules)
