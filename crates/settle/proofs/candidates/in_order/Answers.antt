-- `in_order` tells whether the buckets stand in order, by what each answer of its closure tells of two neighbours.
-- Assumes nothing.
use Rattle.std.proofs.lemmas.List.Sorted.{answers_always}
use Rattle.std.proofs.Common.{rules}
use Rattle.settle.proofs.Ordered.{pair_ahead, tells_in_order}
use Rattle.settle.proofs.candidates.in_order.Goals as goal

pub returns : goal.returns
returns c = tells_in_order c.args.pairs.now c.is_sorted_by.result (c.is_sorted_by.ensures.cases pair_ahead (answers_always _ _ _ (λ f a r k e. search rules)))
