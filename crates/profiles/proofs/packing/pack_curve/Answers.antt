-- `pack_curve` packs the head, then each bucket in turn, then zero bits up to the byte's end.
-- Assumes nothing.
use Rattle.std.proofs.Common.{rules, arith}
use Rattle.checks.proofs.Checks.{curve_some, curve_few}
use Rattle.profiles.proofs.Packs.{curve_packs, buckets_start}
use Rattle.profiles.proofs.packing.pack_curve.Goals as goal

pub pack_head-writer-requires-clause-some : goal.pack_head-writer-requires-clause-some
pack_head-writer-requires-clause-some c = omega (arith, c.count-count.ensures, curve_some _ c.args.curve.clear)

pub pack_head-writer-requires-clause-few : goal.pack_head-writer-requires-clause-few
pack_head-writer-requires-clause-few c = omega (arith, c.count-count.ensures, curve_few _ c.args.curve.clear)

pub loop-k-init : goal.loop-k-init
loop-k-init c = buckets_start c.args.curve.clear c.count-count.ensures c.pack_head-writer.ensures.packed c.pack_head-writer.ensures.long

pub put-requires : goal.put-requires
put-requires c = search (curve_packs, rules)

pub put-requires-in-loop-k : goal.put-requires-in-loop-k
put-requires-in-loop-k c = search (curve_packs, rules)

pub loop-k-preserved : goal.loop-k-preserved
loop-k-preserved c = search (curve_packs, rules)

pub returns : goal.returns
returns c = search (curve_packs, rules)
