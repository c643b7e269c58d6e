-- `decode` takes a rate and a burst for each bucket, in turn.
-- Assumes nothing.
use Rattle.std.proofs.Common.{lit<}
use Rattle.profiles.proofs.Decoding.{decoding_start, decoding_step, rate_room, burst_room}
use Rattle.profiles.proofs.reader.decode.Goals as goal

pub loop-init : goal.loop-init
loop-init c = decoding_start c.requires c.new-pairs.ensures c.at-reader.ensures.file c.at-reader.ensures.at

pub push-requires : goal.push-requires
push-requires c = (lit< tt, rate_room c.loop.invariant c.loop-test.true)

pub push-requires-in-loop : goal.push-requires-in-loop
push-requires-in-loop c = (lit< tt, burst_room c.loop.invariant c.loop-test.true _ _ c.push.ensures.items)

pub loop-preserved : goal.loop-preserved
loop-preserved c =
    decoding_step c.loop.invariant c.loop-test.true c.take.ensures.same_file c.take.ensures.passed c.take.ensures.value
    c.take-in-loop.ensures.value c.push.ensures.items c.push-in-loop.ensures.items c.take-in-loop.ensures.same_file
    c.take-in-loop.ensures.passed
