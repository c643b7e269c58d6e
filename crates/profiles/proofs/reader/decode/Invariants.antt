-- `decode` takes buckets from a file. The loop's invariant: as many are decoded as were asked for so far, and the reader is behind
-- them.
-- Assumes nothing.
use Rattle.profiles.proofs.Decoding.{Decoding}
use Rattle.profiles.proofs.reader.decode.Given as goal

abbrev pub invariant-loop : goal.invariant-loop
invariant-loop l = Decoding l.file l.count l.pairs.items l.reader.file.now l.reader.at l.counter
