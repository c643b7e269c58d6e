-- `in_form` tells normal form. The loop's invariant: x/y, below 2^40 over 2^20, is the crossing of the last bucket passed with the one
-- before it, and the neighbours' test of the buckets from k on, after that crossing, decides about the whole list.
-- Assumes nothing.
use Rattle.checks.proofs.Forms.{Rising}
use Rattle.checks.specs.Cited.{bucket_of}
use Rattle.meaning.specs.Curve.{curve_of}
use Rattle.checks.proofs.in_form.Given as goal

abbrev pub invariant-loop-k : goal.invariant-loop-k
invariant-loop-k l = Rising (curve_of l.curve) l.count l.x l.y (bucket_of l.before) l.k
