-- `duchrelin_route_program` hands no more bytes on than there are: no more are told than the text has.
-- Assumes nothing.
use Rattle.std.proofs.Common.{sym, ◌∙◌, arith}
use Rattle.std.proofs.lemmas.List.{length-take-le}
use Rattle.meaning.proofs.Outcome.Bytes.{count_within}
use Rattle.route.proofs.Text.{told_or_none}
use Rattle.route.proofs.duchrelin_route_program.Goals as goal

pub slice_bounds-text-end : goal.slice_bounds-text-end
slice_bounds-text-end c =
    omega (arith, count_within c.route.ensures, c.unwrap_or-bytes.ensures ∙ told_or_none c.route.result)

pub slice_bounds-send-end : goal.slice_bounds-send-end
slice_bounds-send-end c =
    sym
    (length-take-le _ _
    (omega (arith, count_within c.route.ensures, c.unwrap_or-bytes.ensures ∙ told_or_none c.route.result)))
