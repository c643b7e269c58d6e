-- A refusal of the server or of the cross curve, a latency that is too large, or the server left. Assumes nothing.
use Rattle.std.proofs.Common.{refl}
use Rattle.checks.proofs.Numbers.{number_some, refused_as}
use Rattle.operations.proofs.Leaving.{residual_refused, shared_server, residual_less, residual_fits, residual_large, residual_left}
use Rattle.operations.proofs.rated.residual.Goals as goal

pub returns-in_err-cross : goal.returns-in_err-cross
returns-in_err-cross c =
    rw (refused_as _ _ c.from_residual.ensures.1) (residual_refused _ c.in_err-cross.ensures.verdict (number_some _))

pub div_ceil-requires : goal.div_ceil-requires
div_ceil-requires c = (shared_server _ c.in_ok-cross.ensures.verdict refl).rate_some

pub overflow_add-late : goal.overflow_add-late
overflow_add-late c =
    residual_fits _ c.in_ok-cross.ensures.verdict refl (rw c.in_ok-cross.ensures.its_list at c.last-last.ensures) c.div_ceil.ensures

pub returns-then-late-ge-LATENCY_END : goal.returns-then-late-ge-LATENCY_END
returns-then-late-ge-LATENCY_END c =
    residual_large _ c.in_ok-cross.ensures.verdict refl (rw c.in_ok-cross.ensures.its_list at c.last-last.ensures) c.div_ceil.ensures
    c.if-late-ge-LATENCY_END.true

pub overflow_sub-rate : goal.overflow_sub-rate
overflow_sub-rate c =
    residual_less _ c.in_ok-cross.ensures.verdict refl (rw c.in_ok-cross.ensures.its_list at c.last-last.ensures)

pub returns : goal.returns
returns c =
    residual_left _ c.in_ok-cross.ensures.verdict refl (rw c.in_ok-cross.ensures.its_list at c.last-last.ensures) c.div_ceil.ensures
    c.if-late-ge-LATENCY_END.false c.rated.ensures
