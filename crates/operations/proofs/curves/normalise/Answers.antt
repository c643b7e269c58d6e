-- The raw list is refused, or what `settle` leaves over it is what is asked. Assumes nothing.
use Rattle.std.proofs.Common.{refl}
use Rattle.checks.proofs.Numbers.{number_some, refused_as}
use Rattle.operations.proofs.Asking.{normalise_refused, normalise_settled}
use Rattle.operations.proofs.curves.normalise.Goals as goal

pub returns-in_err-raw : goal.returns-in_err-raw
returns-in_err-raw c =
    rw (refused_as _ _ c.from_residual.ensures.1) (normalise_refused _ _ _ _ c.in_err-raw.ensures (number_some _))

pub returns : goal.returns
returns c = normalise_settled _ c.in_ok-raw.ensures refl c.settle.ensures
