-- `curve` meets its contract: the buckets are decoded, tested for normal form, and handed over.
-- Assumes nothing.
use Rattle.std.proofs.Common.{refl, ◌∙◌}
use Rattle.checks.proofs.Numbers.{number_some, refused_as}
use Rattle.profiles.proofs.Readings.{curve_holds, curve_file_refused, curve_file_short, curve_file_read}
use Rattle.profiles.proofs.reader.curve.Goals as goal

pub decode-pairs-requires : goal.decode-pairs-requires
decode-pairs-requires c = curve_holds c.requires c.count_in.ensures

pub returns-in_err-curve : goal.returns-in_err-curve
returns-in_err-curve c =
    rw (refused_as _ _ c.from_residual.ensures.1)
    (curve_file_refused c.requires c.count_in.ensures (c.as_slice.ensures.value ∙ c.decode-pairs.ensures) c.in_err-curve.ensures.verdict (number_some _))

pub returns-in_err-count : goal.returns-in_err-count
returns-in_err-count c =
    rw (refused_as _ _ c.from_residual-in_err-count.ensures.1)
    (curve_file_short c.requires c.count_in.ensures (c.as_slice-2.ensures.value ∙ c.decode-pairs.ensures)
    (rw (c.as_slice.ensures.value, ← c.as_slice-2.ensures.value) at c.in_ok-curve.ensures.verdict) refl c.in_err-count.ensures (number_some _))

pub returns : goal.returns
returns c =
    curve_file_read c.requires c.count_in.ensures (c.as_slice-2.ensures.value ∙ c.decode-pairs.ensures)
    (rw (c.as_slice.ensures.value, ← c.as_slice-2.ensures.value) at c.in_ok-curve.ensures.verdict) refl c.in_ok-count.ensures refl
    c.edition_in.ensures
