-- The curve that code holds.
-- Assumes nothing.
use Rattle.std.specs.Prelude.{List}
use Rattle.meaning.specs.Curve.{Bucket, curve_of}
use Rattle.checks.specs.declared.tested.Curve.{Curve}

-- Its buckets.
abbrev pub curve_held : Curve → List Bucket
curve_held c = curve_of c.list.now
