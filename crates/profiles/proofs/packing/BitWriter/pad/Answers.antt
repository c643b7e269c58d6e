-- `pad` packs zero bits up to the byte's end.
-- Assumes nothing.
use Rattle.profiles.proofs.Packs.{pads_up}
use Rattle.std.proofs.Common.{rules}
use Rattle.profiles.proofs.packing.BitWriter.pad.Goals as goal

pub put-requires : goal.put-requires
put-requires g c = search (pads_up, rules)

pub returns : goal.returns
returns g c = search (pads_up, rules)
