-- `bytes_taken` rounds the bits up to whole bytes.
-- Assumes nothing.
use Rattle.std.proofs.Common.{◌≡◌, ◌∙◌, ◌+◌, ◌/◌, arith}
use Rattle.profiles.proofs.Header.{taken_bytes}
use Rattle.profiles.proofs.bytes_taken.Goals as goal

pub returns : goal.returns
returns c =
    let rounded : c.div_ceil.result ≡ (c.bits_taken.result + 7) / 8 = omega (arith, c.div_ceil.ensures) in
    rounded ∙ taken_bytes c.args.input.now c.bits_taken.ensures
