use Rattle.std.proofs.Common.{arith}
use Rattle.pel_bits.proofs.RunBits.{word-of-octets}
use Rattle.pel_bits.proofs.octets.load.Goals as goal

pub returns : goal.returns
returns c =
    word-of-octets c.args.octets.now c.args.i _ c.requires (λ k. omega (arith, c.type_inv.octets k)) c.from_be_bytes.ensures
