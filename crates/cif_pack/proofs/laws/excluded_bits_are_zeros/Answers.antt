use Rattle.cif_pack.proofs.PacketLaws.{bits-of-payload}
use Rattle.cif_pack.proofs.laws.excluded_bits_are_zeros.Goals as goal

pub returns : goal.returns
returns c = bits-of-payload
