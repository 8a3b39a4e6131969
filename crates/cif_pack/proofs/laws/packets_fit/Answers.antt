use Rattle.cif_pack.proofs.PacketLaws.{packets-fit}
use Rattle.cif_pack.proofs.laws.packets_fit.Goals as goal

pub returns : goal.returns
returns c = packets-fit
