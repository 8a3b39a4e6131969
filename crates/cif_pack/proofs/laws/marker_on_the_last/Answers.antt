use Rattle.cif_pack.proofs.PacketLaws.{marker-on-the-last}
use Rattle.cif_pack.proofs.laws.marker_on_the_last.Goals as goal

pub returns : goal.returns
returns c = marker-on-the-last
