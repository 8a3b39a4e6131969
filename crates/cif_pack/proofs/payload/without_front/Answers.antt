use Rattle.cif_pack.proofs.Octets.{without-front}
use Rattle.cif_pack.proofs.payload.without_front.Goals as goal

pub returns : goal.returns
returns c = without-front c.args.octet c.args.count c.requires c.ranges.octet.fits
