use Rattle.cif_pack.proofs.Octets.{without-back}
use Rattle.cif_pack.proofs.payload.without_back.Goals as goal

pub returns : goal.returns
returns c = without-back c.args.octet c.args.count c.requires c.ranges.octet.fits
