use Rattle.pel_bits.proofs.OctetBits.{length-part}
use Rattle.pel_bits.proofs.slice.Bits.new.Goals as goal

pub returns-clause-long : goal.returns-clause-long
returns-clause-long c = length-part c.args.octets.now c.args.from c.args.len c.requires
