use Rattle.std.proofs.Common.{◌∙◌}
use Rattle.pel_bits.proofs.RunBits.{run-of-bit}
use Rattle.pel_bits.proofs.octets.bit_at.Goals as goal

pub returns : goal.returns
returns c = c.from.ensures ∙ run-of-bit c.args.octets.now c.args.at c.requires
