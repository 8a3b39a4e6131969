use Rattle.std.proofs.Common.{sym}
use Rattle.pel_bits.proofs.OctetBits.{length-part}
use Rattle.pel_bits.proofs.slice.Bits.len.Goals as goal

pub returns : goal.returns
returns c =
    rw (← c.self.view_is) (sym (length-part c.self.inside.octets.now c.self.inside.from c.self.inside.len c.self.invariant.0))
