use Rattle.std.proofs.Common.{◌∙◌, sym, arith}
use Rattle.pel_bits.proofs.OctetBits.{take-bits}
use Rattle.pel_bits.proofs.buffer.BitBuf.octets.Goals as goal

pub returns : goal.returns
returns c =
    rw (← c.self.view_is, c.deref.ensures.value) (sym (take-bits _ c.self.inside.octets.items (omega arith)) ∙ c.self.invariant.3)
