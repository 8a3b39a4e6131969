use Rattle.std.proofs.Common.{sym, arith}
use Rattle.pel_bits.proofs.OctetBits.{length-front}
use Rattle.pel_bits.proofs.buffer.BitBuf.len.Goals as goal

pub returns : goal.returns
returns c = rw (← c.self.view_is) (sym (length-front c.self.inside.octets.items c.self.inside.len (omega arith)))
