use Rattle.std.proofs.Common.{◌≡◌, length, sym, arith}
use Rattle.pel_bits.proofs.OctetBits.{length-part, part-part}
use Rattle.pel_bits.proofs.slice.Bits.slice.Goals as goal

pub returns-clause-value : goal.returns-clause-value
returns-clause-value c =
    let b = c.self.inside in
    let len : length c.args.self.now ≡ b.len = rw (← c.self.view_is) (length-part b.octets.now b.from b.len c.self.invariant.0) in
    rw (← c.self.view_is) (sym (part-part b.octets.now b.from b.len c.args.from c.args.len (omega arith)))
