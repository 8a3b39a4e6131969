use Rattle.std.proofs.Common.{◌≡◌, length, ap, sym, ◌∙◌, arith}
use Rattle.pel_bits.specs.Bits.{number}
use Rattle.pel_bits.proofs.OctetBits.{length-part, part-part}
use Rattle.pel_bits.proofs.slice.Bits.wide_number.Goals as goal

pub returns : goal.returns
returns c =
    let b = c.self.inside in
    let len : length c.args.self.now ≡ b.len = rw (← c.self.view_is) (length-part b.octets.now b.from b.len c.self.invariant.0) in
    c.number_at.ensures ∙ rw (← c.self.view_is) (ap number (sym (part-part b.octets.now b.from b.len c.args.from c.args.width (omega arith))))
