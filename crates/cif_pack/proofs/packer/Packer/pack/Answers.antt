use Rattle.std.proofs.Common.{◌≡◌, ◌+◌, ◌-◌, ◌*◌, length, sym, ◌∙◌, ap, arith, length-append}
use Rattle.pel_bits.proofs.OctetBits.{length-bits}
use Rattle.pel_bits.specs.Buffer.{whole}
use Rattle.pel_bits.specs.Reading.{zeros}
use Rattle.cif_pack.proofs.AtomsRise.{rises-of}
use Rattle.cif_pack.proofs.packer.Packer.pack.Goals as goal

pub put_packets-requires-clause-inside : goal.put_packets-requires-clause-inside
put_packets-requires-clause-inside g c =
    let bs = c.args.picture.now.bits in
    let long : 8 * length c.octets.result.now ≡ length bs + length (zeros (whole (length bs) - length bs)) =
    sym (length-bits c.octets.result.now) ∙ ap length c.octets.ensures ∙ length-append bs (zeros (whole (length bs) - length bs)) in
    omega (arith, long, c.len-len.ensures, ap length c.bits.ensures.bits)

pub put_packets-requires-clause-rises : goal.put_packets-requires-clause-rises
put_packets-requires-clause-rises g c =
    rises-of c.args.picture.now c.self.inside.settings.mtu c.len-len.result c.as_slice.result.now c.self.invariant.0
    (c.len-len.ensures ∙ ap length c.bits.ensures.bits) c.requires.picture.0 (c.bits.ensures.whole c.requires.picture.1)
    (λ p is. c.as_slice.ensures.value ∙ c.atom_ends-ends.ensures.ends p is)
