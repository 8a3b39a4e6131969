use Rattle.std.proofs.Common.{◌<◌, ◌/◌, ◌%◌, get_or, arith}
use Rattle.std.proofs.lemmas.Nat.{mod_below}
use Rattle.pel_bits.proofs.RunBits.{kept_below, bits-before}
use Rattle.pel_bits.proofs.octets.kept_bits.Goals as goal

pub returns : goal.returns
returns c =
    let octet = get_or c.args.octets.now (c.args.at / 8) 0 in
    let fits : octet < 256 = omega (arith, c.type_inv.octets (c.args.at / 8)) in
    rw c.from.ensures (record {
      below = kept_below octet (c.args.at % 8) (mod_below c.args.at 8 (omega arith)) fits;
      kept = bits-before c.args.octets.now c.args.at c.requires;
    })
