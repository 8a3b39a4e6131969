use Rattle.std.proofs.Common.{◌<◌, ◌+◌, ◌/◌, ◌%◌, get_or, arith}
use Rattle.std.proofs.lemmas.Nat.{mod_below}
use Rattle.pel_bits.proofs.RunBits.{word-and-octet, long_word_fits}
use Rattle.pel_bits.proofs.octets.long_word_at.Goals as goal

pub overflow_add-result : goal.overflow_add-result
overflow_add-result c =
    let octet = get_or c.args.octets.now (c.args.from / 8 + 8) 0 in
    let fits : octet < 256 = omega (arith, c.type_inv.octets (c.args.from / 8 + 8)) in
    rw c.from.ensures (omega (arith, long_word_fits c.load-first.result octet (c.args.from % 8) (mod_below c.args.from 8 (omega arith)) fits))

pub returns : goal.returns
returns c =
    let octet = get_or c.args.octets.now (c.args.from / 8 + 8) 0 in
    let fits : octet < 256 = omega (arith, c.type_inv.octets (c.args.from / 8 + 8)) in
    rw c.from.ensures (word-and-octet c.args.octets.now c.args.from c.load-first.result c.requires fits c.load-first.ensures)
