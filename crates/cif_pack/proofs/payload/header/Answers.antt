use Rattle.std.proofs.Common.{arith, rules, ◌%◌, ◌-◌, ◌∙◌, ap, w8}
use Rattle.std.proofs.lemmas.Int.{to_z-of_z}
use Rattle.cif_pack.specs.Payload.{low_five_bits}
use Rattle.cif_pack.proofs.Octets.{header-word-of}
use Rattle.cif_pack.proofs.payload.header.Goals as goal

pub returns : goal.returns
returns c =
    header-word-of c.sbit.result c.ebit.result c.from.result c.from-2.result c.from-3.result c.low_five_bits.result c.low_five_bits-2.result
    (c.args.from % 8) ((8 - c.args.to % 8) % 8) c.args.context.now (omega arith) (omega arith)
    c.sbit.ensures c.ebit.ensures c.from.ensures c.from-2.ensures c.from-3.ensures (c.low_five_bits.ensures ∙ ap low_five_bits (to_z-of_z w8 c.args.context.now.across (search rules)))
    (c.low_five_bits-2.ensures ∙ ap low_five_bits (to_z-of_z w8 c.args.context.now.down (search rules)))
