use Rattle.std.proofs.Common.{◌<◌, ◌^◌, ◌++◌, ℕ, Bool, List, take, ap, ◌∙◌, subst, sym}
use Rattle.pel_bits.specs.Bits.{bits}
use Rattle.pel_bits.specs.Buffer.{filled_up}
use Rattle.pel_bits.proofs.RunBits.{field-of-part, part_below}
use Rattle.pel_bits.proofs.octets.copy_piece.Goals as goal

pub put-requires-clause-fits : goal.put-requires-clause-fits
put-requires-clause-fits c =
    subst (λ (n : ℕ). n < 2 ^ c.args.len) (sym c.number_at-run.ensures) (part_below c.args.source.now c.args.from c.args.len c.requires.inside)

pub returns : goal.returns
returns c =
    rw c.number_at-run.ensures at c.put.ensures
    ∙ ap (λ (t : List Bool). filled_up (take c.args.at (bits c.args.octets.now) ++ t)) (field-of-part c.args.source.now c.args.from c.args.len c.requires.inside)
