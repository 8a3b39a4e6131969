-- The number's bits are the field.
use Rattle.std.proofs.Common.{◌^◌, ◌<◌, ◌≤◌, arith}
use Rattle.std.proofs.Math.Nat.{pow-le-pow_right}
use Rattle.rtp_h261.proofs.PayloadLemmas.{field_is, number_small}
use Rattle.rtp_h261.proofs.payload.field_at.Goals as goal

pub overflow_cast-result : goal.overflow_cast-result
overflow_cast-result c =
    let small : c.number.result < 2 ^ c.args.width = number_small c.number.result c.args.from c.args.width c.args.bits.now c.requires.inside c.number.ensures in
    let two : 0 < 2 = omega arith in
    let most : 2 ^ c.args.width ≤ 2 ^ 8 = pow-le-pow_right two c.requires.width in
    omega (arith, small, most)

pub returns-clause-small : goal.returns-clause-small
returns-clause-small c = number_small c.number.result c.args.from c.args.width c.args.bits.now c.requires.inside c.number.ensures

pub returns-clause-value : goal.returns-clause-value
returns-clause-value c = field_is c.number.result c.args.from c.args.width c.args.bits.now c.requires.inside c.number.ensures
