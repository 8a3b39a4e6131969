use Rattle.std.proofs.Common.{◌≡◌, ℕ, ◌<◌, subst, arith}
use Rattle.cif_mix.proofs.Boxes.{box-of}
use Rattle.cif_mix.proofs.RowLaws.{AtPair, left-takes, right-takes, pair-more, row-added}
use Rattle.cif_mix.proofs.add_row.Goals as goal

pub add_group-requires : goal.add_group-requires
add_group-requires c =
    left-takes c.args.show_left c.args.left.now c.args.show_right c.args.right.now c.args.into.now
    c.loop-i.into c.loop-i.i c.requires.row (omega arith) c.loop-i.invariant c.requires.left c.requires.right
    (box-of c.args.left.now c.tells_length.ensures.picture c.tells_length.ensures.within)
    (box-of c.args.right.now c.tells_length-2.ensures.picture c.tells_length-2.ensures.within)

pub add_group-requires-in-loop-i : goal.add_group-requires-in-loop-i
add_group-requires-in-loop-i c =
    right-takes c.args.show_left c.args.left.now c.args.show_right c.args.right.now c.args.into.now
    c.loop-i.into c.add_group.new.into c.loop-i.i c.requires.row (omega arith) c.loop-i.invariant c.add_group.ensures c.requires.left c.requires.right
    (box-of c.args.left.now c.tells_length.ensures.picture c.tells_length.ensures.within)
    (box-of c.args.right.now c.tells_length-2.ensures.picture c.tells_length-2.ensures.within)

pub loop-i-preserved : goal.loop-i-preserved
loop-i-preserved c =
    let less : c.loop-i.i < 3 = omega arith in
    pair-more c.args.show_left c.args.left.now c.args.show_right c.args.right.now c.args.into.now
    c.loop-i.into c.add_group.new.into c.add_group-in-loop-i.new.into c.loop-i.i c.requires.row less c.loop-i.invariant
    c.add_group.ensures c.add_group-in-loop-i.ensures

pub returns : goal.returns
returns c =
    let last : c.loop-i.i ≡ 3 = omega arith in
    row-added c.args.show_left c.args.left.now c.args.show_right c.args.right.now c.args.into.now c.loop-i.into
    (subst (λ (n : ℕ). AtPair c.args.show_left c.args.left.now c.args.show_right c.args.right.now c.args.into.now c.loop-i.into n) last c.loop-i.invariant)
    (box-of c.args.left.now c.tells_length.ensures.picture c.tells_length.ensures.within)
    (box-of c.args.right.now c.tells_length-2.ensures.picture c.tells_length-2.ensures.within)
    c.requires.left c.requires.right
