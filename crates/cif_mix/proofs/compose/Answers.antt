use Rattle.std.proofs.Common.{◌≡◌, rules, sym, subst}
use Rattle.h261_pic.specs.Coded.{Coding}
use Rattle.pel_model.specs.declared.Quad.TheVariants.{One, Two, Three, Four}
use Rattle.cif_mix.specs.Shows.{MayBeShown, Shows}
use Rattle.cif_mix.proofs.Composing.{begun-is, upper-row, lower-row, whole-composed, whole-is}
use Rattle.cif_mix.proofs.compose.Goals as goal

pub add_row-requires-clause-row : goal.add_row-requires-clause-row
add_row-requires-clause-row c =
    upper-row c.start.new.self c.args.tr (begun-is c.args.into.now c.start.new.self c.args.tr c.requires.cif c.start.ensures)

pub add_row-requires-clause-left : goal.add_row-requires-clause-left
add_row-requires-clause-left c =
    let is : c.deref.result.now ≡ c.args.hand.now.one.value = search rules in
    subst (MayBeShown c.args.one) (sym is) (c.requires.shown One)

pub add_row-requires-clause-right : goal.add_row-requires-clause-right
add_row-requires-clause-right c =
    let is : c.deref-2.result.now ≡ c.args.hand.now.two.value = search rules in
    subst (MayBeShown c.args.two) (sym is) (c.requires.shown Two)

pub add_row-requires-2-clause-row : goal.add_row-requires-2-clause-row
add_row-requires-2-clause-row c =
    lower-row c.args.one c.args.two c.args.three c.args.four c.deref.result.now c.deref-2.result.now c.deref-3.result.now c.deref-4.result.now
    c.start.new.self c.add_row.new.into c.args.tr (begun-is c.args.into.now c.start.new.self c.args.tr c.requires.cif c.start.ensures) c.add_row.ensures

pub add_row-requires-2-clause-left : goal.add_row-requires-2-clause-left
add_row-requires-2-clause-left c =
    let is : c.deref-3.result.now ≡ c.args.hand.now.three.value = search rules in
    subst (MayBeShown c.args.three) (sym is) (c.requires.shown Three)

pub add_row-requires-2-clause-right : goal.add_row-requires-2-clause-right
add_row-requires-2-clause-right c =
    let is : c.deref-4.result.now ≡ c.args.hand.now.four.value = search rules in
    subst (MayBeShown c.args.four) (sym is) (c.requires.shown Four)

pub returns-clause-picture : goal.returns-clause-picture
returns-clause-picture c =
    λ shown each.
    let one_is : c.deref.result.now ≡ c.args.hand.now.one.value = search rules in
    let two_is : c.deref-2.result.now ≡ c.args.hand.now.two.value = search rules in
    let three_is : c.deref-3.result.now ≡ c.args.hand.now.three.value = search rules in
    let four_is : c.deref-4.result.now ≡ c.args.hand.now.four.value = search rules in
    whole-is c.args.one c.args.two c.args.three c.args.four c.deref.result.now c.deref-2.result.now c.deref-3.result.now c.deref-4.result.now
    c.start.new.self c.add_row.new.into c.add_row-2.new.into c.args.tr
    (begun-is c.args.into.now c.start.new.self c.args.tr c.requires.cif c.start.ensures) c.add_row.ensures c.add_row-2.ensures shown
    (subst (λ (b : Coding). Shows c.args.one b (shown One)) (sym one_is) (each One))
    (subst (λ (b : Coding). Shows c.args.two b (shown Two)) (sym two_is) (each Two))
    (subst (λ (b : Coding). Shows c.args.three b (shown Three)) (sym three_is) (each Three))
    (subst (λ (b : Coding). Shows c.args.four b (shown Four)) (sym four_is) (each Four))

pub returns-clause-composed : goal.returns-clause-composed
returns-clause-composed c =
    whole-composed c.args.one c.args.two c.args.three c.args.four c.deref.result.now c.deref-2.result.now c.deref-3.result.now c.deref-4.result.now
    c.start.new.self c.add_row.new.into c.add_row-2.new.into c.args.tr
    (begun-is c.args.into.now c.start.new.self c.args.tr c.requires.cif c.start.ensures) c.add_row.ensures c.add_row-2.ensures
