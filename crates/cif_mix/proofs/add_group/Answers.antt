use Rattle.std.proofs.Common.{Bool, sym, subst}
use Rattle.cif_mix.specs.Rows.{IsAdded}
use Rattle.cif_mix.proofs.Adding.{add-copied, add-empty}
use Rattle.cif_mix.proofs.add_group.Goals as goal

pub returns-then-shown : goal.returns-then-shown
returns-then-shown c =
    subst (λ (s : Bool). IsAdded s c.args.picture.now c.args.i c.args.into.now c.copy_group.new.self) (sym c.if-shown.true)
    (add-copied c.args.picture.now c.args.into.now c.copy_group.new.self c.args.i c.requires.grows (c.requires.gives c.if-shown.true)
    c.copy_group.ensures.grown c.copy_group.ensures.picture)

pub returns-else-shown : goal.returns-else-shown
returns-else-shown c =
    subst (λ (s : Bool). IsAdded s c.args.picture.now c.args.i c.args.into.now c.empty_group.new.self) (sym c.if-shown.false)
    (add-empty c.args.picture.now c.args.into.now c.empty_group.new.self c.args.i c.requires.there c.requires.grows
    c.empty_group.ensures.grown c.empty_group.ensures.picture)
