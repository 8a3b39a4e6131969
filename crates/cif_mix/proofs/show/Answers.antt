-- The picture is the one that is written of the tick.
use Rattle.std.proofs.Common.{◌≡◌, Bool, is_some, ap, ◌∙◌}
use Rattle.h261_pic.specs.Coded.{coding}
use Rattle.history_laws.proofs.Composing.{shown}
use Rattle.pel_model.specs.declared.Format.TheVariants.{Cif}
use Rattle.pel_model.specs.declared.Quad.{Quad}
use Rattle.pel_model.specs.History.{taken_in}
use Rattle.cif_mix.specs.Shows.{in_places}
use Rattle.cif_mix.proofs.Taking.{places-are, shows-each, may-show, written-is}
use Rattle.cif_mix.proofs.show.Goals as goal

pub compose-requires-clause-shown : goal.compose-requires-clause-shown
compose-requires-clause-shown c =
    let t = c.requires.took in
    may-show t.0 t.1 c.args.note.now c.args.hand.now _
    (places-are c.args.note.now _ _ _ _ c.is_some.ensures c.is_some-2.ensures c.is_some-3.ensures c.is_some-4.ensures) t.2

pub returns-clause-picture : goal.returns-clause-picture
returns-clause-picture c = λ lanes H took.
    c.compose.ensures.picture (shown lanes H)
    (shows-each lanes H c.args.note.now c.args.hand.now _
    (places-are c.args.note.now _ _ _ _ c.is_some.ensures c.is_some-2.ensures c.is_some-3.ensures c.is_some-4.ensures) took)
    ∙ ap (coding Cif) (written-is lanes H c.args.note.now took.legal)
