-- At a 25th tick, and at another.
use Rattle.std.proofs.Common.{ℕ, ◌%◌, [], ◌∷◌, refl, sym, ◌∙◌, ap}
use Rattle.conf_file.specs.Entries.{Chair}
use Rattle.pel_model.specs.declared.chair.Command.TheVariants.{Speaker}
use Rattle.conf_make.proofs.Going.{spoken-none, spoken-one, behind-none, behind-one}
use Rattle.conf_make.proofs.Making.{nothing-made, one-made}
use Rattle.conf_make.proofs.maker.Maker.write_speaker.Goals as goal

pub returns-then-tick-ne0 : goal.returns-then-tick-ne0
returns-then-tick-ne0 g c =
    let old = c.args.self.now in
    nothing-made _ _ (g.K.Sink.tells c.args.sink.now) old old _ (spoken-none old.lanes c.args.tick old.state c.if-tick-ne0.true)
    (sym (behind-none c.args.tick old.state c.if-tick-ne0.true)) refl refl

pub returns : goal.returns
returns g c =
    let old = c.args.self.now in
    one-made (Chair (Speaker c.lane_of-lane.result)) _ _ _ _ old _ c.put_order.result
    (ap (λ (n : ℕ). Chair (Speaker n) ∷ []) (c.lane_of-lane.ensures.value ∙ ap (λ (d : ℕ). d % old.lanes) c.draw-drawn.ensures.drawn)
    ∙ sym (spoken-one old.lanes c.args.tick old.state c.if-tick-ne0.false))
    (c.draw-drawn.ensures.state ∙ sym (behind-one c.args.tick old.state c.if-tick-ne0.false)) refl c.put_order.ensures
