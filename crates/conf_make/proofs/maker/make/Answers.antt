-- The file, or nothing.
use Rattle.std.proofs.Common.{ℕ, subst}
use Rattle.conf_make.specs.Ends.{IsMakeRun}
use Rattle.conf_make.proofs.maker.make.Goals as goal

pub returns-in-Ok : goal.returns-in-Ok
returns-in-Ok g c =
    let before = g.K.Sink.tells c.args.sink.now in
    let after = g.K.Sink.tells c.make_all.new.sink in
    subst (λ (lanes : ℕ). IsMakeRun c.args.seed c.args.ticks lanes before after c.make_all.result) c.in-Ok.ensures.lanes
    (subst (λ (seed : ℕ). IsMakeRun seed c.args.ticks c.in-Ok.maker.lanes before after c.make_all.result) c.in-Ok.ensures.seed c.make_all.ensures)
