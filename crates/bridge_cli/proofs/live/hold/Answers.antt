-- A conference that was served over the sources of the names.
use Rattle.bridge_cli.proofs.Living.{held}
use Rattle.bridge_cli.proofs.live.hold.Goals as goal

pub returns-in-Ok : goal.returns-in-Ok
returns-in-Ok g c = λ words before after asked reaches.
    held g.S.Source.tells g.C.Ticker.tells g.K.Sink.tells words c.args.options.now before after c.args.ticker c.args.sink
    c.args.sources.lanes.items c.args.sources.chair c.in-Ok.end c.settings_of-settings.result c.of_mixer.result c.settings_of-settings.ensures asked reaches
    c.in-Ok.ensures.serves c.in-Ok.ensures.complete
