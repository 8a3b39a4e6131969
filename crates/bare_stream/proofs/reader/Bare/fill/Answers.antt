-- Nothing is taken where nothing is needed.
use Rattle.bare_stream.proofs.Readings.{fills-none}
use Rattle.bare_stream.proofs.reader.Bare.fill.Goals as goal

pub returns-then-has_enough : goal.returns-then-has_enough
returns-then-has_enough g c =
    fills-none (g.S.Source.tells c.args.source.now) c.args.self.now c.has_enough.ensures.within c.if-has_enough.ensures.enough
