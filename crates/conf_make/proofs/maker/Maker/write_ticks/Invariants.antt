-- The ticks so far were put, and the others are still to be.
use Rattle.std.proofs.Common.{◌+◌, ◌-◌, ◌*◌}
use Rattle.conf_make.specs.Made.{all_ticks}
use Rattle.conf_make.proofs.Making.{HasMade}
use Rattle.conf_make.proofs.maker.Maker.write_ticks.Given as goal

abbrev pub invariant-loop-before : goal.invariant-loop-before
invariant-loop-before g l =
    HasMade (18 * l.before) (all_ticks l.ticks l.fn.self.lanes 1 l.fn.self.state) (all_ticks (l.ticks - l.before) l.fn.self.lanes (l.before + 1) l.self.state)
    (g.K.Sink.tells l.fn.sink) (g.K.Sink.tells l.sink) l.fn.self l.self
