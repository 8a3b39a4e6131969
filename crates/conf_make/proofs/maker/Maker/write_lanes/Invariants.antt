-- The lanes so far were put, and the others are still to be.
use Rattle.std.proofs.Common.{◌≡◌, ◌-◌}
use Rattle.conf_make.specs.Made.{all_sent, behind_lanes}
use Rattle.conf_make.proofs.Making.{HasMade}
use Rattle.conf_make.proofs.maker.Maker.write_lanes.Given as goal

abbrev pub invariant-loop-lane : goal.invariant-loop-lane
invariant-loop-lane g l = record {
  made :
      HasMade l.lane (all_sent l.fn.self.lanes l.tick 0 l.fn.self.state) (all_sent (l.fn.self.lanes - l.lane) l.tick l.lane l.self.state)
      (g.K.Sink.tells l.fn.sink) (g.K.Sink.tells l.sink) l.fn.self l.self;
  behind : behind_lanes (l.fn.self.lanes - l.lane) l.tick l.lane l.self.state ≡ behind_lanes l.fn.self.lanes l.tick 0 l.fn.self.state;
}
