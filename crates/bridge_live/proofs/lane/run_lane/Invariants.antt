-- The flow of the packets so far was made.
use Rattle.std.proofs.Common.{◌≡◌, ◌-◌}
use Rattle.hall_core.specs.Hall.{lanes_of}
use Rattle.bridge_live.specs.Posting.{MayRead, HasFlowed}
use Rattle.bridge_live.specs.Worker.{most_taken}
use Rattle.bridge_live.proofs.lane.run_lane.Given as goal

abbrev pub invariant-loop-spare : goal.invariant-loop-spare
invariant-loop-spare g l = record {
  number : l.lane.number ≡ l.fn.lane.number;
  may : MayRead l.lock (g.S.Source.tells l.source) l.reader l.lane;
  flowed : HasFlowed (lanes_of l.lock.opening) (g.S.Source.tells l.fn.source) (g.S.Source.tells l.source) l.fn.lane.seat l.reader l.lane;
}

abbrev pub decreases-loop-spare : goal.decreases-loop-spare
decreases-loop-spare g l = most_taken - l.reader.framer.allowance.taken
