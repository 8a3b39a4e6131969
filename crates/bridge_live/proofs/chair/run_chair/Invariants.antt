-- What the lines so far say was made.
use Rattle.std.proofs.Common.{◌-◌}
use Rattle.hall_core.specs.Hall.{lanes_of}
use Rattle.bridge_live.specs.Hearing.{MayTakeLine, HasLines}
use Rattle.bridge_live.specs.Worker.{most_taken}
use Rattle.bridge_live.proofs.chair.run_chair.Given as goal

abbrev pub invariant-loop-stop : goal.invariant-loop-stop
invariant-loop-stop g l = record {
  may : MayTakeLine l.lock l.allowance l.chair;
  lines : HasLines (lanes_of l.lock.opening) (g.S.Source.tells l.fn.source) (g.S.Source.tells l.source) l.fn.chair.seat l.allowance l.chair;
}

abbrev pub decreases-loop-stop : goal.decreases-loop-stop
decreases-loop-stop g l = most_taken - l.allowance.taken
