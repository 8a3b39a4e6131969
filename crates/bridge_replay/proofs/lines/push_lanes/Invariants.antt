use Rattle.std.proofs.Common.{◌≡◌, ◌+◌, ◌*◌, ◌-◌, ◌≤◌, ◌++◌}
use Rattle.arrayvec.specs.ArrayString.{array_string_len}
use Rattle.bridge_replay.specs.Lines.{waited_below}
use Rattle.bridge_replay.proofs.lines.push_lanes.Given as goal

abbrev pub invariant-loop-lane : goal.invariant-loop-lane
invariant-loop-lane l = record {
  bound : l.lane ≤ 16;
  bytes : l.line.bytes ≡ l.fn.line.bytes ++ waited_below l.lane l.fn.waiting;
  short : array_string_len l.line ≤ array_string_len l.fn.line + 21 * l.lane;
}

abbrev pub decreases-loop-lane : goal.decreases-loop-lane
decreases-loop-lane l = 16 - l.lane
