use Rattle.std.proofs.Common.{ℕ, Bool, List, length}
use Rattle.pel_model.specs.Grammar.{Element}
use Rattle.h261_mb.specs.State.{IsReady}
use Rattle.h261_pic.specs.ReadGroup.{GroupComes}
use Rattle.h261_pic.proofs.GroupReading.{GroupSoFar}
use Rattle.h261_pic.proofs.group.read_group.Given as goal

abbrev pub invariant-loop-marks : goal.invariant-loop-marks
invariant-loop-marks l = record {
  ready : IsReady l.state;
  read : (bits : List Bool) (before : List Element) (from : List Bool × ℕ) → GroupComes l.format bits l.last l.begun before from l.fn.r → GroupSoFar l.format bits l.begun before from l.header.number l.header.quant l.state l.marks.items l.r;
}

abbrev pub decreases-loop-marks : goal.decreases-loop-marks
decreases-loop-marks l = length l.r.0
