use Rattle.std.proofs.Common.{◌≡◌, length}
use Rattle.h261_block.proofs.Passing.{IsPassing}
use Rattle.h261_block.proofs.octets.pass_blocks.Given as goal

abbrev pub invariant-loop-left : goal.invariant-loop-left
invariant-loop-left l = record {
  kept : l.r ≡ l.fn.r;
  passing : IsPassing l.intra l.count l.fn.r l.ahead l.state l.filled l.left;
}

abbrev pub decreases-loop-left : goal.decreases-loop-left
decreases-loop-left l = length l.ahead.0
