use Rattle.std.proofs.Common.{◌≡◌, ◌-◌, ◌≤◌, cond, List}
use Rattle.pel_model.specs.declared.Format.{Format}
use Rattle.pel_model.specs.Grammar.{Element, slot, AtDc, AtFirst, next}
use Rattle.h261_block.proofs.SoFar.{SoFar}
use Rattle.h261_block.proofs.scan_block.Given as goal

abbrev pub invariant-loop-behind : goal.invariant-loop-behind
invariant-loop-behind l = record {
  within : l.filled ≤ 64;
  so_far : (format : Format) (before : List Element) → slot before ≡ cond l.intra AtDc AtFirst → SoFar (next format) before l.intra l.fn.r l.r l.filled;
}

abbrev pub decreases-loop-behind : goal.decreases-loop-behind
decreases-loop-behind l = 64 - l.filled
