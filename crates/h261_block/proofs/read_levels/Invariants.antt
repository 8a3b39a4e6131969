use Rattle.std.proofs.Common.{◌≡◌, ◌-◌, ◌≤◌, cond, List}
use Rattle.pel_model.specs.declared.Format.{Format}
use Rattle.pel_model.specs.Grammar.{Element, slot, AtDc, AtFirst, next}
use Rattle.h261_block.proofs.SoFar.{LevelsSoFar}
use Rattle.h261_block.proofs.read_levels.Given as goal

abbrev pub invariant-loop-run : goal.invariant-loop-run
invariant-loop-run l = record {
  within : l.filled ≤ 64;
  so_far : (format : Format) (before : List Element) → slot before ≡ cond l.intra AtDc AtFirst → LevelsSoFar (next format) before l.intra l.fn.r l.r l.filled l.out;
}

abbrev pub decreases-loop-run : goal.decreases-loop-run
decreases-loop-run l = 64 - l.filled
