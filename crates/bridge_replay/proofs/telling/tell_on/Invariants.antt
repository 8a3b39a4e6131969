use Rattle.std.proofs.Common.{ℕ, ◌-◌, []}
use Rattle.bridge_replay.specs.Recounting.{IsTelling, ToldSoFar}
use Rattle.bridge_replay.specs.Telling.{counted_lines}
use Rattle.io_edge.specs.Outside.{Outside, outside}
use Rattle.bridge_replay.proofs.telling.tell_on.Given as goal

abbrev pub invariant-loop-account : goal.invariant-loop-account
invariant-loop-account g l = record {
  stands : IsTelling (outside (g.S.Source.tells l.source) (g.K.Sink.tells l.sink)) l.reader l.account l.tally;
  goes : (budget : ℕ) (before : Outside) → ToldSoFar budget before
      (outside (g.S.Source.tells l.fn.source) (g.K.Sink.tells l.fn.sink)) l.fn.reader l.fn.account (counted_lines []) → ToldSoFar budget before
      (outside (g.S.Source.tells l.source) (g.K.Sink.tells l.sink)) l.reader l.account l.tally;
}

abbrev pub decreases-loop-account : goal.decreases-loop-account
decreases-loop-account g l = l.reader.allowance.budget - l.reader.allowance.taken
