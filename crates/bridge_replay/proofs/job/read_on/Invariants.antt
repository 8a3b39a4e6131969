use Rattle.std.proofs.Common.{ℕ, ◌-◌}
use Rattle.bridge_replay.specs.ReadsFile.{ReplaysOn, IsReplaying}
use Rattle.cif_pack.specs.declared.packer.Settings.{Settings}
use Rattle.io_edge.specs.Outside.{Outside, outside}
use Rattle.bridge_replay.proofs.job.read_on.Given as goal

abbrev pub invariant-loop-conference : goal.invariant-loop-conference
invariant-loop-conference g l = record {
  stands : IsReplaying (outside (g.S.Source.tells l.source) (g.K.Sink.tells l.sink)) l.reader l.conference;
  goes : (set : Settings) (budget : ℕ) (before : Outside) → ReplaysOn set budget before
      (outside (g.S.Source.tells l.fn.source) (g.K.Sink.tells l.fn.sink)) l.fn.reader l.fn.conference → ReplaysOn set budget before
      (outside (g.S.Source.tells l.source) (g.K.Sink.tells l.sink)) l.reader l.conference;
}

abbrev pub decreases-loop-conference : goal.decreases-loop-conference
decreases-loop-conference g l = l.reader.allowance.budget - l.reader.allowance.taken
