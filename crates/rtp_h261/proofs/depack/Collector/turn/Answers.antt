-- A packet behind a complete run.
use Rattle.std.proofs.Common.{sym, subst}
use Rattle.picture_laws.specs.Laws.{kept_length}
use Rattle.rtp_h261.specs.declared.depack.Phase.{Phase}
use Rattle.rtp_h261.specs.OneByOne.{turned}
use Rattle.rtp_h261.specs.Turns.{Turned, mode_in, mode_of}
use Rattle.rtp_h261.proofs.TurnLemmas.{idle_turn}
use Rattle.rtp_h261.proofs.depack.Collector.turn.Goals as goal

pub returns-in-Idle-clause-turned : goal.returns-in-Idle-clause-turned
returns-in-Idle-clause-turned c p h =
    let format = c.args.self.now.format in
    subst (λ (phase : Phase). Turned format (turned (kept_length format) c.args.joined (mode_in phase c.args.self.now.kept.list) p) (mode_of c.start-in-Idle.new.self) c.start-in-Idle.result c.args.into.now c.start-in-Idle.new.into)
    (sym c.in-Idle.is)
    (idle_turn format c.args.joined c.breaks-lost.result c.args.packet.now p (mode_of c.start-in-Idle.new.self) c.start-in-Idle.result c.args.into.now c.start-in-Idle.new.into h c.breaks-lost.ensures
    (c.start-in-Idle.ensures.turned p h))
