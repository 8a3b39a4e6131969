-- A loss at which the sink failed.
use Rattle.std.proofs.Common.{Bool, subst, sym}
use Rattle.rtp_h261.specs.Events.{Lost, lost_events}
use Rattle.rtp_h261.specs.ToldSoFar.{TellsOn}
use Rattle.rtp_h261.proofs.Putting.{one-fails}
use Rattle.rtp_h261.proofs.stream.tell_loss.Goals as goal

pub returns-in_err-octets : goal.returns-in_err-octets
returns-in_err-octets g c =
    let old = g.T.Teller.duty c.args.teller.now in
    let new = g.T.Teller.duty c.loss.new.self in
    let before = g.K.Sink.tells c.args.sink.now in
    let after = g.K.Sink.tells c.loss.new.sink in
    subst (λ (lost : Bool). TellsOn old new c.args.number (lost_events lost) before after c.args.octets.now c.args.octets.now c.from_residual.result) (sym c.if-lost.true)
    (one-fails c.from_residual.result c.in_err-octets.field-0.0 old new c.args.number Lost before after c.args.octets.now c.from_residual.ensures.0 c.in_err-octets.ensures)
