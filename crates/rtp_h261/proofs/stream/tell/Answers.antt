-- A loss, and a unit after it.
use Rattle.std.proofs.Common.{refl}
use Rattle.rtp_h261.specs.declared.unit_end.UnitTally.{UnitTally}
use Rattle.rtp_h261.proofs.Putting.{packet-failed, packet-told}
use Rattle.rtp_h261.proofs.stream.tell.Goals as goal

pub returns-in_err-tell_loss : goal.returns-in_err-tell_loss
returns-in_err-tell_loss g c events told =
    let now : UnitTally = record c.count.new.tally { octets = c.tell_loss.new.octets } in
    packet-failed c.from_residual.result c.in_err-tell_loss.field-0.0 (g.T.Teller.duty c.args.teller.now) (g.T.Teller.duty c.tell_loss.new.teller) c.args.tally.now c.count.new.tally now c.args.fed.now.lost told.unit events
    (g.K.Sink.tells c.args.sink.now) (g.K.Sink.tells c.tell_loss.new.sink) c.from_residual.ensures.0 told.order (c.count.ensures.counted c.args.coded.now events told) c.count.ensures.few c.count.ensures.octets refl
    c.in_err-tell_loss.ensures

pub returns : goal.returns
returns g c events told =
    let now : UnitTally = record c.count.new.tally { octets = c.tell_unit.new.octets } in
    packet-told c.tell_unit.result _ (g.T.Teller.duty c.args.teller.now) (g.T.Teller.duty c.tell_loss.new.teller) (g.T.Teller.duty c.tell_unit.new.teller) c.args.tally.now c.count.new.tally now c.tell_loss.new.octets
    c.args.fed.now.lost c.from.result told.unit events (g.K.Sink.tells c.args.sink.now) (g.K.Sink.tells c.tell_loss.new.sink) (g.K.Sink.tells c.tell_unit.new.sink)
    told.order c.from.ensures (c.count.ensures.counted c.args.coded.now events told) c.count.ensures.few c.count.ensures.octets refl c.in_ok-tell_loss.ensures (c.tell_unit.ensures told.unit told.is_unit)
