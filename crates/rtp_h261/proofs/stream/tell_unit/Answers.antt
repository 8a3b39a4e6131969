-- A unit at which the sink failed.
use Rattle.std.proofs.Common.{Option, Some, subst, sym, List}
use Rattle.rtp_h261.specs.declared.depack.Unit.{Unit as Ended}
use Rattle.rtp_h261.specs.Events.{Event}
use Rattle.rtp_h261.specs.ReadSoFar.{IsEventOf}
use Rattle.rtp_h261.specs.ToldSoFar.{TellsOn}
use Rattle.rtp_h261.proofs.Putting.{one-fails}
use Rattle.rtp_h261.proofs.stream.tell_unit.Goals as goal

pub returns-in_err-octets : goal.returns-in_err-octets
returns-in_err-octets g c events h =
    let old = g.T.Teller.duty c.args.teller.now in
    let new = g.T.Teller.duty c.tell_ended.new.teller in
    let before = g.K.Sink.tells c.args.sink.now in
    let after = g.K.Sink.tells c.tell_ended.new.sink in
    let told : IsEventOf (Some c.in-Some.unit) c.args.coded.now events = subst (λ (u : Option Ended). IsEventOf u c.args.coded.now events) c.in-Some.is h in
    subst (λ (es : List Event). TellsOn old new c.args.number es before after c.args.octets.now c.args.octets.now c.from_residual.result) (sym told.1)
    (one-fails c.from_residual.result c.in_err-octets.field-0.0 old new c.args.number told.0 before after c.args.octets.now c.from_residual.ensures.0 (c.in_err-octets.ensures told.0 told.2))
