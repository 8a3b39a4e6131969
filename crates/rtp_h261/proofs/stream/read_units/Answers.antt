-- All packets, by a reader of the format and the budget.
use Rattle.std.proofs.Common.{◌≡◌, ℕ, subst, ap}
use Rattle.h261_pic.specs.Coded.{Coding}
use Rattle.io_edge.specs.Outside.{outside}
use Rattle.pel_model.specs.declared.Format.{Format}
use Rattle.rtp_h261.specs.ToldSoFar.{TellsRead}
use Rattle.rtp_h261.specs.UnitReader.{UnitReading}
use Rattle.rtp_h261.proofs.StreamEnds.{units-told}
use Rattle.rtp_h261.proofs.stream.read_units.Goals as goal

pub returns : goal.returns
returns g c =
    let old = g.T.Teller.duty c.args.teller.now in
    let new = g.T.Teller.duty c.read_each.new.teller in
    let before = outside (g.S.Source.tells c.args.source.now) (g.K.Sink.tells c.args.sink.now) in
    let after = outside (g.S.Source.tells c.read_each.new.source) (g.K.Sink.tells c.read_each.new.sink) in
    let end = c.read_each.result in
    let format : c.in-Ok-reserve.picture.format ≡ c.args.format = ap (λ (k : Coding). k.format) c.in-Ok-reserve.ensures in
    let budget : c.in-Ok.reader.framer.allowance.budget ≡ c.args.budget = ap (λ (r : UnitReading). r.framer.allowance.budget) c.in-Ok.ensures in
    units-told c.one_stream.ensures c.args.format c.args.budget old new before after end
    (subst (λ (f : Format). TellsRead f c.args.budget old new before after end) format
    (subst (λ (n : ℕ). TellsRead c.in-Ok-reserve.picture.format n old new before after end) budget c.read_each.ensures))
