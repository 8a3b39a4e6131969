-- A packet outside a run is skipped, is a unit, or begins to collect.
use Rattle.std.proofs.Common.{◌≡◌, ◌∙◌, ◌++◌, subst, ap, Bool, List, take}
use Rattle.std.proofs.Math.Seq.{take-length}
use Rattle.pel_bits.specs.Buffer.{Buffer}
use Rattle.rtp_h261.specs.Depack.{IsUnit}
use Rattle.rtp_h261.proofs.TurnLemmas.{skip_turn, unit_turn, collect_turn}
use Rattle.rtp_h261.proofs.depack.Collector.start.Goals as goal

pub returns-then-not-starts_picture-clause-turned : goal.returns-then-not-starts_picture-clause-turned
returns-then-not-starts_picture-clause-turned c p h =
    skip_turn c.args.self.now.format c.args.lost c.args.packet.now p c.starts_picture.result c.args.into.now h c.starts_picture.ensures c.if-not-starts_picture.true

pub returns-then-packet-clause-turned : goal.returns-then-packet-clause-turned
returns-then-packet-clause-turned c p h =
    let whole : c.slice-bits.result ≡ c.args.packet.now.bits =
    c.slice-bits.ensures.value ∙ ap (λ k. take k c.args.packet.now.bits) c.len.ensures ∙ take-length c.args.packet.now.bits in
    unit_turn c.args.self.now.format c.args.lost c.args.packet.now p c.starts_picture.result c.unit_of.result c.args.into.now c.unit_of.new.into h c.starts_picture.ensures c.if-not-starts_picture.false
    c.if-packet.true (subst (λ (xs : List Bool). IsUnit c.args.self.now.format xs c.unit_of.result c.unit_of.new.into) whole c.unit_of.ensures.unit)

pub returns-clause-turned : goal.returns-clause-turned
returns-clause-turned c p h =
    let whole : c.append.new.self.list ≡ c.args.packet.now.bits =
    ap (λ (b : Buffer). b.list) c.append.ensures.value ∙ ap (λ (b : Buffer). b.list ++ c.slice-bits.result) c.clear.ensures
    ∙ c.slice-bits.ensures.value ∙ ap (λ k. take k c.args.packet.now.bits) c.len.ensures ∙ take-length c.args.packet.now.bits in
    collect_turn c.args.self.now.format c.args.lost c.args.packet.now p c.starts_picture.result c.append.new.self.list c.args.into.now h c.starts_picture.ensures c.if-not-starts_picture.false
    c.if-packet.false whole
