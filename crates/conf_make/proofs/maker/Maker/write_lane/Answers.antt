-- A packet that is lost, and one that is sent.
use Rattle.std.proofs.Common.{ℕ, ◌%◌, ◌==◌, ◌&&◌, nat_lt, Bool, List, [], ◌∷◌, length, refl, sym, ◌∙◌, ap, arith}
use Rattle.conf_file.specs.Entries.{Packet}
use Rattle.conf_make.specs.Made.{picture}
use Rattle.conf_make.specs.Packets.{made_packet}
use Rattle.conf_make.specs.Writing.{behind_made}
use Rattle.conf_make.proofs.Going.{sent-lost, sent-whole, behind-lost, behind-whole}
use Rattle.conf_make.proofs.Lengths.{length-picture}
use Rattle.conf_make.proofs.Making.{nothing-made, one-made, tally-put}
use Rattle.conf_make.proofs.maker.Maker.write_lane.Goals as goal

pub returns-then-is_lost : goal.returns-then-is_lost
returns-then-is_lost g c =
    let old = c.args.self.now in
    let lost = sym (c.is_lost.ensures ∙ ap (λ (d : ℕ). nat_lt 1 c.args.tick && d % 50 == 0) c.draw-drawn.ensures.drawn) ∙ c.if-is_lost.true in
    nothing-made _ _ (g.K.Sink.tells c.args.sink.now) old _ _ (sent-lost c.args.tick c.args.lane old.state lost)
    (c.draw-drawn.ensures.state ∙ sym (behind-lost c.args.tick c.args.lane old.state lost)) refl refl

pub put_packet-requires-clause-short : goal.put_packet-requires-clause-short
put_packet-requires-clause-short g c =
    omega (arith, length-picture c.args.tick c.args.lane c.draw-drawn.new.state, ap length c.make_picture.ensures.bits)

pub returns : goal.returns
returns g c =
    let old = c.args.self.now in
    let kept = sym (c.is_lost.ensures ∙ ap (λ (d : ℕ). nat_lt 1 c.args.tick && d % 50 == 0) c.draw-drawn.ensures.drawn) ∙ c.if-is_lost.false in
    one-made (Packet c.args.lane (made_packet c.args.tick c.args.lane c.make_picture.new.self.bits.list)) _ _ _ _ old _ c.put_packet.result
    (ap (λ (bs : List Bool). Packet c.args.lane (made_packet c.args.tick c.args.lane bs) ∷ []) (c.make_picture.ensures.bits ∙ ap (picture c.args.tick c.args.lane) c.draw-drawn.ensures.state)
    ∙ sym (sent-whole c.args.tick c.args.lane old.state kept))
    (c.make_picture.ensures.state ∙ ap (behind_made c.args.tick c.args.lane) c.draw-drawn.ensures.state ∙ sym (behind-whole c.args.tick c.args.lane old.state kept))
    c.make_picture.ensures.kept.0 (tally-put _ _ _ _ _ _ c.put_packet.result c.make_picture.ensures.kept.1 c.put_packet.ensures)
