-- The bits are kept as far as there is room.
use Rattle.std.proofs.Common.{◌≡◌, ◌∙◌, ◌-◌, ◌++◌, ℕ, ap, Bool, List, take, length, min, arith}
use Rattle.pel_bits.specs.Buffer.{Buffer}
use Rattle.picture_laws.specs.Laws.{kept_length}
use Rattle.rtp_h261.proofs.TurnLemmas.{appended, marked_turn, unmarked_turn}
use Rattle.rtp_h261.proofs.depack.Collector.go_on.Goals as goal

pub returns-then-packet-clause-turned : goal.returns-then-packet-clause-turned
returns-then-packet-clause-turned c p h =
    let format = c.args.self.now.format in
    let count : c.min-count.result ≡ min (length c.args.packet.now.bits) (kept_length format - length c.args.self.now.kept.list) =
    omega (arith, c.min-count.ensures, c.len.ensures, c.len-2.ensures, c.longest_kept.ensures) in
    let all : c.bits.result ≡ take (kept_length format) (c.args.self.now.kept.list ++ p.bits) =
    c.bits.ensures ∙ ap (λ (b : Buffer). b.list) c.append.ensures.value
    ∙ ap (λ (xs : List Bool). c.args.self.now.kept.list ++ xs) (c.slice.ensures.value ∙ ap (λ (k : ℕ). take k c.args.packet.now.bits) count)
    ∙ appended (kept_length format) c.args.self.now.kept.list c.args.packet.now.bits p.bits c.requires.room.within h.bits in
    marked_turn format c.args.stamp c.args.self.now.kept.list c.bits.result c.args.packet.now p c.unit_of-unit.result c.args.into.now c.unit_of-unit.new.into h all c.if-packet.true c.unit_of-unit.ensures.unit

pub returns-clause-turned : goal.returns-clause-turned
returns-clause-turned c p h =
    let format = c.args.self.now.format in
    let count : c.min-count.result ≡ min (length c.args.packet.now.bits) (kept_length format - length c.args.self.now.kept.list) =
    omega (arith, c.min-count.ensures, c.len.ensures, c.len-2.ensures, c.longest_kept.ensures) in
    let all : c.append.new.self.list ≡ take (kept_length format) (c.args.self.now.kept.list ++ p.bits) =
    ap (λ (b : Buffer). b.list) c.append.ensures.value
    ∙ ap (λ (xs : List Bool). c.args.self.now.kept.list ++ xs) (c.slice.ensures.value ∙ ap (λ (k : ℕ). take k c.args.packet.now.bits) count)
    ∙ appended (kept_length format) c.args.self.now.kept.list c.args.packet.now.bits p.bits c.requires.room.within h.bits in
    rw c.nothing.ensures (unmarked_turn format c.args.stamp c.args.self.now.kept.list c.append.new.self.list c.args.packet.now p c.args.into.now h all c.if-packet.false)
