-- Late packets change nothing; the others take a turn.
use Rattle.std.proofs.Common.{◌∙◌, sym, subst, ap}
use Rattle.picture_laws.specs.Laws.{kept_length}
use Rattle.rtp_h261.specs.Depack.{Held}
use Rattle.rtp_h261.specs.OneByOne.{turned, comes_late, follows}
use Rattle.rtp_h261.specs.Turns.{Carries, Turned, mode_of}
use Rattle.rtp_h261.proofs.TurnLemmas.{refused_step, moved_step}
use Rattle.rtp_h261.proofs.depack.Depack.step.Goals as goal

pub returns-in_default-clause-stepped : goal.returns-in_default-clause-stepped
returns-in_default-clause-stepped c p h =
    refused_step c.args.self.now.format c.args.self.now.state p c.nothing.result c.args.into.now
    (ap (λ (d : Held). comes_late d.state.next p) (sym c.self.view_is) ∙ c.in_default.ensures p h.number) c.nothing.ensures

pub returns-clause-stepped : goal.returns-clause-stepped
returns-clause-stepped c p h =
    let s = c.in-Some.ensures p h.number in
    moved_step c.args.self.now.format c.args.self.now.state p c.args.packet.now.seq c.in-Some.joined (mode_of c.turn.new.self) c.turn.result c.args.into.now c.turn.new.into h.number
    (ap (λ (d : Held). comes_late d.state.next p) (sym c.self.view_is) ∙ s.0)
    (s.1 ∙ ap (λ (d : Held). follows d.state.next p) c.self.view_is)
    (subst (λ (d : Held). Carries (kept_length d.format) c.args.packet.now p
    → Turned d.format (turned (kept_length d.format) c.in-Some.joined d.state.mode p) (mode_of c.turn.new.self) c.turn.result c.args.into.now c.turn.new.into)
    c.self.view_is (λ k. c.turn.ensures.turned p k) h)
