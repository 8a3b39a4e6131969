-- A step from what is held of the packets before.
use Rattle.std.proofs.Common.{◌≡◌, ◌++◌, ◌∷◌, [], ◌∙◌, ℕ, map, Some, refl, sym, subst, ap}
use Rattle.picture_laws.specs.Laws.{kept_length}
use Rattle.pel_model.specs.declared.Format.{Format}
use Rattle.rtp_h261.specs.Depack.{Held, FinishedAt}
use Rattle.rtp_h261.specs.declared.depack.Fed.{Fed}
use Rattle.rtp_h261.specs.Packets.{piece_of}
use Rattle.rtp_h261.specs.OneByOne.{state_of}
use Rattle.rtp_h261.specs.Turns.{Carries}
use Rattle.rtp_h261.proofs.TurnLemmas.{feeds, unused_step}
use Rattle.rtp_h261.proofs.depack.Depack.feed.Goals as goal

pub returns-in-Some : goal.returns-in-Some
returns-in-Some c =
    let e = c.in-Some.ensures in
    let room : c.longest_kept.result ≡ kept_length c.args.self.now.format = c.longest_kept.ensures ∙ ap (λ (d : Held). kept_length d.format) c.self.view_is in
    let carries = subst (λ (k : ℕ). Carries k c.in-Some.packet e.0) room e.2 in
    record {
      format = c.step.ensures.stays.format;
      into = c.step.ensures.stays.into;
      stands = λ packets stands.
          (feeds packets c.args.packet.now c.args.self.now (Some e.0) c.step.new.self.state c.step.result c.args.into.now c.step.new.into stands e.1 (c.step.ensures.stepped e.0 carries)).0
          ∙ ap (λ (f : Format). state_of (kept_length f) (map piece_of (packets ++ c.args.packet.now ∷ []))) (sym c.step.ensures.stays.format);
      given = λ packets stands.
          (feeds packets c.args.packet.now c.args.self.now (Some e.0) c.step.new.self.state c.step.result c.args.into.now c.step.new.into stands e.1 (c.step.ensures.stepped e.0 carries)).1;
      finished = c.step.ensures.stays.finished;
    }

pub returns-in-None : goal.returns-in-None
returns-in-None c =
    let unused = unused_step c.args.self.now.format c.args.self.now.state c.nothing.result c.args.into.now c.nothing.ensures in
    record {
      format = refl;
      into = refl;
      stands = λ packets stands.
          (feeds packets c.args.packet.now c.args.self.now _ c.args.self.now.state c.nothing.result c.args.into.now c.args.into.now stands c.in-None.ensures unused).0;
      given = λ packets stands.
          (feeds packets c.args.packet.now c.args.self.now _ c.args.self.now.state c.nothing.result c.args.into.now c.args.into.now stands c.in-None.ensures unused).1;
      finished = subst (λ (f : Fed). FinishedAt f.unit c.args.into.now) (sym c.nothing.ensures) tt;
    }
