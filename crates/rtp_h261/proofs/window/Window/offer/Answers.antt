-- A packet more was offered.
use Rattle.std.proofs.Common.{◌≡◌, ℕ, [], ◌∷◌, ◌++◌, sym, ap, subst, refl}
use Rattle.rtp_h261.specs.Window.{WindowState, HasOrdered}
use Rattle.rtp_h261.proofs.QueueLemmas.{offered-none, offered-some}
use Rattle.rtp_h261.proofs.window.Window.offer.Goals as goal

pub returns-in_default : goal.returns-in_default
returns-in_default c = record {
  width = refl;
  stands = λ packets given h. offered-none packets given c.args.packet.now c.args.self.now h c.requires.free c.in_default.ensures;
}

pub returns-in-Some : goal.returns-in-Some
returns-in-Some c = record {
  width = ap (λ (w : WindowState). w.width) c.join.ensures;
  stands = λ packets given h.
      subst (HasOrdered (packets ++ c.args.packet.now ∷ []) given) (sym c.join.ensures)
      (offered-some packets given c.args.packet.now c.args.self.now h c.requires.free
      (record { number = c.in-Some.number; octets = c.args.packet.now }) c.in-Some.ensures);
}
