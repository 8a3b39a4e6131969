use Rattle.std.proofs.Common.{List, ℕ, [], ◌∷◌, ◌∙◌, refl, subst}
use Rattle.bridge_replay.specs.Recounting.{Adds}
use Rattle.bridge_replay.proofs.Recounting.{one-tells}
use Rattle.rtp_h261.specs.Events.{Shown}
use Rattle.bridge_replay.proofs.account.Account.receive.Goals as goal

pub returns : goal.returns
returns c p is postable =
    let n = c.next_serial-serial.result in
    one-tells c.args.place c.args.lane n (Shown p) c.args.self.now _ c.args.page.now c.add.new.self c.requires.may.0
    (c.in-Ok.ensures.stands p is postable) (c.in-Ok.ensures.legal p is postable) c.in-Ok.ensures.same
    c.next_serial-serial.ensures.serial c.next_serial-serial.ensures.set (record { depacks = refl; lasts = refl }) refl
    (subst (λ (line : List ℕ). Adds (line ∷ []) c.args.page.now c.add.new.self) (c.picture_line.ensures p (c.deref.ensures ∙ is)) c.add.ensures.adds) c.add.ensures.grows
