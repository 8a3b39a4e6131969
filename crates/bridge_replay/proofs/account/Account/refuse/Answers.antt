use Rattle.std.proofs.Common.{List, ℕ, [], ◌∷◌, refl, subst}
use Rattle.bridge_replay.specs.Recounting.{Adds}
use Rattle.bridge_replay.proofs.Recounting.{one-tells}
use Rattle.rtp_h261.specs.Events.{Refused}
use Rattle.bridge_replay.proofs.account.Account.refuse.Goals as goal

pub returns : goal.returns
returns c =
    let n = c.next_serial-serial.result in
    let fault = c.args.fault.now in
    one-tells c.args.place c.args.lane n (Refused fault.place fault.why) c.args.self.now _ c.args.page.now c.add.new.self c.requires.0
    c.in-Ok.ensures.stands c.in-Ok.ensures.legal c.in-Ok.ensures.same
    c.next_serial-serial.ensures.serial c.next_serial-serial.ensures.set (record { depacks = refl; lasts = refl }) refl
    (subst (λ (line : List ℕ). Adds (line ∷ []) c.args.page.now c.add.new.self) c.refused_line.ensures c.add.ensures.adds) c.add.ensures.grows
