use Rattle.std.proofs.Common.{Bool, List, ℕ, [], ◌∷◌, refl, sym, subst}
use Rattle.bridge_replay.specs.declared.account.Account.{Account}
use Rattle.bridge_replay.specs.Recounting.{Adds, TellsIn}
use Rattle.bridge_replay.proofs.Recounting.{one-tells}
use Rattle.rtp_h261.specs.Events.{Lost, lost_events}
use Rattle.bridge_replay.proofs.account.Account.lose.Goals as goal

pub returns : goal.returns
returns c =
    let n = c.next_serial-serial.result in
    let new : Account = record c.args.self.now { hall = c.gap.new.self; arrivals = c.next_serial-serial.new.counts } in
    subst (λ (b : Bool). TellsIn c.args.place c.args.lane (lost_events b) c.args.self.now new c.args.page.now c.add.new.self) (sym c.if-not-lost.false)
    (one-tells c.args.place c.args.lane n Lost c.args.self.now new c.args.page.now c.add.new.self c.requires.0 c.in-Ok.ensures.stands c.in-Ok.ensures.legal c.in-Ok.ensures.same
    c.next_serial-serial.ensures.serial c.next_serial-serial.ensures.set (record { depacks = refl; lasts = refl }) refl
    (subst (λ (line : List ℕ). Adds (line ∷ []) c.args.page.now c.add.new.self) c.lost_line.ensures c.add.ensures.adds) c.add.ensures.grows)
