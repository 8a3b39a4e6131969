use Rattle.std.proofs.Common.{ℕ, ap, Vec, Global}
use Rattle.bridge_replay.proofs.Recounting.{packet-told}
use Rattle.bridge_replay.proofs.account.Account.packet.Goals as goal

pub returns : goal.returns
returns c lanes entries history keeps free below =
    let heard = c.hear-heard in
    packet-told c.args.place c.args.lane c.args.bytes.now lanes entries history heard.result.fed heard.result.idle c.args.self.now heard.new.self c.lose.new.self c.take_unit.new.self
    c.args.spare.item.value heard.new.spare.item.value c.args.page.now c.tell_idle.new.page c.lose.new.page c.take_unit.new.page keeps free below
    (heard.ensures.hears lanes entries history keeps below) heard.ensures.hall (ap (λ (v : Vec ℕ Global). v.items) heard.ensures.arrivals) heard.ensures.hand
    c.requires.1 c.tell_idle.ensures.adds c.tell_idle.ensures.grows c.lose.ensures c.take_unit.ensures
