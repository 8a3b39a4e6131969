-- All that a conference needs is there.
use Rattle.std.proofs.Common.{ap}
use Rattle.cif_pack.specs.State.{PackerState}
use Rattle.bridge_live.proofs.Crews.{qcif-hand, opens-so}
use Rattle.bridge_live.proofs.crew.reserve.Goals as goal

pub returns-clause-reserves : goal.returns-clause-reserves
returns-clause-reserves g c =
    let hall = c.in_ok-hall.ensures in
    let lock = c.in_ok-lock.ensures in
    let hand = c.in_ok-hand.ensures in
    record {
      is_reserved = record {
        opens = opens-so c.args.lanes c.args.turns c.in_ok-hall.hall c.in_ok-lock.lock hall.lanes hall.limit hall.stands c.requires.turns.1 lock.0 lock.1;
        seat = lock.2;
        few = c.requires.lanes.1;
        kits = c.in_ok-kits.ensures;
        usable = ap (λ (w : PackerState). w.spent) c.in_ok-writer.ensures;
        hand = qcif-hand c.in_ok-hand.hand hand.one hand.two hand.three hand.four;
        lists = c.in_ok-lists.ensures;
      };
      settings = ap (λ (w : PackerState). w.settings) c.in_ok-writer.ensures;
      turns_are = lock.1;
    }
