use Rattle.std.proofs.Common.{◌+◌, ap, arith}
use Rattle.bridge_replay.proofs.Accounts.{count-there, arrivals-few}
use Rattle.bridge_replay.proofs.account.next_serial.Goals as goal

pub overflow_add-serial : goal.overflow_add-serial
overflow_add-serial c =
    let can = c.requires in
    omega (
      arith,
      count-there can.0 c.args.lane c.from.result c.index.result.now can.1 c.args.counts.now.items can.4 can.2 c.from.ensures c.index.ensures,
      arrivals-few can.1 c.args.lane,
      can.3,
    )

pub returns-clause-serial : goal.returns-clause-serial
returns-clause-serial c lanes history counted below =
    ap (λ n. n + 1) (count-there lanes c.args.lane c.from.result c.index.result.now history c.args.counts.now.items counted below c.from.ensures c.index.ensures)
