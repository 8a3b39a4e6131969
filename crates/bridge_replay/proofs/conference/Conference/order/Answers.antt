use Rattle.std.proofs.Common.{◌∷◌, arith, refl, ap}
use Rattle.bridge_replay.specs.UnderWay.{FollowsHistory, IsSameBeside}
use Rattle.bridge_replay.proofs.Counting.{few-steps}
use Rattle.bridge_replay.proofs.Units.{step-enters}
use Rattle.conf_file.specs.Entries.{Chair}
use Rattle.pel_model.specs.declared.chair.Reply.{Reply}
use Rattle.pel_model.specs.History.{Order}
use Rattle.bridge_replay.proofs.conference.Conference.order.Goals as goal

pub overflow_add-self : goal.overflow_add-self
overflow_add-self c =
    let may = c.requires in
    omega (arith, (few-steps may.at.history c.args.self.now.tally may.under_way.follows.counts).commands, may.room.room)

pub overflow_add-self-then-ne : goal.overflow_add-self-then-ne
overflow_add-self-then-ne c =
    let may = c.requires in
    omega (arith, (few-steps may.at.history c.args.self.now.tally may.under_way.follows.counts).refused, may.room.room)
