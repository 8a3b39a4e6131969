use Rattle.std.proofs.Common.{arith}
use Rattle.bridge_replay.proofs.Counting.{few-steps, four-at-most}
use Rattle.bridge_replay.proofs.conference.Conference.take.Goals as goal

pub overflow_add-self : goal.overflow_add-self
overflow_add-self c =
    let may = c.requires in
    omega (arith, (few-steps may.at.history c.args.self.now.tally may.under_way.follows.counts).ticks, may.room.room)

pub overflow_add-self-2 : goal.overflow_add-self-2
overflow_add-self-2 c =
    let may = c.requires in
    omega (arith, (few-steps may.at.history c.args.self.now.tally may.under_way.follows.counts).taken, may.room.room, four-at-most c.in-Ok.note, c.takes_in.ensures)
