use Rattle.std.proofs.Common.{arith}
use Rattle.bridge_replay.proofs.Counting.{few-steps}
use Rattle.bridge_replay.proofs.conference.Conference.lose.Goals as goal

pub overflow_add-self : goal.overflow_add-self
overflow_add-self c =
    let room = c.requires.1 in
    omega (arith, (few-steps room.1 c.args.self.now.tally room.2.counts).gaps, room.3.room)
