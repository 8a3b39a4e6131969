-- What was read so far is told.
use Rattle.std.proofs.Common.{◌-◌}
use Rattle.io_edge.specs.Outside.{outside}
use Rattle.rtp_h261.specs.ToldSoFar.{HasTold}
use Rattle.rtp_h261.proofs.stream.read_each.Given as goal

abbrev pub invariant-loop-fed : goal.invariant-loop-fed
invariant-loop-fed g l =
    HasTold l.fn.into.format l.fn.reader.framer.allowance.budget (g.T.Teller.duty l.fn.teller) (outside (g.S.Source.tells l.fn.source) (g.K.Sink.tells l.fn.sink))
    (outside (g.S.Source.tells l.source) (g.K.Sink.tells l.sink)) l.reader l.into l.tally (g.T.Teller.duty l.teller)

abbrev pub decreases-loop-fed : goal.decreases-loop-fed
decreases-loop-fed g l = l.fn.reader.framer.allowance.budget - l.reader.framer.allowance.taken
