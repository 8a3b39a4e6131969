-- Fewer than eight bits fill one octet at most.
use Rattle.std.proofs.Common.{arith}
use Rattle.bare_stream.proofs.PackedLemmas.{length-filled, ok-below}
use Rattle.bare_stream.proofs.writer.TextWriter.finish.Goals as goal

pub returns-clause-few : goal.returns-clause-few
returns-clause-few g c =
    ok-below c.put_octets-result.result _ 1 c.put_octets-result.ensures.count
    (omega (arith, length-filled c.self.inside.pending.list c.octets.result.now c.octets.ensures, c.self.invariant.0))
