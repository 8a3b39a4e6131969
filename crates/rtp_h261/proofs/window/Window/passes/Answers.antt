-- A packet was given out before all that wait.
use Rattle.std.proofs.Common.{rules, refl}
use Rattle.rtp_h261.proofs.QueueLemmas.{passes-by}
use Rattle.rtp_h261.proofs.window.Window.passes.Goals as goal

pub returns : goal.returns
returns c =
    passes-by c.args.packet.now c.args.self.now _ c.in-Some.number c.unwrap_or-expected.result c.as_slice.result.now
    c.requires c.in-Some.ensures (search rules) (search rules) (search rules) (search rules)
