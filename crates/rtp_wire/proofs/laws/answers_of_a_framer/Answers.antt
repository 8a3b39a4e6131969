-- The octets that are left fix what a call answers.
use Rattle.rtp_wire.proofs.FrameLemmas.{answers_fixed}
use Rattle.rtp_wire.proofs.laws.answers_of_a_framer.Goals as goal

pub returns : goal.returns
returns c = answers_fixed
