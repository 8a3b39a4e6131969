-- By induction on the packets.
use Rattle.rtp_wire.proofs.FrameLemmas.{frames_in_order}
use Rattle.rtp_wire.proofs.laws.frames_of_a_stream.Goals as goal

pub returns : goal.returns
returns c = frames_in_order
