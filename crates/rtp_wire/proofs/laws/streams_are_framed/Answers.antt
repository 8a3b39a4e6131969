-- By what the octets taken are behind the frames before them.
use Rattle.rtp_wire.proofs.StreamLemmas as law
use Rattle.rtp_wire.proofs.laws.streams_are_framed.Goals as goal

pub returns : goal.returns
returns c = law.calls_frame
