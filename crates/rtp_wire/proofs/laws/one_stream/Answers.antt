-- A framer would give either list.
use Rattle.rtp_wire.proofs.StreamLemmas as law
use Rattle.rtp_wire.proofs.laws.one_stream.Goals as goal

pub returns : goal.returns
returns c = law.one_stream
