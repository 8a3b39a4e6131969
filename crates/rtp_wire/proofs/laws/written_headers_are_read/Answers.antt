-- A packet with no more than a header and a payload.
use Rattle.rtp_wire.proofs.SpellingLemmas.{plain_packets_are_read}
use Rattle.rtp_wire.proofs.laws.written_headers_are_read.Goals as goal

pub returns : goal.returns
returns c = plain_packets_are_read
