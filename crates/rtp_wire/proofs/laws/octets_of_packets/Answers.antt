-- Both directions, from the octets to the packet's parts and back.
use Rattle.rtp_wire.proofs.SpellingLemmas.{packets_are_read}
use Rattle.rtp_wire.proofs.laws.octets_of_packets.Goals as goal

pub returns : goal.returns
returns c = packets_are_read
