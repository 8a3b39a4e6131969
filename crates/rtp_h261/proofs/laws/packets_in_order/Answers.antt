-- By the places that packets have in their run, and packet by packet.
use Rattle.rtp_h261.proofs.SwappedLemmas.{windows_law}
use Rattle.rtp_h261.proofs.WidthZero.{zero_law}
use Rattle.rtp_h261.proofs.laws.packets_in_order.Goals as goal

pub returns : goal.returns
returns c = record { windows = windows_law; width_zero = zero_law }
