-- Each is computed.
use Rattle.std.proofs.Common.{refl}
use Rattle.pel_bits.specs.Bits.{number}
use Rattle.rtp_h261.specs.Units.{all_given}
use Rattle.rtp_h261.proofs.laws.worked_packets.Goals as goal

pub returns : goal.returns
unfolding all_given number
returns c = record {
  lost = refl;
  repeated = refl;
  turn = refl;
  late = (refl, refl);
  stamps = (refl, refl, refl);
  marker = (refl, refl, refl);
  places = (refl, refl, refl);
}
