-- Each is computed.
use Rattle.std.proofs.Common.{refl}
use Rattle.rtp_h261.proofs.laws.worked_windows.Goals as goal

pub returns : goal.returns
returns c = record {
  late = (refl, refl);
  none = refl;
  round = (refl, refl);
  again = refl;
  half = refl;
  ends = refl;
}
