-- Of no packets nothing is held.
use Rattle.std.proofs.Common.{refl}
use Rattle.rtp_h261.specs.OneByOne.{state_of}
use Rattle.rtp_h261.proofs.depack.Depack.reserve.Goals as goal

pub returns-clause-stands : goal.returns-clause-stands
unfolding state_of
returns-clause-stands c = refl
