use Rattle.bridge_live.proofs.Reading.{stops-law}
use Rattle.bridge_live.proofs.laws.stops_of_a_conference.Goals as goal

pub returns : goal.returns
returns c = stops-law
