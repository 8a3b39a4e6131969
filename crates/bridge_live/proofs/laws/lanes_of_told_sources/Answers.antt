use Rattle.bridge_live.proofs.Reading.{lanes-law}
use Rattle.bridge_live.proofs.laws.lanes_of_told_sources.Goals as goal

pub returns : goal.returns
returns c = lanes-law c.flow_of_packets.ensures.one c.flow_of_packets.ensures.fronts
