-- The laws.
use Rattle.bridge_live.proofs.Fronts.{one-flow, flow-fronts}
use Rattle.bridge_live.proofs.laws.flow_of_packets.Goals as goal

pub returns : goal.returns
returns c = record {
  one = one-flow c.one_telling.ensures;
  fronts = flow-fronts c.one_telling.ensures c.packets_one_by_one.ensures.fronts;
}
