use Rattle.rtp_h261.proofs.StepLemmas.{step_law, front_law}
use Rattle.rtp_h261.proofs.laws.packets_one_by_one.Goals as goal

pub returns : goal.returns
returns c = record { steps = step_law; fronts = front_law }
