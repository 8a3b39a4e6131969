-- IsCutInto are made in one way.
use Rattle.bare_stream.proofs.Cutting.{one-bare-stream}
use Rattle.bare_stream.proofs.laws.one_bare_stream.Goals as goal

pub returns : goal.returns
returns c = one-bare-stream
