-- Field by field.
use Rattle.rtp_h261.proofs.HeaderLemmas.{header_law}
use Rattle.rtp_h261.proofs.laws.one_header.Goals as goal

pub returns : goal.returns
returns c = header_law
