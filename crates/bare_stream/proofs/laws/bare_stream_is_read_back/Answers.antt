-- Picture by picture.
use Rattle.bare_stream.proofs.ReadBack.{bare-read-back}
use Rattle.bare_stream.proofs.laws.bare_stream_is_read_back.Goals as goal

pub returns : goal.returns
returns c = bare-read-back
