-- By the call.
use Rattle.bare_stream.proofs.Going.{stream-begun, picture-given, stream-ended}
use Rattle.bare_stream.proofs.laws.pictures_one_by_one.Goals as goal

pub returns-clause-begun : goal.returns-clause-begun
returns-clause-begun c = stream-begun

pub returns-clause-given : goal.returns-clause-given
returns-clause-given c = picture-given

pub returns-clause-ended : goal.returns-clause-ended
returns-clause-ended c = stream-ended
