use Rattle.picture_laws.proofs.Limits.{goes-next}
use Rattle.picture_laws.proofs.Cuts.{good-over-first, good-over-all, judged-by-the-limit, within-the-limit, past-the-limit}
use Rattle.picture_laws.proofs.limit_is_read_by_a_cut.Goals as goal

pub returns : goal.returns
returns c = record { over_first = good-over-first; over_all = good-over-all; judged = judged-by-the-limit; without = λ format before r end es goes. goes-next format before r es end goes; within = within-the-limit; past = past-the-limit }
