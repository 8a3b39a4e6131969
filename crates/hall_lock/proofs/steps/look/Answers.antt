use Rattle.std.proofs.Common.{rules}
use Rattle.hall_lock.proofs.Passing.{looks}
use Rattle.hall_lock.proofs.steps.look.Goals as goal

pub load-requires : goal.load-requires
load-requires g c = (search rules, search rules, looks g.M.Machine.shape g.M.Machine.fits g.M.Machine.steps _ _ _ _ _ c.requires.live c.requires.waits)
