use Rattle.std.proofs.Common.{rules}
use Rattle.hall_lock.proofs.Kept.{sees_tickets}
use Rattle.hall_lock.proofs.steps.see_tickets.Goals as goal

pub load-requires : goal.load-requires
load-requires g c = (search rules, search rules, sees_tickets g.M.Machine.shape g.M.Machine.fits g.M.Machine.steps _ _ _ _ _ c.requires.live)
