use Rattle.std.proofs.Common.{rules}
use Rattle.hall_lock.proofs.Passing.{draws}
use Rattle.hall_lock.proofs.steps.draw.Goals as goal

pub compare_exchange-requires : goal.compare_exchange-requires
compare_exchange-requires g c = (search rules, search rules, draws g.M.Machine.shape g.M.Machine.fits g.M.Machine.steps _ _ _ _ _ _ c.requires.live c.requires.no_ticket c.requires.left)
