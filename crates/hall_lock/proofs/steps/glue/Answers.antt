use Rattle.std.proofs.Common.{rules}
use Rattle.hall_lock.proofs.Sharing.{glues}
use Rattle.hall_lock.proofs.steps.glue.Goals as goal

pub join_seat-requires : goal.join_seat-requires
join_seat-requires g c = let one = c.requires.0.rest in let two = c.requires.1.rest in
    (search rules, search rules, two.holds_nothing, search rules, glues g.M.Machine.shape g.M.Machine.fits g.M.Machine.steps _ _ _ _ _ _ one.live one.waits two.live two.no_ticket two.waits)
