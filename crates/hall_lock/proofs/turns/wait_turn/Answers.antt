use Rattle.hall_lock.proofs.Waiting.{arrives}
use Rattle.hall_lock.proofs.turns.wait_turn.Goals as goal

pub returns-then-found-ticket-clause-told : goal.returns-then-found-ticket-clause-told
returns-then-found-ticket-clause-told g c =
    arrives g.M.Machine.shape g.M.Machine.fits g.M.Machine.steps _ _ _ _ _ c.requires.waiting c.loop.invariant.2 c.if-found-ticket.true c.look-found.ensures.not_fallen c.look-found.ensures.told
