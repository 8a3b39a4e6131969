use Rattle.std.proofs.Common.{rules}
use Rattle.hall_lock.proofs.Passing.{passes}
use Rattle.hall_lock.proofs.steps.pass_as.Goals as goal

pub store-requires : goal.store-requires
store-requires g c = let turn = c.requires.turn.turning in let led = c.requires.turn.led in
    (search rules, search rules, passes g.M.Machine.shape g.M.Machine.fits g.M.Machine.steps _ _ _ _ _ _ _ _ led.0 turn.live turn.here turn.drawn led.1 c.requires.picked led.2)
