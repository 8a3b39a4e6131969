-- The turn that the call made tells its step, or none.
use Rattle.std.proofs.Common.{sym}
use Rattle.bridge_live.proofs.Calling.{calls-on, calls-back}
use Rattle.bridge_live.proofs.calls.call.Goals as goal

pub returns-then-is_ended : goal.returns-then-is_ended
returns-then-is_ended g c =
    calls-back c.args.lock.now c.args.call c.in-Ok.reply c.args.seat.now c.call.new.seat c.requires c.in-Ok.ensures.seat.is_of c.in-Ok.ensures.turn
    (sym c.if-is_ended.ensures)

pub returns : goal.returns
returns g c =
    calls-on c.args.lock.now c.args.call c.in-Ok.reply c.args.seat.now c.call.new.seat c.requires c.in-Ok.ensures.seat.is_of c.in-Ok.ensures.turn
    (sym c.if-is_ended.ensures)
