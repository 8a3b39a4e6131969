-- The step that the ticker gave, or why there was none.
use Rattle.bridge_live.proofs.Ticking.{step-given}
use Rattle.bridge_live.proofs.mixer.next_step.Goals as goal

pub returns-in-Ok : goal.returns-in-Ok
returns-in-Ok g c =
    let e = c.in-Ok.ensures in
    step-given (g.C.Ticker.tells c.args.ticker.now) (g.C.Ticker.tells c.next.new.self) c.in-Ok.given c.ok_or.result e.range e.step e.cause.kept c.ok_or.ensures.value
