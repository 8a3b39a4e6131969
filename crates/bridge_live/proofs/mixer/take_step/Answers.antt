-- The step that was taken, and its round, or the stop.
use Rattle.bridge_live.proofs.Mixings.{step-on, quiet-on}
use Rattle.bridge_live.proofs.mixer.take_step.Goals as goal

pub returns-in-Ok : goal.returns-in-Ok
returns-in-Ok g c =
    let e = c.tick.ensures in
    record {
      may = e.may;
      room = e.room;
      hand = e.hand;
      steps = λ set begun taken first before gave same h.
          step-on c.tick.result c.args.lock.now set begun (g.C.Ticker.tells c.args.ticker.now) (g.C.Ticker.tells c.next_step.new.ticker) taken c.in-Ok.step first before
          (g.K.Sink.tells c.tick.new.sink) c.args.mixer.now.counts.ticks c.tick.new.self gave same c.in-Ok.ensures (e.rounds set taken first before h);
    }

pub returns-in-Err : goal.returns-in-Err
returns-in-Err g c =
    let e = c.close.ensures in
    let now = g.K.Sink.tells c.args.sink.now in
    record {
      may = e.may;
      room = tt;
      hand = tt;
      steps = λ set begun taken first before gave same h.
          quiet-on c.in-Err.quiet c.close.result c.args.lock.now set begun (g.C.Ticker.tells c.args.ticker.now) (g.C.Ticker.tells c.next_step.new.ticker) taken first before now
          c.args.mixer.now.counts.ticks c.close.new.self gave same c.in-Err.ensures (e.closes set taken first before now h);
    }
