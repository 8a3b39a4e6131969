-- Step by step.
use Rattle.std.proofs.Common.{Bool, [], refl, ap, arith}
use Rattle.std.proofs.KnownBytes.{Consumes-nil}
use Rattle.bridge_live.proofs.Mixings.{mixer-begins}
use Rattle.bridge_live.proofs.mixer.run_mixer.Goals as goal

pub loop-filled-init : goal.loop-filled-init
loop-filled-init g c =
    let mixer = c.args.mixer.now in
    let r = c.requires in
    let b = mixer-begins c.args.lock.now mixer.writer.settings (g.K.Sink.tells c.args.sink.now) mixer r.seat
    (ap (λ (b : Bool). record { settings = mixer.writer.settings; spent = b }) r.usable) r.seq r.counts in
    record {
      may = record { may = r.may; room = b.1; qcif = r.qcif };
      mixed = ([], Consumes-nil (g.C.Ticker.tells c.args.ticker.now).left, refl, b.0);
    }

pub loop-filled-preserved : goal.loop-filled-preserved
loop-filled-preserved g c =
    let m = c.loop-filled.invariant.mixed in
    let e = c.in-Ok.ensures in
    let s = e.steps c.args.mixer.now.writer.settings (g.C.Ticker.tells c.args.ticker.now) m.0 c.args.mixer.now.seat (g.K.Sink.tells c.args.sink.now) m.1 m.2 m.3 in
    record { may = record { may = e.may; room = e.room; qcif = e.hand }; mixed = (s.0, s.1, s.2, s.3) }

pub loop-filled-smaller : goal.loop-filled-smaller
loop-filled-smaller g c =
    let m = c.loop-filled.invariant.mixed in
    let e = c.in-Ok.ensures in
    let s = e.steps c.args.mixer.now.writer.settings (g.C.Ticker.tells c.args.ticker.now) m.0 c.args.mixer.now.seat (g.K.Sink.tells c.args.sink.now) m.1 m.2 m.3 in
    omega (arith, s.4, e.room.few)

pub returns-in-Err : goal.returns-in-Err
returns-in-Err g c =
    let m = c.loop-filled.invariant.mixed in
    let e = c.in-Err.ensures in
    record {
      may = e.may;
      runs = e.steps c.args.mixer.now.writer.settings (g.C.Ticker.tells c.args.ticker.now) m.0 c.args.mixer.now.seat (g.K.Sink.tells c.args.sink.now) m.1 m.2 m.3;
    }
