-- The picture was written, the sink failed at it, or the tick was given back.
use Rattle.std.proofs.Common.{Ok, [], ◌∷◌, ◌++◌, refl, arith, subst, sym}
use Rattle.hall_core.specs.Hall.{lanes_of}
use Rattle.bridge_live.specs.declared.ends.MixStop.{MixStop}
use Rattle.bridge_live.specs.Mixer.{MadeTick, Mixes}
use Rattle.bridge_live.specs.Mixing.{StopsBehind}
use Rattle.bridge_live.proofs.Mixings.{due-so, written-so, failed-so, back-so, tick-counted, room-less, may-mix, count-room}
use Rattle.bridge_live.proofs.mixer.Mixer.tick.Goals as goal

pub write-requires : goal.write-requires
write-requires g c =
    let e = c.in-Ok.ensures in
    let took = e.took.1 in
    record {
      may = record { usable = e.room.usable; took = (lanes_of c.args.lock.now.opening, e.took.0, took.took); total = took.total };
      room = count-room c.args.lock.now c.take.new.self e.may.turns e.room;
    }

pub returns-in-Ok-write : goal.returns-in-Ok-write
returns-in-Ok-write g c =
    let lanes = lanes_of c.args.lock.now.opening in
    let t = c.in-Ok.taken in
    let e = c.in-Ok.ensures in
    let w = c.in-Ok-write.ensures in
    record {
      may = may-mix c.args.lock.now c.take.new.self c.write.new.self e.may w.seat;
      room = room-less c.args.lock.now c.take.new.self c.write.new.self e.room w.grows w.seat;
      hand = e.hand;
      rounds = λ set taken first before h.
          let now = g.K.Sink.tells c.args.sink.now in
          let then = g.K.Sink.tells c.write.new.sink in
          let history = e.took.0 in
          let took = e.took.1 in
          let tick : MadeTick = record { before = history; note = t.note } in
          let d = due-so lanes c.args.step set taken first before now c.args.self.now c.take.new.self t history h took e.grows (e.makes first) e.writer e.counts in
          let all = taken ++ c.args.step ∷ [] in (
            written-so lanes set all first before now then c.take.new.self c.write.new.self tick d w.seat w.grows
                (λ pictures. w.writes lanes history took.took set pictures before),
            omega (arith, w.grows.ticks, tick-counted c.args.self.now.counts c.take.new.self.counts _ e.counts),
          );
    }

pub returns-in-Err-write : goal.returns-in-Err-write
returns-in-Err-write g c =
    let lanes = lanes_of c.args.lock.now.opening in
    let t = c.in-Ok.taken in
    let e = c.in-Ok.ensures in
    let w = c.in-Err-write.ensures in
    let f = c.finish-ended.ensures in
    record {
      may = f.may;
      room = tt;
      hand = tt;
      rounds = λ set taken first before h.
          let now = g.K.Sink.tells c.args.sink.now in
          let then = g.K.Sink.tells c.write.new.sink in
          let history = e.took.0 in
          let took = e.took.1 in
          let tick : MadeTick = record { before = history; note = t.note } in
          let d = due-so lanes c.args.step set taken first before now c.args.self.now c.take.new.self t history h took e.grows (e.makes first) e.writer e.counts in
          let all = taken ++ c.args.step ∷ [] in
          failed-so c.finish-ended.result lanes set all first before now then c.take.new.self c.write.new.self c.finish-ended.new.self tick c.in-Err-write._failed d w.seat w.kept
          (λ pictures. w.writes lanes history took.took set pictures before) f.grows f.counts (f.makes first);
    }

pub returns-in-Err : goal.returns-in-Err
returns-in-Err g c =
    let lanes = lanes_of c.args.lock.now.opening in
    let e = c.in-Err.ensures in
    let new = c.take.new.self in
    record {
      may = e.may;
      room = tt;
      hand = tt;
      rounds = λ set taken first before h.
          let now = g.K.Sink.tells c.args.sink.now in
          let all = taken ++ c.args.step ∷ [] in
          subst (λ (stop : MixStop). (m : Mixes lanes set all first new.seat before now stop new.counts) × StopsBehind stop m.last_call) (sym c.stop_for.ensures)
          (back-so c.in-Err.back lanes c.args.step set taken first before now c.args.self.now new h e.grows e.kept (e.makes first));
    }
