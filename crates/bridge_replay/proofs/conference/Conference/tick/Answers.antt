use Rattle.std.proofs.Common.{◌≡◌, ℕ, refl, ap, arith}
use Rattle.bridge_replay.specs.declared.conference.Conference.{Conference}
use Rattle.bridge_replay.specs.UnderWay.{MayEnter, PlacesTake}
use Rattle.bridge_replay.proofs.Ticks.{Ticking, took-so, total-so, usable-so, composed-so, packets-so, octets-so, ticked, broken, broke-of}
use Rattle.conf_file.specs.Entries.{Tick as TickEntry}
use Rattle.pel_model.specs.declared.note.TickNote.{TickNote}
use Rattle.bridge_replay.proofs.conference.Conference.tick.Goals as goal

ticking : (step : ℕ) (old mid : Conference) (note : TickNote) (may : MayEnter (TickEntry step) old) → PlacesTake step note old mid
    → Ticking may.at step old mid note may.first may.now
ticking step old mid note may takes = record { was = may.under_way; free = may.room; takes = takes }

pub show-requires-clause-took : goal.show-requires-clause-took
show-requires-clause-took g c =
    let may = c.requires in
    let t = ticking c.args.step c.args.self.now c.take-note.new.self c.take-note.result may c.take-note.ensures in
    (may.at.lanes, may.at.history, took-so c.taken_into_hand.ensures may.at c.args.step c.args.self.now c.take-note.new.self c.take-note.result may.first may.now t)

pub show-requires-clause-cif : goal.show-requires-clause-cif
show-requires-clause-cif g c =
    let may = c.requires in
    let t = ticking c.args.step c.args.self.now c.take-note.new.self c.take-note.result may c.take-note.ensures in
    composed-so c.taken_into_hand.ensures may.at c.args.step c.args.self.now c.take-note.new.self c.take-note.result may.first may.now t

pub pack-requires-clause-usable : goal.pack-requires-clause-usable
pack-requires-clause-usable g c =
    let may = c.requires in
    let t = ticking c.args.step c.args.self.now c.take-note.new.self c.take-note.result may c.take-note.ensures in
    usable-so c.taken_into_hand.ensures may.at c.args.step c.args.self.now c.take-note.new.self c.take-note.result may.first may.now t

pub pack-requires-clause-total : goal.pack-requires-clause-total
pack-requires-clause-total g c =
    let may = c.requires in
    let t = ticking c.args.step c.args.self.now c.take-note.new.self c.take-note.result may c.take-note.ensures in
    total-so c.taken_into_hand.ensures may.at c.args.step c.args.self.now c.take-note.new.self c.take-note.result may.first may.now t

pub returns-in_err-sent : goal.returns-in_err-sent
returns-in_err-sent g c = λ p first u free.
    let law = c.taken_into_hand.ensures in
    let old = c.args.self.now in
    let mid = c.take-note.new.self in
    let note = c.take-note.result in
    let now = g.K.Sink.tells c.args.sink.now in
    let then = g.K.Sink.tells c.pack.new.sink in
    let t : Ticking p c.args.step old mid note first now = record { was = u; free = free; takes = c.take-note.ensures } in
    broke-of p (TickEntry c.args.step) _ first then c.from_residual.result c.from_residual.ensures.0
    (broken law p c.args.step old mid note first now t c.show.new.into c.pack.new.self then _ _
    (c.show.ensures.picture p.lanes p.history (took-so law p c.args.step old mid note first now t)) c.in_err-sent.ensures refl)

pub returns : goal.returns
returns g c = λ p first u free.
    let law = c.taken_into_hand.ensures in
    let old = c.args.self.now in
    let mid = c.take-note.new.self in
    let note = c.take-note.result in
    let now = g.K.Sink.tells c.args.sink.now in
    let then = g.K.Sink.tells c.pack.new.sink in
    let t : Ticking p c.args.step old mid note first now = record { was = u; free = free; takes = c.take-note.ensures } in
    ticked law p c.args.step old mid note first now t c.show.new.into c.pack.new.self then c.in_ok-sent.sent _
    (c.show.ensures.picture p.lanes p.history (took-so law p c.args.step old mid note first now t)) c.show.ensures.composed c.in_ok-sent.ensures refl
