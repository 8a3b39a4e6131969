-- The workers are lined up, work, and are gathered.
use Rattle.std.proofs.Common.{◌≡◌, ◌∙◌, ◌+◌, ℕ, arith, subst, sym, length, map}
use Rattle.std.proofs.lemmas.List.{length-map}
use Rattle.bridge_live.specs.Handed.{given_of, ending_of}
use Rattle.bridge_live.specs.Lining.{Opens, seat_behind}
use Rattle.bridge_live.specs.Serve.{Serves, IsServedWhole}
use Rattle.bridge_live.proofs.Works.{lined-ready, lined-number, lined-did}
use Rattle.bridge_live.proofs.run.serve.Goals as goal

pub work_all-requires-clause-ready : goal.work_all-requires-clause-ready
work_all-requires-clause-ready g c = λ lifetimes outlive.
    lined-ready c.in-Ok.reserved.writer.settings c.args.lanes.items c.args.chair c.args.ticker c.args.sink c.line_up-crew.result c.line_up-crew.ensures.lined_up

pub end_all-requires : goal.end_all-requires
end_all-requires g c =
    let reads = g.S.Source.tells in
    let ticks = g.C.Ticker.tells in
    let writes = g.K.Sink.tells in
    let line = c.line_up-crew.ensures.lined_up in
    let crew = c.line_up-crew.result in
    let set = c.in-Ok.reserved.writer.settings in
    let lanes = c.args.lanes.items in
    let number = lined-number set lanes c.args.chair c.args.ticker c.args.sink crew line in
    let worked = c.work_all.ensures.number in
    record {
      opens = subst (λ (k : ℕ). Opens k crew.lock) (sym line.opens.lanes_are) line.opens;
      few = omega (arith, worked, number, c.requires.lanes.1);
      seat = subst (λ (k : ℕ). crew.seat ≡ seat_behind crew.lock k) (sym (worked ∙ number)) line.seat;
      ends = line.ends;
      room = omega (arith, worked, number, line.ends_room);
      did = (
        set,
        given_of reads ticks writes lanes c.args.chair c.args.ticker c.args.sink,
        line.opens.lanes_are ∙ sym (length-map lanes reads),
        lined-did reads ticks writes set lanes c.args.chair c.args.ticker c.args.sink crew line c.work_all.new.workers.items worked c.work_all.ensures.each,
      );
    }

pub returns-in-Ok-clause-serves : goal.returns-in-Ok-clause-serves
returns-in-Ok-clause-serves g c =
    let reads = g.S.Source.tells in
    let ticks = g.C.Ticker.tells in
    let writes = g.K.Sink.tells in
    let line = c.line_up-crew.ensures.lined_up in
    let lock = c.line_up-crew.result.lock in
    let set = c.in-Ok.reserved.writer.settings in
    let lanes = c.args.lanes.items in
    let given = given_of reads ticks writes lanes c.args.chair c.args.ticker c.args.sink in
    let end = ending_of reads ticks writes c.end_all.result in
    let did = lined-did reads ticks writes set lanes c.args.chair c.args.ticker c.args.sink c.line_up-crew.result line c.work_all.new.workers.items
    c.work_all.ensures.number c.work_all.ensures.each in
    let known = c.end_all.ensures set given (line.opens.lanes_are ∙ sym (length-map lanes reads)) did in
    let serves = c.workers_make_the_conference.ensures.serves set lock.turns lock.opening given end known.counts known.gathered in
    subst (λ s. Serves s c.args.turns given end c.end_all.result.tally) c.in-Ok.ensures.reserves.settings
    (subst (λ (k : ℕ). Serves set k given end c.end_all.result.tally) (c.line_up-crew.ensures.turns ∙ c.in-Ok.ensures.reserves.turns_are)
    (subst (λ tally. Serves set lock.turns given end tally) (sym known.tally_is) serves))

pub returns-in-Ok-clause-complete : goal.returns-in-Ok-clause-complete
returns-in-Ok-clause-complete g c =
    let reads = g.S.Source.tells in
    let ticks = g.C.Ticker.tells in
    let writes = g.K.Sink.tells in
    let line = c.line_up-crew.ensures.lined_up in
    let lock = c.line_up-crew.result.lock in
    let set = c.in-Ok.reserved.writer.settings in
    let lanes = c.args.lanes.items in
    let given = given_of reads ticks writes lanes c.args.chair c.args.ticker c.args.sink in
    let end = ending_of reads ticks writes c.end_all.result in
    let did = lined-did reads ticks writes set lanes c.args.chair c.args.ticker c.args.sink c.line_up-crew.result line c.work_all.new.workers.items
    c.work_all.ensures.number c.work_all.ensures.each in
    let known = c.end_all.ensures set given (line.opens.lanes_are ∙ sym (length-map lanes reads)) did in
    subst (λ (k : ℕ). IsServedWhole k given end) (c.line_up-crew.ensures.turns ∙ c.in-Ok.ensures.reserves.turns_are)
    (c.workers_make_the_conference.ensures.complete set lock.turns lock.opening given end known.counts known.gathered)
