-- All seats are joined, in the order of the workers.
use Rattle.std.proofs.Common.{◌≡◌, ◌∙◌, ◌≤◌, ◌<◌, ◌+◌, ◌^◌, ◌∷◌, [], arith, subst, sym, ap, length, map, sum_by, List}
use Rattle.std.proofs.lemmas.List.{append-nil}
use Rattle.bridge_live.specs.declared.worker.Worker.TheVariants.{Chair, Mixer}
use Rattle.bridge_live.specs.Ending.{CrewDid, LanesJoined, GathersFrom}
use Rattle.bridge_live.specs.Endings.{HandedIn}
use Rattle.bridge_live.specs.Gathered.{Gathered}
use Rattle.bridge_live.specs.Lining.{Opens}
use Rattle.bridge_live.specs.Worker.{HallSeat}
use Rattle.bridge_live.proofs.Closings.{LockEnds, end_with, gathered, shares-whole, few-pictures, few-gaps, tally-so}
use Rattle.bridge_live.proofs.Joining.{others-last, others-next, crew-length}
use Rattle.bridge_live.proofs.run.end_all.Goals as goal

pub pop_chair-worker-requires : goal.pop_chair-worker-requires
pop_chair-worker-requires g c =
    let begun = c.requires.did in
    let reads = g.S.Source.tells in
    let ticks = g.C.Ticker.tells in
    let writes = g.K.Sink.tells in
    let lock = c.args.crew.lock in
    let did = subst (λ ws. CrewDid reads ticks writes lock begun.0 begun.1 0 begun.1.lanes ws) (sym c.from_vec-workers.ensures.items) begun.3 in
    let j = c.join_lanes.ensures begun.0 begun.1 did in
    let o = others-last reads ticks writes lock begun.0 begun.1 (length j.done) c.join_lanes.new.workers.items j.rest in
    (o.0, Mixer o.1 ∷ [], o.2)

pub join_chair-chair-requires : goal.join_chair-chair-requires
join_chair-chair-requires g c =
    let begun = c.requires.did in
    let reads = g.S.Source.tells in
    let ticks = g.C.Ticker.tells in
    let writes = g.K.Sink.tells in
    let lock = c.args.crew.lock in
    let did = subst (λ ws. CrewDid reads ticks writes lock begun.0 begun.1 0 begun.1.lanes ws) (sym c.from_vec-workers.ensures.items) begun.3 in
    let j = c.join_lanes.ensures begun.0 begun.1 did in
    let rest = subst (λ ws. CrewDid reads ticks writes lock begun.0 begun.1 (length j.done) [] ws) c.pop_chair-worker.ensures j.rest in
    (j.same, (others-next reads ticks writes lock begun.0 begun.1 (length j.done) c.pop_chair-worker.result c.pop_chair-worker.new.workers.items rest).chair_did.seat)

pub pop_mixer-ticker-requires : goal.pop_mixer-ticker-requires
pop_mixer-ticker-requires g c =
    let begun = c.requires.did in
    let reads = g.S.Source.tells in
    let ticks = g.C.Ticker.tells in
    let writes = g.K.Sink.tells in
    let lock = c.args.crew.lock in
    let did = subst (λ ws. CrewDid reads ticks writes lock begun.0 begun.1 0 begun.1.lanes ws) (sym c.from_vec-workers.ensures.items) begun.3 in
    let j = c.join_lanes.ensures begun.0 begun.1 did in
    let rest = subst (λ ws. CrewDid reads ticks writes lock begun.0 begun.1 (length j.done) [] ws) c.pop_chair-worker.ensures j.rest in
    let o = others-next reads ticks writes lock begun.0 begun.1 (length j.done) c.pop_chair-worker.result c.pop_chair-worker.new.workers.items rest in
    (o.mixer, o.rest_is)

pub close-hall-requires-clause-whole : goal.close-hall-requires-clause-whole
close-hall-requires-clause-whole g c =
    let begun = c.requires.did in
    let reads = g.S.Source.tells in
    let ticks = g.C.Ticker.tells in
    let writes = g.K.Sink.tells in
    let crew = c.args.crew in
    let lock = crew.lock in
    let set = begun.0 in
    let given = begun.1 in
    let ends = c.join_lanes.new.ends.items in
    let did = subst (λ ws. CrewDid reads ticks writes lock set given 0 given.lanes ws) (sym c.from_vec-workers.ensures.items) begun.3 in
    let left = c.pop_chair-worker.ensures ∙ ap (λ ws. Chair c.pop_chair-worker.result ∷ ws) c.pop_mixer-ticker.ensures in
    let j = subst (λ ws. LanesJoined reads ticks writes lock set given crew.seat c.join_lanes.new.seat [] ends ws) left (c.join_lanes.ensures set given did) in
    shares-whole reads ticks writes lock set given crew.seat c.join_lanes.new.seat c.join_chair-chair.new.seat c.take_in-mixer.new.seat
    c.take_in-mixer.result.seat.value c.join_chair-chair.result.past.seat.value ends c.pop_chair-worker.result c.pop_mixer-ticker.result
    (length crew.lists.workers.items) c.requires.seat (crew-length reads ticks writes lock set given 0 given.lanes crew.lists.workers.items begun.3)
    c.requires.few j c.join_chair-chair.ensures.joins c.take_in-mixer.ensures

pub count_together-tally-requires-clause-pictures : goal.count_together-tally-requires-clause-pictures
count_together-tally-requires-clause-pictures g c =
    let begun = c.requires.did in
    let reads = g.S.Source.tells in
    let ticks = g.C.Ticker.tells in
    let writes = g.K.Sink.tells in
    let crew = c.args.crew in
    let lock = crew.lock in
    let set = begun.0 in
    let given = begun.1 in
    let ends = c.join_lanes.new.ends.items in
    let last = c.take_in-mixer.new.seat in
    let did = subst (λ ws. CrewDid reads ticks writes lock set given 0 given.lanes ws) (sym c.from_vec-workers.ensures.items) begun.3 in
    let left = c.pop_chair-worker.ensures ∙ ap (λ ws. Chair c.pop_chair-worker.result ∷ ws) c.pop_mixer-ticker.ensures in
    let j = subst (λ ws. LanesJoined reads ticks writes lock set given crew.seat c.join_lanes.new.seat [] ends ws) left (c.join_lanes.ensures set given did) in
    let closed = c.close-hall.ensures.closes in
    let ended : LockEnds lock last c.close-hall.result.machine.value c.close-hall.result.turns =
    record { leads = closed.history; turns = closed.counted; within = closed.within; places = closed.places; full = closed.full } in
    few-pictures reads ticks writes lock set given crew.seat c.join_lanes.new.seat c.join_chair-chair.new.seat last c.take_in-mixer.result.seat.value ends
    c.as_slice.result.now c.pop_chair-worker.result c.pop_mixer-ticker.result c.join_chair-chair.result c.close-hall.result.machine.value c.close-hall.result.turns
    (subst (λ k. Opens k lock) begun.2 c.requires.opens) (ap (λ (s : HallSeat). s.mine) c.requires.seat) (ap (λ (s : HallSeat). s.past) c.requires.seat)
    j c.join_chair-chair.ensures.joins c.join_chair-chair.ensures.source c.join_chair-chair.ensures.end.0 c.join_chair-chair.ensures.end.1 c.take_in-mixer.ensures
    ended c.history_is_shared_out.ensures c.as_slice.ensures.value

pub count_together-tally-requires-clause-gaps : goal.count_together-tally-requires-clause-gaps
count_together-tally-requires-clause-gaps g c =
    let begun = c.requires.did in
    let reads = g.S.Source.tells in
    let ticks = g.C.Ticker.tells in
    let writes = g.K.Sink.tells in
    let crew = c.args.crew in
    let lock = crew.lock in
    let set = begun.0 in
    let given = begun.1 in
    let ends = c.join_lanes.new.ends.items in
    let last = c.take_in-mixer.new.seat in
    let did = subst (λ ws. CrewDid reads ticks writes lock set given 0 given.lanes ws) (sym c.from_vec-workers.ensures.items) begun.3 in
    let left = c.pop_chair-worker.ensures ∙ ap (λ ws. Chair c.pop_chair-worker.result ∷ ws) c.pop_mixer-ticker.ensures in
    let j = subst (λ ws. LanesJoined reads ticks writes lock set given crew.seat c.join_lanes.new.seat [] ends ws) left (c.join_lanes.ensures set given did) in
    let closed = c.close-hall.ensures.closes in
    let ended : LockEnds lock last c.close-hall.result.machine.value c.close-hall.result.turns =
    record { leads = closed.history; turns = closed.counted; within = closed.within; places = closed.places; full = closed.full } in
    few-gaps reads ticks writes lock set given crew.seat c.join_lanes.new.seat c.join_chair-chair.new.seat last c.take_in-mixer.result.seat.value ends
    c.as_slice.result.now c.pop_chair-worker.result c.pop_mixer-ticker.result c.join_chair-chair.result c.close-hall.result.machine.value c.close-hall.result.turns
    (subst (λ k. Opens k lock) begun.2 c.requires.opens) (ap (λ (s : HallSeat). s.mine) c.requires.seat) (ap (λ (s : HallSeat). s.past) c.requires.seat)
    j c.join_chair-chair.ensures.joins c.join_chair-chair.ensures.source c.join_chair-chair.ensures.end.0 c.join_chair-chair.ensures.end.1 c.take_in-mixer.ensures
    ended c.history_is_shared_out.ensures c.as_slice.ensures.value

pub returns : goal.returns
returns g c = λ set given lanes_are crew_did.
    let reads = g.S.Source.tells in
    let ticks = g.C.Ticker.tells in
    let writes = g.K.Sink.tells in
    let crew = c.args.crew in
    let lock = crew.lock in
    let ends = c.join_lanes.new.ends.items in
    let last = c.take_in-mixer.new.seat in
    let past = c.take_in-mixer.result.seat.value in
    let hall = c.close-hall.result.machine.value in
    let number = c.close-hall.result.turns in
    let chair = c.join_chair-chair.result in
    let mixer = c.pop_mixer-ticker.result in
    let did = subst (λ ws. CrewDid reads ticks writes lock set given 0 given.lanes ws) (sym c.from_vec-workers.ensures.items) crew_did in
    let left = c.pop_chair-worker.ensures ∙ ap (λ ws. Chair c.pop_chair-worker.result ∷ ws) c.pop_mixer-ticker.ensures in
    let j = subst (λ ws. LanesJoined reads ticks writes lock set given crew.seat c.join_lanes.new.seat [] ends ws) left (c.join_lanes.ensures set given did) in
    let closed = c.close-hall.ensures.closes in
    let ended : LockEnds lock last hall number =
    record { leads = closed.history; turns = closed.counted; within = closed.within; places = closed.places; full = closed.full } in
    let known = gathered reads ticks writes lock set given crew.seat c.join_lanes.new.seat c.join_chair-chair.new.seat last past ends c.pop_chair-worker.result mixer
    chair hall number (subst (λ k. Opens k lock) lanes_are c.requires.opens) (ap (λ (s : HallSeat). s.mine) c.requires.seat) (ap (λ (s : HallSeat). s.past) c.requires.seat)
    j c.join_chair-chair.ensures.joins c.join_chair-chair.ensures.source c.join_chair-chair.ensures.end.0 c.join_chair-chair.ensures.end.1 c.take_in-mixer.ensures
    ended c.history_is_shared_out.ensures in
    record {
      counts = mixer.mixer.counts;
      gathered = subst (λ (s : HallSeat). Gathered set lock.turns lock.opening given (end_with reads ticks writes lock set given ends chair mixer past s hall number) mixer.mixer.counts)
          (sym c.close-hall.ensures.seat) known;
      tally_is = tally-so reads ticks writes lock set given ends c.as_slice.result.now chair mixer past c.close-hall.result.seat.value hall number mixer.mixer.counts
          c.count_together-tally.result c.as_slice.ensures.value c.count_together-tally.ensures;
    }
