use Rattle.std.proofs.Common.{ℕ, Result, Ok, Err, refl, sym, subst}
use Rattle.bridge_replay.specs.declared.ends.ReplayStop.{ReplayStop}
use Rattle.bridge_replay.specs.Replays.{Replays}
use Rattle.bridge_replay.specs.UnderWay.{with_entry}
use Rattle.conf_file.specs.declared.answers.Entry.{Entry}
use Rattle.conf_file.specs.declared.answers.EntryEnd.{EntryEnd}
use Rattle.conf_file.specs.Reading.{CallsEntry, content_of, entry_shown}
use Rattle.io_edge.specs.Outside.{outside}
use Rattle.bridge_replay.proofs.Stopping.{calls-within, calls-move, called-so, all_taken, ended-so, stands-so, breaks-so, may-enter, room-so}
use Rattle.bridge_replay.proofs.job.step.Goals as goal

pub returns-in-Err : goal.returns-in-Err
returns-in-Err g c =
    let was = g.S.Source.tells c.args.source.now in
    let now = g.S.Source.tells c.next.new.source in
    let sink = g.K.Sink.tells c.args.sink.now in
    let new = c.next.follows.lender-at-none in
    let calls = subst (λ (r : Result Entry EntryEnd). CallsEntry was now c.args.reader.now new (entry_shown r)) c.in-Err.is c.next.follows.holds-at-none in
    record {
      steps = λ set budget before on.
          let k = called-so set budget before on.0 on.1 (outside was sink) c.args.reader.now c.args.conference.now now new (Err c.in-Err.end) on.2 c.requires.reading calls in
          subst (λ (w : ReplayStop). Replays set budget before (outside now sink) (record { stop = w; tally = c.args.conference.now.tally })) (sym c.replay_stop.ensures)
          (ended-so c.files_are_read.ensures set budget before on.0 on.1 (outside was sink) c.args.reader.now c.args.conference.now now new c.in-Err.end k);
      moves = tt;
      within = tt;
      kept = (calls-within was now c.args.reader.now new (Err c.in-Err.end) c.requires.reading calls).0;
    }

pub enter-requires : goal.enter-requires
enter-requires g c =
    let was = g.S.Source.tells c.args.source.now in
    let now = g.S.Source.tells c.next.new.source in
    let sink = g.K.Sink.tells c.args.sink.now in
    let new = c.next.follows.lender-at-none in
    let on = c.requires.stands in
    let content = content_of c.in-Ok.entry in
    let calls = subst (λ (r : Result Entry EntryEnd). CallsEntry was now c.args.reader.now new (entry_shown r)) c.in-Ok.is c.next.follows.holds-at-none in
    let k = called-so on.0 on.1 on.2 on.3.0 on.3.1 (outside was sink) c.args.reader.now c.args.conference.now now new (Ok content) on.3.2 c.requires.reading calls in
    may-enter c.files_are_read.ensures on.0 on.1 on.2 on.3.0 on.3.1 (outside was sink) c.args.reader.now c.args.conference.now now new content k

pub returns-in-Ok-enter : goal.returns-in-Ok-enter
returns-in-Ok-enter g c =
    let was = g.S.Source.tells c.args.source.now in
    let now = g.S.Source.tells c.next.new.source in
    let sink = g.K.Sink.tells c.args.sink.now in
    let then = g.K.Sink.tells c.enter.new.sink in
    let new = c.next.follows.lender-at-none in
    let content = content_of c.in-Ok.entry in
    let calls = subst (λ (r : Result Entry EntryEnd). CallsEntry was now c.args.reader.now new (entry_shown r)) c.in-Ok.is c.next.follows.holds-at-none in
    let bounds = calls-within was now c.args.reader.now new (Ok content) c.requires.reading calls in
    record {
      steps = λ set budget before on.
          let k = called-so set budget before on.0 on.1 (outside was sink) c.args.reader.now c.args.conference.now now new (Ok content) on.2 c.requires.reading calls in
          let free = room-so c.files_are_read.ensures set budget before on.0 on.1 (outside was sink) c.args.reader.now c.args.conference.now now new content k in
          let e = c.in-Ok-enter.ensures on.0 before.sink on.2.under_way free in (
            with_entry on.0 content e.after,
            all_taken c.files_are_read.ensures set budget before on.0 on.1 (outside was sink) c.args.reader.now c.args.conference.now now new (Ok content) k,
            stands-so c.files_are_read.ensures set budget before on.0 on.1 (outside was sink) c.args.reader.now c.args.conference.now now new content k then c.enter.new.self e,
          );
      moves = calls-move c.files_are_read.ensures was now c.args.reader.now new content c.requires.reading calls;
      within = bounds.1;
      kept = bounds.0;
    }

pub returns-in-Err-enter : goal.returns-in-Err-enter
returns-in-Err-enter g c =
    let was = g.S.Source.tells c.args.source.now in
    let now = g.S.Source.tells c.next.new.source in
    let sink = g.K.Sink.tells c.args.sink.now in
    let then = g.K.Sink.tells c.enter.new.sink in
    let new = c.next.follows.lender-at-none in
    let content = content_of c.in-Ok.entry in
    let calls = subst (λ (r : Result Entry EntryEnd). CallsEntry was now c.args.reader.now new (entry_shown r)) c.in-Ok.is c.next.follows.holds-at-none in
    record {
      steps = λ set budget before on.
          let k = called-so set budget before on.0 on.1 (outside was sink) c.args.reader.now c.args.conference.now now new (Ok content) on.2 c.requires.reading calls in
          let free = room-so c.files_are_read.ensures set budget before on.0 on.1 (outside was sink) c.args.reader.now c.args.conference.now now new content k in
          breaks-so c.files_are_read.ensures set budget before on.0 on.1 (outside was sink) c.args.reader.now c.args.conference.now now new content k then c.enter.new.self
          (c.in-Err-enter.ensures on.0 before.sink on.2.under_way free);
      moves = tt;
      within = tt;
      kept = (calls-within was now c.args.reader.now new (Ok content) c.requires.reading calls).0;
    }
