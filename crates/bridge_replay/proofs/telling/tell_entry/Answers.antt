use Rattle.std.proofs.Common.{◌≡◌, ◌+◌, ◌<◌, ℕ, List, Result, Ok, Err, length, take, sym, ap, subst, ◌∙◌, arith}
use Rattle.std.specs.Io.KnownBytes.{Appends}
use Rattle.bridge_replay.specs.declared.ends.ReplayStop.{ReplayStop}
use Rattle.bridge_replay.specs.Recounting.{ToldSoFar}
use Rattle.bridge_replay.specs.Telling.{TellsHistory}
use Rattle.bridge_replay.proofs.Stopping.{calls-within, calls-move}
use Rattle.bridge_replay.proofs.Told.{reading-so, ended-so, room-so, fits-so, may-tell, told-so, broken-so}
use Rattle.conf_file.specs.declared.answers.Entry.{Entry}
use Rattle.conf_file.specs.declared.answers.EntryEnd.{EntryEnd}
use Rattle.conf_file.specs.Reading.{CallsEntry, content_of, entry_shown}
use Rattle.io_edge.specs.Outside.{outside}
use Rattle.bridge_replay.proofs.telling.tell_entry.Goals as goal

pub returns-in-Err : goal.returns-in-Err
returns-in-Err g c =
    let was = g.S.Source.tells c.args.source.now in
    let now = g.S.Source.tells c.next.new.source in
    let sink = g.K.Sink.tells c.args.sink.now in
    let reader = c.args.reader.now in
    let new = c.next.follows.lender-at-none in
    let calls = subst (λ (r : Result Entry EntryEnd). CallsEntry was now reader new (entry_shown r)) c.in-Err.is c.next.follows.holds-at-none in
    record {
      steps = λ budget before t.
          let reading = reading-so reader.lanes t.lanes t.entries t.history t.octets c.requires.reading t.reads in
          subst (λ (w : ReplayStop). TellsHistory budget before (outside now sink) (record { stop = w; tally = c.args.tally.now })) (sym c.replay_stop.ensures)
          (ended-so c.files_are_read.ensures budget before (outside was sink) reader c.args.account.now c.args.tally.now t reading now new c.in-Err.end (calls t.lanes reading));
      moves = tt;
      within = tt;
      kept = (calls-within was now reader new (Err c.in-Err.end) c.requires.reading calls).0;
    }

pub enter-given-requires : goal.enter-given-requires
enter-given-requires g c =
    let was = g.S.Source.tells c.args.source.now in
    let now = g.S.Source.tells c.next.new.source in
    let sink = g.K.Sink.tells c.args.sink.now in
    let reader = c.args.reader.now in
    let new = c.next.follows.lender-at-none in
    let content = content_of c.in-Ok.entry in
    let calls = subst (λ (r : Result Entry EntryEnd). CallsEntry was now reader new (entry_shown r)) c.in-Ok.is c.next.follows.holds-at-none in
    let telling = c.requires.telling in
    let t = telling.2 in
    let reading = reading-so reader.lanes t.lanes t.entries t.history t.octets c.requires.reading t.reads in
    let empty = c.new-page.ensures in (
      may-tell c.files_are_read.ensures telling.0 telling.1 (outside was sink) reader c.args.account.now c.args.tally.now t reading now new content (calls t.lanes reading),
      record { short = omega (arith, ap length empty.0); few = omega (arith, empty.1) },
    )

pub overflow_add-tally : goal.overflow_add-tally
overflow_add-tally g c =
    let was = g.S.Source.tells c.args.source.now in
    let now = g.S.Source.tells c.next.new.source in
    let sink = g.K.Sink.tells c.args.sink.now in
    let reader = c.args.reader.now in
    let new = c.next.follows.lender-at-none in
    let content = content_of c.in-Ok.entry in
    let calls = subst (λ (r : Result Entry EntryEnd). CallsEntry was now reader new (entry_shown r)) c.in-Ok.is c.next.follows.holds-at-none in
    let telling = c.requires.telling in
    let t = telling.2 in
    let reading = reading-so reader.lanes t.lanes t.entries t.history t.octets c.requires.reading t.reads in
    let k = calls t.lanes reading in
    let law = c.files_are_read.ensures in
    let old = outside was sink in
    let free = room-so law telling.0 telling.1 old reader c.args.account.now c.args.tally.now t reading now new content k in
    let fits = fits-so law telling.0 telling.1 old reader c.args.account.now c.args.tally.now t reading now new content k in
    let e = c.enter-given.ensures t.lanes t.entries t.history t.keeps free fits in
    omega (arith, e.short.few, t.few_lines, t.within, t.least)

pub returns-in_default : goal.returns-in_default
returns-in_default g c =
    let was = g.S.Source.tells c.args.source.now in
    let now = g.S.Source.tells c.next.new.source in
    let sink = g.K.Sink.tells c.args.sink.now in
    let reader = c.args.reader.now in
    let new = c.next.follows.lender-at-none in
    let then = g.K.Sink.tells c.put_all.new.sink in
    let content = content_of c.in-Ok.entry in
    let calls = subst (λ (r : Result Entry EntryEnd). CallsEntry was now reader new (entry_shown r)) c.in-Ok.is c.next.follows.holds-at-none in
    let page = c.enter-given.new.page in
    let put = c.in_default.ensures.bytes in
    let piece : c.as_bytes.result.now ≡ page.text.bytes = c.as_bytes.ensures.value ∙ c.as_str.ensures.value in
    record {
      steps = λ budget before t.
          let reading = reading-so reader.lanes t.lanes t.entries t.history t.octets c.requires.reading t.reads in
          let k = calls t.lanes reading in
          let law = c.files_are_read.ensures in
          let old = outside was sink in
          let free = room-so law budget before old reader c.args.account.now c.args.tally.now t reading now new content k in
          let fits = fits-so law budget before old reader c.args.account.now c.args.tally.now t reading now new content k in
          let e = c.enter-given.ensures t.lanes t.entries t.history t.keeps free fits in
          broken-so law budget before old reader c.args.account.now c.args.tally.now t reading now new content k c.taken-place.result c.enter-given.new.self
          c.new-page.result page (c.taken-place.ensures ∙ t.taken) c.new-page.ensures e then
          put.0 (subst (λ (xs : List ℕ). put.0 < length xs) piece put.1) (subst (λ (xs : List ℕ). Appends sink.written then.written (take put.0 xs)) piece put.2)
          c.in_default.ensures.cause.failed;
      moves = tt;
      within = tt;
      kept = (calls-within was now reader new (Ok content) c.requires.reading calls).0;
    }

pub returns : goal.returns
returns g c =
    let was = g.S.Source.tells c.args.source.now in
    let now = g.S.Source.tells c.next.new.source in
    let sink = g.K.Sink.tells c.args.sink.now in
    let reader = c.args.reader.now in
    let new = c.next.follows.lender-at-none in
    let then = g.K.Sink.tells c.put_all.new.sink in
    let content = content_of c.in-Ok.entry in
    let calls = subst (λ (r : Result Entry EntryEnd). CallsEntry was now reader new (entry_shown r)) c.in-Ok.is c.next.follows.holds-at-none in
    let page = c.enter-given.new.page in
    let piece : c.as_bytes.result.now ≡ page.text.bytes = c.as_bytes.ensures.value ∙ c.as_str.ensures.value in
    let bounds = calls-within was now reader new (Ok content) c.requires.reading calls in
    record {
      steps = λ budget before t.
          let reading = reading-so reader.lanes t.lanes t.entries t.history t.octets c.requires.reading t.reads in
          let k = calls t.lanes reading in
          let law = c.files_are_read.ensures in
          let old = outside was sink in
          let free = room-so law budget before old reader c.args.account.now c.args.tally.now t reading now new content k in
          let fits = fits-so law budget before old reader c.args.account.now c.args.tally.now t reading now new content k in
          let e = c.enter-given.ensures t.lanes t.entries t.history t.keeps free fits in
          subst (λ (n : ℕ). ToldSoFar budget before (outside now then) new c.enter-given.new.self
          (record { lines = c.args.tally.now.lines + page.lines; octets = c.args.tally.now.octets + n })) (sym c.len.ensures.value)
          (told-so law budget before old reader c.args.account.now c.args.tally.now t reading now new content k c.taken-place.result c.enter-given.new.self
          c.new-page.result page (c.taken-place.ensures ∙ t.taken) c.new-page.ensures e then
          (subst (λ (xs : List ℕ). Appends sink.written then.written xs) piece c.in-Ok-put_all.ensures.bytes) c.in-Ok-put_all.ensures.cause.kept);
      moves = calls-move c.files_are_read.ensures was now reader new content c.requires.reading calls;
      within = bounds.1;
      kept = bounds.0;
    }
