-- How a replay stands after an entry, and what it did where it stops.
use Rattle.std.proofs.Common.{◌≡◌, ℕ, ◌<◌, ◌≤◌, true, false, is_some, List, [], ◌∷◌, ◌++◌, Option, None, Some, Result, Ok, Err, length, take, refl, sym, ap, ap₂, subst, ◌∙◌, arith, length-append}
use Rattle.std.proofs.KnownBytes.{Consumes-trans}
use Rattle.std.proofs.lemmas.List.{take_all}
use Rattle.std.specs.Io.KnownBytes.{Consumes, Appends}
use Rattle.bridge_replay.specs.declared.conference.Conference.{Conference}
use Rattle.bridge_replay.specs.declared.ends.ReplayStop.{ReplayStop}
use Rattle.bridge_replay.specs.declared.ends.ReplayStop.TheVariants as stop
use Rattle.bridge_replay.specs.FileHistory.{oldest_first, IsHistory}
use Rattle.bridge_replay.specs.ReadsFile.{replay_stop, HasReadSoFar, StandsAt}
use Rattle.bridge_replay.specs.Replays.{EndsAtFault, StoppedFor, WroteTicks, Replays}
use Rattle.bridge_replay.specs.UnderWay.{Progress, UnderWay, IsOpen, StaysOpen, with_entry, Entered, Broke, EntryFits, MayEnter}
use Rattle.bridge_replay.proofs.Calls.{says}
use Rattle.cif_pack.specs.declared.packer.Settings.{Settings}
use Rattle.cif_pack.specs.Packets.{out}
use Rattle.cif_pack.specs.PicturesWritten.{pictures_written}
use Rattle.cif_pack.specs.Tallies.{steps_counted, tally_of}
use Rattle.conf_file.specs.declared.answers.EntryEnd.{EntryEnd}
use Rattle.conf_file.specs.declared.answers.EntryEnd.TheVariants.{Bad, Cut, Fault, Limit}
use Rattle.conf_file.specs.declared.answers.EntryWhy.{EntryWhy}
use Rattle.conf_file.specs.declared.answers.EntryWhy.TheVariants.{Header, Kind, Lane, Step, Order}
use Rattle.conf_file.specs.Entries.{Content, Packet, Chair, Tick as TickEntry, End}
use Rattle.conf_file.specs.File.{CutAt, Conference as FileOf, IsFile, HasRead, AfterNext, LawOfReading}
use Rattle.conf_file.specs.Reading.{ReaderState, MayFailBehind, ReadsEntry, CallsEntry, lanes_after}
use Rattle.history_laws.proofs.Cutting.{headline}
use Rattle.io_edge.specs.Causes.{Rose}
use Rattle.io_edge.specs.Outside.{Input, Output, Outside, outside}
use Rattle.pel_model.specs.History.{History, Tick, End as Ended}
use Rattle.pel_model.specs.declared.note.TickNote.{TickNote}

-- what the tally has of a conference under way
pub counted : (p : Progress) (c : Conference) (first now : Output) → UnderWay p c first now → c.tally ≡ tally_of p.set p.lanes p.history p.history
counted p c first now u =
    u.follows.counts
    ∙ ap₂ (λ (packets octets : ℕ). record (steps_counted p.history) { packets = packets; octets = octets }) u.sent.packets_told u.sent.octets_told

-- the sink did not fail
abbrev pub IsNoWriteFault : ReplayStop → Type 0
IsNoWriteFault stop.WriteFault = ⊥
IsNoWriteFault _ = Unit {0}

wrote-all : (s : ReplayStop) (set : Settings) (before after : Outside) (lanes : ℕ) (history : History) → IsNoWriteFault s
    → Appends before.sink.written after.sink.written (out set 0 (pictures_written lanes history)) → after.sink.faults ≡ before.sink.faults
    → WroteTicks s set before after lanes history history
wrote-all stop.Done set before after lanes history fine wrote kept = (refl, wrote, kept)
wrote-all stop.ReadFault set before after lanes history fine wrote kept = (refl, wrote, kept)
wrote-all stop.WriteFault set before after lanes history fine wrote kept = absurd fine
wrote-all (stop.Cut place) set before after lanes history fine wrote kept = (refl, wrote, kept)
wrote-all (stop.BadRecord place why) set before after lanes history fine wrote kept = (refl, wrote, kept)
wrote-all stop.Limit set before after lanes history fine wrote kept = (refl, wrote, kept)
wrote-all stop.NoMemory set before after lanes history fine wrote kept = (refl, wrote, kept)

-- a replay that stopped where the sink did not fail
pub stopped-so : (s : ReplayStop) (set : Settings) (budget : ℕ) (before after : Outside) (p : Progress) (octets : List ℕ) (c : Conference) → IsNoWriteFault s
    → UnderWay p c before.sink after.sink → p.set ≡ set → Consumes before.source.left after.source.left octets → length octets ≤ budget
    → StoppedFor s budget before after octets p.lanes p.entries
    → Replays set budget before after (record { stop = s; tally = c.tally })
stopped-so s set budget before after p octets c fine u same bytes within stopped = record {
  octets = octets;
  taken = bytes;
  within = within;
  lanes = p.lanes;
  entries = p.entries;
  stopped = stopped;
  history = p.history;
  steps = u.steps;
  legal = u.follows.legal;
  whole = p.history;
  output = subst (λ (q : Settings). WroteTicks s q before after p.lanes p.history p.history) same (wrote-all s p.set before after p.lanes p.history fine u.sent.written u.sent.faults);
  counted = counted p c before.sink after.sink u ∙ ap (λ (q : Settings). tally_of q p.lanes p.history p.history) same;
  headline = headline p.lanes p.history u.follows.legal;
}

-- a replay whose sink failed at an entry
pub broken-so : (set : Settings) (budget : ℕ) (before after : Outside) (p : Progress) (content : Content) (octets : List ℕ) (c : Conference)
    → Broke p content c before.sink after.sink → p.set ≡ set → Consumes before.source.left after.source.left octets → length octets ≤ budget
    → after.source.faults ≡ before.source.faults → HasRead octets p.lanes (oldest_first (content ∷ p.entries)) (length octets) []
    → Replays set budget before after (record { stop = stop.WriteFault; tally = c.tally })
broken-so set budget before after p content octets c b same bytes within kept read = record {
  octets = octets;
  taken = bytes;
  within = within;
  lanes = p.lanes;
  entries = content ∷ p.entries;
  stopped = (read, kept);
  history = Tick b.note ∷ p.history;
  steps = b.steps;
  legal = b.legal;
  whole = p.history;
  output = subst (λ (q : Settings). WroteTicks stop.WriteFault q before after p.lanes (Tick b.note ∷ p.history) p.history) same (b.note, refl, b.front);
  counted = b.counted ∙ ap (λ (q : Settings). tally_of q p.lanes (Tick b.note ∷ p.history) p.history) same;
  headline = headline p.lanes (Tick b.note ∷ p.history) b.legal;
}

-- a replay that stands where the end was read is done
pub done-so : (set : Settings) (budget : ℕ) (before now : Outside) (p : Progress) (octets : List ℕ) (reader : ReaderState) (c : Conference)
    → StandsAt set budget before p octets now reader c → reader.lanes ≡ None → Replays set budget before now (record { stop = stop.Done; tally = c.tally })
done-so set budget before now p octets reader c s ended =
    let ends = subst (λ (l : Option ℕ). HasReadSoFar l p octets) ended s.reads in
    stopped-so stop.Done set budget before now p octets c tt s.under_way s.set_is s.bytes s.within (ends.0, ends.1, s.faults)

some-is : (lanes : ℕ) (p : Progress) (octets : List ℕ) (l : Option ℕ) → l ≡ Some lanes → HasReadSoFar l p octets → HasReadSoFar (Some lanes) p octets
some-is lanes p octets l is h = subst (λ (k : Option ℕ). HasReadSoFar k p octets) is h

-- a call of the reader of a replay that stands somewhere
pub record Called (set : Settings) (budget : ℕ) (before : Outside) (p : Progress) (octets : List ℕ) (old : Outside) (reader : ReaderState) (c : Conference)
    (source : Input) (new : ReaderState) (r : Result Content EntryEnd) : Type 0 where
  pub stands : StandsAt set budget before p octets old reader c
  pub reading : reader.lanes ≡ Some p.lanes
  pub reads : ReadsEntry p.lanes old.source source reader new r

some-of : (l : Option ℕ) → is_some l ≡ true → (n : ℕ) × (l ≡ Some n)
some-of None e = absurd (none-there e)
  where
    none-there : false ≡ true → ⊥
    none-there e = cc
some-of (Some n) e = (n, refl)

pub none-of : (l : Option ℕ) → is_some l ≡ false → l ≡ None
none-of None e = refl
none-of (Some n) e = absurd (some-there e)
  where
    some-there : true ≡ false → ⊥
    some-there e = cc

reading-so : (l : Option ℕ) (p : Progress) (octets : List ℕ) → is_some l ≡ true → HasReadSoFar l p octets → l ≡ Some p.lanes
reading-so None p octets e h = absurd (none-there e)
  where
    none-there : false ≡ true → ⊥
    none-there e = cc
reading-so (Some n) p octets e h = ap (λ (m : ℕ). Some m) h.0

-- a call of a reader that may be called leaves its budget, and an entry takes octets within it
pub calls-within : (before after : Input) (old new : ReaderState) (r : Result Content EntryEnd) → is_some old.lanes ≡ true
    → CallsEntry before after old new r → (new.allowance.budget ≡ old.allowance.budget) × (new.allowance.taken ≤ old.allowance.budget)
calls-within before after old new r e calls =
    let lanes = some-of old.lanes e in
    let takes = (calls lanes.0 lanes.1).takes.takes in
    (takes.budget, omega (arith, takes.budget, takes.within))

pub calls-move : LawOfReading → (before after : Input) (old new : ReaderState) (content : Content) → is_some old.lanes ≡ true
    → CallsEntry before after old new (Ok content) → old.allowance.taken < new.allowance.taken
calls-move law before after old new content e calls =
    let lanes = some-of old.lanes e in
    law.moves lanes.0 before after old new content (calls lanes.0 lanes.1)

pub called-so : (set : Settings) (budget : ℕ) (before : Outside) (p : Progress) (octets : List ℕ) (old : Outside) (reader : ReaderState) (c : Conference)
    (source : Input) (new : ReaderState) (r : Result Content EntryEnd) → StandsAt set budget before p octets old reader c → is_some reader.lanes ≡ true
    → CallsEntry old.source source reader new r → Called set budget before p octets old reader c source new r
called-so set budget before p octets old reader c source new r s e calls =
    let reading = reading-so reader.lanes p octets e s.reads in
    record { stands = s; reading = reading; reads = calls p.lanes reading }

not-end : (note : TickNote) (history before : History) → Tick note ∷ history ≡ Ended ∷ before → ⊥
not-end note history before e = cc

-- the same of a count that stood as another
pub failed-behind : (why : EntryWhy) (first before after : Input) → before.faults ≡ first.faults → MayFailBehind why before after → MayFailBehind why first after
failed-behind Header first before after is m = m ∙ is
failed-behind Kind first before after is m = m ∙ is
failed-behind Lane first before after is m = m
failed-behind Step first before after is m = m ∙ is
failed-behind (Order fault) first before after is m = m ∙ is

module _ (law : LawOfReading) (set : Settings) (budget : ℕ) (before : Outside) (p : Progress) (octets : List ℕ) (old : Outside) (reader : ReaderState) (c : Conference)
    (source : Input) (new : ReaderState) where
  abbrev pub all_taken : (r : Result Content EntryEnd) → Called set budget before p octets old reader c source new r → List ℕ
  all_taken r k = octets ++ k.reads.takes.took

  taken-so : (r : Result Content EntryEnd) (k : Called set budget before p octets old reader c source new r) → new.allowance.taken ≡ length (all_taken r k)
  taken-so r k = omega (arith, k.reads.takes.takes.taken, k.stands.taken, length-append octets k.reads.takes.took)

  budget-so : (r : Result Content EntryEnd) (k : Called set budget before p octets old reader c source new r) → new.allowance.budget ≡ budget
  budget-so r k = k.reads.takes.takes.budget ∙ k.stands.budget_is

  pub says-so : (r : Result Content EntryEnd) (k : Called set budget before p octets old reader c source new r)
      → AfterNext (all_taken r k) p.lanes (oldest_first p.entries) (Some []) new.allowance r
  says-so r k =
      says law octets p.lanes (oldest_first p.entries) old.source source reader new r
      (subst (λ (n : ℕ). HasRead octets p.lanes (oldest_first p.entries) n []) (sym k.stands.taken) (some-is p.lanes p octets reader.lanes k.reading k.stands.reads).1)
      k.reads

  pub bytes-so : (r : Result Content EntryEnd) (k : Called set budget before p octets old reader c source new r) → Consumes before.source.left source.left (all_taken r k)
  bytes-so r k = Consumes-trans before.source.left old.source.left source.left octets k.reads.takes.took k.stands.bytes k.reads.takes.takes.bytes

  pub within-so : (r : Result Content EntryEnd) (k : Called set budget before p octets old reader c source new r) → length (all_taken r k) ≤ budget
  within-so r k = omega (arith, taken-so r k, k.reads.takes.takes.within, budget-so r k)

  -- the file says what the octets that were taken say
  front-says : (r : Result Content EntryEnd) (k : Called set budget before p octets old reader c source new r) (n : ℕ) → n ≡ new.allowance.taken
      → IsFile (take new.allowance.taken (all_taken r k)) (FileOf p.lanes (oldest_first p.entries) (CutAt new.allowance.taken))
      → IsFile (all_taken r k) (FileOf p.lanes (oldest_first p.entries) (CutAt n))
  front-says r k n is file =
      subst (λ (m : ℕ). IsFile (all_taken r k) (FileOf p.lanes (oldest_first p.entries) (CutAt m))) (sym is)
      (subst (λ (xs : List ℕ). IsFile xs (FileOf p.lanes (oldest_first p.entries) (CutAt new.allowance.taken)))
      (take_all new.allowance.taken (all_taken r k) (omega (arith, taken-so r k))) file)

  ends-so : (end : EntryEnd) (k : Called set budget before p octets old reader c source new (Err end)) → IsNoWriteFault (replay_stop end)
      → StoppedFor (replay_stop end) budget before (outside source old.sink) (all_taken _ k) p.lanes p.entries
      → Replays set budget before (outside source old.sink) (record { stop = replay_stop end; tally = c.tally })
  ends-so end k fine stopped =
      stopped-so (replay_stop end) set budget before (outside source old.sink) p (all_taken _ k) c fine
      k.stands.under_way k.stands.set_is (bytes-so _ k) (within-so _ k) stopped

  -- where the reader gave no entry, the replay stops
  pub ended-so : (end : EntryEnd) (k : Called set budget before p octets old reader c source new (Err end))
      → Replays set budget before (outside source old.sink) (record { stop = replay_stop end; tally = c.tally })
  ended-so (Bad place why) k =
      let answer = k.reads.takes.answer in
      ends-so (Bad place why) k tt (
        says-so _ k,
        record {
          front = octets;
          field = k.reads.takes.took;
          rest = answer.1.0;
          cut = refl;
          there = answer.0 ∙ k.stands.taken;
          wrong = answer.1.1;
          bound = answer.1.2;
          faults = failed-behind why before.source old.source source k.stands.faults answer.2;
        },
      )
  ended-so (Cut place) k =
      let paused = k.reads.takes.answer.1 in
      ends-so (Cut place) k tt (says-so _ k, paused.1.0, omega (arith, paused.0, paused.1.1, budget-so _ k), paused.1.2 ∙ k.stands.faults)
  ended-so Limit k =
      let said = says-so _ k in
      ends-so Limit k tt (
        front-says _ k budget (omega (arith, said.0, budget-so _ k)) said.1,
        omega (arith, taken-so _ k, said.0, budget-so _ k),
        k.reads.takes.answer.1.1 ∙ k.stands.faults,
      )
  ended-so Fault k =
      ends-so Fault k tt (
        front-says _ k (length (all_taken _ k)) (sym (taken-so _ k)) (says-so _ k),
        subst (λ (n : ℕ). Rose n source.faults) k.stands.faults k.reads.takes.answer.1.0,
      )

  -- ---- where it gave an entry

  left-none : (content : Content) (k : Called set budget before p octets old reader c source new (Ok content))
      → (rest : List ℕ) × (Some [] ≡ Some rest) × HasRead (all_taken _ k) p.lanes (oldest_first (content ∷ p.entries)) new.allowance.taken rest
      → HasRead (all_taken _ k) p.lanes (oldest_first (content ∷ p.entries)) (length (all_taken _ k)) []
  left-none content k h =
      let none : h.0 ≡ [] = some-same (sym h.1) in
      subst (λ (n : ℕ). HasRead (all_taken _ k) p.lanes (oldest_first (content ∷ p.entries)) n []) (taken-so _ k)
      (subst (λ (xs : List ℕ). HasRead (all_taken _ k) p.lanes (oldest_first (content ∷ p.entries)) new.allowance.taken xs) none h.2)
    where
      some-same : {rest : List ℕ} → Some rest ≡ Some [] → rest ≡ []
      some-same e = cc

  -- what the octets that were taken say, with the entry
  pub has-taken : (content : Content) (k : Called set budget before p octets old reader c source new (Ok content)) (after : History) → StaysOpen content after
      → HasReadSoFar (lanes_after p.lanes (Ok content)) (with_entry p content after) (all_taken _ k)
  has-taken (Packet lane packet) k after free = (refl, left-none (Packet lane packet) k (says-so _ k), free)
  has-taken (Chair command) k after free = (refl, left-none (Chair command) k (says-so _ k), free)
  has-taken (TickEntry step) k after free = (refl, left-none (TickEntry step) k (says-so _ k), free)
  has-taken End k after free = (
    says-so _ k,
    (
      p.entries,
      octets,
      refl,
      ap (λ (xs : List ℕ). octets ++ xs) k.reads.takes.answer.0,
      (some-is p.lanes p octets reader.lanes k.reading k.stands.reads).1,
    ),
  )

  -- the replay stands after the entry
  pub stands-so : (content : Content) (k : Called set budget before p octets old reader c source new (Ok content)) (sink : Output) (d : Conference)
      → (e : Entered p content d before.sink sink) → StandsAt set budget before (with_entry p content e.after) (all_taken _ k) (outside source sink) new d
  stands-so content k sink d e = record {
    under_way = e.under_way;
    set_is = k.stands.set_is;
    budget_is = budget-so _ k;
    least = k.stands.least;
    taken = taken-so _ k;
    within = within-so _ k;
    bytes = bytes-so _ k;
    faults = k.reads.takes.answer.1 ∙ k.stands.faults;
    reads = subst (λ (l : Option ℕ). HasReadSoFar l (with_entry p content e.after) (all_taken _ k)) (sym k.reads.lanes_left) (has-taken content k e.after e.going);
    room = omega (arith, e.few, k.stands.room, taken-so _ k, k.stands.taken, law.moves p.lanes old.source source reader new content k.reads);
  }

  -- whole entries were taken, where the last is not the end
  read-so : (content : Content) (k : Called set budget before p octets old reader c source new (Ok content)) (note : TickNote)
      → IsHistory p.lanes (content ∷ p.entries) (Tick note ∷ p.history)
      → HasRead (all_taken _ k) p.lanes (oldest_first (content ∷ p.entries)) (length (all_taken _ k)) []
  read-so (Packet lane packet) k note steps = left-none (Packet lane packet) k (says-so _ k)
  read-so (Chair command) k note steps = left-none (Chair command) k (says-so _ k)
  read-so (TickEntry step) k note steps = left-none (TickEntry step) k (says-so _ k)
  read-so End k note steps = absurd (not-end note p.history steps.0 steps.2)

  -- the sink failed at the entry
  pub breaks-so : (content : Content) (k : Called set budget before p octets old reader c source new (Ok content)) (sink : Output) (d : Conference)
      → Broke p content d before.sink sink → Replays set budget before (outside source sink) (record { stop = stop.WriteFault; tally = d.tally })
  breaks-so content k sink d b =
      broken-so set budget before (outside source sink) p content (all_taken _ k) d b k.stands.set_is (bytes-so _ k) (within-so _ k)
      (k.reads.takes.answer.1 ∙ k.stands.faults) (read-so content k b.note b.steps)

  -- two more steps may follow before an entry
  pub room-so : (content : Content) (k : Called set budget before p octets old reader c source new (Ok content)) → IsOpen 2 p.history
  room-so content k = record {
    going = (some-is p.lanes p octets reader.lanes k.reading k.stands.reads).2;
    room = omega (arith, k.stands.room, k.stands.taken, law.moves p.lanes old.source source reader new content k.reads, k.reads.takes.takes.within, budget-so _ k, k.stands.least);
  }

  fits-so : (content : Content) (k : Called set budget before p octets old reader c source new (Ok content)) → EntryFits p.lanes content
  fits-so (Packet lane packet) k = k.reads.takes.answer.0.1
  fits-so (Chair command) k = tt
  fits-so (TickEntry step) k = k.reads.takes.answer.0.1
  fits-so End k = tt

  -- an entry that was read may come
  pub may-enter : (content : Content) (k : Called set budget before p octets old reader c source new (Ok content)) → MayEnter content c
  may-enter content k = record {
    at = p;
    first = before.sink;
    now = old.sink;
    under_way = k.stands.under_way;
    room = room-so content k;
    fits = fits-so content k;
  }
