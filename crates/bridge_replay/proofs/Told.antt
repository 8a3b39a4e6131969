-- What was told of a file after an entry, and what a telling did where it stops.
use Rattle.std.proofs.Common.{◌≡◌, ℕ, ◌+◌, ◌^◌, ◌<◌, ◌≤◌, nat_le, ◌&&◌, Bool, true, false, is_some, IsTrue, map, List, [], ◌∷◌, ◌++◌, Option, None, Some, Result, Ok, Err, length, take, inl, inr, refl, sym, ap, ap₂, subst, ◌∙◌, arith, append-nil, length-append}
use Rattle.std.proofs.KnownBytes.{Consumes-trans, Appends-trans, Appends-nil}
use Rattle.std.proofs.Math.Seq.{take-append_seam}
use Rattle.std.proofs.lemmas.List.{take_all, length-take, take-append-le}
use Rattle.std.proofs.lemmas.List.Folds.{concat-append}
use Rattle.std.specs.Io.KnownBytes.{Consumes, Appends}
use Rattle.std.specs.List.{concat}
use Rattle.bridge_replay.specs.declared.account.Account.{Account}
use Rattle.bridge_replay.specs.declared.account.Page.{Page}
use Rattle.bridge_replay.specs.declared.ends.ReplayStop.{ReplayStop}
use Rattle.bridge_replay.specs.declared.ends.ReplayStop.TheVariants as stop
use Rattle.bridge_replay.specs.declared.telling.LineTally.{LineTally}
use Rattle.bridge_replay.specs.Account.{StandsBehind, AreLinesOf}
use Rattle.bridge_replay.specs.FileHistory.{oldest_first, AfterEntry}
use Rattle.bridge_replay.specs.ReadsFile.{replay_stop}
use Rattle.bridge_replay.specs.Recounting.{CanBeTold, Keeps, MayTell, TookEntry, HasReadTo, ToldSoFar}
use Rattle.bridge_replay.specs.Telling.{TookEntries, StopsTelling, WroteLines, counted_lines, TellsHistory}
use Rattle.bridge_replay.specs.UnderWay.{IsOpen, StaysOpen}
use Rattle.bridge_replay.proofs.Calls.{says}
use Rattle.bridge_replay.proofs.OneHistory.{one-history}
use Rattle.bridge_replay.proofs.Stopping.{IsNoWriteFault, failed-behind}
use Rattle.chair_words.specs.Line.{a_place, a_lane, number_spelt, is_in, is_good, AreGood, Says, has_sayable_lane}
use Rattle.chair_words.specs.Words.{Word}
use Rattle.conf_file.specs.declared.answers.EntryEnd.{EntryEnd}
use Rattle.conf_file.specs.declared.answers.EntryEnd.TheVariants.{Bad, Cut, Fault, Limit}
use Rattle.conf_file.specs.Entries.{Content, Packet, Chair, Tick as TickEntry, End}
use Rattle.conf_file.specs.File.{CutAt, Conference as FileOf, IsFile, HasRead, AfterNext, LawOfReading}
use Rattle.conf_file.specs.Header.{header_of}
use Rattle.conf_file.specs.Reading.{ReaderState, CallsStart, ReadsEntry, lanes_after}
use Rattle.io_edge.specs.Allowance.{unused}
use Rattle.io_edge.specs.Causes.{Rose}
use Rattle.io_edge.specs.Outside.{Input, Output, Outside, outside}
use Rattle.pel_model.specs.declared.chair.Command.{Command}
use Rattle.pel_model.specs.declared.chair.Command.TheVariants.{Place, Clear, Swap, Speaker, Pin, Unpin}
use Rattle.pel_model.specs.History.{History}
use Rattle.pel_model.specs.Regions.{number_of}

-- ---- lines of a longer file

-- octets behind a place do not move what stands before it
stands-further : (octets more : List ℕ) (lanes : ℕ) (entries : List Content) (place : ℕ) → StandsBehind octets lanes entries place
    → StandsBehind (octets ++ more) lanes entries place
stands-further octets more lanes entries place h =
    let long : place ≡ length (take place octets) =
    omega (
      arith,
      h.begins.counted,
      ap length h.header,
      length-append (header_of lanes) h.octets,
      ap length h.begins.cut,
      length-append (concat h.begins.entries) [],
    ) in
    let short : place ≤ length octets = omega (arith, long, length-take place octets) in
    subst (λ (xs : List ℕ). HasRead xs lanes (oldest_first entries) place []) (sym (take-append-le place octets more short)) h

pub lines-further : (octets more : List ℕ) (lanes : ℕ) (entries : List Content) (history : History) (lines : List (List ℕ))
    → AreLinesOf octets lanes entries history lines → AreLinesOf (octets ++ more) lanes entries history lines
lines-further octets more lanes [] history lines are = are
lines-further octets more lanes (e ∷ entries) history lines (before, former, told, after, place, stands, here, are, is) = (
  before,
  former,
  lines-further octets more lanes entries before former told,
  after,
  place,
  stands-further octets more lanes entries place stands,
  here,
  are,
  is,
)

-- ---- lines that were written

lines-more : (xs ys : List (List ℕ)) (tally : LineTally) (page : Page) → tally ≡ counted_lines xs → page.lines ≡ length ys → page.text.bytes ≡ concat ys
    → record { lines = tally.lines + page.lines; octets = tally.octets + length page.text.bytes } ≡ counted_lines (xs ++ ys)
lines-more xs ys tally page told many bytes =
    ap₂ (λ (n m : ℕ). record { lines = n; octets = m })
    (omega (arith, ap (λ (t : LineTally). t.lines) told, many, length-append xs ys))
    (omega (arith, ap (λ (t : LineTally). t.octets) told, ap length bytes, ap length (concat-append xs ys), length-append (concat xs) (concat ys)))

wrote-all : (s : ReplayStop) (before after : Output) (lines : List (List ℕ)) → IsNoWriteFault s
    → Appends before.written after.written (concat lines) → after.faults ≡ before.faults → WroteLines s before after lines lines
wrote-all stop.Done before after lines fine wrote kept = (refl, wrote, kept)
wrote-all stop.ReadFault before after lines fine wrote kept = (refl, wrote, kept)
wrote-all stop.WriteFault before after lines fine wrote kept = absurd fine
wrote-all (stop.Cut place) before after lines fine wrote kept = (refl, wrote, kept)
wrote-all (stop.BadRecord place why) before after lines fine wrote kept = (refl, wrote, kept)
wrote-all stop.Limit before after lines fine wrote kept = (refl, wrote, kept)
wrote-all stop.NoMemory before after lines fine wrote kept = (refl, wrote, kept)

-- ---- a file from its header to its end

-- a telling stands before the first entry
pub begins-telling : (budget : ℕ) (before after : Input) (sink : Output) (old new : ReaderState) (lanes : ℕ) (a : Account) → old ≡ record { allowance = unused budget; lanes = None }
    → budget ≤ 2 ^ 40 → CallsStart before after old new (Ok lanes) → Keeps lanes [] [] a
    → ToldSoFar budget (outside before sink) (outside after sink) new a (counted_lines [])
begins-telling budget before after sink old new lanes a fresh least k keeps =
    let header = k.header.answer in
    let took = k.header.took in
    let budget_is : new.allowance.budget ≡ budget = k.header.takes.budget ∙ ap (λ (r : ReaderState). r.allowance.budget) fresh in
    let long : new.allowance.taken ≡ length took = omega (arith, k.header.takes.taken, ap (λ (r : ReaderState). r.allowance.taken) fresh) in
    record {
      lanes = lanes;
      entries = [];
      history = [];
      octets = took;
      lines = [];
      keeps = keeps;
      told = (refl, refl);
      written = Appends-nil sink.written;
      writes = refl;
      counted = refl;
      budget_is = budget_is;
      least = least;
      taken = long;
      within = omega (arith, k.header.takes.within, budget_is, long);
      bytes = k.header.takes.bytes;
      faults = header.2;
      reads = subst (λ (l : Option ℕ). HasReadTo l lanes [] [] took) (sym k.lanes) (
        refl,
        record {
          octets = [];
          header = header.0 ∙ sym (append-nil (header_of lanes));
          lanes_fit = header.1;
          begins = record { entries = []; cut = refl; spelled = tt; counted = ap length header.0 };
          going_on = tt;
        },
        refl,
      );
      room = omega arith;
      few_lines = omega arith;
      few_octets = omega arith;
    }

-- a telling that stands where the end was read is done
pub all-told : (budget : ℕ) (before now : Outside) (reader : ReaderState) (a : Account) (tally : LineTally) → ToldSoFar budget before now reader a tally
    → reader.lanes ≡ None → TellsHistory budget before now (record { stop = stop.Done; tally = tally })
all-told budget before now reader a tally t ended =
    let ends = subst (λ (l : Option ℕ). HasReadTo l t.lanes t.entries t.history t.octets) ended t.reads in
    record {
      octets = t.octets;
      taken = t.bytes;
      within = t.within;
      lanes = t.lanes;
      entries = t.entries;
      stopped = (ends.0, ends.1, t.faults);
      history = t.history;
      steps = t.keeps.steps;
      lines = t.lines;
      told = t.told;
      whole = t.lines;
      output = (refl, t.written, t.writes);
      counted = t.counted;
    }

-- ---- one call of the reader

-- what a line says has a lane that a line can say
both-true : (a b : Bool) → IsTrue (a && b) → IsTrue b
both-true true b e = e
both-true false b e = absurd (not-so e)
  where
    not-so : false ≡ true → ⊥
    not-so h = cc

lane-good : (c : ℕ) (w : Word) → IsTrue (is_good a_lane w) → number_spelt w.text ≡ Some c → IsTrue (nat_le c 15)
lane-good c w good is = both-true (nat_le 0 c) (nat_le c 15) (subst (λ (n : Option ℕ). IsTrue (is_in a_lane n)) is good)

after-place : (c : ℕ) (first : Option ℕ) (numbers : List Word) → AreGood (a_place ∷ a_lane ∷ []) numbers
    → map (λ (w : Word). number_spelt w.text) numbers ≡ first ∷ Some c ∷ [] → IsTrue (nat_le c 15)
after-place c first [] good values = absurd good
after-place c first (v ∷ []) good values = absurd good.1
after-place c first (v ∷ w ∷ ws) good values = lane-good c w good.1.0 (second values)
  where
    second : {x y a b : Option ℕ} {xs ys : List (Option ℕ)} → x ∷ a ∷ xs ≡ y ∷ b ∷ ys → a ≡ b
    second e = cc

alone : (c : ℕ) (numbers : List Word) → AreGood (a_lane ∷ []) numbers → map (λ (w : Word). number_spelt w.text) numbers ≡ Some c ∷ [] → IsTrue (nat_le c 15)
alone c [] good values = absurd good
alone c (w ∷ ws) good values = lane-good c w good.0 (first values)
  where
    first : {a b : Option ℕ} {xs ys : List (Option ℕ)} → a ∷ xs ≡ b ∷ ys → a ≡ b
    first e = cc

sayable-so : (line : List ℕ) (command : Command) → Says line command → IsTrue (has_sayable_lane command)
sayable-so line (Place q c) says = after-place c (Some (number_of q)) says.numbers says.good says.values
sayable-so line (Clear q) says = refl
sayable-so line (Swap p q) says = refl
sayable-so line (Speaker c) says = alone c says.numbers says.good says.values
sayable-so line (Pin q) says = refl
sayable-so line (Unpin q) says = refl

pub reading-so : (l : Option ℕ) (lanes : ℕ) (entries : List Content) (history : History) (octets : List ℕ) → is_some l ≡ true
    → HasReadTo l lanes entries history octets → l ≡ Some lanes
reading-so None lanes entries history octets e h = absurd (none-there e)
  where
    none-there : false ≡ true → ⊥
    none-there e = cc
reading-so (Some n) lanes entries history octets e h = ap (λ (m : ℕ). Some m) h.0

module _ (law : LawOfReading) (budget : ℕ) (before old : Outside) (reader : ReaderState) (a : Account) (tally : LineTally)
    (t : ToldSoFar budget before old reader a tally) (reading : reader.lanes ≡ Some t.lanes) (source : Input) (new : ReaderState) where
  -- what was taken with this call
  abbrev taken_with : (r : Result Content EntryEnd) → ReadsEntry t.lanes old.source source reader new r → List ℕ
  taken_with r k = t.octets ++ k.takes.took

  taken-so : (r : Result Content EntryEnd) (k : ReadsEntry t.lanes old.source source reader new r) → new.allowance.taken ≡ length (taken_with r k)
  taken-so r k = omega (arith, k.takes.takes.taken, t.taken, length-append t.octets k.takes.took)

  budget-so : (r : Result Content EntryEnd) (k : ReadsEntry t.lanes old.source source reader new r) → new.allowance.budget ≡ budget
  budget-so r k = k.takes.takes.budget ∙ t.budget_is

  read-here : HasReadTo (Some t.lanes) t.lanes t.entries t.history t.octets
  read-here = subst (λ (l : Option ℕ). HasReadTo l t.lanes t.entries t.history t.octets) reading t.reads

  says-so : (r : Result Content EntryEnd) (k : ReadsEntry t.lanes old.source source reader new r)
      → AfterNext (taken_with r k) t.lanes (oldest_first t.entries) (Some []) new.allowance r
  says-so r k =
      says law t.octets t.lanes (oldest_first t.entries) old.source source reader new r
      (subst (λ (n : ℕ). HasRead t.octets t.lanes (oldest_first t.entries) n []) (sym t.taken) read-here.1) k

  bytes-so : (r : Result Content EntryEnd) (k : ReadsEntry t.lanes old.source source reader new r) → Consumes before.source.left source.left (taken_with r k)
  bytes-so r k = Consumes-trans before.source.left old.source.left source.left t.octets k.takes.took t.bytes k.takes.takes.bytes

  within-so : (r : Result Content EntryEnd) (k : ReadsEntry t.lanes old.source source reader new r) → length (taken_with r k) ≤ budget
  within-so r k = omega (arith, taken-so r k, k.takes.takes.within, budget-so r k)

  -- the file says what the octets that were taken say
  front-says : (r : Result Content EntryEnd) (k : ReadsEntry t.lanes old.source source reader new r) (n : ℕ) → n ≡ new.allowance.taken
      → IsFile (take new.allowance.taken (taken_with r k)) (FileOf t.lanes (oldest_first t.entries) (CutAt new.allowance.taken))
      → IsFile (taken_with r k) (FileOf t.lanes (oldest_first t.entries) (CutAt n))
  front-says r k n is file =
      subst (λ (m : ℕ). IsFile (taken_with r k) (FileOf t.lanes (oldest_first t.entries) (CutAt m))) (sym is)
      (subst (λ (xs : List ℕ). IsFile xs (FileOf t.lanes (oldest_first t.entries) (CutAt new.allowance.taken)))
      (take_all new.allowance.taken (taken_with r k) (omega (arith, taken-so r k))) file)

  ends-so : (end : EntryEnd) (k : ReadsEntry t.lanes old.source source reader new (Err end)) → IsNoWriteFault (replay_stop end)
      → StopsTelling (replay_stop end) budget before (outside source old.sink) (taken_with _ k) t.lanes t.entries
      → TellsHistory budget before (outside source old.sink) (record { stop = replay_stop end; tally = tally })
  ends-so end k fine stopped = record {
    octets = taken_with _ k;
    taken = bytes-so _ k;
    within = within-so _ k;
    lanes = t.lanes;
    entries = t.entries;
    stopped = stopped;
    history = t.history;
    steps = t.keeps.steps;
    lines = t.lines;
    told = lines-further t.octets k.takes.took t.lanes t.entries t.history t.lines t.told;
    whole = t.lines;
    output = wrote-all (replay_stop end) before.sink old.sink t.lines fine t.written t.writes;
    counted = t.counted;
  }

  -- where the reader gave no entry, the telling stops
  pub ended-so : (end : EntryEnd) (k : ReadsEntry t.lanes old.source source reader new (Err end))
      → TellsHistory budget before (outside source old.sink) (record { stop = replay_stop end; tally = tally })
  ended-so (Bad place why) k =
      let answer = k.takes.answer in
      ends-so (Bad place why) k tt (
        says-so _ k,
        record {
          front = t.octets;
          field = k.takes.took;
          rest = answer.1.0;
          cut = refl;
          there = answer.0 ∙ t.taken;
          wrong = answer.1.1;
          bound = answer.1.2;
          faults = failed-behind why before.source old.source source t.faults answer.2;
        },
      )
  ended-so (Cut place) k =
      let paused = k.takes.answer.1 in
      ends-so (Cut place) k tt (says-so _ k, paused.1.0, omega (arith, paused.0, paused.1.1, budget-so _ k), paused.1.2 ∙ t.faults)
  ended-so Limit k =
      let said = says-so _ k in
      ends-so Limit k tt (
        front-says _ k budget (omega (arith, said.0, budget-so _ k)) said.1,
        omega (arith, taken-so _ k, said.0, budget-so _ k),
        k.takes.answer.1.1 ∙ t.faults,
      )
  ended-so Fault k =
      ends-so Fault k tt (
        front-says _ k (length (taken_with _ k)) (sym (taken-so _ k)) (says-so _ k),
        subst (λ (n : ℕ). Rose n source.faults) t.faults k.takes.answer.1.0,
      )

  -- ---- where it gave an entry

  left-none : (content : Content) (k : ReadsEntry t.lanes old.source source reader new (Ok content))
      → (rest : List ℕ) × (Some [] ≡ Some rest) × HasRead (taken_with _ k) t.lanes (oldest_first (content ∷ t.entries)) new.allowance.taken rest
      → HasRead (taken_with _ k) t.lanes (oldest_first (content ∷ t.entries)) (length (taken_with _ k)) []
  left-none content k h =
      let none : h.0 ≡ [] = some-same (sym h.1) in
      subst (λ (n : ℕ). HasRead (taken_with _ k) t.lanes (oldest_first (content ∷ t.entries)) n []) (taken-so _ k)
      (subst (λ (xs : List ℕ). HasRead (taken_with _ k) t.lanes (oldest_first (content ∷ t.entries)) new.allowance.taken xs) none h.2)
    where
      some-same : {rest : List ℕ} → Some rest ≡ Some [] → rest ≡ []
      some-same e = cc

  -- what the octets that were taken say, with the entry
  has-taken : (content : Content) (k : ReadsEntry t.lanes old.source source reader new (Ok content)) (after : History) → StaysOpen content after
      → HasReadTo (lanes_after t.lanes (Ok content)) t.lanes (content ∷ t.entries) after (taken_with _ k)
  has-taken (Packet lane packet) k after free = (refl, left-none (Packet lane packet) k (says-so _ k), free)
  has-taken (Chair command) k after free = (refl, left-none (Chair command) k (says-so _ k), free)
  has-taken (TickEntry step) k after free = (refl, left-none (TickEntry step) k (says-so _ k), free)
  has-taken End k after free = (
    says-so _ k,
    (t.entries, t.octets, refl, ap (λ (xs : List ℕ). t.octets ++ xs) k.takes.answer.0, read-here.1),
  )

  took-so : (content : Content) (k : ReadsEntry t.lanes old.source source reader new (Ok content)) → TookEntries (taken_with _ k) t.lanes (content ∷ t.entries)
  took-so (Packet lane packet) k = inl (left-none (Packet lane packet) k (says-so _ k))
  took-so (Chair command) k = inl (left-none (Chair command) k (says-so _ k))
  took-so (TickEntry step) k = inl (left-none (TickEntry step) k (says-so _ k))
  took-so End k = inr (
    says-so _ k,
    (t.entries, t.octets, refl, ap (λ (xs : List ℕ). t.octets ++ xs) k.takes.answer.0, read-here.1),
  )

  -- two more steps may follow before an entry
  pub room-so : (content : Content) (k : ReadsEntry t.lanes old.source source reader new (Ok content)) → IsOpen 2 t.history
  room-so content k = record {
    going = read-here.2;
    room = omega (arith, t.room, t.taken, law.moves t.lanes old.source source reader new content k, k.takes.takes.within, budget-so _ k, t.least);
  }

  pub fits-so : (content : Content) (k : ReadsEntry t.lanes old.source source reader new (Ok content)) → CanBeTold t.lanes content
  fits-so (Packet lane packet) k = k.takes.answer.0.1
  fits-so (Chair command) k = sayable-so k.takes.answer.0.0 command k.takes.answer.0.3
  fits-so (TickEntry step) k = k.takes.answer.0.1
  fits-so End k = tt

  -- an entry that was read may be told
  pub may-tell : (content : Content) (k : ReadsEntry t.lanes old.source source reader new (Ok content)) → MayTell content a
  may-tell content k = record {
    lanes = t.lanes;
    entries = t.entries;
    history = t.history;
    keeps = t.keeps;
    room = room-so content k;
    fits = fits-so content k;
  }

  -- the lines of all entries with those of this one
  told-with : (content : Content) (k : ReadsEntry t.lanes old.source source reader new (Ok content)) (place : ℕ) (new_account : Account) (page now : Page) → place ≡ length t.octets
      → (e : TookEntry t.lanes place t.entries content t.history new_account page now)
      → AreLinesOf (taken_with _ k) t.lanes (content ∷ t.entries) e.after (t.lines ++ e.lines)
  told-with content k place new_account page now is e =
      let steps = e.keeps.steps in (
        t.history,
        t.lines,
        lines-further t.octets k.takes.took t.lanes t.entries t.history t.lines t.told,
        subst (λ (H : History). AfterEntry t.lanes t.entries content H e.after) (one-history t.lanes t.entries steps.0 t.history steps.1 t.keeps.steps) steps.2,
        place,
        subst (λ (n : ℕ). StandsBehind (taken_with _ k) t.lanes t.entries n) (sym is)
            (subst (λ (xs : List ℕ). HasRead xs t.lanes (oldest_first t.entries) (length t.octets) []) (sym (take-append_seam t.octets k.takes.took)) read-here.1),
        e.lines,
        e.are,
        refl,
      )

  module _ (content : Content) (k : ReadsEntry t.lanes old.source source reader new (Ok content)) (place : ℕ) (then : Account) (page now : Page) (is : place ≡ length t.octets)
      (empty : (page.text.bytes ≡ []) × (page.lines ≡ 0)) (e : TookEntry t.lanes place t.entries content t.history then page now) (sink : Output) where
    bytes-are : now.text.bytes ≡ concat e.lines
    bytes-are = e.adds.bytes ∙ ap (λ (xs : List ℕ). xs ++ concat e.lines) empty.0

    lines-are : now.lines ≡ length e.lines
    lines-are = omega (arith, e.adds.counted, empty.1)

    -- its lines were written
    pub told-so : Appends old.sink.written sink.written now.text.bytes → sink.faults ≡ old.sink.faults
        → ToldSoFar budget before (outside source sink) new then (record { lines = tally.lines + now.lines; octets = tally.octets + length now.text.bytes })
    told-so put kept = record {
      lanes = t.lanes;
      entries = content ∷ t.entries;
      history = e.after;
      octets = taken_with _ k;
      lines = t.lines ++ e.lines;
      keeps = e.keeps;
      told = told-with content k place then page now is e;
      written = subst (Appends before.sink.written sink.written) (ap (λ (xs : List ℕ). concat t.lines ++ xs) bytes-are ∙ sym (concat-append t.lines e.lines))
          (Appends-trans before.sink.written old.sink.written sink.written (concat t.lines) now.text.bytes t.written put);
      writes = kept ∙ t.writes;
      counted = lines-more t.lines e.lines tally now t.counted lines-are bytes-are;
      budget_is = budget-so _ k;
      least = t.least;
      taken = taken-so _ k;
      within = within-so _ k;
      bytes = bytes-so _ k;
      faults = k.takes.answer.1 ∙ t.faults;
      reads = subst (λ (l : Option ℕ). HasReadTo l t.lanes (content ∷ t.entries) e.after (taken_with _ k)) (sym k.lanes_left) (has-taken content k e.after e.going);
      room = omega (arith, e.few, t.room, taken-so _ k, t.taken, law.moves t.lanes old.source source reader new content k);
      few_lines = omega (arith, e.short.few, t.few_lines, taken-so _ k, t.taken, law.moves t.lanes old.source source reader new content k);
      few_octets = omega (arith, e.short.short, t.few_octets, taken-so _ k, t.taken, law.moves t.lanes old.source source reader new content k);
    }

    -- the sink failed at them
    pub broken-so : (n : ℕ) → n < length now.text.bytes → Appends old.sink.written sink.written (take n now.text.bytes) → Rose old.sink.faults sink.faults
        → TellsHistory budget before (outside source sink) (record { stop = stop.WriteFault; tally = tally })
    broken-so n short put rose = record {
      octets = taken_with _ k;
      taken = bytes-so _ k;
      within = within-so _ k;
      lanes = t.lanes;
      entries = content ∷ t.entries;
      stopped = (took-so content k, k.takes.answer.1 ∙ t.faults);
      history = e.after;
      steps = e.keeps.steps;
      lines = t.lines ++ e.lines;
      told = told-with content k place then page now is e;
      whole = t.lines;
      output = (
        e.lines,
        refl,
        n,
        subst (λ (xs : List ℕ). n < length xs) bytes-are short,
        subst (λ (xs : List ℕ). Appends before.sink.written sink.written (concat t.lines ++ take n xs)) bytes-are
            (Appends-trans before.sink.written old.sink.written sink.written (concat t.lines) (take n now.text.bytes) t.written put),
        subst (λ (m : ℕ). Rose m sink.faults) t.writes rose,
      );
      counted = t.counted;
    }
