-- A run over a valid file whose source and sink do not fail is done, or wants memory.
use Rattle.std.proofs.Common.{◌≡◌, ◌≢◌, ◌⊎◌, ⊎_elim, ℕ, ◌≤◌, List, ◌++◌, Option, None, Some, length, take, drop, inl, inr, refl, sym, ap, subst, ◌∙◌, arith, append-nil, take-append-drop}
use Rattle.std.proofs.Math.Seq.{take-append_seam}
use Rattle.std.proofs.lemmas.List.{take-append-le}
use Rattle.std.specs.Io.KnownBytes.{Consumes, IsAtEnd}
use Rattle.bridge_replay.specs.declared.ends.ReplayEnd.{ReplayEnd}
use Rattle.bridge_replay.specs.declared.ends.ReplayStop.{ReplayStop}
use Rattle.bridge_replay.specs.declared.ends.ReplayStop.TheVariants.{Done, ReadFault, WriteFault, Cut, BadRecord, Limit, NoMemory}
use Rattle.bridge_replay.specs.Replays.{StoppedFor, WroteTicks, Replays, StoppedEarly, NoneRead, ReplayEnds, DoneWhereWhole, DoneOnWholeFile}
use Rattle.bridge_replay.specs.declared.telling.HistoryEnd.{HistoryEnd}
use Rattle.bridge_replay.specs.Telling.{StopsTelling, WroteLines, TellsHistory, TellsNothing, HistoryEnds}
use Rattle.io_edge.specs.Outside.{Outside}
use Rattle.bridge_replay.specs.FileHistory.{oldest_first}
use Rattle.cif_pack.specs.declared.packer.Settings.{Settings}
use Rattle.conf_file.specs.declared.answers.EntryWhy.{EntryWhy}
use Rattle.conf_file.specs.Entries.{Content}
use Rattle.conf_file.specs.File.{Said, Whole, WrongAt, CutAt, Conference, WrongHeader, CutHeader, IsFile, IsDecided, LawOfOneReading, LawOfFileFronts}
use Rattle.io_edge.specs.Causes.{Rose}

-- of what was told, these octets were taken, and the others are left
left-of : (file octets : List ℕ) (left : Option (List ℕ)) → Consumes (Some file) left octets → (rest : List ℕ) × (left ≡ Some rest) × (file ≡ octets ++ rest)
left-of file octets None taken = absurd taken
left-of file octets (Some rest) taken = (rest, refl, taken)

all-of : (file octets : List ℕ) (left : Option (List ℕ)) → Consumes (Some file) left octets → IsAtEnd left → octets ≡ file
all-of file octets None taken end = absurd taken
all-of file octets (Some rest) taken end = sym (taken ∙ ap (λ (xs : List ℕ). octets ++ xs) end ∙ append-nil octets)

-- the whole file is a front of as many octets or more
longer : (file more octets rest : List ℕ) → file ++ more ≡ octets ++ rest → length file ≤ length octets → octets ≡ file ++ drop (length file) octets
longer file more octets rest same short =
    sym (take-append-drop (length file) octets) ∙ ap (λ (xs : List ℕ). xs ++ drop (length file) octets)
    (sym (take-append-le (length file) octets rest short) ∙ ap (take (length file)) (sym same) ∙ take-append_seam file more)

not-cut : (lanes lanes' : ℕ) (list list' : List Content) (n : ℕ) → Conference lanes list Whole ≡ Conference lanes' list' (CutAt n) → ⊥
not-cut lanes lanes' list list' n e = cc

not-wrong : (lanes lanes' : ℕ) (list list' : List Content) (n : ℕ) (why : EntryWhy) → Conference lanes list Whole ≡ Conference lanes' list' (WrongAt n why) → ⊥
not-wrong lanes lanes' list list' n why e = cc

not-header : (lanes : ℕ) (list : List Content) → Conference lanes list Whole ≡ WrongHeader → ⊥
not-header lanes list e = cc

not-front : (lanes : ℕ) (list : List Content) (n : ℕ) → Conference lanes list Whole ≡ CutHeader n → ⊥
not-front lanes list n e = cc

module _ (one_reading : LawOfOneReading) (fronts_decide : LawOfFileFronts) (file more : List ℕ) (lanes : ℕ) (list : List Content) (is : IsFile file (Conference lanes list Whole)) where
  -- whatever follows the file
  whole-with : (xs : List ℕ) → IsFile (file ++ xs) (Conference lanes list Whole)
  whole-with xs = fronts_decide file xs (Conference lanes list Whole) tt is

  -- all octets were taken, and say something else
  all-say : (octets : List ℕ) (left : Option (List ℕ)) (said : Said) → Consumes (Some (file ++ more)) left octets → IsAtEnd left → IsFile octets said
      → Conference lanes list Whole ≡ said
  all-say octets left said taken end says =
      one_reading (file ++ more) (Conference lanes list Whole) said (whole-with more) (subst (λ (xs : List ℕ). IsFile xs said) (all-of (file ++ more) octets left taken end) says)

  -- octets were taken that decide something else
  front-says : (octets : List ℕ) (left : Option (List ℕ)) (said : Said) → IsDecided said → Consumes (Some (file ++ more)) left octets → IsFile octets said
      → Conference lanes list Whole ≡ said
  front-says octets left said decided taken says =
      let rest = left-of (file ++ more) octets left taken in
      one_reading (file ++ more) (Conference lanes list Whole) said (whole-with more)
      (subst (λ (xs : List ℕ). IsFile xs said) (sym rest.2) (fronts_decide octets rest.0 said decided says))

  -- as many octets were taken as the file has, or more, and say something else
  long-says : (octets : List ℕ) (left : Option (List ℕ)) (said : Said) → length file ≤ length octets → Consumes (Some (file ++ more)) left octets → IsFile octets said
      → Conference lanes list Whole ≡ said
  long-says octets left said long taken says =
      let rest = left-of (file ++ more) octets left taken in
      one_reading octets (Conference lanes list Whole) said
      (subst (λ (xs : List ℕ). IsFile xs (Conference lanes list Whole)) (sym (longer file more octets rest.0 rest.2 long)) (whole-with (drop (length file) octets))) says

  module _ (budget : ℕ) (before after : Outside) (told : before.source.left ≡ Some (file ++ more)) (short : length file ≤ budget)
      (no_read : Rose before.source.faults after.source.faults → ⊥) (no_write : Rose before.sink.faults after.sink.faults → ⊥) where
    consumed : (octets : List ℕ) → Consumes before.source.left after.source.left octets → Consumes (Some (file ++ more)) after.source.left octets
    consumed octets taken = subst (λ (l : Option (List ℕ)). Consumes l after.source.left octets) told taken

    by-stop : (s : ReplayStop) (octets : List ℕ) (l : ℕ) (entries : List Content) → Consumes before.source.left after.source.left octets
        → StoppedFor s budget before after octets l entries → (s ≢ WriteFault) → (s ≡ Done) ⊎ (s ≡ NoMemory)
    by-stop Done octets l entries taken stopped fine = inl refl
    by-stop ReadFault octets l entries taken stopped fine = absurd (no_read stopped.1)
    by-stop WriteFault octets l entries taken stopped fine = absurd (fine refl)
    by-stop (Cut place) octets l entries taken stopped fine =
        absurd (not-cut lanes l list (oldest_first entries) place (all-say octets after.source.left (Conference l (oldest_first entries) (CutAt place)) (consumed octets taken) stopped.1 stopped.0))
    by-stop (BadRecord place why) octets l entries taken stopped fine =
        absurd (not-wrong lanes l list (oldest_first entries) place why (front-says octets after.source.left (Conference l (oldest_first entries) (WrongAt place why)) tt (consumed octets taken) stopped.0))
    by-stop Limit octets l entries taken stopped fine =
        absurd (not-cut lanes l list (oldest_first entries) budget
        (long-says octets after.source.left (Conference l (oldest_first entries) (CutAt budget)) (omega (arith, short, stopped.1)) (consumed octets taken) stopped.0))
    by-stop NoMemory octets l entries taken stopped fine = inr refl

    by-early : (s : ReplayStop) (octets : List ℕ) → Consumes before.source.left after.source.left octets → StoppedEarly s budget before after octets → (s ≡ Done) ⊎ (s ≡ NoMemory)
    by-early Done octets taken stopped = inl refl
    by-early ReadFault octets taken stopped = absurd (no_read stopped.1)
    by-early WriteFault octets taken stopped = absurd stopped
    by-early (Cut place) octets taken stopped =
        absurd (not-front lanes list place (all-say octets after.source.left (CutHeader place) (consumed octets taken) stopped.1 stopped.0))
    by-early (BadRecord place why) octets taken stopped = absurd (not-header lanes list (front-says octets after.source.left WrongHeader tt (consumed octets taken) stopped.0))
    by-early Limit octets taken stopped =
        absurd (not-front lanes list budget (long-says octets after.source.left (CutHeader budget) (omega (arith, short, stopped.0.0)) (consumed octets taken) stopped.0))
    by-early NoMemory octets taken stopped = inr refl

pub complete : LawOfOneReading → LawOfFileFronts → (set : Settings) (budget : ℕ) (before after : Outside) (end : ReplayEnd)
    → ReplayEnds set budget before after end → DoneOnWholeFile budget before after end
complete one fronts set budget before after end ends file more lanes list told is short no_read no_write =
    ⊎_elim (λ (n : NoneRead budget before after end). by-early one fronts file more lanes list is budget before after told short no_read no_write end.stop n.octets n.taken n.stopped)
    (λ (r : Replays set budget before after end).
    by-stop one fronts file more lanes list is budget before after told short no_read no_write end.stop r.octets r.lanes r.entries r.taken r.stopped
    (λ (failed : end.stop ≡ WriteFault). no_write (subst (λ (s : ReplayStop). WroteTicks s set before after r.lanes r.history r.whole) failed r.output).2.failed)) ends

-- the same of a telling
pub complete-telling : LawOfOneReading → LawOfFileFronts → (budget : ℕ) (before after : Outside) (end : HistoryEnd)
    → HistoryEnds budget before after end → DoneWhereWhole budget before after end.stop
complete-telling one fronts budget before after end ends file more lanes list told is short no_read no_write =
    ⊎_elim (λ (n : TellsNothing budget before after end). by-early one fronts file more lanes list is budget before after told short no_read no_write end.stop n.octets n.taken n.stopped)
    (λ (r : TellsHistory budget before after end). by-telling end.stop r.octets r.lanes r.entries r.taken r.stopped
    (λ (failed : end.stop ≡ WriteFault). no_write (subst (λ (s : ReplayStop). WroteLines s before.sink after.sink r.lines r.whole) failed r.output).5)) ends
  where
    as-replay : (s : ReplayStop) (octets : List ℕ) (l : ℕ) (entries : List Content) → StopsTelling s budget before after octets l entries → s ≢ WriteFault
        → StoppedFor s budget before after octets l entries
    as-replay Done octets l entries stopped fine = stopped
    as-replay ReadFault octets l entries stopped fine = stopped
    as-replay WriteFault octets l entries stopped fine = absurd (fine refl)
    as-replay (Cut place) octets l entries stopped fine = stopped
    as-replay (BadRecord place why) octets l entries stopped fine = stopped
    as-replay Limit octets l entries stopped fine = stopped
    as-replay NoMemory octets l entries stopped fine = stopped

    by-telling : (s : ReplayStop) (octets : List ℕ) (l : ℕ) (entries : List Content) → Consumes before.source.left after.source.left octets
        → StopsTelling s budget before after octets l entries → s ≢ WriteFault → (s ≡ Done) ⊎ (s ≡ NoMemory)
    by-telling s octets l entries taken stopped fine =
        by-stop one fronts file more lanes list is budget before after told short no_read no_write s octets l entries taken (as-replay s octets l entries stopped fine) fine
