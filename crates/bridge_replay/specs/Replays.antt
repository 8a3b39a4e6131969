-- What a run of the job `replay` did: from the octets that it took, through the history that they say, to the octets that it
-- wrote.
use Rattle.std.specs.Prelude.{◌≡◌, ◌⊎◌, ℕ, ◌<◌, ◌≤◌, Some, List, [], ◌∷◌, ◌++◌, length}
use Rattle.std.specs.Io.KnownBytes.{Consumes, Appends, IsAtEnd}
use Rattle.bridge_replay.specs.declared.ends.ReplayEnd.{ReplayEnd}
use Rattle.bridge_replay.specs.declared.ends.ReplayStop.{ReplayStop}
use Rattle.bridge_replay.specs.declared.ends.ReplayStop.TheVariants.{Done, ReadFault, WriteFault, Cut, BadRecord, Limit, NoMemory}
use Rattle.bridge_replay.specs.FileHistory.{oldest_first, IsHistory}
use Rattle.bridge_replay.specs.ReadingBack.{AreSettings, GiveThePictures}
use Rattle.cif_pack.specs.declared.packer.Settings.{Settings}
use Rattle.cif_pack.specs.Packets.{out}
use Rattle.cif_pack.specs.PicturesWritten.{picture_at, pictures_written}
use Rattle.cif_pack.specs.State.{HasFront}
use Rattle.cif_pack.specs.Tallies.{nothing_counted, tally_of}
use Rattle.conf_file.specs.declared.answers.EntryWhy.{EntryWhy}
use Rattle.conf_file.specs.declared.answers.EntryWhy.TheVariants.{Header}
use Rattle.conf_file.specs.Entries.{Content, End, E, IsWrong}
use Rattle.conf_file.specs.File.{Whole, WrongAt, CutAt, Conference, WrongHeader, CutHeader, IsFile, HasRead}
use Rattle.conf_file.specs.Header.{header_of, header_size, HasLanes}
use Rattle.conf_file.specs.Reading.{behind_fault, MayFailBehind}
use Rattle.io_edge.specs.Causes.{Rose}
use Rattle.io_edge.specs.Outside.{Input, Output, Outside, NoReadFails, NoWriteFails}
use Rattle.pel_model.specs.declared.note.TickNote.{TickNote}
use Rattle.pel_model.specs.Headline.{Headline}
use Rattle.pel_model.specs.History.{History, Tick}
use Rattle.pel_model.specs.Legal.{Legal}
use Rattle.pel_model.specs.Records.{Picture}
use Rattle.rtp_wire.specs.Frames.{IsStream}

-- ---- a file whose entries were read

-- the octets go up to an end entry, the last of these entries, and before it stand the header and the others
abbrev pub EndsThere : (octets : List ℕ) → (lanes : ℕ) → (entries : List Content) → Type 0
EndsThere octets lanes entries =
    (former : List Content) × (front : List ℕ) × (entries ≡ End ∷ former) × (octets ≡ front ++ E ∷ [])
    × HasRead front lanes (oldest_first former) (length front) []

-- From this place on stand the first field at fault of an entry and few octets more: none, but two where it is a lane, since
-- the length of a packet is asked for together with its lane. No read failed, but that of these two octets may have.
pub record EndsAtFault (octets : List ℕ) (lanes place : ℕ) (why : EntryWhy) (before after : Input) : Type 0 where
  pub front : List ℕ
  pub field : List ℕ
  pub rest : List ℕ
  pub cut : octets ≡ front ++ field
  pub there : place ≡ length front
  pub wrong : IsWrong lanes why field rest
  pub bound : length rest ≤ behind_fault why
  pub faults : MayFailBehind why before after

-- what the octets that were taken say, as a file of their own, and why no more were
abbrev pub StoppedFor : ReplayStop → (budget : ℕ) → (before after : Outside) → (octets : List ℕ) → (lanes : ℕ)
    → (entries : List Content) → Type 0
-- the last entry is the end, and no octet after it was taken
StoppedFor Done budget before after octets lanes entries =
    IsFile octets (Conference lanes (oldest_first entries) Whole)
    × EndsThere octets lanes entries × NoReadFails before after
-- the file ends before its end entry; the place is the number of its octets
StoppedFor (Cut place) budget before after octets lanes entries =
    IsFile octets (Conference lanes (oldest_first entries) (CutAt place)) × IsAtEnd after.source.left
    × (place < budget) × NoReadFails before after
-- after the entries no entry begins
StoppedFor (BadRecord place why) budget before after octets lanes entries =
    IsFile octets (Conference lanes (oldest_first entries) (WrongAt place why))
    × EndsAtFault octets lanes place why before.source after.source
-- all octets that may be taken were taken, and do not end with the end entry
StoppedFor Limit budget before after octets lanes entries =
    IsFile octets (Conference lanes (oldest_first entries) (CutAt budget)) × (length octets ≡ budget)
    × NoReadFails before after
-- the source failed before the end entry
StoppedFor ReadFault budget before after octets lanes entries =
    IsFile octets (Conference lanes (oldest_first entries) (CutAt (length octets)))
    × Rose before.source.faults after.source.faults
-- whole entries were taken
StoppedFor WriteFault budget before after octets lanes entries =
    HasRead octets lanes (oldest_first entries) (length octets) [] × NoReadFails before after
StoppedFor NoMemory budget before after octets lanes entries = ⊥

-- What was written: the packets of the picture of every tick of the history, in order, each in its frame. Where the sink
-- failed, it did so at the last step, a tick: what was written is a front of that and not all, and has all that comes before
-- the tick's own packets.
abbrev pub WroteTicks : ReplayStop → Settings → (before after : Outside) → (lanes : ℕ) → (history whole : History) → Type 0
WroteTicks WriteFault set before after lanes history whole =
    (note : TickNote) × (history ≡ Tick note ∷ whole)
    × HasFront set (pictures_written lanes whole) (picture_at lanes whole note) before.sink after.sink
WroteTicks _ set before after lanes history whole =
    (history ≡ whole)
    × Appends before.sink.written after.sink.written (out set 0 (pictures_written lanes history))
    × NoWriteFails before after

pub record Replays (set : Settings) (budget : ℕ) (before after : Outside) (end : ReplayEnd) : Type 0 where
  -- the octets that were taken, and no others were
  pub octets : List ℕ
  pub taken : Consumes before.source.left after.source.left octets
  pub within : length octets ≤ budget
  -- the number of lanes that they tell, their whole entries, the newest first, and what ends them
  pub lanes : ℕ
  pub entries : List Content
  pub stopped : StoppedFor end.stop budget before after octets lanes entries
  -- the history of these entries, which keeps the rules of a conference
  pub history : History
  pub steps : IsHistory lanes entries history
  pub legal : Legal lanes history
  -- what was written is the packets of its ticks; those of `whole` were written to their end
  pub whole : History
  pub output : WroteTicks end.stop set before after lanes history whole
  pub counted : end.tally ≡ tally_of set lanes history whole
  -- at every tick: a legal CIF picture is written, and each place shows what its sender's own decoder shows after the
  -- picture that was taken, or what it showed before
  pub headline : Headline lanes history

-- ---- a file of which no entry was read

-- why none was
abbrev pub StoppedEarly : ReplayStop → (budget : ℕ) → (before after : Outside) → (octets : List ℕ) → Type 0
StoppedEarly (Cut place) budget before after octets =
    IsFile octets (CutHeader place) × IsAtEnd after.source.left × (place < budget) × NoReadFails before after
StoppedEarly (BadRecord place why) budget before after octets =
    IsFile octets WrongHeader × (length octets ≡ header_size) × (place ≡ 0) × (why ≡ Header) × NoReadFails before after
StoppedEarly Limit budget before after octets =
    IsFile octets (CutHeader budget) × NoReadFails before after
StoppedEarly ReadFault budget before after octets =
    IsFile octets (CutHeader (length octets)) × Rose before.source.faults after.source.faults
-- there was not the memory that the conference needs: nothing was taken, or the header, which tells how much it needs
StoppedEarly NoMemory budget before after octets =
    ((octets ≡ []) ⊎ ((lanes : ℕ) × (octets ≡ header_of lanes) × HasLanes lanes))
    × NoReadFails before after
StoppedEarly Done budget before after octets = ⊥
StoppedEarly WriteFault budget before after octets = ⊥

pub record NoneRead (budget : ℕ) (before after : Outside) (end : ReplayEnd) : Type 0 where
  pub octets : List ℕ
  pub taken : Consumes before.source.left after.source.left octets
  pub within : length octets ≤ budget
  pub stopped : StoppedEarly end.stop budget before after octets
  -- nothing was written
  pub written : after.sink ≡ before.sink
  pub counted : end.tally ≡ nothing_counted

-- ---- every run

abbrev pub ReplayEnds : Settings → (budget : ℕ) → (before after : Outside) → ReplayEnd → Type 0
ReplayEnds set budget before after end = NoneRead budget before after end ⊎ Replays set budget before after end

-- Where the source tells a file that goes up to its end entry within the budget, and neither the source nor the sink fails,
-- the run is done, or wants memory.
abbrev pub DoneWhereWhole : (budget : ℕ) → (before after : Outside) → ReplayStop → Type 0
DoneWhereWhole budget before after stop =
    (file more : List ℕ) (lanes : ℕ) (list : List Content) → before.source.left ≡ Some (file ++ more)
    → IsFile file (Conference lanes list Whole) → length file ≤ budget
    → (Rose before.source.faults after.source.faults → ⊥) → (Rose before.sink.faults after.sink.faults → ⊥)
    → (stop ≡ Done) ⊎ (stop ≡ NoMemory)

abbrev pub DoneOnWholeFile : (budget : ℕ) → (before after : Outside) → ReplayEnd → Type 0
DoneOnWholeFile budget before after end = DoneWhereWhole budget before after end.stop

-- ---- what is written reads back

-- However the octets of these pictures are cut into packets again, within the settings of a packer: the packets give a
-- depacketiser one picture for each of them, in order, with its text, nothing is left over, and nothing is lost.
abbrev pub ReadsBack : Settings → List (ℕ × Picture) → Type 0
ReadsBack s pictures =
    AreSettings s → (packets : List (List ℕ)) (rest : List ℕ) → IsStream (out s 0 pictures) packets rest
    → GiveThePictures pictures packets rest

-- what is written for a history that keeps the rules
abbrev pub IsReadBack : Settings → Type 0
IsReadBack set =
    (lanes : ℕ) (history : History) → Legal lanes history → ReadsBack set (pictures_written lanes history)
