-- What a reader of entries does to its source.
use Rattle.std.specs.Prelude.{◌≡◌, ℕ, ◌<◌, ◌≤◌, List, [], ◌++◌, length, Option, None, Some, Result, Ok, Err}
use Rattle.std.specs.Result.{result_ok}
use Rattle.io_edge.specs.Outside.{Input}
use Rattle.io_edge.specs.Allowance.{AllowanceState, TakesOctets, Paused}
use Rattle.io_edge.specs.declared.allowance.Pause.TheVariants as pause
use Rattle.conf_file.specs.declared.answers.Entry.{Entry}
use Rattle.conf_file.specs.declared.answers.Entry.TheVariants as entry
use Rattle.conf_file.specs.declared.answers.EntryWhy.{EntryWhy}
use Rattle.conf_file.specs.declared.answers.EntryWhy.TheVariants.{Header, Kind, Lane, Step, Order}
use Rattle.conf_file.specs.declared.answers.EntryEnd.{EntryEnd}
use Rattle.conf_file.specs.declared.answers.EntryEnd.TheVariants.{Bad, Cut, Fault, Limit}
use Rattle.conf_file.specs.Header.{header_of, header_size, HasLanes, IsNoHeader}
use Rattle.conf_file.specs.Entries.{Content, Packet, Chair, Tick, End, SpellsEntry, IsWrong, IsPartEntry}

-- a reader, as its callers see it: the octets that it has taken and may take, and the lanes of the conference while
-- further entries may be read
pub record ReaderState : Type 0 where
  pub allowance : AllowanceState
  pub lanes : Option ℕ

-- what an entry that was read says
abbrev pub content_of : Entry → Content
content_of (entry.Packet lane bytes) = Packet lane bytes.now
content_of (entry.Order command) = Chair command
content_of (entry.Step step) = Tick step
content_of entry.End = End

abbrev pub entry_shown : Result Entry EntryEnd → Result Content EntryEnd
entry_shown (Ok entry) = Ok (content_of entry)
entry_shown (Err end) = Err end

-- why no octet more was taken
abbrev pub GaveNoMore : EntryEnd → (before after : Input) → AllowanceState → Type 0
GaveNoMore (Bad place why) before after allowance = ⊥
-- the source is at its end; the place is the number of octets taken in all
GaveNoMore (Cut place) before after allowance = (place ≡ allowance.taken) × Paused pause.End before after allowance
GaveNoMore Limit before after allowance = Paused pause.Limit before after allowance
GaveNoMore Fault before after allowance = Paused pause.Fault before after allowance

-- octets that may be taken behind the field at fault: the length of a packet is asked for together with its lane
abbrev pub behind_fault : EntryWhy → ℕ
behind_fault Header = 0
behind_fault Kind = 0
behind_fault Lane = 2
behind_fault Step = 0
behind_fault (Order fault) = 0

-- no read failed, but at that length
abbrev pub MayFailBehind : EntryWhy → (before after : Input) → Type 0
MayFailBehind Header before after = after.faults ≡ before.faults
MayFailBehind Kind before after = after.faults ≡ before.faults
MayFailBehind Lane before after = Unit {0}
MayFailBehind Step before after = after.faults ≡ before.faults
MayFailBehind (Order fault) before after = after.faults ≡ before.faults

-- what a call answers, by the octets that it took and the place of the first of them
abbrev pub AnswersEntry : ℕ → Result Content EntryEnd → List ℕ → ℕ → (before after : Input) → AllowanceState → Type 0
-- a whole entry was taken and no octet more
AnswersEntry lanes (Ok content) took first before after allowance =
    SpellsEntry lanes content took × (after.faults ≡ before.faults)
-- no entry begins there
AnswersEntry lanes (Err (Bad place why)) took first before after allowance =
    (place ≡ first) × ((rest : List ℕ) × IsWrong lanes why took rest × (length rest ≤ behind_fault why))
    × MayFailBehind why before after
-- an entry began, and could not be read to its end
AnswersEntry lanes (Err (Cut place)) took first before after allowance =
    IsPartEntry lanes took × GaveNoMore (Cut place) before after allowance
AnswersEntry lanes (Err Limit) took first before after allowance =
    IsPartEntry lanes took × GaveNoMore Limit before after allowance
AnswersEntry lanes (Err Fault) took first before after allowance =
    IsPartEntry lanes took × GaveNoMore Fault before after allowance

-- octets were taken that say, behind those of the entry that were taken before them, what is answered
pub record TakesBehind (front : List ℕ) (lanes first : ℕ) (before after : Input) (old new : AllowanceState)
    (result : Result Content EntryEnd) : Type 0 where
  pub took : List ℕ
  pub takes : TakesOctets before after old new took
  pub answer : AnswersEntry lanes result (front ++ took) first before after new

-- after an entry that is not the end, further ones may be read
abbrev pub lanes_after : ℕ → Result Content EntryEnd → Option ℕ
lanes_after lanes (Ok (Packet lane packet)) = Some lanes
lanes_after lanes (Ok (Chair command)) = Some lanes
lanes_after lanes (Ok (Tick step)) = Some lanes
lanes_after lanes (Ok End) = None
lanes_after lanes (Err end) = None

-- a call of a reader for the next entry
pub record ReadsEntry (lanes : ℕ) (before after : Input) (old new : ReaderState) (result : Result Content EntryEnd) :
    Type 0 where
  pub takes : TakesBehind [] lanes old.allowance.taken before after old.allowance new.allowance result
  pub lanes_left : new.lanes ≡ lanes_after lanes result

abbrev pub CallsEntry : (before after : Input) → (old new : ReaderState) → Result Content EntryEnd → Type 0
CallsEntry before after old new result =
    (lanes : ℕ) → old.lanes ≡ Some lanes → ReadsEntry lanes before after old new result

-- what the call for the header answers, by the octets that it took
abbrev pub AnswersHeader : Result ℕ EntryEnd → List ℕ → (before after : Input) → AllowanceState → Type 0
-- a header was taken and no octet more
AnswersHeader (Ok lanes) took before after allowance =
    (took ≡ header_of lanes) × HasLanes lanes × (after.faults ≡ before.faults)
-- as many octets as a header has were taken, and are none
AnswersHeader (Err (Bad place why)) took before after allowance =
    (place ≡ 0) × (why ≡ Header) × (length took ≡ header_size) × IsNoHeader took × (after.faults ≡ before.faults)
-- fewer were taken
AnswersHeader (Err (Cut place)) took before after allowance =
    (length took < header_size) × GaveNoMore (Cut place) before after allowance
AnswersHeader (Err Limit) took before after allowance =
    (length took < header_size) × GaveNoMore Limit before after allowance
AnswersHeader (Err Fault) took before after allowance =
    (length took < header_size) × GaveNoMore Fault before after allowance

pub record TakesFileHeader (before after : Input) (old new : AllowanceState) (result : Result ℕ EntryEnd) : Type 0 where
  pub took : List ℕ
  pub takes : TakesOctets before after old new took
  pub answer : AnswersHeader result took before after new

-- a call of a reader for the header: the lanes are those of the conference, where there is a header
pub record CallsStart (before after : Input) (old new : ReaderState) (result : Result ℕ EntryEnd) : Type 0 where
  pub header : TakesFileHeader before after old.allowance new.allowance result
  pub lanes : new.lanes ≡ result_ok result
