-- Inner contracts alone use this; nothing here has to be believed.
-- A conference of which is told, and what an entry makes of it and of the page of its lines.
use Rattle.std.specs.Prelude.{◌≡◌, ℕ, ◌+◌, ◌*◌, ◌^◌, ◌<◌, ◌≤◌, Bool, false, Option, None, Some, List, [], ◌∷◌, ◌++◌, length, map, option_map, slice_get, IsTrue, Result, Ok, Err, IfOk}
use Rattle.std.specs.List.{concat}
use Rattle.std.specs.Io.KnownBytes.{Consumes, Appends}
use Rattle.arrayvec.specs.ArrayString.{array_string_len}
use Rattle.bridge_replay.specs.declared.account.Account.{Account}
use Rattle.bridge_replay.specs.declared.account.Page.{Page}
use Rattle.bridge_replay.specs.declared.ends.ReplayStop.{ReplayStop}
use Rattle.bridge_replay.specs.declared.idle.Idle.{Idle}
use Rattle.bridge_replay.specs.declared.telling.LineTally.{LineTally}
use Rattle.bridge_replay.specs.Account.{why_idle, AreEntryLines, AreLinesOf}
use Rattle.bridge_replay.specs.FileHistory.{oldest_first, packets_in, IsHistory}
use Rattle.bridge_replay.specs.Lines.{lines_of_events}
use Rattle.bridge_replay.specs.Replays.{EndsThere}
use Rattle.bridge_replay.specs.Telling.{TellsHistory, counted_lines}
use Rattle.bridge_replay.specs.UnderWay.{most_steps, IsOpen, AreFed, StaysOpen}
use Rattle.chair_words.specs.Line.{has_sayable_lane}
use Rattle.conf_file.specs.Entries.{Content, Packet, Chair, Tick as TickEntry, End}
use Rattle.conf_file.specs.File.{Whole, Conference as FileOf, IsFile, HasRead}
use Rattle.conf_file.specs.Reading.{ReaderState}
use Rattle.h261_pic.specs.Coded.{Coding}
use Rattle.hall_core.specs.Hall.{lanes_of}
use Rattle.hall_core.specs.Stands.{StandsFor, IsQcifHand}
use Rattle.io_edge.specs.Outside.{Outside}
use Rattle.io_edge.specs.Ticks.{IsStep}
use Rattle.pel_model.specs.declared.Format.TheVariants.{Qcif}
use Rattle.pel_model.specs.History.{History, Step, Post, Gap, arrivals, has_ended}
use Rattle.pel_model.specs.Legal.{Legal}
use Rattle.rtp_h261.specs.declared.depack.Fed.{Fed}
use Rattle.rtp_h261.specs.declared.depack.Unit.{Unit as Ended}
use Rattle.rtp_h261.specs.Depack.{HasUnit, AnswersGiven, given_behind}
use Rattle.rtp_h261.specs.Events.{Event, Lost, Shown, Refused, AreUnitEvents}
use Rattle.rtp_h261.specs.OneByOne.{last_member}
use Rattle.rtp_h261.specs.Packets.{piece_of}
use Rattle.rtp_h261.specs.Units.{Piece}

-- ---- pages

-- a page has so many lines at most, each of 1,024 octets at most
pub record HasFewLines (most : ℕ) (page : Page) : Type 0 where
  pub short : array_string_len page.text ≤ 1024 * most
  pub few : page.lines ≤ most

-- these lines were added
pub record Adds (lines : List (List ℕ)) (old new : Page) : Type 0 where
  pub bytes : new.text.bytes ≡ old.text.bytes ++ concat lines
  pub counted : new.lines ≡ old.lines + length lines

-- one more at most
pub record GrowsByALine (old new : Page) : Type 0 where
  pub text : array_string_len new.text ≤ array_string_len old.text + 1024
  pub lines : new.lines ≤ old.lines + 1

-- ---- lanes

-- so many steps came in each lane
pub record AreCounted (lanes : ℕ) (history : History) (counts : List ℕ) : Type 0 where
  pub count : length counts ≡ lanes
  pub each : (c : ℕ) → c < lanes → slice_get counts c ≡ Some (length (arrivals history c))

-- one more step may be counted in this lane
abbrev pub CanCount : ℕ → List ℕ → Type 0
CanCount lane counts =
    (lanes : ℕ) × (history : History) × (lane < lanes) × (length history < 2 ^ 60) × AreCounted lanes history counts

-- the number of the packet that counted last
abbrev pub last_number : List (List ℕ) → Option ℕ
last_number packets = option_map (λ (p : Piece). p.number) (last_member None (map piece_of packets))

-- which is that of each lane
pub record AreLasts (lanes : ℕ) (entries : List Content) (lasts : List (Option ℕ)) : Type 0 where
  pub count : length lasts ≡ lanes
  pub each : (c : ℕ) → c < lanes → slice_get lasts c ≡ Some (last_number (packets_in entries c))

-- a packet of a lane was judged
pub record Judges (lane : ℕ) (packet : List ℕ) (old new : List (Option ℕ)) (idle : Option Idle) (lanes : ℕ)
    (entries : List Content) : Type 0 where
  pub idle_is : idle ≡ why_idle (packets_in entries lane) packet
  pub lasts : AreLasts lanes (Packet lane packet ∷ entries) new

-- ---- what is followed

abbrev pub step_in : ℕ → Event → Step
step_in lane Lost = Gap lane
step_in lane (Shown p) = Post lane p
step_in lane (Refused place why) = Gap lane

-- the history with what happened in a lane
abbrev pub with_events : ℕ → List Event → History → History
with_events lane [] history = history
with_events lane (e ∷ events) history = with_events lane events (step_in lane e ∷ history)

-- the hall and the counts follow a legal history
pub record HallFollows (lanes : ℕ) (history : History) (a : Account) : Type 0 where
  pub stands : StandsFor a.hall history
  pub lanes_are : lanes_of a.hall ≡ lanes
  pub limit : a.hall.limit ≡ most_steps
  pub legal : Legal lanes history
  pub counts : AreCounted lanes history a.arrivals.items

-- one step may follow in this lane
pub record MayCome (lane : ℕ) (a : Account) : Type 0 where
  pub lanes : ℕ
  pub history : History
  pub below : lane < lanes
  pub follows : HallFollows lanes history a
  pub open_is : IsOpen 1 history

-- and its line be added
abbrev pub MayComeOn : ℕ → Account → Page → Type 0
MayComeOn lane a page = MayCome lane a × HasFewLines 2 page

-- what stays
pub record IsSameAccount (old new : Account) : Type 0 where
  pub depacks : new.depacks.items ≡ old.depacks.items
  pub lasts : new.lasts.items ≡ old.lasts.items

-- these things happened in a lane, one at most, and their lines were added
pub record TellsIn (place lane : ℕ) (events : List Event) (old new : Account) (page now : Page) : Type 0 where
  pub follows : (lanes : ℕ) (history : History) → HallFollows lanes history old → HallFollows lanes (with_events lane events history) new
  pub lines :
      (lanes : ℕ) (history : History) → HallFollows lanes history old → lane < lanes
      → Adds (lines_of_events place lane (length (arrivals history lane) + 1) events) page now
  pub beside : IsSameAccount old new
  pub hand : new.hand ≡ old.hand
  pub grows : GrowsByALine page now

-- a unit came in a lane, whose picture stands in a box
abbrev pub TellsUnit : (place lane : ℕ) → Option Ended → Coding → (old new : Account) → (page now : Page) → Type 0
TellsUnit place lane unit box old new page now =
    (bits : Option (List Bool)) (former : Coding) → HasUnit Qcif bits unit former box
    → (events : List Event) × AreUnitEvents Qcif bits events × TellsIn place lane events old new page now

-- ---- entries

-- the conference after entries and their history
pub record Keeps (lanes : ℕ) (entries : List Content) (history : History) (a : Account) : Type 0 where
  pub steps : IsHistory lanes entries history
  pub follows : HallFollows lanes history a
  pub fed : AreFed lanes entries a.depacks.items
  pub lasts : AreLasts lanes entries a.lasts.items
  pub hand : IsQcifHand a.hand

-- the lane of the entry is there, its step is one, and its command can be said
abbrev pub CanBeTold : ℕ → Content → Type 0
CanBeTold lanes (Packet lane packet) = lane < lanes
CanBeTold lanes (Chair command) = IsTrue (has_sayable_lane command)
CanBeTold lanes (TickEntry step) = IsStep step
CanBeTold lanes End = Unit {0}

pub record MayTell (content : Content) (a : Account) : Type 0 where
  pub lanes : ℕ
  pub entries : List Content
  pub history : History
  pub keeps : Keeps lanes entries history a
  pub room : IsOpen 2 history
  pub fits : CanBeTold lanes content

-- it may be told on this page
abbrev pub MayTellOn : Content → Account → Page → Type 0
MayTellOn content a page = MayTell content a × HasFewLines 0 page

-- a packet was heard in a lane: what it gives, and why it gives nothing where it does not count
pub record HearsPacket (lane : ℕ) (packet : List ℕ) (fed : Fed) (idle : Option Idle) (old new : Account) (before now : Coding)
    (lanes : ℕ) (entries : List Content) : Type 0 where
  pub given : AnswersGiven Qcif (given_behind (packets_in entries lane) packet) fed before now
  pub idle_is : idle ≡ why_idle (packets_in entries lane) packet
  pub fed_is : AreFed lanes (Packet lane packet ∷ entries) new.depacks.items
  pub lasts : AreLasts lanes (Packet lane packet ∷ entries) new.lasts.items

-- what became of a conference by an entry at this place, and its lines
pub record TookEntry (lanes place : ℕ) (entries : List Content) (content : Content) (history : History)
    (new : Account) (page now : Page) : Type 0 where
  pub after : History
  pub keeps : Keeps lanes (content ∷ entries) after new
  pub few : length after ≤ length history + 2
  pub going : StaysOpen content after
  pub lines : List (List ℕ)
  pub are : AreEntryLines lanes place entries content history after lines
  pub adds : Adds lines page now
  pub short : HasFewLines 3 now

abbrev pub TellsEntry : (place : ℕ) → Content → (old new : Account) → (page now : Page) → Type 0
TellsEntry place content old new page now =
    (lanes : ℕ) (entries : List Content) (history : History) → Keeps lanes entries history old → IsOpen 2 history
    → CanBeTold lanes content → TookEntry lanes place entries content history new page now

-- ---- a file

-- the octets that were taken are the header and these whole entries, and the end was read, or further entries may be
abbrev pub HasReadTo : Option ℕ → (lanes : ℕ) → List Content → History → List ℕ → Type 0
HasReadTo None lanes entries history octets =
    IsFile octets (FileOf lanes (oldest_first entries) Whole) × EndsThere octets lanes entries
HasReadTo (Some n) lanes entries history octets =
    (n ≡ lanes) × HasRead octets lanes (oldest_first entries) (length octets) [] × (has_ended history ≡ false)

-- what was told of a file up to here, where these octets were taken since `before`
pub record ToldSoFar (budget : ℕ) (before now : Outside) (reader : ReaderState) (a : Account) (tally : LineTally) : Type 0 where
  pub lanes : ℕ
  pub entries : List Content
  pub history : History
  pub octets : List ℕ
  pub lines : List (List ℕ)
  pub keeps : Keeps lanes entries history a
  pub told : AreLinesOf octets lanes entries history lines
  pub written : Appends before.sink.written now.sink.written (concat lines)
  pub writes : now.sink.faults ≡ before.sink.faults
  pub counted : tally ≡ counted_lines lines
  pub budget_is : reader.allowance.budget ≡ budget
  pub least : budget ≤ 2 ^ 40
  pub taken : reader.allowance.taken ≡ length octets
  pub within : length octets ≤ budget
  pub bytes : Consumes before.source.left now.source.left octets
  pub faults : now.source.faults ≡ before.source.faults
  pub reads : HasReadTo reader.lanes lanes entries history octets
  pub room : length history ≤ 2 * length octets
  pub few_lines : tally.lines ≤ 4 * length octets
  pub few_octets : tally.octets ≤ 4096 * length octets

-- something was told since some moment
abbrev pub IsTelling : Outside → ReaderState → Account → LineTally → Type 0
IsTelling now reader a tally = (budget : ℕ) × (before : Outside) × ToldSoFar budget before now reader a tally

-- what a step leaves: more is told, or it has stopped
abbrev pub TellsTo : {T : Type 0} → (budget : ℕ) → (before now : Outside) → ReaderState → Account → LineTally → Result T ReplayStop → Type 0
TellsTo budget before now reader a tally (Ok _) = ToldSoFar budget before now reader a tally
TellsTo budget before now reader a tally (Err why) = TellsHistory budget before now (record { stop = why; tally = tally })

-- a step takes octets within the budget, where more is told
pub record TellsFurther {T : Type 0} (old new : Outside) (was now : ReaderState) (a b : Account) (tally then : LineTally)
    (result : Result T ReplayStop) : Type 0 where
  pub steps : (budget : ℕ) (before : Outside) → ToldSoFar budget before old was a tally → TellsTo budget before new now b then result
  pub moves : IfOk result (λ _. was.allowance.taken < now.allowance.taken)
  pub within : IfOk result (λ _. now.allowance.taken ≤ was.allowance.budget)
  pub kept : now.allowance.budget ≡ was.allowance.budget
