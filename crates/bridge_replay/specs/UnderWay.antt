-- Inner contracts alone use this; nothing here has to be believed.
-- A conference under way, after entries and their history.
use Rattle.std.specs.Prelude.{◌≡◌, ℕ, ◌+◌, ◌*◌, ◌^◌, ◌<◌, ◌≤◌, false, Bool, Option, None, Some, List, [], ◌∷◌, length, slice_get, Result, Ok, Err}
use Rattle.bridge_replay.specs.declared.conference.Conference.{Conference}
use Rattle.bridge_replay.specs.FileHistory.{packets_in, AfterUnit, IsHistory}
use Rattle.cif_pack.specs.declared.packer.Settings.{Settings}
use Rattle.cif_pack.specs.declared.tally.Tally.{Tally}
use Rattle.cif_pack.specs.PicturesWritten.{picture_at, pictures_written}
use Rattle.cif_pack.specs.State.{HasSent, HasFront}
use Rattle.cif_pack.specs.Tallies.{steps_counted, sent_of, tally_of}
use Rattle.conf_file.specs.Entries.{Content, Packet, Chair, Tick as TickEntry, End}
use Rattle.h261_pic.specs.Coded.{Coding}
use Rattle.hall_core.specs.Hall.{lanes_of}
use Rattle.hall_core.specs.Stands.{StandsFor, TakesInto, IsQcifHand}
use Rattle.io_edge.specs.declared.edges.Failed.{Failed}
use Rattle.io_edge.specs.Outside.{Output}
use Rattle.io_edge.specs.Ticks.{IsStep}
use Rattle.pel_model.specs.declared.Format.TheVariants.{Qcif, Cif}
use Rattle.pel_model.specs.declared.note.TickNote.{TickNote}
use Rattle.pel_model.specs.History.{History, Tick, has_ended}
use Rattle.pel_model.specs.Legal.{Legal}
use Rattle.rtp_h261.specs.declared.depack.Unit.{Unit as Ended}
use Rattle.rtp_h261.specs.Depack.{Held, HasUnit, WasFed}

-- the most steps of a conference
abbrev pub most_steps : ℕ
most_steps = 2 ^ 41

-- ---- steps

-- the tally counts these steps, whatever was sent
abbrev pub CountsSteps : History → Tally → Type 0
CountsSteps history tally =
    tally ≡ record (steps_counted history) { packets = tally.packets; octets = tally.octets }

-- the hall and the tally follow a legal history
pub record FollowsHistory (lanes : ℕ) (history : History) (c : Conference) : Type 0 where
  pub stands : StandsFor c.hall history
  pub lanes_are : lanes_of c.hall ≡ lanes
  pub limit : c.hall.limit ≡ most_steps
  pub legal : Legal lanes history
  pub counts : CountsSteps history c.tally

-- after a history so many steps may follow
pub record IsOpen (more : ℕ) (history : History) : Type 0 where
  pub going : has_ended history ≡ false
  pub room : length history + more ≤ most_steps

-- so many steps may follow
abbrev pub MayStep : ℕ → Conference → Type 0
MayStep more c = (lanes : ℕ) × (history : History) × FollowsHistory lanes history c × IsOpen more history

-- one step may follow, in this lane
abbrev pub MayStepIn : ℕ → Conference → Type 0
MayStepIn lane c = (lane < lanes_of c.hall) × MayStep 1 c

-- nothing changed but the hall, the tally of steps and the hand
pub record IsSameBeside (old new : Conference) : Type 0 where
  pub depacks : new.depacks.items ≡ old.depacks.items
  pub composed : new.composed ≡ old.composed
  pub packer : new.packer ≡ old.packer
  pub packets : new.tally.packets ≡ old.tally.packets
  pub octets : new.tally.octets ≡ old.tally.octets

-- which history is followed, and what stays
pub record Leads (next : History → History) (old new : Conference) : Type 0 where
  pub follows : (lanes : ℕ) (history : History) → FollowsHistory lanes history old → FollowsHistory lanes (next history) new
  pub beside : IsSameBeside old new
  pub hand : new.hand ≡ old.hand

-- the places took their pictures in a tick of so many steps
pub record PlacesTake (step : ℕ) (note : TickNote) (old new : Conference) : Type 0 where
  pub follows : (lanes : ℕ) (history : History) → FollowsHistory lanes history old → FollowsHistory lanes (Tick note ∷ history) new
  pub step_is : note.step ≡ step
  pub taken : TakesInto old.hall old.hand new.hand
  pub hand : IsQcifHand new.hand
  pub beside : IsSameBeside old new

-- what becomes of a history by a unit: it goes on as it should, by one step at most
pub record UnitGoes (lane : ℕ) (bits : Option (List Bool)) (lanes : ℕ) (history : History) (old new : Conference) : Type 0 where
  pub after : History
  pub is : AfterUnit lane bits history after
  pub follows : FollowsHistory lanes after new
  pub going : has_ended after ≡ false
  pub few : length after ≤ length history + 1
  pub more : length history ≤ length after
  pub silent : pictures_written lanes after ≡ pictures_written lanes history
  pub beside : IsSameBeside old new
  pub hand : new.hand ≡ old.hand

-- a unit comes in a lane, whose picture stands in a box
abbrev pub UnitComes : ℕ → Option Ended → (box : Coding) → (old new : Conference) → Type 0
UnitComes lane unit box old new =
    (bits : Option (List Bool)) (former : Coding) → HasUnit Qcif bits unit former box
    → (lanes : ℕ) (history : History) → FollowsHistory lanes history old → IsOpen 1 history
    → UnitGoes lane bits lanes history old new

-- ---- entries

-- where a replay stands: what is set, the lanes, the entries and their history
pub record Progress : Type 0 where
  pub set : Settings
  pub lanes : ℕ
  pub entries : List Content
  pub history : History

-- a depacketiser of QCIF was fed these packets
abbrev pub IsFedQcif : List (List ℕ) → Option Held → Type 0
IsFedQcif packets None = ⊥
IsFedQcif packets (Some d) = (d.format ≡ Qcif) × WasFed packets d

-- each lane's depacketiser was fed the lane's packets
pub record AreFed (lanes : ℕ) (entries : List Content) (depacks : List Held) : Type 0 where
  pub count : length depacks ≡ lanes
  pub each : (c : ℕ) → c < lanes → IsFedQcif (packets_in entries c) (slice_get depacks c)

-- the packets and the octets that a conference sent are no more than this for each of its steps
abbrev pub step_octets : ℕ
step_octets = 2 ^ 16

-- a conference after its entries, whose sink tells `now` and told `first` before them
pub record UnderWay (p : Progress) (c : Conference) (first now : Output) : Type 0 where
  pub steps : IsHistory p.lanes p.entries p.history
  pub follows : FollowsHistory p.lanes p.history c
  pub depacks : AreFed p.lanes p.entries c.depacks.items
  pub hand : IsQcifHand c.hand
  pub composed : c.composed.format ≡ Cif
  pub sent : HasSent p.set (pictures_written p.lanes p.history) c.packer (sent_of c.tally) first now
  pub few_packets : c.tally.packets ≤ step_octets * length p.history
  pub few_octets : c.tally.octets ≤ step_octets * length p.history

-- before all entries
abbrev pub beginning : Settings → ℕ → Progress
beginning set lanes = record { set = set; lanes = lanes; entries = []; history = [] }

-- the lane of the entry is there, its step is one
abbrev pub EntryFits : ℕ → Content → Type 0
EntryFits lanes (Packet lane packet) = lane < lanes
EntryFits lanes (Chair command) = Unit {0}
EntryFits lanes (TickEntry step) = IsStep step
EntryFits lanes End = Unit {0}

-- a conference is under way, and the entry may come
pub record MayEnter (content : Content) (c : Conference) : Type 0 where
  pub at : Progress
  pub first : Output
  pub now : Output
  pub under_way : UnderWay at c first now
  pub room : IsOpen 2 at.history
  pub fits : EntryFits at.lanes content

-- after an entry the history may go on
abbrev pub StaysOpen : Content → History → Type 0
StaysOpen End history = Unit {0}
StaysOpen _ history = has_ended history ≡ false

-- one entry further
abbrev pub with_entry : Progress → Content → History → Progress
with_entry p content after = record { set = p.set; lanes = p.lanes; entries = content ∷ p.entries; history = after }

-- what becomes of a conference by an entry
pub record Entered (p : Progress) (content : Content) (new : Conference) (first now : Output) : Type 0 where
  pub after : History
  pub under_way : UnderWay (with_entry p content after) new first now
  pub few : length after ≤ length p.history + 2
  pub going : StaysOpen content after

-- what became of it where the sink failed at the entry, a tick
pub record Broke (p : Progress) (content : Content) (new : Conference) (first now : Output) : Type 0 where
  pub note : TickNote
  pub steps : IsHistory p.lanes (content ∷ p.entries) (Tick note ∷ p.history)
  pub legal : Legal p.lanes (Tick note ∷ p.history)
  pub counted : new.tally ≡ tally_of p.set p.lanes (Tick note ∷ p.history) p.history
  pub front : HasFront p.set (pictures_written p.lanes p.history) (picture_at p.lanes p.history note) first now

-- an entry came, or the sink failed at it
abbrev pub ComesAt : {T : Type 0} → Progress → Content → Conference → (first now : Output) → Result T Failed → Type 0
ComesAt p content new first now (Ok _) = Entered p content new first now
ComesAt p content new first now (Err _) = Broke p content new first now

-- what an entry does to a conference, and to its sink
abbrev pub Enters : {T : Type 0} → Content → (old new : Conference) → (before after : Output) → Result T Failed → Type 0
Enters content old new before after result =
    (p : Progress) (first : Output) → UnderWay p old first before → IsOpen 2 p.history → ComesAt p content new first after result

-- what one does at which nothing is sent
abbrev pub EntersSilently : Content → (old new : Conference) → Type 0
EntersSilently content old new =
    (p : Progress) (first now : Output) → UnderWay p old first now → IsOpen 2 p.history → Entered p content new first now
