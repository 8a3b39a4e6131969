-- Inner contracts alone use this; nothing here has to be believed.
-- The workers of a conference are lined up: what was reserved for them, and how they begin.
use Rattle.std.specs.Prelude.{◌≡◌, ⊤, ℕ, ◌+◌, ◌-◌, ◌^◌, ◌<◌, ◌≤◌, false, List, [], ◌∷◌, ◌++◌, length, All, vec_capacity}
use Rattle.cif_pack.specs.declared.packer.Settings.{Settings}
use Rattle.cif_pack.specs.State.{PackerState}
use Rattle.h261_pic.specs.declared.hand.Hand.{Hand}
use Rattle.hall_core.specs.Hall.{HallView, lanes_of}
use Rattle.hall_core.specs.Stands.{StandsFor, IsQcifHand}
use Rattle.hall_lock.specs.Seats.{Lock, first_seat, part_of}
use Rattle.pel_model.specs.declared.Format.TheVariants.{Qcif}
use Rattle.rtp_h261.specs.UnitReader.{reading_after}
use Rattle.bridge_live.specs.declared.crew.Crew.{Crew}
use Rattle.bridge_live.specs.declared.crew.Kit.{Kit}
use Rattle.bridge_live.specs.declared.crew.Lists.{Lists}
use Rattle.bridge_live.specs.declared.crew.Reserved.{Reserved}
use Rattle.bridge_live.specs.declared.worker.ChairWorker.{ChairWorker}
use Rattle.bridge_live.specs.declared.worker.LaneWorker.{LaneWorker}
use Rattle.bridge_live.specs.declared.worker.MixWorker.{MixWorker}
use Rattle.bridge_live.specs.declared.worker.Worker.{Worker}
use Rattle.bridge_live.specs.declared.worker.Worker.TheVariants.{Lane, Chair, Mixer}
use Rattle.bridge_live.specs.Crew.{LaneIsReady, ChairIsReady, MixIsReady}
use Rattle.bridge_live.specs.Worker.{most_taken, HallSeat}

-- the seat with which each worker begins
abbrev pub new_seat : Lock HallView → HallSeat
new_seat lock = part_of (first_seat lock) 1

-- the seat that is left where so many workers have theirs
abbrev pub seat_behind : Lock HallView → ℕ → HallSeat
seat_behind lock n = record (first_seat lock) { share = 2 ^ 32 - n }

-- ---- what was reserved

abbrev pub IsKit : Kit → Type 0
IsKit kit = kit.reader ≡ reading_after Qcif most_taken []

-- a kit for each lane
pub record HasKits (lanes : ℕ) (kits : List Kit) : Type 0 where
  pub number : length kits ≡ lanes
  pub each : All IsKit kits

pub record HasLists {S C K : Type 0} (lanes : ℕ) (lists : Lists S C K) : Type 0 where
  pub workers : lists.workers.items ≡ []
  pub room : lanes + 2 ≤ vec_capacity lists.workers
  pub ends : lists.ends.items ≡ []
  pub ends_room : lanes ≤ vec_capacity lists.ends

-- the lock is that of a conference of so many lanes, of which no step was made
pub record Opens (lanes : ℕ) (lock : Lock HallView) : Type 0 where
  pub lanes_are : lanes_of lock.opening ≡ lanes
  pub limit_is : lock.opening.limit ≡ lock.turns
  pub stands : StandsFor lock.opening []
  pub few : lock.turns ≤ 2 ^ 45

pub record IsReserved {S C K : Type 0} (lanes : ℕ) (reserved : Reserved S C K) : Type 0 where
  pub opens : Opens lanes reserved.lock
  pub seat : reserved.seat ≡ first_seat reserved.lock
  pub few : lanes ≤ 16
  pub kits : HasKits lanes reserved.kits.items
  pub usable : reserved.writer.spent ≡ false
  pub hand : IsQcifHand reserved.hand
  pub lists : HasLists lanes reserved.lists

-- for such packets and so many turns
pub record Reserves {S C K : Type 0} (set : Settings) (turns lanes : ℕ) (reserved : Reserved S C K) : Type 0 where
  pub is_reserved : IsReserved lanes reserved
  pub settings : reserved.writer.settings ≡ set
  pub turns_are : reserved.lock.turns ≡ turns

-- what the mixer's worker is made of
pub record MayMixWith (lock : Lock HallView) (seat : HallSeat) (writer : PackerState) (hand : Hand) : Type 0 where
  pub seat_is : seat ≡ new_seat lock
  pub opens : Opens (lanes_of lock.opening) lock
  pub usable : writer.spent ≡ false
  pub seq : writer.settings.seq < 2 ^ 16
  pub qcif : IsQcifHand hand

-- ---- lined up

module _ {S : Type 0} (lock : Lock HallView) where
  -- the lane of this number begins with this source
  pub record LaneUp (number : ℕ) (source : S) (worker : LaneWorker S) : Type 0 where
    pub source_is : worker.source ≡ source
    pub number_is : worker.lane.number ≡ number
    pub seat_is : worker.lane.seat ≡ new_seat lock
    pub ready : LaneIsReady lock worker

  pub record ChairUp (source : S) (worker : ChairWorker S) : Type 0 where
    pub source_is : worker.source ≡ source
    pub seat_is : worker.chair.seat ≡ new_seat lock
    pub ready : ChairIsReady lock worker

module _ {C K : Type 0} (lock : Lock HallView) where
  pub record MixUp (set : Settings) (ticker : C) (sink : K) (worker : MixWorker C K) : Type 0 where
    pub ticker_is : worker.ticker ≡ ticker
    pub sink_is : worker.sink ≡ sink
    pub seat_is : worker.mixer.seat ≡ new_seat lock
    pub settings_is : worker.mixer.writer.settings ≡ set
    pub ready : MixIsReady lock worker

module _ {S C K : Type 0} (lock : Lock HallView) where
  -- the lanes from this number on
  abbrev pub LanesUp : ℕ → List S → List (Worker S C K) → Type 0
  LanesUp number [] [] = ⊤
  LanesUp number (source ∷ sources) (Lane worker ∷ workers) =
      LaneUp lock number source worker × LanesUp (number + 1) sources workers
  LanesUp number _ _ = ⊥

-- each worker begins with what was handed in, and the seat that is left has all other parts of the share
pub record IsLinedUp {S C K : Type 0} (set : Settings) (lanes : List S) (chair : S) (ticker : C) (sink : K)
    (crew : Crew S C K) : Type 0 where
  pub opens : Opens (length lanes) crew.lock
  pub seat : crew.seat ≡ seat_behind crew.lock (length lanes + 2)
  pub up : List (Worker S C K)
  pub chair_worker : ChairWorker S
  pub mixer : MixWorker C K
  pub in_line : crew.lists.workers.items ≡ up ++ Chair chair_worker ∷ Mixer mixer ∷ []
  pub lanes_up : LanesUp crew.lock 0 lanes up
  pub chair_up : ChairUp crew.lock chair chair_worker
  pub mix_up : MixUp crew.lock set ticker sink mixer
  pub ends : crew.lists.ends.items ≡ []
  pub ends_room : length lanes ≤ vec_capacity crew.lists.ends

-- between two lanes: these of them have their workers, those are left
pub record LinesUp {S C K : Type 0} (lock : Lock HallView) (lanes left : List S) (workers : List (Worker S C K)) (seat : HallSeat) :
    Type 0 where
  pub done : List S
  pub whole : lanes ≡ done ++ left
  pub up : LanesUp lock 0 done workers
  pub number : length workers ≡ length done
  pub seat_is : seat ≡ seat_behind lock (length workers)

-- the lanes may be lined up, in an empty list with so much room
pub record MayLine {S W : Type 0} (lock : Lock HallView) (seat : HallSeat) (kits : List Kit) (lanes : List S) (workers : List W)
    (space : ℕ) : Type 0 where
  pub seat_is : seat ≡ seat_behind lock 0
  pub lanes_are : lanes_of lock.opening ≡ length lanes
  pub few : length lanes ≤ 16
  pub has_kits : HasKits (length lanes) kits
  pub empty : workers ≡ []
  pub room : length lanes ≤ space

-- they are
pub record LinesLanes {S C K : Type 0} (lock : Lock HallView) (seat : HallSeat) (lanes : List S) (workers : List (Worker S C K)) :
    Type 0 where
  pub seat_is : seat ≡ seat_behind lock (length lanes)
  pub up : LanesUp lock 0 lanes workers
  pub number : length workers ≡ length lanes
