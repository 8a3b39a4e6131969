-- Inner contracts alone use this; nothing here has to be believed.
-- The workers of a conference in one list, the lanes in order, then the chair, then the mixer: before their work and behind it.
use Rattle.std.specs.Prelude.{◌≡◌, ⊤, ℕ, ◌+◌, ◌^◌, ◌<◌, false, List, [], ◌∷◌, length, Option, Some, slice_index_or}
use Rattle.cif_pack.specs.declared.packer.Settings.{Settings}
use Rattle.h261_pic.specs.declared.hand.Hand.{Hand}
use Rattle.hall_core.specs.Hall.{HallView, lanes_of}
use Rattle.hall_lock.specs.Seats.{Lock, IsOf, first_seat, part_of}
use Rattle.bridge_live.specs.declared.qcif.QcifBox.{QcifBox}
use Rattle.bridge_live.specs.declared.worker.ChairWorker.{ChairWorker}
use Rattle.bridge_live.specs.declared.worker.LaneWorker.{LaneWorker}
use Rattle.bridge_live.specs.declared.worker.MixWorker.{MixWorker}
use Rattle.bridge_live.specs.declared.worker.Worker.{Worker}
use Rattle.bridge_live.specs.declared.worker.Worker.TheVariants.{Lane, Chair, Mixer}
use Rattle.bridge_live.specs.Chair.{RunsChair}
use Rattle.bridge_live.specs.Hearing.{ChairBegins}
use Rattle.bridge_live.specs.Lane.{RunsLane}
use Rattle.bridge_live.specs.Mixer.{RunsMixer}
use Rattle.bridge_live.specs.Mixing.{MixBegins}
use Rattle.bridge_live.specs.Posting.{LaneBegins}
use Rattle.bridge_live.specs.Worker.{HallSeat}
use Rattle.io_edge.specs.Outside.{Input, Output}

-- ---- before the work

-- a box to begin with is there
pub record LaneIsReady {S : Type 0} (lock : Lock HallView) (worker : LaneWorker S) : Type 0 where
  pub item : (box : QcifBox) × (worker.item ≡ Some box)
  pub begins : LaneBegins lock worker.reader worker.lane

abbrev pub ChairIsReady : {S : Type 0} → Lock HallView → ChairWorker S → Type 0
ChairIsReady lock worker = ChairBegins lock worker.chair

-- a hand is there
abbrev pub MixIsReady : {C K : Type 0} → Lock HallView → MixWorker C K → Type 0
MixIsReady lock worker = (hand : Hand) × (worker.hand ≡ Some hand) × MixBegins lock worker.mixer hand

abbrev pub IsReadyToWork : {S C K : Type 0} → Lock HallView → Worker S C K → Type 0
IsReadyToWork lock (Lane worker) = LaneIsReady lock worker
IsReadyToWork lock (Chair worker) = ChairIsReady lock worker
IsReadyToWork lock (Mixer worker) = MixIsReady lock worker

-- ---- behind it

module _ {S : Type 0} (reads : S → Input) where
  -- a lane's worker came to its stop
  pub record LaneDid (lock : Lock HallView) (number : ℕ) (before : Input) (first : HallSeat) (worker : LaneWorker S) : Type 0 where
    pub seat : IsOf lock worker.lane.seat
    pub runs : RunsLane (lanes_of lock.opening) number before (reads worker.source) first worker.lane.seat worker.stop worker.lane.counts

  pub record ChairDid (lock : Lock HallView) (before : Input) (first : HallSeat) (worker : ChairWorker S) : Type 0 where
    pub seat : IsOf lock worker.chair.seat
    pub runs : RunsChair (lanes_of lock.opening) before (reads worker.source) first worker.chair.seat worker.stop worker.chair.counts

module _ {C K : Type 0} (ticks : C → Input) (writes : K → Output) where
  pub record MixDid (lock : Lock HallView) (set : Settings) (ticker : Input) (before : Output) (first : HallSeat)
      (worker : MixWorker C K) : Type 0 where
    pub seat : IsOf lock worker.mixer.seat
    pub runs : RunsMixer (lanes_of lock.opening) set ticker (ticks worker.ticker) first worker.mixer.seat before (writes worker.sink)
        worker.stop worker.mixer.counts

module _ {S C K : Type 0} (reads : S → Input) (ticks : C → Input) (writes : K → Output) (lock : Lock HallView) where
  -- a worker came to its stop
  abbrev pub Worked : Worker S C K → Worker S C K → Type 0
  Worked (Lane a) (Lane b) = LaneDid reads lock a.lane.number (reads a.source) a.lane.seat b
  Worked (Chair a) (Chair b) = ChairDid reads lock (reads a.source) a.chair.seat b
  Worked (Mixer a) (Mixer b) =
      MixDid ticks writes lock a.mixer.writer.settings (ticks a.ticker) (writes a.sink) a.mixer.seat b
  Worked _ _ = ⊥

  -- each did
  pub record EachWorked (old new : List (Worker S C K)) : Type 0 where
    pub number : length new ≡ length old
    pub each : (i : ℕ) (d : Worker S C K) → i < length old → Worked (slice_index_or old i d) (slice_index_or new i d)
