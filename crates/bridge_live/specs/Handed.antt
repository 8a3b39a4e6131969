-- What a live conference is handed and hands back, read as what its sources, its ticker and its sink tell.
use Rattle.std.specs.Prelude.{List, map}
use Rattle.bridge_live.specs.declared.ends.ChairEnd.{ChairEnd}
use Rattle.bridge_live.specs.declared.ends.LaneEnd.{LaneEnd}
use Rattle.bridge_live.specs.declared.ends.ServeEnd.{ServeEnd}
use Rattle.bridge_live.specs.Endings.{HandedIn, LaneEnding, ChairEnding, MixEnding, Ending}
use Rattle.io_edge.specs.Outside.{Input, Output}

module _ {S : Type 0} (reads : S → Input) where
  abbrev pub lane_ending : LaneEnd S → LaneEnding
  lane_ending end = record { source = reads end.source; stop = end.stop; counts = end.counts; seat = end.past.seat.value }

  abbrev pub chair_ending : ChairEnd S → ChairEnding
  chair_ending end = record { source = reads end.source; stop = end.stop; counts = end.counts; seat = end.past.seat.value }

module _ {S C K : Type 0} (reads : S → Input) (ticks : C → Input) (writes : K → Output) where
  abbrev pub given_of : List S → S → C → K → HandedIn
  given_of lanes chair ticker sink =
      record { lanes = map reads lanes; chair = reads chair; ticker = ticks ticker; sink = writes sink }

  abbrev pub ending_of : ServeEnd S C K → Ending
  ending_of end = record {
    lanes = map (lane_ending reads) end.lanes.items;
    chair = chair_ending reads end.chair;
    mixer = record { ticker = ticks end.ticker; sink = writes end.sink; stop = end.stop; seat = end.mixer.seat.value };
    hall = end.hall.machine.value;
    turns = end.hall.seat.value.seen;
    number = end.hall.turns;
  }
