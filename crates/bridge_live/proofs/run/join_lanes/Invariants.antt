-- The first lanes have their ends, and the others are left.
use Rattle.std.proofs.Common.{◌≡◌, ◌≤◌, ◌+◌, ℕ, List, length, vec_capacity}
use Rattle.cif_pack.specs.declared.packer.Settings.{Settings}
use Rattle.bridge_live.specs.Ending.{CrewDid, LanesJoined}
use Rattle.bridge_live.specs.Endings.{HandedIn}
use Rattle.bridge_live.proofs.run.join_lanes.Given as goal
use Rattle.io_edge.specs.Outside.{Input}

abbrev pub invariant-loop-workers : goal.invariant-loop-workers
invariant-loop-workers g l = record {
  room : length l.ends.items + length l.workers.items ≤ vec_capacity l.ends + 2;
  did :
      (set : Settings) (given : HandedIn) →
      CrewDid (g.S.Source.tells) (g.C.Ticker.tells) (g.K.Sink.tells)
      l.lock set given 0 given.lanes l.fn.workers.items →
      (left : List Input)
      × LanesJoined (g.S.Source.tells) (g.C.Ticker.tells) (g.K.Sink.tells)
      l.lock set given l.fn.seat l.seat left l.ends.items l.workers.items;
}

abbrev pub decreases-loop-workers : goal.decreases-loop-workers
decreases-loop-workers g l = length l.workers.items
