-- The lanes so far have their workers, and a kit is there for each that is left.
use Rattle.std.proofs.Common.{◌≡◌, All, length, vec_capacity}
use Rattle.bridge_live.specs.Lining.{IsKit, LinesUp}
use Rattle.bridge_live.proofs.crew.line_lanes.Given as goal

abbrev pub invariant-loop-kit : goal.invariant-loop-kit
invariant-loop-kit g l = record {
  kits : All IsKit l.kit-iterator.rest.items;
  number : length l.kit-iterator.rest.items ≡ length l.lanes.items;
  lines : LinesUp l.lock l.fn.lanes.items l.lanes.items l.workers.items l.seat;
  room : vec_capacity l.workers ≡ vec_capacity l.fn.workers;
}
