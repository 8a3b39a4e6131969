-- The lanes so far are counted.
use Rattle.std.proofs.Common.{◌≡◌, sum_by, take}
use Rattle.bridge_live.proofs.run.count_together.Given as goal

abbrev pub invariant-loop-lane : goal.invariant-loop-lane
invariant-loop-lane g l = record {
  pictures : l.pictures ≡ sum_by (λ lane. lane.counts.posts) (take l.lane-index l.lanes);
  gaps : l.gaps ≡ sum_by (λ lane. lane.counts.gaps) (take l.lane-index l.lanes);
}
