use Rattle.std.proofs.Common.{◌≡◌, ◌<◌, ◌^◌}
use Rattle.hall_core.proofs.Waiting.{waiting_below}
use Rattle.hall_core.proofs.hall.Hall.waiting.Given as goal

abbrev pub invariant-loop-lane : goal.invariant-loop-lane
invariant-loop-lane l = (l.waiting ≡ waiting_below l.self l.lane) × (l.waiting < 2 ^ l.lane)
