use Rattle.std.proofs.Common.{◌≡◌, ◌++◌, take, drop, map}
use Rattle.stage_plan.specs.Ranks.{closed_up}
use Rattle.stage_plan.proofs.ranks.close_up.Given as goal

abbrev pub invariant-loop-rank : goal.invariant-loop-rank
invariant-loop-rank l =
    l.ranks ≡ map (closed_up l.gone) (take l.rank-index l.initial.ranks) ++ drop l.rank-index l.initial.ranks
