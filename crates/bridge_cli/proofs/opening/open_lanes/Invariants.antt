use Rattle.std.proofs.Common.{◌≡◌, map, take}
use Rattle.std.specs.Prelude.{vec_len}
use Rattle.bridge_cli.specs.Opening.{ReachesAll}
use Rattle.bridge_cli.proofs.opening.open_lanes.Given as goal

abbrev pub invariant-loop-name : goal.invariant-loop-name
invariant-loop-name g l =
    (vec_len l.lanes ≡ l.name-index)
    × ReachesAll (map (λ n. n.now) (take l.name-index l.names)) (map g.P.Src.Source.tells l.lanes.items)
    (g.P.Opener.tells l.fn.house)
    (g.P.Opener.tells l.house)
