-- The lanes are opened, and then the chair.
use Rattle.std.proofs.Common.{◌∷◌, [], ◌++◌, length, map, refl, subst}
use Rattle.io_edge.specs.Directory.{Directory}
use Rattle.bridge_cli.specs.Opening.{IsUnopened, ReachesAll, number_of_name}
use Rattle.bridge_cli.specs.declared.status.Status.TheVariants.{OpenFault}
use Rattle.bridge_cli.proofs.Openings.{reaches_more, fails_at, lanes_unopened, chair_unopened}
use Rattle.bridge_cli.proofs.opening.open_all.Goals as goal

pub returns-in-Err : goal.returns-in-Err
returns-in-Err g c =
    subst (λ ns. IsUnopened (ns ++ c.args.options.now.chair ∷ []) (number_of_name (length ns))
    (g.P.Opener.tells c.args.house.now)
    (g.P.Opener.tells c.open_lanes.new.house) c.in-Err.status)
    c.as_slice.ensures (lanes_unopened _ c.args.options.now.chair _ _ c.in-Err.status c.in-Err.ensures)

pub returns-in-Ok-reach : goal.returns-in-Ok-reach
returns-in-Ok-reach g c =
    let before : Directory = g.P.Opener.tells c.args.house.now in
    let mid : Directory = g.P.Opener.tells c.open_lanes.new.house in
    let after : Directory = g.P.Opener.tells c.reach.new.self in
    let opened = map g.P.Src.Source.tells c.in-Ok.lanes.items in
    let all : ReachesAll c.args.options.now.lanes opened before mid =
    subst (λ ns. ReachesAll ns opened before mid) c.as_slice.ensures c.in-Ok.ensures in
    subst (λ n. ReachesAll (c.args.options.now.lanes ++ n ∷ []) (opened ++ g.P.Src.Source.tells c.in-Ok-reach.chair ∷ []) before after)
    c.as_str.ensures
    (reaches_more g.P.Src.Source.tells c.args.options.now.lanes c.as_str.result.now opened c.in-Ok-reach.chair before mid after all
    c.in-Ok-reach.ensures.entry c.in-Ok-reach.ensures.anew c.in-Ok-reach.ensures.cause.kept)

pub returns-in-Err-reach : goal.returns-in-Err-reach
returns-in-Err-reach g c =
    let before : Directory = g.P.Opener.tells c.args.house.now in
    let mid : Directory = g.P.Opener.tells c.open_lanes.new.house in
    let after : Directory = g.P.Opener.tells c.reach.new.self in
    let opened = map g.P.Src.Source.tells c.in-Ok.lanes.items in
    let all : ReachesAll c.args.options.now.lanes opened before mid =
    subst (λ ns. ReachesAll ns opened before mid) c.as_slice.ensures c.in-Ok.ensures in
    subst (λ n. IsUnopened (c.args.options.now.lanes ++ n ∷ []) (number_of_name (length c.args.options.now.lanes)) before after (OpenFault 16))
    c.as_str.ensures
    (chair_unopened c.args.options.now.lanes c.as_str.result.now before after 16 refl
    (fails_at c.in-Err-reach.field-0 g.P.Src.Source.tells (c.args.options.now.lanes ++ c.as_str.result.now ∷ []) c.args.options.now.lanes
    c.as_str.result.now [] opened before mid after refl all c.in-Err-reach.ensures.entry c.in-Err-reach.ensures.cause.failed))
