-- The places, the ticks and the end.
use Rattle.std.proofs.Common.{[], ◌∷◌, ◌++◌, ◌+◌, ◌*◌, refl, arith}
use Rattle.conf_file.specs.Entries.{End}
use Rattle.conf_make.specs.Made.{placed_lanes, all_ticks, contents}
use Rattle.conf_make.proofs.Making.{none-made, more-made, failed-made, last-made, put-made, ticks-put}
use Rattle.conf_make.proofs.maker.Maker.write_entries.Goals as goal

pub returns-in_err-write_places : goal.returns-in_err-write_places
returns-in_err-write_places g c =
    let before = g.K.Sink.tells c.args.sink.now in
    let old = c.args.self.now in
    let all = contents old.state c.args.ticks old.lanes in
    let ticks = all_ticks c.args.ticks old.lanes 1 old.state in
    (failed-made (5 + 18 * c.args.ticks) 0 4 all (placed_lanes old.lanes) (ticks ++ End ∷ []) _ old.state before _ _ old old _
    c.from_residual.result _ c.from_residual.ensures.0 (omega arith) (none-made all before old)
    (put-made 4 (placed_lanes old.lanes) before _ old old.tally _ _ c.in_err-write_places.ensures.puts)).puts

pub returns-in_err-write_ticks : goal.returns-in_err-write_ticks
returns-in_err-write_ticks g c =
    let before = g.K.Sink.tells c.args.sink.now in
    let old = c.args.self.now in
    let all = contents old.state c.args.ticks old.lanes in
    let ticks = all_ticks c.args.ticks old.lanes 1 old.state in
    let places = c.in_ok-write_places.ensures in
    let first =
    more-made 4 0 4 all (placed_lanes old.lanes) (ticks ++ End ∷ []) _ before _ _ old old _ _ (omega arith) (none-made all before old)
    (put-made 4 (placed_lanes old.lanes) before _ old old.tally _ _ places.puts) in
    (failed-made (5 + 18 * c.args.ticks) 4 (18 * c.args.ticks) all ticks (End ∷ []) _ old.state before _ _ old _ _
    c.from_residual-in_err-write_ticks.result _ c.from_residual-in_err-write_ticks.ensures.0 (omega arith) first
    (put-made (18 * c.args.ticks) ticks _ _ old _ _ _
    (ticks-put c.args.ticks old.lanes old.state _ _ c.write_places.new.self _ _ _ places.lanes places.state c.in_err-write_ticks.ensures))).puts

pub returns : goal.returns
returns g c =
    let before = g.K.Sink.tells c.args.sink.now in
    let old = c.args.self.now in
    let all = contents old.state c.args.ticks old.lanes in
    let ticks = all_ticks c.args.ticks old.lanes 1 old.state in
    let places = c.in_ok-write_places.ensures in
    let first =
    more-made 4 0 4 all (placed_lanes old.lanes) (ticks ++ End ∷ []) _ before _ _ old old _ _ (omega arith) (none-made all before old)
    (put-made 4 (placed_lanes old.lanes) before _ old old.tally _ _ places.puts) in
    let second =
    more-made (4 + 18 * c.args.ticks) 4 (18 * c.args.ticks) all ticks (End ∷ []) _ before _ _ old _ _ _ (omega arith) first
    (put-made (18 * c.args.ticks) ticks _ _ old _ _ _
    (ticks-put c.args.ticks old.lanes old.state _ _ c.write_places.new.self _ _ _ places.lanes places.state c.in_ok-write_ticks.ensures)) in
    (last-made (5 + 18 * c.args.ticks) (4 + 18 * c.args.ticks) 1 all (End ∷ []) _ old.state before _ _ old _ _ c.put_entry.result (omega arith) refl second
    (put-made 1 (End ∷ []) _ _ old _ _ _ c.put_entry.ensures)).puts
