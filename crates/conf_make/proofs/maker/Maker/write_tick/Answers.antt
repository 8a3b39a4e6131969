-- What the lanes send, the speaker, and the tick.
use Rattle.std.proofs.Common.{ℕ, List, [], ◌∷◌, ◌++◌, refl, ◌∙◌, ap, arith}
use Rattle.conf_file.specs.Entries.{Content, Tick}
use Rattle.conf_make.specs.Made.{all_sent, behind_lanes, spoken, behind_tick}
use Rattle.conf_make.proofs.Going.{entries-at, behind-at}
use Rattle.conf_make.proofs.Making.{none-made, more-made, failed-made, last-made, one-made, same-made}
use Rattle.conf_make.proofs.maker.Maker.write_tick.Goals as goal

pub returns-in_err-write_lanes : goal.returns-in_err-write_lanes
returns-in_err-write_lanes g c =
    let before = g.K.Sink.tells c.args.sink.now in
    let old = c.args.self.now in
    let lanes = all_sent old.lanes c.args.tick 0 old.state in
    let after = behind_lanes old.lanes c.args.tick 0 old.state in
    let rest = spoken old.lanes c.args.tick after ++ Tick 3 ∷ [] in
    same-made 18 _ _ _ _ _ _ _ c.from_residual.result (entries-at old.lanes c.args.tick old.state after refl)
    (failed-made 18 0 16 (lanes ++ rest) lanes rest _ _ before _ _ old _ _ c.from_residual.result _ c.from_residual.ensures.0 (omega arith)
    (none-made (lanes ++ rest) before old) c.in_err-write_lanes.ensures)

pub returns-in_err-write_speaker : goal.returns-in_err-write_speaker
returns-in_err-write_speaker g c =
    let before = g.K.Sink.tells c.args.sink.now in
    let old = c.args.self.now in
    let lanes = all_sent old.lanes c.args.tick 0 old.state in
    let after = c.write_lanes.new.self.state in
    let one = spoken old.lanes c.args.tick after in
    let rest : List Content = Tick 3 ∷ [] in
    let all = lanes ++ (one ++ rest) in
    let first = more-made 16 0 16 all lanes (one ++ rest) _ before _ _ old _ _ _ (omega arith) (none-made all before old) c.in_ok-write_lanes.ensures in
    let second = same-made 1 _ one _ _ _ _ _ _ (ap (λ (n : ℕ). spoken n c.args.tick after) c.in_ok-write_lanes.ensures.lanes) c.in_err-write_speaker.ensures in
    same-made 18 _ _ _ _ _ _ _ c.from_residual-in_err-write_speaker.result (entries-at old.lanes c.args.tick old.state after c.in_ok-write_lanes.ensures.state)
    (failed-made 18 16 1 all one rest _ _ before _ _ old _ _ c.from_residual-in_err-write_speaker.result _
    c.from_residual-in_err-write_speaker.ensures.0 (omega arith) first second)

pub returns : goal.returns
returns g c =
    let before = g.K.Sink.tells c.args.sink.now in
    let old = c.args.self.now in
    let lanes = all_sent old.lanes c.args.tick 0 old.state in
    let after = c.write_lanes.new.self.state in
    let one = spoken old.lanes c.args.tick after in
    let rest : List Content = Tick 3 ∷ [] in
    let all = lanes ++ (one ++ rest) in
    let first = more-made 16 0 16 all lanes (one ++ rest) _ before _ _ old _ _ _ (omega arith) (none-made all before old) c.in_ok-write_lanes.ensures in
    let second = more-made 17 16 1 all one rest _ before _ _ old _ _ _ (omega arith) first
    (same-made 1 _ one _ _ _ _ _ _ (ap (λ (n : ℕ). spoken n c.args.tick after) c.in_ok-write_lanes.ensures.lanes) c.in_ok-write_speaker.ensures) in
    let state = c.in_ok-write_speaker.ensures.state ∙ behind-at old.lanes c.args.tick old.state after c.in_ok-write_lanes.ensures.state in
    same-made 18 _ _ _ _ _ _ _ c.put_entry.result (entries-at old.lanes c.args.tick old.state after c.in_ok-write_lanes.ensures.state)
    (last-made 18 17 1 all rest _ (behind_tick old.lanes c.args.tick old.state) before _ _ old _ _ c.put_entry.result (omega arith) refl second
    (one-made (Tick 3) rest _ _ _ _ _ c.put_entry.result refl state refl c.put_entry.ensures))
