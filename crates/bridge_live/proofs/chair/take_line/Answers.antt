-- A line more, or none.
use Rattle.std.proofs.Common.{Result, sym, subst, ◌∙◌}
use Rattle.bridge_live.specs.declared.ends.ChairStop.{ChairStop}
use Rattle.bridge_live.specs.Hearing.{HearsNext, HearsLine, StopsHearing}
use Rattle.bridge_live.proofs.Ordering.{line-heard, line-stopped}
use Rattle.bridge_live.proofs.chair.take_line.Goals as goal

pub returns-in-Ok : goal.returns-in-Ok
returns-in-Ok g c =
    let source = g.S.Source.tells c.args.source.now in
    let now = g.S.Source.tells c.next_line.new.source in
    let lock = c.args.lock.now in
    let kept = c.next_line.new.line.items in
    let heard = subst (λ line. HearsLine lock line c.args.chair.now c.hear.new.self c.hear.result) c.as_slice.ensures.value c.hear.ensures in
    subst (λ (r : Result Unit ChairStop). HearsNext lock source now c.args.allowance.now c.next_line.new.allowance c.args.chair.now c.hear.new.self r) (sym c.halted.ensures)
    (line-heard lock source now c.args.allowance.now c.next_line.new.allowance kept c.args.chair.now c.hear.new.self c.hear.result c.requires c.in-Ok.ensures heard)

pub returns-in-Err : goal.returns-in-Err
returns-in-Err g c =
    let source = g.S.Source.tells c.args.source.now in
    let now = g.S.Source.tells c.next_line.new.source in
    let lock = c.args.lock.now in
    let kept = c.next_line.new.line.items in
    let stops = subst (λ line. StopsHearing lock c.in-Err.pause line c.args.chair.now c.stop.new.self c.stop.result) c.as_slice-in-Err.ensures.value c.stop.ensures in
    line-stopped lock source now c.args.allowance.now c.next_line.new.allowance kept c.args.chair.now c.stop.new.self c.in-Err.pause c.stop.result c.requires c.in-Err.ensures stops
