-- A write goes behind the octets that were written before.
use Rattle.std.proofs.Common.{rules, ◌-◌, ◌≤◌, length, arith}
use Rattle.io_edge.proofs.WriteLemmas.{write_behind}
use Rattle.io_edge.proofs.whole.put_all.Goals as goal

pub loop-count-preserved : goal.loop-count-preserved
loop-count-preserved g c =
    let fits : c.in_ok-count.field-0 ≤ length c.args.piece.now - c.loop-count.count = search rules in
    record {
      within = omega arith;
      bytes = write_behind _ _ _ c.args.piece.now c.loop-count.count _ c.in_ok-count.field-0 fits c.loop-count.invariant.bytes c.in_ok-count.ensures.bytes;
      kept = search rules;
    }
