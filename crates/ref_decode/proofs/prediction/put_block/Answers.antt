use Rattle.ref_decode.proofs.Rowing.{row_more}
use Rattle.ref_decode.proofs.prediction.put_block.Goals as goal

pub loop-y-preserved : goal.loop-y-preserved
loop-y-preserved c =
    row_more c.args.from c.args.width c.loop-y.y c.args.samples.now c.loop-y.samples c.put_row.new.samples c.args.block.now c.requires.small.2
    c.loop-y.invariant.0 c.loop-y.invariant.1 c.loop-y.invariant.2
    c.put_row.ensures.long c.put_row.ensures.inside c.put_row.ensures.before c.put_row.ensures.behind
