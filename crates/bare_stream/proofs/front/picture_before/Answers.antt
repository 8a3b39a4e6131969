-- The place that was tried is none.
use Rattle.bare_stream.proofs.Fronts.{one-more}
use Rattle.bare_stream.proofs.front.picture_before.Goals as goal

pub loop-zeros-preserved : goal.loop-zeros-preserved
loop-zeros-preserved c = (
  c.if-picture_ends-2.ensures.1,
  one-more c.args.format c.args.bits.now c.args.fault c.loop-zeros.zeros c.loop-zeros.invariant.1 c.if-picture_ends-2.ensures.0,
)
