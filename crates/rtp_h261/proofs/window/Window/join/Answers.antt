-- A place is within the list, or at its end.
use Rattle.std.proofs.Common.{arith}
use Rattle.rtp_h261.specs.Ordered.{is_farther}
use Rattle.rtp_h261.proofs.QueueLemmas.{bounded}
use Rattle.rtp_h261.proofs.window.Window.join.Goals as goal

pub insert-requires : goal.insert-requires
insert-requires c =
    grind (arith, c.place_for-place.ensures, c.as_slice-2.ensures.value, c.as_slice-2.ensures.len, bounded (is_farther c.unwrap_or-expected.result c.args.number) c.as_slice-2.result.now)
