-- The lines of all events.
use Rattle.std.proofs.Common.{ap, arith}
use Rattle.update_watch.specs.Counting.{Counts}
use Rattle.update_watch.proofs.Lines.{watches}
use Rattle.update_watch.proofs.frames.watch_frames.Goals as goal

pub returns : goal.returns
returns g c =
    watches c.args.format c.args.budget c.in-Ok.counts c.read_units-end.new.teller.counts c.read_units-end.new.teller.lines _ _ c.read_units-end.result
    (ap (λ (k : Counts). k.counts) c.in-Ok.ensures) (omega (arith, c.pictures_of.ensures, c.pictures_of.type_inv)) c.read_units-end.ensures
