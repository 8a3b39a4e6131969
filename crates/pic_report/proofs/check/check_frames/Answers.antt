-- The lines of all events.
use Rattle.pic_report.proofs.check.check_frames.Goals as goal

pub returns : goal.returns
returns g c = c.read_units.ensures.reads
