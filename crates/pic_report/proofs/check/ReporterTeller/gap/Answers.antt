-- The line of a unit that is no picture.
use Rattle.rtp_h261.specs.Events.{Refused}
use Rattle.pic_report.proofs.Telling.{told-line}
use Rattle.pic_report.proofs.check.ReporterTeller.gap.Goals as goal

pub returns : goal.returns
returns g c =
    told-line c.put_line.result c.args.self.now.format c.args.number (Refused c.args.fault.place c.args.fault.why) _ _ _ (c.gap_line.ensures c.args.self.now.format) c.put_line.ensures.put c.put_line.ensures.short c.put_line.ensures.cause
