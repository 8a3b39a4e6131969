-- The line of a loss.
use Rattle.rtp_h261.specs.Events.{Lost}
use Rattle.pic_report.proofs.Telling.{told-line}
use Rattle.pic_report.proofs.check.ReporterTeller.loss.Goals as goal

pub returns : goal.returns
returns g c =
    told-line c.put_line.result c.args.self.now.format c.args.number Lost _ _ _ (c.lost_line.ensures c.args.self.now.format) c.put_line.ensures.put c.put_line.ensures.short c.put_line.ensures.cause
