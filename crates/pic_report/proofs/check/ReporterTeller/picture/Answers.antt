-- The line of a picture.
use Rattle.rtp_h261.specs.Events.{Shown}
use Rattle.pic_report.proofs.Telling.{told-line}
use Rattle.pic_report.proofs.check.ReporterTeller.picture.Goals as goal

pub returns : goal.returns
returns g c p valid is =
    told-line c.put_line.result c.args.self.now.format c.args.number (Shown p) _ _ _ (c.picture_line.ensures c.args.self.now.format p is) c.put_line.ensures.put c.put_line.ensures.short c.put_line.ensures.cause
