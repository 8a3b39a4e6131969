use Rattle.std.proofs.Common.{◌-◌}
use Rattle.h261_pic.proofs.PictureReading.{PictureSoFar}
use Rattle.h261_pic.proofs.parser.read_picture.Given as goal

abbrev pub invariant-loop-another : goal.invariant-loop-another
invariant-loop-another l = PictureSoFar l.format l.bits l.last l.begun l.another l.into l.r

abbrev pub decreases-loop-another : goal.decreases-loop-another
decreases-loop-another l = 13 - l.last
