-- Where there was memory, the planes are those of frames from black on.
use Rattle.ref_decode.proofs.Telling.{ends-shown}
use Rattle.rtp_h261.proofs.StreamEnds.{nothing_was_read}
use Rattle.ref_decode.specs.Planes.{planes_shown}
use Rattle.ref_decode.proofs.frames.decode_frames.Goals as goal

pub returns-in-Ok : goal.returns-in-Ok
returns-in-Ok g c = ends-shown c.args.format c.in-Ok.store c.args.budget _ _ c.read_units.result c.in-Ok.ensures c.read_units.ensures.reads

pub returns-in-Err : goal.returns-in-Err
returns-in-Err g c = nothing_was_read c.args.format c.args.budget (planes_shown c.args.format) _ c.nothing_read.result c.nothing_read.ensures
