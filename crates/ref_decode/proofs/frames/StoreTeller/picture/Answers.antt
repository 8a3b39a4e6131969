-- The planes of a picture.
use Rattle.std.proofs.Common.{◌≡◌, ◌∙◌, sym, ap}
use Rattle.ref_decode.specs.Shown.{frame_of, sample_count}
use Rattle.ref_decode.proofs.Planed.{length-planes}
use Rattle.ref_decode.proofs.Telling.{put-whole, put-front}
use Rattle.ref_decode.proofs.frames.StoreTeller.picture.Goals as goal

pub returns : goal.returns
returns g c p valid is =
    let count : c.sample_count.result ≡ sample_count c.show.new.self.format =
    c.sample_count.ensures ∙ ap sample_count (c.format.ensures ∙ (c.requires.format ∙ sym c.show.ensures.format)) in
    put-whole tt c.args.self.now c.show.new.self c.args._number p _ _ c.sample_count.result c.show.ensures.format (c.show.ensures.decoded p valid is) c.in_ok-write_planes.ensures count
    (count ∙ sym (length-planes c.show.new.self.format (frame_of c.show.new.self)))

pub returns-in_err-write_planes : goal.returns-in_err-write_planes
returns-in_err-write_planes g c p valid is =
    put-front c.from_residual.result c.in_err-write_planes.field-0.0 c.args.self.now c.show.new.self c.args._number p _ _ c.show.ensures.format (c.show.ensures.decoded p valid is) c.from_residual.ensures.0
    c.in_err-write_planes.ensures
