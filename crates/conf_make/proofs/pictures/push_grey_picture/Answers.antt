-- A header and three groups.
use Rattle.std.proofs.Common.{◌∙◌, ap}
use Rattle.pel_bits.specs.Buffer.{Buffer}
use Rattle.conf_make.specs.Pictures.{grey_picture}
use Rattle.conf_make.specs.Writing.{with_bits}
use Rattle.conf_make.proofs.Drawn.{four-pushes, grey-picture-is}
use Rattle.conf_make.proofs.pictures.push_grey_picture.Goals as goal

pub returns : goal.returns
returns c = record {
  value =
      four-pushes _ _ _ _ _ _ _ _ _ c.push_picture_header.ensures.value c.push_grey_group.ensures.value c.push_grey_group-2.ensures.value c.push_grey_group-3.ensures.value
      ∙ ap (with_bits c.clear.new.self) (grey-picture-is c.args.tr)
      ∙ ap (λ (b : Buffer). with_bits b (grey_picture c.args.tr)) c.clear.ensures;
}
