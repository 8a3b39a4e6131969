-- The four places of a CIF frame, each a QCIF frame (H.261, 3.1 and 4.2.2).
use Rattle.std.specs.Prelude.{◌+◌, ◌*◌, ◌/◌}
use Rattle.pel_model.specs.declared.Format.TheVariants.{Qcif}
use Rattle.pel_model.specs.declared.Quad.{Quad}
use Rattle.pel_model.specs.Frames.{Frame, ratio, cut}
use Rattle.pel_model.specs.Records.{Across, Down}
use Rattle.pel_model.specs.Regions.{right, below}
use Rattle.pel_model.specs.Valid.{side}

-- what a CIF frame shows in a place
unfoldable pub crop : Quad → Frame → Frame
crop place frame =
    cut Qcif
    (λ plane x y. frame plane (x + side Qcif Across / ratio plane * right place) (y + side Qcif Down / ratio plane * below place))
