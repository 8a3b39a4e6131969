-- The laws of what decoders show: decoded frames, cut into places.
use Rattle.std.specs.Prelude.{◌≡◌, ◌⊎◌, ℕ, pos, true, All}
use Rattle.pel_model.specs.declared.Format.TheVariants.{Qcif, Cif}
use Rattle.pel_model.specs.declared.Quad.{Quad}
use Rattle.pel_model.specs.Composed.{groups_in}
use Rattle.pel_model.specs.Crop.{crop}
use Rattle.pel_model.specs.Decode.{decode}
use Rattle.pel_model.specs.Frames.{Frame, cut}
use Rattle.pel_model.specs.Records.{Axis, Across, Down, Macroblock, Group, Picture, component}
use Rattle.pel_model.specs.Refresh.{IsRefresh}
use Rattle.pel_model.specs.Regions.{groups_for, blank}
use Rattle.pel_model.specs.Transform.{Transform}
use Rattle.pel_model.specs.Valid.{side, corner, stays_within, IsValid}

-- ---- the law of the quadrant

-- a component of a vector refers to samples of the QCIF picture alone (H.261, 3.2.2), or is 0
abbrev pub KeepsInside : (group : ℕ) → Macroblock → Axis → Type 0
KeepsInside group m axis =
    (stays_within (side Qcif axis) (corner axis group m.address) (component axis m) ≡ true) ⊎ (component axis m ≡ pos 0)

-- both components do
abbrev pub BothKeepInside : (group : ℕ) → Macroblock → Type 0
BothKeepInside group m = KeepsInside group m Across × KeepsInside group m Down

abbrev pub VectorsStayInside : Picture → Type 0
VectorsStayInside picture = All (λ (g : Group). All (BothKeepInside g.number) g.macroblocks) picture.groups

abbrev pub QuadrantLaw : Type 0
QuadrantLaw =
    (t : Transform) (before : Frame) (place : Quad) (whole sent : Picture)
    → VectorsStayInside sent → groups_in place whole ≡ groups_for place sent
    → crop place (decode Cif t before whole) ≡ decode Qcif t (crop place before) sent

-- the vectors of a valid picture stay inside
abbrev pub ValidStaysInside : Type 0
ValidStaysInside = (sent : Picture) → IsValid Qcif sent → VectorsStayInside sent

-- ---- refreshes, and pictures that send nothing

abbrev pub RefreshLaw : Type 0
RefreshLaw =
    (t : Transform) (before other : Frame) (sent : Picture) → IsValid Qcif sent → IsRefresh Qcif sent
    → decode Qcif t before sent ≡ decode Qcif t other sent

abbrev pub BlankLaw : Type 0
BlankLaw = (t : Transform) (before : Frame) → decode Qcif t before blank ≡ cut Qcif before

abbrev pub UnchangedLaw : Type 0
UnchangedLaw =
    (t : Transform) (before : Frame) (place : Quad) (whole : Picture) → groups_in place whole ≡ groups_for place blank
    → crop place (decode Cif t before whole) ≡ crop place before
