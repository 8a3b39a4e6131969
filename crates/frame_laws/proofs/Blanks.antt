-- Pictures that send nothing, and places whose groups send nothing.
use Rattle.std.proofs.Common.{◌≡◌, ℕ, ◌*◌, ◌/◌, ◌==◌, Bool, true, false, if◌then◌else◌, [], ◌∷◌, Option, None, All, refl, sym, ◌∙◌, ap}
use Rattle.std.proofs.Math.Path.{fun_ext}
use Rattle.std.proofs.lemmas.List.Elements.{All-nil, All-cons}
use Rattle.pel_model.specs.declared.Format.TheVariants.{Qcif}
use Rattle.pel_model.specs.declared.Quad.{Quad}
use Rattle.pel_model.specs.Crop.{crop}
use Rattle.pel_model.specs.Decode.{Quantised, group_of, macroblock_at, decoded, decode}
use Rattle.pel_model.specs.Frames.{Plane, Frame, ratio, is_inside, cut}
use Rattle.pel_model.specs.Records.{Across, Down, Macroblock, Group}
use Rattle.pel_model.specs.Regions.{blank, empty_group}
use Rattle.pel_model.specs.Transform.{Transform}
use Rattle.frame_laws.specs.DecodedFrames.{BothKeepInside, VectorsStayInside, BlankLaw, UnchangedLaw}
use Rattle.frame_laws.proofs.Quadrants.{law, decode-inside, decode-outside, crop-outside}

abbrev nothing : Option Quantised
nothing = None

none-of : (a b c : Bool) → (if a then nothing else if b then nothing else if c then nothing else nothing) ≡ nothing
none-of true b c = refl
none-of false true c = refl
none-of false false true = refl
none-of false false false = refl

blank-none : (column row : ℕ) → macroblock_at blank column row ≡ None
blank-none column row = none-of (1 == group_of column row) (3 == group_of column row) (5 == group_of column row)

cut-inside : (frame : Frame) (plane : Plane) (x y : ℕ) → is_inside Qcif plane x y ≡ true → cut Qcif frame plane x y ≡ frame plane x y
cut-inside frame plane x y inside = rw inside refl

cut-outside : (frame : Frame) (plane : Plane) (x y : ℕ) → is_inside Qcif plane x y ≡ false → cut Qcif frame plane x y ≡ 0
cut-outside frame plane x y outside = rw outside refl

blank-at : (t : Transform) (before : Frame) (plane : Plane) (x y : ℕ) (b : Bool) → is_inside Qcif plane x y ≡ b
    → decode Qcif t before blank plane x y ≡ cut Qcif before plane x y
blank-at t before plane x y true test =
    decode-inside Qcif t before blank plane x y test
    ∙ ap (λ (o : Option Quantised). decoded t before o plane x y) (blank-none (ratio plane * x / 16) (ratio plane * y / 16))
    ∙ sym (cut-inside before plane x y test)
blank-at t before plane x y false test = decode-outside Qcif t before blank plane x y test ∙ sym (cut-outside before plane x y test)

pub blank-law : BlankLaw
blank-law t before = fun_ext λ plane. fun_ext λ x. fun_ext λ y. blank-at t before plane x y (is_inside Qcif plane x y) refl

-- a place is cut already
cut-crop-at : (place : Quad) (frame : Frame) (plane : Plane) (x y : ℕ) (b : Bool) → is_inside Qcif plane x y ≡ b → cut Qcif (crop place frame) plane x y ≡ crop place frame plane x y
cut-crop-at place frame plane x y true test = cut-inside (crop place frame) plane x y test
cut-crop-at place frame plane x y false test = cut-outside (crop place frame) plane x y test ∙ sym (crop-outside place frame plane x y test)

pub cut-crop : (place : Quad) (frame : Frame) → cut Qcif (crop place frame) ≡ crop place frame
cut-crop place frame = fun_ext λ plane. fun_ext λ x. fun_ext λ y. cut-crop-at place frame plane x y (is_inside Qcif plane x y) refl

abbrev GroupStays : Group → Type 0
GroupStays g = All (BothKeepInside g.number) g.macroblocks

blank-stays : VectorsStayInside blank
blank-stays =
    All-cons GroupStays (empty_group 1) (empty_group 3 ∷ empty_group 5 ∷ []) (All-nil _)
    (All-cons GroupStays (empty_group 3) (empty_group 5 ∷ []) (All-nil _)
    (All-cons GroupStays (empty_group 5) [] (All-nil _) (All-nil GroupStays)))

pub unchanged-law : UnchangedLaw
unchanged-law t before place whole same = law t before place whole blank blank-stays same ∙ blank-law t (crop place before) ∙ cut-crop place before
