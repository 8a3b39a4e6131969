-- Worked values of what a store shows, and of the planes after pictures: each fails where its definition is changed.
use Rattle.std.specs.Prelude.{◌≡◌, ℕ, ◌+◌, ◌*◌, List, [], ◌∷◌, ◌++◌, length, map, replicate, slice_index, refl}
use Rattle.pel_model.specs.declared.Format.TheVariants.{Qcif, Cif}
use Rattle.pel_model.specs.declared.Why.TheVariants.{Cut}
use Rattle.pel_model.specs.Decode.{decode}
use Rattle.pel_model.specs.Frames.{Plane, Luminance, Cb, Cr, Frame}
use Rattle.pel_model.specs.Records.{Picture}
use Rattle.pel_model.specs.Transform.{fixed}
use Rattle.rtp_h261.specs.Events.{Lost, Shown, Refused}
use Rattle.ref_decode.specs.Planes.{planes_shown}
use Rattle.ref_decode.specs.Shown.{columns, row_count, plane_start, sample_count, sample_place, frame_of, nothing_shown, black, plane_numbered, planes_of}

pub sides_of_planes : columns Qcif Luminance ∷ row_count Qcif Luminance ∷ columns Qcif Cb ∷ row_count Qcif Cr ∷ columns Cif Luminance ∷ row_count Cif Luminance ∷ columns Cif Cr ∷ row_count Cif Cb ∷ []
    ≡ 176 ∷ 144 ∷ 88 ∷ 72 ∷ 352 ∷ 288 ∷ 176 ∷ 144 ∷ []
sides_of_planes = refl

pub starts_of_planes : plane_start Qcif Luminance ∷ plane_start Qcif Cb ∷ plane_start Qcif Cr ∷ sample_count Qcif ∷ plane_start Cif Cb ∷ plane_start Cif Cr ∷ sample_count Cif ∷ []
    ≡ 0 ∷ 25344 ∷ 31680 ∷ 38016 ∷ 101376 ∷ 126720 ∷ 152064 ∷ []
starts_of_planes = refl

pub places_of_samples : sample_place Qcif Luminance 175 143 ∷ sample_place Qcif Cb 0 0 ∷ sample_place Qcif Cr 87 71 ∷ sample_place Cif Cb 3 2 ∷ []
    ≡ 25343 ∷ 25344 ∷ 38015 ∷ 101731 ∷ []
places_of_samples = refl

-- the rows of a QCIF luminance plane have 176 samples; nothing is shown beside them
pub samples_that_are_shown : (let frame = frame_of (record { format = Qcif; samples = replicate 175 4 ++ 5 ∷ 6 ∷ replicate 200 7 }) in
    frame Luminance 174 0 ∷ frame Luminance 175 0 ∷ frame Luminance 176 0 ∷ frame Luminance 0 1 ∷ frame Luminance 1 1 ∷ []) ≡ 4 ∷ 5 ∷ 0 ∷ 6 ∷ 7 ∷ []
samples_that_are_shown = refl

pub nothing_is_black : slice_index (nothing_shown Qcif).samples 3 ∷ black Luminance 3 4 ∷ black Cr 0 0 ∷ [] ≡ 0 ∷ 0 ∷ 0 ∷ []
nothing_is_black = refl

pub numbers_of_planes : plane_numbered 0 ∷ plane_numbered 1 ∷ plane_numbered 2 ∷ [] ≡ Luminance ∷ Cb ∷ Cr ∷ []
numbers_of_planes = refl

-- planes come of pictures alone, and each picture is decoded over the frame behind the one before it
pub planes_of_events : (p q : Picture) → planes_shown Cif (Lost ∷ Shown p ∷ Refused 3 Cut ∷ Shown q ∷ Lost ∷ [])
    ≡ planes_of Cif (decode Cif fixed black p) ∷ planes_of Cif (decode Cif fixed (decode Cif fixed black p) q) ∷ []
planes_of_events p q = refl

abbrev shade : Plane → ℕ
shade Luminance = 0
shade Cb = 1000
shade Cr = 2000

-- each sample tells its plane, column and row
abbrev uneven : Frame
uneven plane x y = shade plane + x + 7 * y

-- luminance before CB before CR, each row behind the one above it: first and last samples of planes and of first rows
pub order_of_samples : (let samples = planes_of Qcif uneven in
    length samples ∷ map (λ i. slice_index samples i) (0 ∷ 175 ∷ 176 ∷ 25343 ∷ 25344 ∷ 25431 ∷ 25432 ∷ 31679 ∷ 31680 ∷ 31767 ∷ 31768 ∷ 38015 ∷ []))
    ≡ 38016 ∷ 0 ∷ 175 ∷ 7 ∷ 1176 ∷ 1000 ∷ 1087 ∷ 1007 ∷ 1584 ∷ 2000 ∷ 2087 ∷ 2007 ∷ 2584 ∷ []
unfolding planes_of
order_of_samples = refl
