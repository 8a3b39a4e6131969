-- The samples of a store are the planes of its frame; and samples that were drawn are the frame that a decoder shows.
use Rattle.std.proofs.Common.{◌≡◌, ℕ, zero, suc, ◌+◌, ◌*◌, ◌/◌, ◌<◌, ◌≤◌, true, List, ◌++◌, length, take, drop, get_or-take, get_or-drop, length-drop, length-append, Option, Some, None, inl, inr, refl, sym, ◌∙◌, ap, ap₂, arith}
use Rattle.std.specs.Prelude.{slice_index}
use Rattle.std.specs.List.{flat_map, range_with_len}
use Rattle.std.proofs.Math.Path.{fun_ext}
use Rattle.std.proofs.Math.Seq.{take-add, take-length}
use Rattle.std.proofs.Math.Nat.{mul-le-mul_left}
use Rattle.std.proofs.lemmas.Bool.{cases_Bool, cond-false, cond-true}
use Rattle.std.proofs.lemmas.List.{drop-drop, length-take-le}
use Rattle.std.proofs.lemmas.List.FromFn.{fill_by_all, length-map-range_with_len}
use Rattle.pel_model.specs.declared.Format.{Format}
use Rattle.pel_model.specs.Decode.{Quantised, macroblock_at, decoded, decode}
use Rattle.pel_model.specs.Frames.{Plane, Luminance, Cb, Cr, Frame, ratio, is_inside, cut}
use Rattle.pel_model.specs.Records.{Picture}
use Rattle.pel_model.specs.Transform.{fixed}
use Rattle.ref_decode.specs.Drawing.{sample_in, frame_in, drawn_over, GroupsDrawn}
use Rattle.ref_decode.specs.Shown.{columns, row_count, plane_start, sample_count, sample_place, row_samples, plane_of, planes_of}
use Rattle.ref_decode.proofs.Geometry.{is-inside}
use Rattle.ref_decode.proofs.Predicted.{inside_of}

-- ---- planes

module _ (format : Format) (samples : List ℕ) (plane : Plane) (within : plane_start format plane + columns format plane * row_count format plane ≤ length samples) where
  row_is : (y : ℕ) → y < row_count format plane → row_samples format (frame_in format samples) plane y ≡ take (columns format plane) (drop (plane_start format plane + columns format plane * y) samples)
  row_is y hy =
      let width : ℕ = columns format plane in
      let next : y + 1 ≤ row_count format plane = omega arith in
      let room : plane_start format plane + columns format plane * y + columns format plane ≤ length samples = omega (arith, mul-le-mul_left width next, within) in
      let long : length (take width (drop (plane_start format plane + width * y) samples)) ≡ width = length-take-le width (drop (plane_start format plane + width * y) samples) (omega (arith, length-drop (plane_start format plane + width * y) samples, room)) in
      sym (fill_by_all (λ x. frame_in format samples plane x y) (take width (drop (plane_start format plane + width * y) samples)) width 0 long
      (λ x hx.
      let inside = is-inside format plane x y (inside_of format plane x y hx hy) in
      rw (get_or-take, get_or-drop) (sym (cond-true (is_inside format plane x y) (slice_index samples (sample_place format plane x y)) 0 inside))))

  rows_are : (y count : ℕ) → y + count ≤ row_count format plane → flat_map (row_samples format (frame_in format samples) plane) (range_with_len y count) ≡ take (columns format plane * count) (drop (plane_start format plane + columns format plane * y) samples)
  rows_are y zero h = let e : columns format plane * zero ≡ 0 = omega arith in rw e refl
  rows_are y (suc n) h =
      let width : ℕ = columns format plane in
      let e : width * suc n ≡ width + width * n = omega arith in
      let d : plane_start format plane + width * y + width ≡ plane_start format plane + width * (y + 1) = omega arith in
      ap₂ (λ (a b : List ℕ). a ++ b) (row_is y (omega (arith, h))) (rows_are (y + 1) n (omega (arith, h)))
      ∙ (ap (λ k. take width (drop (plane_start format plane + width * y) samples) ++ take (width * n) (drop k samples)) (sym d)
      ∙ (ap (λ t. take width (drop (plane_start format plane + width * y) samples) ++ take (width * n) t) (sym (drop-drop width (plane_start format plane + width * y) samples))
      ∙ (sym (take-add width (width * n) (drop (plane_start format plane + width * y) samples))
      ∙ ap (λ k. take k (drop (plane_start format plane + width * y) samples)) (sym e))))

  plane_is : plane_of format (frame_in format samples) plane ≡ take (columns format plane * row_count format plane) (drop (plane_start format plane) samples)
  plane_is =
      let e : plane_start format plane + columns format plane * 0 ≡ plane_start format plane = omega arith in
      rows_are 0 (row_count format plane) (omega arith) ∙ ap (λ k. take (columns format plane * row_count format plane) (drop k samples)) e

-- three parts of a list are the list
three : (xs : List ℕ) (a b c : ℕ) → length xs ≡ a + b + c → take a (drop 0 xs) ++ take b (drop a xs) ++ take c (drop (a + b) xs) ≡ xs
three xs a b c long =
    ap (λ t. t ++ take c (drop (a + b) xs)) (sym (take-add a b xs))
    ∙ (sym (take-add (a + b) c xs) ∙ (ap (λ n. take n xs) (sym long) ∙ take-length xs))

pub planes_are : (format : Format) (samples : List ℕ) → length samples ≡ sample_count format → planes_of format (frame_in format samples) ≡ samples
unfolding planes_of
planes_are format samples long =
    ap₂ (λ (a b : List ℕ). a ++ b)
    (ap₂ (λ (a b : List ℕ). a ++ b) (plane_is format samples Luminance (omega (arith, long))) (plane_is format samples Cb (omega (arith, long))))
    (plane_is format samples Cr (omega (arith, long)))
    ∙ three samples (columns format Luminance * row_count format Luminance) (columns format Cb * row_count format Cb) (columns format Cr * row_count format Cr) long

-- ---- frames

pub frame_is : (format : Format) (p : Picture) (shown next : List ℕ) → GroupsDrawn format p.groups shown shown next → frame_in format next ≡ decode format fixed (frame_in format shown) p
unfolding decode
frame_is format p shown next drawn = fun_ext λ plane. fun_ext λ x. fun_ext λ y. at plane x y
  where
    over : (plane : Plane) (x y : ℕ) (o : Option Quantised) → is_inside format plane x y ≡ true → drawn_over (frame_in format shown) o plane x y (sample_in format shown plane x y) ≡ decoded fixed (frame_in format shown) o plane x y
    over plane x y None h = sym (cond-true (is_inside format plane x y) (slice_index shown (sample_place format plane x y)) 0 h)
    over plane x y (Some found) h = refl

    at : (plane : Plane) (x y : ℕ) → frame_in format next plane x y ≡ cut format (λ plane x y. decoded fixed (frame_in format shown) (macroblock_at p (ratio plane * x / 16) (ratio plane * y / 16)) plane x y) plane x y
    at plane x y = elim (cases_Bool (is_inside format plane x y)) [
      | inl h ↦ cond-true _ _ _ h ∙ (drawn plane x y h ∙ (over plane x y (macroblock_at p (ratio plane * x / 16) (ratio plane * y / 16)) h ∙ sym (cond-true _ _ _ h)))
      | inr h ↦ cond-false _ _ _ h ∙ sym (cond-false _ _ _ h)
    ]

-- ---- how many octets planes have

length-rows : (format : Format) (frame : Frame) (plane : Plane) (y n : ℕ) → length (flat_map (row_samples format frame plane) (range_with_len y n)) ≡ columns format plane * n
length-rows format frame plane y zero = let e : columns format plane * 0 ≡ 0 = omega arith in sym e
length-rows format frame plane y (suc n) =
    let e : columns format plane * suc n ≡ columns format plane + columns format plane * n = omega arith in
    length-append (row_samples format frame plane y) (flat_map (row_samples format frame plane) (range_with_len (y + 1) n))
    ∙ (ap₂ (λ (a b : ℕ). a + b) (length-map-range_with_len (λ x. frame plane x y) 0 (columns format plane)) (length-rows format frame plane (y + 1) n)
    ∙ sym e)

pub length-planes : (format : Format) (frame : Frame) → length (planes_of format frame) ≡ sample_count format
unfolding planes_of
length-planes format frame =
    length-append (plane_of format frame Luminance ++ plane_of format frame Cb) (plane_of format frame Cr)
    ∙ ap₂ (λ (a b : ℕ). a + b)
    (length-append (plane_of format frame Luminance) (plane_of format frame Cb)
    ∙ ap₂ (λ (a b : ℕ). a + b) (length-rows format frame Luminance 0 (row_count format Luminance)) (length-rows format frame Cb 0 (row_count format Cb)))
    (length-rows format frame Cr 0 (row_count format Cr))
