-- What is told of a picture: its planes, and what is shown from then on.
use Rattle.std.proofs.Common.{◌≡◌, ℕ, ◌≤◌, inl, inr, List, [], ◌∷◌, ◌++◌, length, Result, Ok, Err, IsErr, IfOk, refl, sym, ◌∙◌, ap, ap₂, subst, append-nil, arith}
use Rattle.std.specs.Io.KnownBytes.{Appends}
use Rattle.std.proofs.Math.Path.{fun_ext}
use Rattle.std.proofs.lemmas.Bool.{cases_Bool, cond-true, cond-false}
use Rattle.io_edge.specs.Causes.{HasCause}
use Rattle.io_edge.specs.Outside.{Outside, Output}
use Rattle.io_edge.specs.Whole.{PutsAll}
use Rattle.pel_model.specs.declared.Format.{Format}
use Rattle.pel_model.specs.declared.Format.TheVariants.{Qcif, Cif}
use Rattle.pel_model.specs.Decode.{decode}
use Rattle.pel_model.specs.Frames.{Plane, Frame, is_inside}
use Rattle.pel_model.specs.Records.{Picture}
use Rattle.pel_model.specs.Transform.{fixed}
use Rattle.rtp_h261.specs.declared.unit_end.UnitEnd.{UnitEnd}
use Rattle.rtp_h261.specs.Events.{Event, Shown}
use Rattle.rtp_h261.specs.Tellers.{PutsHere, TellsEvent}
use Rattle.rtp_h261.specs.UnitEnds.{ReadsUnits}
use Rattle.ref_decode.specs.Planes.{planes_duty, planes_from, planes_shown}
use Rattle.ref_decode.specs.Shown.{Shown as Screen, black, frame_of, nothing_shown, planes_of, sample_count, sample_place}
use Rattle.ref_decode.proofs.Rowing.{zeros_at}

-- a set of planes is a piece that may be put
few-samples : (format : Format) → sample_count format ≤ 262144
few-samples Qcif = omega arith
few-samples Cif = omega arith

-- of a picture the planes are put that are shown after it
told-picture : {E : Type 0} (result : Result ℕ E) (old new : Screen) (number : ℕ) (p : Picture) (before after : Output) → new.format ≡ old.format
    → frame_of new ≡ decode old.format fixed (frame_of old) p → PutsHere (planes_of new.format (frame_of new) ∷ []) before.written after.written result
    → IfOk result (λ octets. octets ≤ 262144) → HasCause before.faults after.faults result
    → TellsEvent (planes_duty old) (planes_duty new) number (Shown p) before after result
told-picture result old new number p before after same is put few cause = record {
  here = planes_of new.format (frame_of new) ∷ [];
  others = λ events. sym (ap₂ (λ (f : Format) (frame : Frame). planes_of f frame ∷ planes_from f frame events) same is);
  put = put;
  counts = tt;
  few = few;
  format = same;
  cause = cause;
}

-- they were put whole
pub put-whole : {E : Type 0} (x : Unit) (old new : Screen) (number : ℕ) (p : Picture) (before after : Output) (octets : ℕ) → new.format ≡ old.format
    → frame_of new ≡ decode old.format fixed (frame_of old) p → PutsAll {E = E} before after (planes_of new.format (frame_of new)) (Ok x)
    → octets ≡ sample_count new.format → octets ≡ length (planes_of new.format (frame_of new))
    → TellsEvent {E = E} (planes_duty old) (planes_duty new) number (Shown p) before after (Ok octets)
put-whole x old new number p before after octets same is puts count counted =
    let piece = planes_of new.format (frame_of new) in
    let one : piece ++ [] ≡ piece = append-nil piece in
    told-picture (Ok octets) old new number p before after same is
    (subst (Appends before.written after.written) (sym one) puts.bytes, counted ∙ ap length (sym one))
    (omega (arith, count, few-samples new.format))
    (record { later = puts.cause.later; counted = puts.cause.counted; kept = puts.cause.kept; failed = puts.cause.failed })

-- or a front of them
pub put-front : {E F : Type 0} (result : Result ℕ E) (e : F) (old new : Screen) (number : ℕ) (p : Picture) (before after : Output) → new.format ≡ old.format
    → frame_of new ≡ decode old.format fixed (frame_of old) p → IsErr result → PutsAll before after (planes_of new.format (frame_of new)) (Err e)
    → TellsEvent (planes_duty old) (planes_duty new) number (Shown p) before after result
put-front (Ok octets) e old new number p before after same is fails puts = absurd (cc)
put-front (Err f) e old new number p before after same is fails puts =
    told-picture (Err f) old new number p before after same is
    (planes_of new.format (frame_of new), refl, puts.bytes.0, puts.bytes.1, puts.bytes.2) tt
    (record { later = puts.cause.later; counted = puts.cause.counted; kept = puts.cause.kept; failed = puts.cause.failed })

-- ---- what is shown at first

black-shown : (format : Format) → frame_of (nothing_shown format) ≡ black
black-shown format = fun_ext λ plane. fun_ext λ x. fun_ext λ y. same plane x y
  where
    same : (plane : Plane) (x y : ℕ) → frame_of (nothing_shown format) plane x y ≡ 0
    same plane x y = elim (cases_Bool (is_inside format plane x y)) [
      | inl h ↦ cond-true _ _ _ h ∙ zeros_at (sample_count format) (sample_place format plane x y)
      | inr h ↦ cond-false _ _ _ h
    ]

from-black : (format : Format) (store : Screen) → store ≡ nothing_shown format → (λ events. planes_from store.format (frame_of store) events) ≡ planes_shown format
from-black format store is =
    ap (λ (s : Screen). λ (events : List Event). planes_from s.format (frame_of s) events) is
    ∙ ap (λ (frame : Frame). λ (events : List Event). planes_from format frame events) (black-shown format)

pub ends-shown : (format : Format) (store : Screen) (budget : ℕ) (before after : Outside) (end : UnitEnd) → store ≡ nothing_shown format
    → ReadsUnits format budget (λ events. planes_from store.format (frame_of store) events) before after end → ReadsUnits format budget (planes_shown format) before after end
ends-shown format store budget before after end is h =
    subst (λ (pieces : List Event → List (List ℕ)). ReadsUnits format budget pieces before after end) (from-black format store is) h
