-- What is known of a finished QCIF picture that was written.
use Rattle.std.proofs.Common.{◌≡◌, ℕ, zero, suc, ◌+◌, ◌*◌, ◌<◌, ◌≤◌, length, sym, ◌∙◌, ap, subst, refl, arith}
use Rattle.std.proofs.Math.Logic.{∥∥₁_elim}
use Rattle.std.proofs.Props.{props}
use Rattle.frame_laws.proofs.TextLengths.{length-text}
use Rattle.frame_laws.proofs.ThreeGroups.{of_three, by-three}
use Rattle.h261_pic.proofs.Texts.{length-views}
use Rattle.h261_pic.specs.Coded.{Coding, coding, view_of, HasPicture}
use Rattle.pel_model.specs.declared.Format.{Format}
use Rattle.pel_model.specs.declared.Format.TheVariants.{Qcif}
use Rattle.pel_model.specs.Records.{Group, Picture}
use Rattle.pel_model.specs.Text.{text}
use Rattle.pel_model.specs.Valid.{IsValidSoFar, IsValid, group_count, limit}
use Rattle.cif_mix.specs.Rows.{IsFinishedQcif, bits_below, IsBox}

numbers-three : (i : ℕ) → i < 3 → (tr : ℕ) (a b c : Group) → (view_of (coding Qcif (of_three tr a b c)) i).number ≡ 2 * i + 1
numbers-three zero less tr a b c = refl
numbers-three (suc zero) less tr a b c = refl
numbers-three (suc (suc zero)) less tr a b c = refl
numbers-three (suc (suc (suc i))) less tr a b c = absurd (omega arith)

abbrev IsFew : Picture → Type 0
IsFew p = length (text Qcif p) ≤ 65536 → bits_below (coding Qcif p) 3 ≤ 65426

few-three : (tr : ℕ) (a b c : Group) → IsFew (of_three tr a b c)
few-three tr a b c short = omega (arith, short, length-text Qcif (of_three tr a b c))

as-qcif : (box : Coding) (p : Picture) → box.format ≡ Qcif → box ≡ coding box.format p → box ≡ coding Qcif p
as-qcif box p qcif is = is ∙ ap (λ (f : Format). coding f p) qcif

number-is : (box : Coding) (i : ℕ) (p : Picture) → i < 3 → box ≡ coding Qcif p → IsValid Qcif p → (view_of box i).number ≡ 2 * i + 1
number-is box i p less is valid =
    ap (λ (c : Coding). (view_of c i).number) is
    ∙ by-three (λ q. (view_of (coding Qcif q) i).number ≡ 2 * i + 1) p (numbers-three i less) valid

few-is : (box : Coding) (p : Picture) → box ≡ coding Qcif p → IsValid Qcif p → length box.bits ≤ limit box.format → bits_below box 3 ≤ 65426
few-is box p is valid within =
    subst (λ (c : Coding). bits_below c 3 ≤ 65426) (sym is)
    (by-three IsFew p few-three valid (subst (λ (c : Coding). length c.bits ≤ limit c.format) is within))

-- a picture that goes as far as its groups do, and they are all there
valid-whole : (box : Coding) (p : Picture) → box.format ≡ Qcif → length box.groups ≡ group_count box.format → box ≡ coding box.format p → IsValidSoFar box.format p → IsValid Qcif p
valid-whole box p qcif count is so_far = record {
  so_far = subst (λ (f : Format). IsValidSoFar f p) qcif so_far;
  whole = sym (length-views 32 0 p.groups) ∙ sym (ap (λ (c : Coding). length c.groups) is) ∙ count ∙ ap group_count qcif;
}

pub box-of : (box : Coding) → (0 < length box.bits → HasPicture box) → length box.bits ≤ limit box.format → IsFinishedQcif box → IsBox box
box-of box has within finished = record {
  numbers = λ i less.
      ∥∥₁_elim (has finished.1.0) (hlevel props)
      (λ h. number-is box i h.0 less (as-qcif box h.0 finished.0 h.1) (valid-whole box h.0 finished.0 finished.1.1 h.1 h.2));
  few =
      ∥∥₁_elim (has finished.1.0) (hlevel props)
      (λ h. few-is box h.0 (as-qcif box h.0 finished.0 h.1) (valid-whole box h.0 finished.0 finished.1.1 h.1 h.2) within);
}
