-- A coded picture that gets groups with quantiser 1 and no macroblocks.
use Rattle.std.proofs.Common.{◌≡◌, ℕ, suc, ◌+◌, ◌-◌, ◌<◌, ◌≤◌, [], ◌∷◌, ◌++◌, length, refl, ◌∙◌, ap, arith, length-append}
use Rattle.h261_pic.specs.declared.coded.GroupView.{GroupView}
use Rattle.h261_pic.specs.Coded.{Coding, grown, next_number}
use Rattle.pel_model.specs.Text.{group_header}
use Rattle.h261_pic.specs.Adding.{emptied}

-- such groups were added, up to this place at most
pub record IsEmptied (old now : Coding) (place : ℕ) : Type 0 where
  pub so_far : now ≡ emptied (length now.groups - length old.groups) old
  pub more : length old.groups ≤ length now.groups
  pub within : length now.groups - length old.groups ≤ place - length old.groups
  pub format : now.format ≡ old.format
  pub begun : 0 < length now.bits

pub none_emptied : (old : Coding) (place : ℕ) → 0 < length old.bits → IsEmptied old old place
none_emptied old place begun =
    let none : 0 ≡ length old.groups - length old.groups = omega arith in record {
      so_far = ap (λ (n : ℕ). emptied n old) none;
      more = omega arith;
      within = omega arith;
      format = refl;
      begun = begun;
    }

pub one_more_emptied : (old now new : Coding) (place : ℕ) → IsEmptied old now place → length now.groups < place → new ≡ grown now 1 [] []
    → IsEmptied old new place
one_more_emptied old now new place is below new_is =
    let view : GroupView = record { number = next_number now; quant = 1; from = length now.bits + 26; len = 0; first_mark = length now.marks; marks = 0 } in
    let long : length new.groups ≡ length now.groups + 1 = ap (λ (c : Coding). length c.groups) new_is ∙ length-append now.groups (view ∷ []) in
    let bits : length new.bits ≡ length now.bits + length (group_header (next_number now) 1) + 0 =
    ap (λ (c : Coding). length c.bits) new_is ∙ length-append (now.bits ++ group_header (next_number now) 1) []
    ∙ ap (λ (n : ℕ). n + 0) (length-append now.bits (group_header (next_number now) 1)) in
    let steps : suc (length now.groups - length old.groups) ≡ length new.groups - length old.groups = omega (arith, is.more) in
    record {
      so_far = new_is ∙ ap (λ (c : Coding). grown c 1 [] []) is.so_far ∙ ap (λ (n : ℕ). emptied n old) steps;
      more = omega (arith, is.more);
      within = omega (arith, is.more);
      format = ap (λ (c : Coding). c.format) new_is ∙ is.format;
      begun = omega (arith, is.begun);
    }

pub all_emptied : (old now : Coding) (place : ℕ) → IsEmptied old now place → place ≤ length now.groups → now ≡ emptied (place - length old.groups) old
all_emptied old now place is over =
    let steps : length now.groups - length old.groups ≡ place - length old.groups = omega (arith, is.more, is.within) in
    is.so_far ∙ ap (λ (n : ℕ). emptied n old) steps
