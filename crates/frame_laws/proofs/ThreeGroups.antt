-- The three groups of a valid QCIF picture.
use Rattle.std.proofs.Common.{◌≡◌, ℕ, List, [], ◌∷◌, length, map, take, slice_index, sym, ◌∙◌, ap, ap₂, subst, arith}
use Rattle.pel_model.specs.declared.Format.TheVariants.{Qcif}
use Rattle.pel_model.specs.Records.{Group, Picture}
use Rattle.pel_model.specs.Regions.{renumbered}
use Rattle.pel_model.specs.Valid.{IsValid}

abbrev pub of_three : ℕ → (first second third : Group) → Picture
of_three tr first second third = record { tr = tr; groups = renumbered 1 first ∷ renumbered 3 second ∷ renumbered 5 third ∷ [] }

record HasThree (groups : List Group) : Type 0 where
  first : Group
  second : Group
  third : Group
  are : groups ≡ renumbered 1 first ∷ renumbered 3 second ∷ renumbered 5 third ∷ []

has-number : (g : Group) (n : ℕ) → g.number ≡ n → g ≡ renumbered n g
has-number g n is = ap (λ (k : ℕ). renumbered k g) is

three-groups : (gs : List Group) → map (λ (g : Group). g.number) gs ≡ take (length gs) (1 ∷ 3 ∷ 5 ∷ []) → length gs ≡ 3 → HasThree gs
three-groups [] numbers three = absurd (omega arith)
three-groups (a ∷ []) numbers three = absurd (omega arith)
three-groups (a ∷ b ∷ []) numbers three = absurd (omega arith)
three-groups (a ∷ b ∷ c ∷ []) numbers three =
    let one : a ≡ renumbered 1 a = has-number a 1 (ap (λ ns. slice_index ns 0) numbers) in
    let two : b ≡ renumbered 3 b = has-number b 3 (ap (λ ns. slice_index ns 1) numbers) in
    let last : c ≡ renumbered 5 c = has-number c 5 (ap (λ ns. slice_index ns 2) numbers) in
    record {
      first = a;
      second = b;
      third = c;
      are = ap₂ (λ (g : Group) (h : Group). g ∷ h ∷ c ∷ []) one two ∙ ap (λ (g : Group). renumbered 1 a ∷ renumbered 3 b ∷ g ∷ []) last;
    }
three-groups (a ∷ b ∷ c ∷ d ∷ gs) numbers three = absurd (omega arith)

-- what holds of all pictures of three groups holds of a valid one
pub by-three : (P : Picture → Type 0) (p : Picture) → ((tr : ℕ) (a b c : Group) → P (of_three tr a b c)) → IsValid Qcif p → P p
by-three P p all valid =
    let three : HasThree p.groups = three-groups p.groups valid.so_far.numbers valid.whole in
    let is : record { tr = p.tr; groups = renumbered 1 three.first ∷ renumbered 3 three.second ∷ renumbered 5 three.third ∷ [] } ≡ p =
    ap (λ (gs : List Group). record { tr = p.tr; groups = gs }) (sym three.are) in
    subst P is (all p.tr three.first three.second three.third)
