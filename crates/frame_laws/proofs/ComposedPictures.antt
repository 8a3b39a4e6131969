-- The CIF picture that is composed of four valid QCIF pictures, group by group.
use Rattle.std.proofs.Common.{◌≡◌, ℕ, ◌+◌, ◌<◌, ◌≤◌, List, [], ◌∷◌, length, map, take, Option, None, Some, IfSome, All, refl, ◌∙◌, ap, arith}
use Rattle.std.proofs.lemmas.List.Elements.{All-nil, All-cons, All-tail, All-append}
use Rattle.pel_model.specs.declared.Format.TheVariants.{Qcif, Cif}
use Rattle.pel_model.specs.declared.Quad.{Quad}
use Rattle.pel_model.specs.declared.Quad.TheVariants.{One, Two, Three, Four}
use Rattle.pel_model.specs.Composed.{or_blank, composed_of, groups_in}
use Rattle.pel_model.specs.Crop.{crop}
use Rattle.pel_model.specs.Decode.{decode}
use Rattle.pel_model.specs.Frames.{Frame}
use Rattle.pel_model.specs.Records.{Group, Picture}
use Rattle.pel_model.specs.Regions.{groups_for, blank, composed, empty_group, side_by_side, number_in, renumbered}
use Rattle.pel_model.specs.Text.{text, macroblocks_text}
use Rattle.pel_model.specs.Transform.{Transform}
use Rattle.pel_model.specs.Valid.{IsValidGroup, IsValid, group_numbers, limit}
use Rattle.frame_laws.specs.Composing.{AreValid, place_after, ComposedShows, ComposedIsValid, ComposedLength, ComposedIsLegal}
use Rattle.frame_laws.proofs.Blanks.{unchanged-law}
use Rattle.frame_laws.proofs.InPlaces.{group-in-place}
use Rattle.frame_laws.proofs.Quadrants.{law, valid-stays}
use Rattle.frame_laws.proofs.TextLengths.{length-text}
use Rattle.frame_laws.proofs.ThreeGroups.{of_three, by-three}

-- ---- a picture for each place

empty-valid : (n : ℕ) → IsValidGroup Qcif (empty_group n)
empty-valid n = record { quant = (omega arith, omega arith); addresses = tt; macroblocks = All-nil _ }

blank-valid : IsValid Qcif blank
blank-valid = record {
  so_far = record {
    tr = omega arith;
    numbers = refl;
    groups =
        All-cons (IsValidGroup Qcif) (empty_group 1) (empty_group 3 ∷ empty_group 5 ∷ []) (empty-valid 1)
        (All-cons (IsValidGroup Qcif) (empty_group 3) (empty_group 5 ∷ []) (empty-valid 3)
        (All-cons (IsValidGroup Qcif) (empty_group 5) [] (empty-valid 5) (All-nil (IsValidGroup Qcif))));
  };
  whole = refl;
}

pub or-blank-valid : (p : Option Picture) → IfSome p (IsValid Qcif) → IsValid Qcif (or_blank p)
or-blank-valid None valid = blank-valid
or-blank-valid (Some p) valid = valid

blank-within : length (text Qcif blank) ≤ 65536
unfolding macroblocks_text
blank-within = omega (arith, length-text Qcif blank)

or-blank-within : (p : Option Picture) → IfSome p (λ q. length (text Qcif q) ≤ limit Qcif) → length (text Qcif (or_blank p)) ≤ 65536
or-blank-within None within = blank-within
or-blank-within (Some p) within = within

-- what holds of all pictures of three groups holds of four valid ones
pub by-four : (P : (one two three four : Picture) → Type 0)
    → ((i : ℕ) (a b c : Group) (j : ℕ) (d e f : Group) (k : ℕ) (g h m : Group) (l : ℕ) (n o q : Group)
    → P (of_three i a b c) (of_three j d e f) (of_three k g h m) (of_three l n o q))
    → (one two three four : Picture) → IsValid Qcif one → IsValid Qcif two → IsValid Qcif three → IsValid Qcif four → P one two three four
by-four P all one two three four first second third fourth =
    by-three (λ p. P p two three four) one
    (λ i a b c. by-three (λ p. P (of_three i a b c) p three four) two
    (λ j d e f. by-three (λ p. P (of_three i a b c) (of_three j d e f) p four) three
    (λ k g h m. by-three (λ p. P (of_three i a b c) (of_three j d e f) (of_three k g h m) p) four
    (λ l n o q. all i a b c j d e f k g h m l n o q) fourth) third) second) first

-- ---- the groups of a place

abbrev pick : Quad → (one two three four : Picture) → Picture
pick One one two three four = one
pick Two one two three four = two
pick Three one two three four = three
pick Four one two three four = four

groups-of-three : (place : Quad) (tr : ℕ) (i : ℕ) (a b c : Group) (j : ℕ) (d e f : Group) (k : ℕ) (g h m : Group) (l : ℕ) (n o q : Group)
    → groups_in place (composed tr (of_three i a b c) (of_three j d e f) (of_three k g h m) (of_three l n o q))
    ≡ groups_for place (pick place (of_three i a b c) (of_three j d e f) (of_three k g h m) (of_three l n o q))
groups-of-three One tr i a b c j d e f k g h m l n o q = refl
groups-of-three Two tr i a b c j d e f k g h m l n o q = refl
groups-of-three Three tr i a b c j d e f k g h m l n o q = refl
groups-of-three Four tr i a b c j d e f k g h m l n o q = refl

groups-of-four : (place : Quad) (tr : ℕ) (one two three four : Picture) → IsValid Qcif one → IsValid Qcif two → IsValid Qcif three → IsValid Qcif four
    → groups_in place (composed tr one two three four) ≡ groups_for place (pick place one two three four)
groups-of-four place tr =
    by-four (λ (p q r s : Picture). groups_in place (composed tr p q r s) ≡ groups_for place (pick place p q r s)) (groups-of-three place tr)

pick-is : (place : Quad) (shown : Quad → Option Picture)
    → pick place (or_blank (shown One)) (or_blank (shown Two)) (or_blank (shown Three)) (or_blank (shown Four)) ≡ or_blank (shown place)
pick-is One shown = refl
pick-is Two shown = refl
pick-is Three shown = refl
pick-is Four shown = refl

pub groups-composed : (place : Quad) (tr : ℕ) (shown : Quad → Option Picture) → AreValid shown
    → groups_in place (composed_of tr shown) ≡ groups_for place (or_blank (shown place))
groups-composed place tr shown valid =
    groups-of-four place tr (or_blank (shown One)) (or_blank (shown Two)) (or_blank (shown Three)) (or_blank (shown Four))
    (or-blank-valid (shown One) (valid One)) (or-blank-valid (shown Two) (valid Two)) (or-blank-valid (shown Three) (valid Three)) (or-blank-valid (shown Four) (valid Four))
    ∙ ap (groups_for place) (pick-is place shown)

shows-by : (t : Transform) (before : Frame) (whole : Picture) (place : Quad) (p : Option Picture) → IfSome p (IsValid Qcif)
    → groups_in place whole ≡ groups_for place (or_blank p) → crop place (decode Cif t before whole) ≡ place_after t (crop place before) p
shows-by t before whole place None valid same = unchanged-law t before place whole same
shows-by t before whole place (Some p) valid same = law t before place whole p (valid-stays p valid) same

pub composed-shows : ComposedShows
composed-shows t before tr shown place valid =
    shows-by t before (composed_of tr shown) place (shown place) (valid place) (groups-composed place tr shown valid)

-- ---- validity

side-by-side-all : (P : Group → Type 0) (gs hs : List Group) → All P gs → All P hs → All P (side_by_side gs hs)
side-by-side-all P [] hs left right = right
side-by-side-all P (g ∷ gs) [] left right = left
side-by-side-all P (g ∷ gs) (h ∷ hs) left right =
    All-cons P g (h ∷ side_by_side gs hs) (left 0 g (omega arith))
    (All-cons P h (side_by_side gs hs) (right 0 h (omega arith)) (side-by-side-all P gs hs (All-tail P g gs left) (All-tail P h hs right)))

abbrev MovedValid : Quad → Picture → Type 0
MovedValid place p = IsValid Qcif p → All (IsValidGroup Cif) (groups_for place p)

moved-three : (place : Quad) (tr : ℕ) (a b c : Group) → MovedValid place (of_three tr a b c)
moved-three place tr a b c valid =
    let first : Group = renumbered (number_in place 1) a in
    let second : Group = renumbered (number_in place 3) b in
    let third : Group = renumbered (number_in place 5) c in
    All-cons (IsValidGroup Cif) first (second ∷ third ∷ []) (group-in-place place (renumbered 1 a) refl (valid.so_far.groups 0 a (omega arith)))
    (All-cons (IsValidGroup Cif) second (third ∷ []) (group-in-place place (renumbered 3 b) refl (valid.so_far.groups 1 a (omega arith)))
    (All-cons (IsValidGroup Cif) third [] (group-in-place place (renumbered 5 c) refl (valid.so_far.groups 2 a (omega arith))) (All-nil (IsValidGroup Cif))))

moved-valid : (place : Quad) (p : Picture) → MovedValid place p
moved-valid place p valid = by-three (MovedValid place) p (moved-three place) valid valid

-- its groups are the twelve of a CIF picture
abbrev HasNumbers : (tr : ℕ) → (one two three four : Picture) → Type 0
HasNumbers tr one two three four =
    (map (λ (g : Group). g.number) (composed tr one two three four).groups ≡ take (length (composed tr one two three four).groups) (group_numbers Cif))
    × (length (composed tr one two three four).groups ≡ 12)

composed-four : (tr : ℕ) (one two three four : Picture) → tr < 32 → IsValid Qcif one → IsValid Qcif two → IsValid Qcif three → IsValid Qcif four
    → IsValid Cif (composed tr one two three four)
composed-four tr one two three four small first second third fourth =
    let numbers : HasNumbers tr one two three four =
    by-four (HasNumbers tr) (λ i a b c j d e f k g h m l n o q. (refl, refl)) one two three four first second third fourth in
    record {
      so_far = record {
        tr = small;
        numbers = numbers.0;
        groups =
            All-append (IsValidGroup Cif) (side_by_side (groups_for One one) (groups_for Two two)) (side_by_side (groups_for Three three) (groups_for Four four))
            (side-by-side-all (IsValidGroup Cif) (groups_for One one) (groups_for Two two) (moved-valid One one first) (moved-valid Two two second))
            (side-by-side-all (IsValidGroup Cif) (groups_for Three three) (groups_for Four four) (moved-valid Three three third) (moved-valid Four four fourth));
      };
      whole = numbers.1;
    }

pub composed-valid : ComposedIsValid
composed-valid tr shown small valid =
    composed-four tr (or_blank (shown One)) (or_blank (shown Two)) (or_blank (shown Three)) (or_blank (shown Four)) small
    (or-blank-valid (shown One) (valid One)) (or-blank-valid (shown Two) (valid Two)) (or-blank-valid (shown Three) (valid Three)) (or-blank-valid (shown Four) (valid Four))

-- ---- lengths

abbrev IsSum : (tr : ℕ) → (one two three four : Picture) → Type 0
IsSum tr one two three four =
    length (text Cif (composed tr one two three four)) + 96
    ≡ length (text Qcif one) + length (text Qcif two) + length (text Qcif three) + length (text Qcif four)

sum-three : (tr : ℕ) (i : ℕ) (a b c : Group) (j : ℕ) (d e f : Group) (k : ℕ) (g h m : Group) (l : ℕ) (n o q : Group)
    → IsSum tr (of_three i a b c) (of_three j d e f) (of_three k g h m) (of_three l n o q)
sum-three tr i a b c j d e f k g h m l n o q =
    omega (
      arith,
      length-text Cif (composed tr (of_three i a b c) (of_three j d e f) (of_three k g h m) (of_three l n o q)),
      length-text Qcif (of_three i a b c),
      length-text Qcif (of_three j d e f),
      length-text Qcif (of_three k g h m),
      length-text Qcif (of_three l n o q),
    )

pub composed-length : ComposedLength
composed-length tr shown valid =
    by-four (IsSum tr) (sum-three tr) (or_blank (shown One)) (or_blank (shown Two)) (or_blank (shown Three)) (or_blank (shown Four))
    (or-blank-valid (shown One) (valid One)) (or-blank-valid (shown Two) (valid Two)) (or-blank-valid (shown Three) (valid Three)) (or-blank-valid (shown Four) (valid Four))

pub composed-legal : ComposedIsLegal
composed-legal tr shown small valid within =
    let short : length (text Cif (composed_of tr shown)) ≤ 262048 =
    omega (
      arith,
      composed-length tr shown valid,
      or-blank-within (shown One) (within One),
      or-blank-within (shown Two) (within Two),
      or-blank-within (shown Three) (within Three),
      or-blank-within (shown Four) (within Four),
    ) in
    ((composed_of tr shown, composed-valid tr shown small valid, refl, omega (arith, short)), short)
