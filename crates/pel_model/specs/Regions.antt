-- The four places of the composed picture: which CIF groups stand in each (H.261, 4.2.2), and the CIF picture made of
-- the QCIF pictures that are shown in them.
use Rattle.std.specs.Prelude.{ℕ, ◌+◌, ◌*◌, List, [], ◌∷◌, ◌++◌, map}
use Rattle.pel_model.specs.declared.Quad.{Quad}
use Rattle.pel_model.specs.declared.Quad.TheVariants.{One, Two, Three, Four}
use Rattle.pel_model.specs.Records.{Group, Picture}

-- a place's number
abbrev pub number_of : Quad → ℕ
number_of One = 1
number_of Two = 2
number_of Three = 3
number_of Four = 4

-- whether a place lies to the right, and below
abbrev pub right : Quad → ℕ
right One = 0
right Two = 1
right Three = 0
right Four = 1

abbrev pub below : Quad → ℕ
below One = 0
below Two = 0
below Three = 1
below Four = 1

-- the number that QCIF group n has in a place: 1, 3, 5 become 1, 3, 5, or 2, 4, 6, or 7, 9, 11, or 8, 10, 12
abbrev pub number_in : Quad → ℕ → ℕ
number_in place n = n + right place + 6 * below place

abbrev pub renumbered : ℕ → Group → Group
renumbered number g = record g { number = number }

-- a group of a QCIF picture with its number in a place
abbrev pub renumbered_for : Quad → Group → Group
renumbered_for place g = renumbered (number_in place g.number) g

-- the groups of a QCIF picture with their numbers in a place
abbrev pub groups_for : Quad → Picture → List Group
groups_for place picture = map (renumbered_for place) picture.groups

-- a group that sends nothing
abbrev pub empty_group : ℕ → Group
empty_group number = record { number = number; quant = 1; macroblocks = [] }

-- a QCIF picture that sends nothing
abbrev pub blank : Picture
blank = record { tr = 0; groups = empty_group 1 ∷ empty_group 3 ∷ empty_group 5 ∷ [] }

-- the groups of the left place and of the right place by turns
abbrev pub side_by_side : List Group → List Group → List Group
side_by_side [] gs = gs
side_by_side (g ∷ gs) [] = g ∷ gs
side_by_side (g ∷ gs) (h ∷ hs) = g ∷ h ∷ side_by_side gs hs

-- the CIF picture that shows these pictures in the four places
abbrev pub composed : ℕ → (one two three four : Picture) → Picture
composed tr one two three four = record {
  tr = tr;
  groups = side_by_side (groups_for One one) (groups_for Two two) ++ side_by_side (groups_for Three three) (groups_for Four four);
}

-- the CIF picture that shows this picture in one place, and nothing elsewhere
abbrev pub shown_in : Quad → ℕ → Picture → Picture
shown_in One tr p = composed tr p blank blank blank
shown_in Two tr p = composed tr blank p blank blank
shown_in Three tr p = composed tr blank blank p blank
shown_in Four tr p = composed tr blank blank blank p
