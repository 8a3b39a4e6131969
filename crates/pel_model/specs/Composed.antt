-- The CIF picture that shows up to four QCIF pictures, each in its place, and the groups of a CIF picture that stand in a
-- place (H.261, 4.2.2).
use Rattle.std.specs.Prelude.{ℕ, ◌==◌, ◌||◌, Bool, List, filter, Option, unwrap_or}
use Rattle.pel_model.specs.declared.Quad.{Quad}
use Rattle.pel_model.specs.declared.Quad.TheVariants.{One, Two, Three, Four}
use Rattle.pel_model.specs.Records.{Group, Picture}
use Rattle.pel_model.specs.Regions.{number_in, blank, composed}

-- the picture that a place gets: where none is shown, one that sends nothing
abbrev pub or_blank : Option Picture → Picture
or_blank picture = unwrap_or picture blank

-- the CIF picture with this TR
abbrev pub composed_of : (tr : ℕ) → (shown : Quad → Option Picture) → Picture
composed_of tr shown =
    composed tr (or_blank (shown One)) (or_blank (shown Two)) (or_blank (shown Three)) (or_blank (shown Four))

-- the group with this number stands in the place
abbrev pub stands_in : Quad → ℕ → Bool
stands_in place number =
    (number == number_in place 1) || (number == number_in place 3) || (number == number_in place 5)

abbrev pub groups_in : Quad → Picture → List Group
groups_in place picture = filter (λ (g : Group). stands_in place g.number) picture.groups
