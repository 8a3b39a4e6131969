-- Macroblocks that are overdue for forced updating (H.261, 3.4), and how that is told.
use Rattle.std.specs.Prelude.{ℕ, List, [], ◌∷◌, ◌++◌, length, map, filter, Option, Some, None, decimal, codes}
use Rattle.std.specs.List.{flat_map}
use Rattle.pel_model.specs.Records.{Macroblock, Group, Picture}
use Rattle.update_laws.specs.Kept.{is_overdue}
use Rattle.update_watch.specs.declared.overdue.Overdue.{Overdue}

-- a macroblock's group and its address in it
pub record Place : Type 0 where
  pub group : ℕ
  pub address : ℕ

-- the places that a picture sends; in a valid one they rise, by group and address
abbrev pub places_in : Group → List Place
places_in g = map (λ (m : Macroblock). record { group = g.number; address = m.address }) g.macroblocks

abbrev pub sent_places : Picture → List Place
sent_places picture = flat_map places_in picture.groups

-- those that are overdue at it, where it comes behind these pictures of its stretch
abbrev pub overdue_places : (stretch : List Picture) → Picture → List Place
overdue_places stretch picture =
    filter (λ (place : Place). is_overdue stretch picture place.group place.address) (sent_places picture)

-- the first of them, and how many they are
abbrev pub told_overdue : List Place → Option Overdue
told_overdue [] = None
told_overdue (place ∷ places) =
    Some (record { group = place.group; address = place.address; places = length (place ∷ places) })

-- its line, with the number of the event
unfoldable pub overdue_line : (n : ℕ) → Overdue → List ℕ
overdue_line n overdue =
    codes "overdue " ++ decimal n
    ++ codes " group " ++ decimal overdue.group
    ++ codes " address " ++ decimal overdue.address
    ++ codes " places " ++ decimal overdue.places
    ++ codes "\n"

abbrev pub overdue_lines : (n : ℕ) → Option Overdue → List (List ℕ)
overdue_lines n None = []
overdue_lines n (Some overdue) = overdue_line n overdue ∷ []
