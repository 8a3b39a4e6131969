-- Worked lines of a watch, with numbers counted by hand.
use Rattle.std.proofs.Common.{◌≡◌, ℕ, Bool, true, false, if◌then◌else◌, List, [], ◌∷◌, ◌++◌, replicate, pos, None, Some, codes, refl}
use Rattle.std.specs.Fmt.{digits}
use Rattle.pel_model.specs.declared.MbKind.TheVariants.{Intra, Inter}
use Rattle.pel_model.specs.declared.Why.TheVariants.{Cut}
use Rattle.pel_model.specs.Records.{Macroblock, Group, Picture}
use Rattle.rtp_h261.specs.Events.{Event, Lost, Shown, Refused}
use Rattle.update_watch.specs.Late.{late}
use Rattle.update_watch.specs.Overdue.{Place, overdue_line, told_overdue}

-- ---- lines

pub line : overdue_line 172 (record { group = 5; address = 18; places = 3 }) ≡ codes "overdue 172 group 5 address 18 places 3\n"
unfolding overdue_line digits
line = refl

abbrev place : (group address : ℕ) → Place
place group address = record { group = group; address = address }

pub told :
    (told_overdue [] ≡ None)
    × (told_overdue (place 3 7 ∷ place 3 9 ∷ place 5 1 ∷ []) ≡ Some (record { group = 3; address = 7; places = 3 }))
told = (refl, refl)

-- ---- streams: of a picture only what it sends counts

abbrev macroblock : Bool → (address : ℕ) → Macroblock
macroblock intra address =
    record { address = address; kind = if intra then Intra else Inter; mquant = None; across = pos 0; down = pos 0; blocks = [] }

abbrev shows : (group : ℕ) → List Macroblock → Event
shows group macroblocks = Shown (record { tr = 0; groups = record { number = group; quant = 8; macroblocks = macroblocks } ∷ [] })

abbrev inter : Event
inter = shows 3 (macroblock false 7 ∷ [])

abbrev intra : Event
intra = shows 3 (macroblock true 7 ∷ [])

abbrev both : Event
both = shows 3 (macroblock false 7 ∷ macroblock false 33 ∷ [])

abbrev at_place : (n places : ℕ) → List (List ℕ)
at_place n places = overdue_line n (record { group = 3; address = 7; places = places }) ∷ []

pub streams :
    (late (replicate 131 inter) ≡ []) × (late (replicate 134 inter) ≡ at_place 132 1)
    × (late (intra ∷ replicate 132 inter) ≡ at_place 133 1) × (late (intra ∷ replicate 131 inter ++ intra ∷ inter ∷ []) ≡ [])
    × (late (replicate 132 both) ≡ at_place 132 2)
    × (late (replicate 131 inter ++ shows 5 (macroblock false 7 ∷ []) ∷ inter ∷ []) ≡ at_place 133 1)
streams = (refl, refl, refl, refl, refl, refl)

pub gaps :
    (late (replicate 131 inter ++ Lost ∷ replicate 131 inter) ≡ [])
    × (late (replicate 131 inter ++ Refused 20 Cut ∷ replicate 132 inter) ≡ at_place 264 1)
gaps = (refl, refl)
