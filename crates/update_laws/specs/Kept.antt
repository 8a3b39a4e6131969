-- Forced updating (H.261, 3.4): a macroblock is to be coded INTRA at least once in every 132 times that it is transmitted.
use Rattle.std.specs.Prelude.{◌≡◌, ℕ, ◌≤◌, ◌==◌, ◌&&◌, Bool, true, false, if◌then◌else◌, List, [], ◌∷◌, ◌++◌, length, map, Option, Some, None, is_some, filter_map}
use Rattle.std.specs.List.{list_any}
use Rattle.pel_model.specs.Codes.{is_intra}
use Rattle.pel_model.specs.Decode.{Quantised, in_groups}
use Rattle.pel_model.specs.Records.{Macroblock, Picture}

-- one in so many transmissions
abbrev pub updated_within : ℕ
updated_within = 132

-- a place of a macroblock, by the number of its group and its address there (4.2.2, 4.2.3): 12 groups of 33 in CIF, of
-- which QCIF has the groups 1, 3 and 5
pub record IsPlace (group address : ℕ) : Type 0 where
  pub group_from : 1 ≤ group
  pub group_to : group ≤ 12
  pub address_from : 1 ≤ address
  pub address_to : address ≤ 33

-- ---- what is sent at a place

abbrev pub macroblock_of : Option Quantised → Option Macroblock
macroblock_of None = None
macroblock_of (Some found) = Some found.macroblock

-- the macroblock that a picture sends there, if it does
abbrev pub sent_at : (group address : ℕ) → Picture → Option Macroblock
sent_at group address picture = macroblock_of (in_groups group address picture.groups)

-- its transmissions in pictures, in their order
abbrev pub transmissions : (group address : ℕ) → List Picture → List Macroblock
transmissions group address pictures = filter_map (sent_at group address) pictures

abbrev pub is_update : Macroblock → Bool
is_update m = is_intra m.kind

-- ---- what is promised

-- among every 132 transmissions one after another there is an Intra one
abbrev pub AreUpdated : List Macroblock → Type 0
AreUpdated sent =
    (before window after : List Macroblock) → sent ≡ before ++ window ++ after → length window ≡ updated_within
    → list_any is_update window ≡ true

-- so it is at each place
abbrev pub Kept : List Picture → Type 0
Kept pictures =
    (group address : ℕ) → IsPlace group address → AreUpdated (transmissions group address pictures)

-- what came, in its order: pictures, and gaps, where there is none. Every list of pictures that came one after another,
-- with no gap between, is Kept
abbrev pub KeepsUpdating : List (Option Picture) → Type 0
KeepsUpdating came =
    (before after : List (Option Picture)) (stretch : List Picture) → came ≡ before ++ map Some stretch ++ after
    → Kept stretch

-- ---- and where it is broken first

-- how many transmissions stand behind the last Intra one, or all where there is none
abbrev pub run : List Macroblock → ℕ
run [] = 0
run (m ∷ ms) = if list_any is_update (m ∷ ms) then run ms else length (m ∷ ms)

-- the place is overdue at the picture that comes behind these of its stretch: it is sent, and its run is 132 then
abbrev pub is_overdue : (stretch : List Picture) → Picture → (group address : ℕ) → Bool
is_overdue stretch picture group address =
    is_some (sent_at group address picture)
    && (run (transmissions group address (stretch ++ picture ∷ [])) == updated_within)

-- a stretch is Kept exactly where no place is overdue at a picture of it
abbrev pub NeverOverdue : List Picture → Type 0
NeverOverdue stretch =
    (before after : List Picture) (picture : Picture) → stretch ≡ before ++ picture ∷ after
    → (group address : ℕ) → IsPlace group address → is_overdue before picture group address ≡ false

pub record OverdueLaw : Type 0 where
  pub none : (stretch : List Picture) → Kept stretch → NeverOverdue stretch
  pub kept : (stretch : List Picture) → NeverOverdue stretch → Kept stretch
