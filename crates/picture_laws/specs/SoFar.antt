-- A picture as far as its elements were read: what a reader that goes from left to right knows of its record. The proof of
-- a parser rests on this; a parser's contract does not.
use Rattle.std.specs.Prelude.{◌≡◌, ℕ, ◌<◌, ◌≤◌, Bool, false, ℤ, pos, nat_abs, List, [], ◌∷◌, ◌++◌, length, get_or, Option, Some, None}
use Rattle.pel_model.specs.declared.Format.{Format}
use Rattle.pel_model.specs.Codes.{has_vector}
use Rattle.pel_model.specs.Records.{Axis, Macroblock, Group, Picture, component, with_group, quantiser_after, quantiser_behind}
use Rattle.pel_model.specs.Text.{address_of, macroblock_text, macroblocks_text}
use Rattle.pel_model.specs.Valid.{IsValidGroup, IsValidSoFar, IsValid, group_numbers, group_count}
use Rattle.pel_model.specs.Headers.{FreeBits}
use Rattle.pel_model.specs.Spelling.{GroupForm, Sent, GroupsFit}
use Rattle.pel_model.specs.Accepts.{Accepts}
use Rattle.pel_model.specs.Walk.{after, Goes, Reads}
use Rattle.pel_model.specs.Elements.{AreInside}
use Rattle.pel_model.specs.Grammar.{Element, Psc, Tr, Ptype, Gbsc, Gn, Gquant, Stuffing, Mba, slot, AtGroup, AtMacroblock, group, address, quantiser, vector_component, next, next_within_limit}
use Rattle.picture_laws.specs.Laws.{StandInside}
use Rattle.picture_laws.specs.PictureElements.{elements_of_macroblock, elements_of_group, elements_of_groups, elements_of_header, Tells}

-- ---- behind a macroblock

-- a component of the vector before
abbrev pub last_component : Axis → Option Macroblock → ℤ
last_component axis None = pos 0
last_component axis (Some m) = component axis m

-- what is known of the macroblock before, where there is one
abbrev pub IsSentBefore : Option Macroblock → Type 0
IsSentBefore None = Unit {0}
IsSentBefore (Some m) =
    (0 < m.address)
    × ((axis : Axis) → nat_abs (component axis m) ≤ 15)
    × ((axis : Axis) → has_vector m.kind ≡ false → component axis m ≡ pos 0)

-- a macroblock may come, in the group with this number, of which `last` was sent last
pub record IsBehind (number : ℕ) (last : Option Macroblock) (before : List Element) : Type 0 where
  pub at : slot before ≡ AtMacroblock
  pub group_is : group before ≡ number
  pub address_is : address before ≡ address_of last
  pub vector_is : (axis : Axis) → vector_component axis before ≡ last_component axis last
  pub last_is : IsSentBefore last

-- the last of these macroblocks, or `last` where there is none
abbrev pub last_sent : Option Macroblock → List Macroblock → Option Macroblock
last_sent last [] = last
last_sent last (m ∷ ms) = last_sent (Some m) ms

-- ---- a group so far

abbrev pub group_with : ℕ → ℕ → List Macroblock → Group
group_with number quant ms = record { number = number; quant = quant; macroblocks = ms }

-- behind `before`, the elements are a group's header and these macroblocks, with spare octets and stuffing
pub record IsGroupSoFar (format : Format) (before : List Element) (number quant : ℕ) (ms : List Macroblock) (es : List Element) : Type 0 where
  pub spares : List ℕ
  pub stuffings : ℕ
  pub behind : List ℕ
  pub each : length behind ≡ length ms
  pub elements : es ≡ elements_of_group (Sent spares stuffings behind) (group_with number quant ms)
  pub valid : IsValidGroup format (group_with number quant ms)
  pub place : IsBehind number (last_sent None ms) (after before es)
  pub quant_is : quantiser (after before es) ≡ quantiser_behind quant ms

-- good elements with none of which a group, stuffing or a macroblock begins stand at no place where an end can be
abbrev pub InsideStands : Type 0
InsideStands =
    (format : Format) (before : List Element) (r end : List Bool × ℕ) (es : List Element)
    → Goes (next format) before r es end → AreInside es → StandInside before es

-- a group's header was read
abbrev pub GroupBegins : Type 0
GroupBegins =
    (format : Format) (before : List Element) (r end : List Bool × ℕ) (number quant : ℕ) (es : List Element)
    → Goes (next format) before r (Gbsc ∷ (Gn number ∷ (Gquant quant ∷ es))) end → AreInside es
    → slot (after before (Gbsc ∷ (Gn number ∷ (Gquant quant ∷ es)))) ≡ AtMacroblock
    → IsGroupSoFar format before number quant [] (Gbsc ∷ (Gn number ∷ (Gquant quant ∷ es)))

-- stuffing was read
abbrev pub StuffingJoins : Type 0
StuffingJoins =
    (format : Format) (before : List Element) (number quant : ℕ) (ms : List Macroblock) (es : List Element)
    → IsGroupSoFar format before number quant ms es → IsGroupSoFar format before number quant ms (es ++ Stuffing ∷ [])

-- a macroblock that was read behind these: its bits are its text, its address, vector and quantiser are those that the
-- elements say, and it is the group's next
pub record IsJoined (format : Format) (before : List Element) (number quant : ℕ) (ms : List Macroblock) (es more : List Element) (r end : List Bool × ℕ) : Type 0 where
  pub macroblock : Macroblock
  pub elements : more ≡ elements_of_macroblock (last_sent None ms) macroblock
  pub bits : r.0 ≡ macroblock_text (last_sent None ms) macroblock ++ end.0
  pub text : macroblocks_text None (ms ++ macroblock ∷ []) ≡ macroblocks_text None ms ++ macroblock_text (last_sent None ms) macroblock
  pub address_is : address (after (after before es) more) ≡ macroblock.address
  pub vector_is : (axis : Axis) → vector_component axis (after (after before es) more) ≡ component axis macroblock
  pub quant_is : quantiser (after (after before es) more) ≡ quantiser_after (quantiser (after before es)) macroblock.mquant
  pub so_far : IsGroupSoFar format before number quant (ms ++ macroblock ∷ []) (es ++ more)

abbrev pub MacroblockJoins : Type 0
MacroblockJoins =
    (format : Format) (before : List Element) (number quant : ℕ) (ms : List Macroblock) (es : List Element)
    (r end : List Bool × ℕ) (n : ℕ) (more : List Element)
    → IsGroupSoFar format before number quant ms es → Goes (next format) (after before es) r (Mba n ∷ more) end → AreInside more
    → slot (after (after before es) (Mba n ∷ more)) ≡ AtMacroblock
    → IsJoined format before number quant ms es (Mba n ∷ more) r end

-- ---- a picture so far

-- the elements are a picture header and these groups, of which some may be left out
pub record IsPictureSoFar (format : Format) (picture : Picture) (es : List Element) : Type 0 where
  pub free : FreeBits
  pub spares : List ℕ
  pub forms : List GroupForm
  pub fits : GroupsFit forms picture.groups
  pub elements : es ≡ elements_of_header format free spares picture.tr ++ elements_of_groups forms picture.groups
  pub valid : IsValidSoFar format picture

-- the number of the group that comes next
abbrev pub number_due : Format → Picture → ℕ
number_due format picture = get_or (group_numbers format) (length picture.groups) 0

-- the picture header was read
abbrev pub HeaderBegins : Type 0
HeaderBegins =
    (format : Format) (r end : List Bool × ℕ) (tr ptype : ℕ) (es : List Element)
    → Goes (next format) [] r (Psc ∷ (Tr tr ∷ (Ptype ptype ∷ es))) end → AreInside es
    → slot (after [] (Psc ∷ (Tr tr ∷ (Ptype ptype ∷ es)))) ≡ AtGroup
    → IsPictureSoFar format (record { tr = tr; groups = [] }) (Psc ∷ (Tr tr ∷ (Ptype ptype ∷ es)))

-- the next group is left out
abbrev pub GroupIsLeftOut : Type 0
GroupIsLeftOut =
    (format : Format) (picture : Picture) (es : List Element)
    → IsPictureSoFar format picture es → length picture.groups < group_count format
    → IsPictureSoFar format (with_group picture (group_with (number_due format picture) 1 [])) es

-- the next group was read
abbrev pub GroupIsSent : Type 0
GroupIsSent =
    (format : Format) (picture : Picture) (es : List Element) (quant : ℕ) (ms : List Macroblock) (more : List Element)
    → IsPictureSoFar format picture es → length picture.groups < group_count format
    → IsGroupSoFar format (after [] es) (number_due format picture) quant ms more
    → IsPictureSoFar format (with_group picture (group_with (number_due format picture) quant ms)) (es ++ more)

-- all groups were read or left out
abbrev pub PictureIsTold : Type 0
PictureIsTold =
    (format : Format) (picture : Picture) (es : List Element)
    → IsPictureSoFar format picture es → length picture.groups ≡ group_count format
    → IsValid format picture × Tells format es picture

-- and the elements end lawfully: the bits are accepted with this picture
abbrev pub PictureIsAccepted : Type 0
PictureIsAccepted =
    (format : Format) (picture : Picture) (bits : List Bool) (es : List Element)
    → IsPictureSoFar format picture es → length picture.groups ≡ group_count format
    → Reads (next_within_limit format) bits es → Accepts format bits picture
