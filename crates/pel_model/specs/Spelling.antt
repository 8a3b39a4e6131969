-- The input forms of a picture: what a sender may add to the strict text (H.261, 4.2). Beyond the standard, groups that
-- send nothing may be left out, and up to seven zero bits may follow the last word.
use Rattle.std.specs.Prelude.{◌≡◌, ℕ, zero, suc, ◌<◌, Bool, false, List, [], ◌∷◌, ◌++◌, map, replicate, get_or, drop, Option, Some, None}
use Rattle.pel_model.specs.declared.Format.{Format}
use Rattle.pel_model.specs.Codes.{stuffing_word}
use Rattle.pel_model.specs.Headers.{FreeBits, strict_bits, picture_header_text, group_header_text}
use Rattle.pel_model.specs.Records.{Macroblock, Group, Picture}
use Rattle.pel_model.specs.Text.{macroblock_text}

-- ---- what is free

-- a group is left out, or sent with spare octets behind its header, so many stuffings behind these, and so many
-- behind each of its macroblocks in order; a number that is not given is 0
pub data GroupForm : Type 0 where
  LeftOut : GroupForm
  Sent : (spares : List ℕ) → (stuffings : ℕ) → (behind : List ℕ) → GroupForm

-- the free bits, the spare octets behind the picture header, how each group is sent, and the zero bits at the end
pub record Form : Type 0 where
  pub free : FreeBits
  pub spares : List ℕ
  pub groups : List GroupForm
  pub zeros : ℕ

-- a group that is left out has quantiser 1 and no macroblocks
abbrev pub GroupFits : GroupForm → Group → Type 0
GroupFits LeftOut g = (g.quant ≡ 1) × (g.macroblocks ≡ [])
GroupFits (Sent spares stuffings behind) g = Unit {0}

-- each group has its form
abbrev pub GroupsFit : List GroupForm → List Group → Type 0
GroupsFit [] [] = Unit {0}
GroupsFit (f ∷ fs) (g ∷ gs) = GroupFits f g × GroupsFit fs gs
GroupsFit _ _ = ⊥

-- the form of a strict text: nothing is added, and nothing is left out
abbrev pub strict_group : GroupForm
strict_group = Sent [] 0 []

abbrev pub strict_form : Picture → Form
strict_form picture = record { free = strict_bits; spares = []; groups = map (λ (g : Group). strict_group) picture.groups; zeros = 0 }

-- ---- texts

abbrev pub stuffing_text : ℕ → List Bool
stuffing_text zero = []
stuffing_text (suc n) = stuffing_word ++ stuffing_text n

-- macroblocks, each with its stuffing behind it
unfoldable pub stuffed_text : Option Macroblock → List ℕ → List Macroblock → List Bool
stuffed_text last behind [] = []
stuffed_text last behind (m ∷ ms) =
    macroblock_text last m ++ (stuffing_text (get_or behind 0 0) ++ stuffed_text (Some m) (drop 1 behind) ms)

abbrev pub sent_group_text : GroupForm → Group → List Bool
sent_group_text LeftOut g = []
sent_group_text (Sent spares stuffings behind) g =
    group_header_text g.number g.quant spares ++ (stuffing_text stuffings ++ stuffed_text None behind g.macroblocks)

abbrev pub sent_groups_text : List GroupForm → List Group → List Bool
sent_groups_text [] gs = []
sent_groups_text (f ∷ fs) [] = []
sent_groups_text (f ∷ fs) (g ∷ gs) = sent_group_text f g ++ sent_groups_text fs gs

-- a picture in a form, without the zero bits at its end
abbrev pub sent_text : Format → Form → Picture → List Bool
sent_text format form picture =
    picture_header_text format form.free form.spares picture.tr ++ sent_groups_text form.groups picture.groups

abbrev pub input_text : Format → Form → Picture → List Bool
input_text format form picture = sent_text format form picture ++ replicate form.zeros false

-- ---- spelling

-- the bits are the picture in this form
pub record IsSpelling (format : Format) (form : Form) (bits : List Bool) (picture : Picture) : Type 0 where
  pub fits : GroupsFit form.groups picture.groups
  pub zeros : form.zeros < 8
  pub text : bits ≡ input_text format form picture

-- the bits are the picture in some form
abbrev pub Spells : Format → List Bool → Picture → Type 0
Spells format bits picture = (form : Form) × IsSpelling format form bits picture
