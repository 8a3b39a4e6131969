-- What contracts see of a coded picture: its format, its TR, the bits of its strict text (H.261, 4.2) as far as it
-- was written, where the macroblocks of each of its groups stand, and the marks of all macroblocks.
use Rattle.std.specs.Prelude.{◌≡◌, ℕ, ◌+◌, ◌-◌, ◌*◌, ◌<◌, ◌≤◌, Bool, List, [], ◌∷◌, ◌++◌, length, take, drop, slice_index, slice_index_or, None}
use Rattle.h261_pic.specs.declared.coded.GroupView.{GroupView}
use Rattle.pel_model.specs.declared.Format.{Format}
use Rattle.pel_model.specs.declared.Format.TheVariants.{Qcif, Cif}
use Rattle.pel_model.specs.declared.Mark.{Mark}
use Rattle.pel_model.specs.declared.Quad.{Quad}
use Rattle.pel_model.specs.Marks.{marks_of}
use Rattle.pel_model.specs.Records.{Group, Picture}
use Rattle.pel_model.specs.Headers.{picture_header_length, group_header_length}
use Rattle.pel_model.specs.Text.{text, group_header, group_text, macroblocks_text}
use Rattle.pel_model.specs.Regions.{number_in, empty_group}
use Rattle.pel_model.specs.Accepts.{Accepts}
use Rattle.pel_model.specs.Valid.{group_numbers, group_count, limit, IsValidSoFar, IsValid}

pub record Coding : Type 0 where
  pub format : Format
  pub tr : ℕ
  pub bits : List Bool
  pub groups : List GroupView
  pub marks : List Mark

-- nothing was written yet
abbrev pub nothing : Format → Coding
nothing format = record { format = format; tr = 0; bits = []; groups = []; marks = [] }

-- where the macroblocks of these groups stand, if the first header begins at `at` and so many marks come before
abbrev pub views : (at before : ℕ) → List Group → List GroupView
views at before [] = []
views at before (g ∷ gs) =
    record { number = g.number; quant = g.quant; from = at + group_header_length; len = length (macroblocks_text None g.macroblocks); first_mark = before; marks = length g.macroblocks }
    ∷ views (at + length (group_text g)) (before + length g.macroblocks) gs

-- the strict text of this picture was written
abbrev pub coding : Format → Picture → Coding
coding format picture = record {
  format = format;
  tr = picture.tr;
  bits = text format picture;
  groups = views picture_header_length 0 picture.groups;
  marks = marks_of picture;
}

-- all its groups were written
abbrev pub IsFinished : Coding → Type 0
IsFinished coded = (0 < length coded.bits) × (length coded.groups ≡ group_count coded.format)

-- the number of the group that comes next
abbrev pub next_number : Coding → ℕ
next_number coded = slice_index (group_numbers coded.format) (length coded.groups)

-- where one of its groups stands, the macroblock bits of it, and their marks
abbrev pub view_of : Coding → ℕ → GroupView
view_of coded i = slice_index_or coded.groups i (record { number = 0; quant = 0; from = 0; len = 0; first_mark = 0; marks = 0 })

abbrev pub macroblock_bits : Coding → ℕ → List Bool
macroblock_bits coded i = take (view_of coded i).len (drop (view_of coded i).from coded.bits)

abbrev pub marks_in : Coding → ℕ → List Mark
marks_in coded i = take (view_of coded i).marks (drop (view_of coded i).first_mark coded.marks)

-- one of the groups of a picture
abbrev pub group_in : Picture → ℕ → Group
group_in picture i = slice_index_or picture.groups i (empty_group 0)

-- the marks of these macroblocks when they stand one behind another from `at` on, in a group with this number
abbrev pub placed : (at number : ℕ) → List Mark → List Mark
placed at number [] = []
placed at number (m ∷ ms) = record m { at = at; group = number } ∷ placed (at + m.len) number ms

-- one more group was written, with this quantiser and these macroblock bits, whose macroblocks had these marks
abbrev pub grown : Coding → ℕ → List Bool → List Mark → Coding
grown coded quant bits marks = record coded {
  bits = coded.bits ++ group_header (next_number coded) quant ++ bits;
  groups = coded.groups ++ record { number = next_number coded; quant = quant; from = length coded.bits + group_header_length; len = length bits; first_mark = length coded.marks; marks = length marks } ∷ [];
  marks = coded.marks ++ placed (length coded.bits + group_header_length) (next_number coded) marks;
}

-- group `from` of a picture of one format may stand as group `to` of a picture of another: the same group of the same
-- format, or a QCIF group in one of the places of a CIF picture
abbrev pub Belongs : Format → ℕ → Format → ℕ → Type 0
Belongs Qcif from Qcif to = to ≡ from
Belongs Cif from Cif to = to ≡ from
Belongs Qcif from Cif to = (place : Quad) × (to ≡ number_in place from)
Belongs Cif from Qcif to = ⊥

-- a picture that was begun and has not all its groups
pub record HasNextGroup (coded : Coding) : Type 0 where
  pub begun : 0 < length coded.bits
  pub next : length coded.groups < group_count coded.format

-- group `i` of a picture that has all its groups may stand as the next group of this one, and leaves room for the headers
-- of the groups behind it
pub record CanBeCopied (from : Coding) (i : ℕ) (to : Coding) : Type 0 where
  pub finished : IsFinished from
  pub there : i < length from.groups
  pub belongs : Belongs from.format (view_of from i).number to.format (next_number to)
  pub room : length to.bits + (view_of from i).len + group_header_length * (group_count to.format - length to.groups) ≤ limit to.format

-- some valid picture's first groups, or all of them, were written
abbrev pub HasPicture : Coding → Type 0
HasPicture coded =
    ∥ ((picture : Picture) × (coded ≡ coding coded.format picture) × IsValidSoFar coded.format picture) ∥₁

-- some valid picture was written
abbrev pub IsWhole : Coding → Type 0
IsWhole coded =
    ∥ ((picture : Picture) × (coded ≡ coding coded.format picture) × IsValid coded.format picture) ∥₁

-- these bits are accepted, with a picture whose strict text was written
abbrev pub HoldsAccepted : Format → List Bool → Coding → Type 0
HoldsAccepted want bits coded = (picture : Picture) × Accepts want bits picture × (coded ≡ coding want picture)
