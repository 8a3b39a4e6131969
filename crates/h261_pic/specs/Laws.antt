-- Laws of the codings of pictures.
use Rattle.std.specs.Prelude.{◌≡◌, ℕ, ◌+◌, ◌<◌, List, [], ◌∷◌, length, map, All, None}
use Rattle.h261_pic.specs.declared.coded.GroupView.{GroupView}
use Rattle.pel_model.specs.declared.Format.{Format}
use Rattle.pel_model.specs.declared.Mark.{Mark}
use Rattle.pel_model.specs.Records.{Picture}
use Rattle.pel_model.specs.Headers.{picture_header_length, group_header_length}
use Rattle.pel_model.specs.Valid.{IsValid}
use Rattle.picture_laws.specs.TextLaws.{marked_bits, macroblock_texts}
use Rattle.h261_pic.specs.Coded.{Coding, coding, view_of, marks_in, group_in, IsFinished}

-- equal codings of valid pictures are of equal pictures
abbrev pub EqualCodings : Type 0
EqualCodings =
    (format : Format) (p q : Picture) → IsValid format p → IsValid format q → coding format p ≡ coding format q → p ≡ q

-- the coding of a valid picture is not empty and has all its groups
abbrev pub FinishedCodings : Type 0
FinishedCodings = (format : Format) (p : Picture) → IsValid format p → IsFinished (coding format p)

-- ---- how views and marks cut the text

-- groups stand one behind another, each behind its header, from one place to another, and so do their marks
abbrev pub GroupsFollow : (at before : ℕ) → List GroupView → (end count : ℕ) → Type 0
GroupsFollow at before [] end count = (at ≡ end) × (before ≡ count)
GroupsFollow at before (v ∷ vs) end count =
    (v.from ≡ at + group_header_length) × (v.first_mark ≡ before) × GroupsFollow (v.from + v.len) (before + v.marks) vs end count

-- macroblocks stand at these marks one behind another, from one place to another
abbrev pub MarksFollow : ℕ → List Mark → ℕ → Type 0
MarksFollow at [] end = at ≡ end
MarksFollow at (m ∷ ms) end = (m.at ≡ at) × MarksFollow (at + m.len) ms end

-- the marks of a group are of that group, cut its view from the first bit to the last, and at each stands what its
-- macroblock is sent as
pub record CutsGroup (coded : Coding) (picture : Picture) (i : ℕ) : Type 0 where
  pub numbers : All (λ (m : Mark). m.group ≡ (view_of coded i).number) (marks_in coded i)
  pub follow : MarksFollow (view_of coded i).from (marks_in coded i) ((view_of coded i).from + (view_of coded i).len)
  pub texts : map (marked_bits coded.bits) (marks_in coded i) ≡ macroblock_texts None (group_in picture i).macroblocks

-- the views cut the text behind the picture's header, and the marks cut each view
pub record CutsText (coded : Coding) (picture : Picture) : Type 0 where
  pub groups : GroupsFollow picture_header_length 0 coded.groups (length coded.bits) (length coded.marks)
  pub marks : (i : ℕ) → i < length picture.groups → CutsGroup coded picture i

abbrev pub CutTexts : Type 0
CutTexts = (format : Format) (p : Picture) → CutsText (coding format p) p
