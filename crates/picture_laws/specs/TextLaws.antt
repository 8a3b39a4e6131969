-- Laws of strict texts: their lengths, the bits at their marks, groups of a QCIF picture in a place of a CIF picture, one
-- picture for one text, and the input form that bits are read in.
use Rattle.std.specs.Prelude.{◌≡◌, ℕ, ◌+◌, ◌≤◌, Bool, true, List, [], ◌∷◌, ◌++◌, length, map, flat_map, take, drop, Option, Some, None}
use Rattle.pel_model.specs.declared.Format.{Format}
use Rattle.pel_model.specs.declared.Format.TheVariants.{Qcif, Cif}
use Rattle.pel_model.specs.declared.Mark.{Mark}
use Rattle.pel_model.specs.declared.Quad.{Quad}
use Rattle.pel_model.specs.Accepts.{Accepts, IsAccepted}
use Rattle.pel_model.specs.Grammar.{Element, is_group, next_within_limit}
use Rattle.pel_model.specs.Headers.{picture_header_length, group_header_length}
use Rattle.pel_model.specs.Marks.{macroblock_marks, marks_of}
use Rattle.pel_model.specs.Records.{Macroblock, Group, Picture}
use Rattle.pel_model.specs.Regions.{renumbered_for}
use Rattle.pel_model.specs.Spelling.{Form, GroupsFit, strict_form}
use Rattle.pel_model.specs.Text.{picture_header, group_header, group_text, macroblock_text, macroblocks_text, text}
use Rattle.pel_model.specs.Valid.{IsValid, IsValidGroup, limit}
use Rattle.pel_model.specs.Walk.{Reads}
use Rattle.picture_laws.specs.PictureElements.{elements_of_picture}

-- ---- lengths

pub record TextsHaveLengths : Type 0 where
  pub of_picture_header : (format : Format) (tr : ℕ) → length (picture_header format tr) ≡ picture_header_length
  pub of_group_header : (number quant : ℕ) → length (group_header number quant) ≡ group_header_length
  pub of_group : (g : Group) → length (group_text g) ≡ group_header_length + length (macroblocks_text None g.macroblocks)
  pub of_picture : (format : Format) (p : Picture) → length (text format p) ≡ picture_header_length + length (flat_map group_text p.groups)

-- ---- groups in a place

-- a valid group of a QCIF picture is a valid group of a CIF picture in each place
pub record IsInPlace (place : Quad) (g : Group) : Type 0 where
  pub valid : IsValidGroup Cif (renumbered_for place g)
  pub number : is_group Cif (renumbered_for place g).number ≡ true

abbrev pub ValidInEachPlace : Type 0
ValidInEachPlace = (place : Quad) (g : Group) → is_group Qcif g.number ≡ true → IsValidGroup Qcif g → IsInPlace place g

-- ---- marks

-- the bits at a mark
abbrev pub marked_bits : List Bool → Mark → List Bool
marked_bits bits mark = take mark.len (drop mark.at bits)

-- the texts of macroblocks that are sent one behind another
abbrev pub macroblock_texts : Option Macroblock → List Macroblock → List (List Bool)
macroblock_texts last [] = []
macroblock_texts last (m ∷ ms) = macroblock_text last m ∷ macroblock_texts (Some m) ms

-- the marks stand in their order, from `from` on and up to `end`, and share no bit
abbrev pub LieInOrder : (from end : ℕ) → List Mark → Type 0
LieInOrder from end [] = from ≤ end
LieInOrder from end (mark ∷ marks) = (from ≤ mark.at) × LieInOrder (mark.at + mark.len) end marks

-- wherever the text of macroblocks stands, the bits at their marks are their texts
pub record MarksCut (front behind : List Bool) (number quant : ℕ) (last : Option Macroblock) (ms : List Macroblock) : Type 0 where
  pub bits :
      map (marked_bits (front ++ (macroblocks_text last ms ++ behind))) (macroblock_marks (length front) number quant last ms)
      ≡ macroblock_texts last ms
  pub order : LieInOrder (length front) (length front + length (macroblocks_text last ms)) (macroblock_marks (length front) number quant last ms)

abbrev pub MarksCutGroups : Type 0
MarksCutGroups =
    (front behind : List Bool) (number quant : ℕ) (last : Option Macroblock) (ms : List Macroblock)
    → MarksCut front behind number quant last ms

-- so do the marks of a picture in its text
pub record MarksCutText (format : Format) (p : Picture) : Type 0 where
  pub bits : map (marked_bits (text format p)) (marks_of p) ≡ flat_map (λ (g : Group). macroblock_texts None g.macroblocks) p.groups
  pub order : LieInOrder picture_header_length (length (text format p)) (marks_of p)

abbrev pub MarksCutPictures : Type 0
MarksCutPictures = (format : Format) (p : Picture) → MarksCutText format p

-- ---- one picture for one text

-- valid pictures with the same text are one
abbrev pub OnePicture : Type 0
OnePicture = (format : Format) (p q : Picture) → IsValid format p → IsValid format q → text format p ≡ text format q → p ≡ q

-- bits that are a strict text are accepted with no other picture
abbrev pub StrictIsOwn : Type 0
StrictIsOwn = (format : Format) (p q : Picture) → IsValid format p → Accepts format (text format p) q → p ≡ q

-- ---- the form that is read

-- bits that are accepted in a form are read as the elements of that form
abbrev pub ReadInItsForm : Type 0
ReadInItsForm =
    (format : Format) (form : Form) (bits : List Bool) (p : Picture) → IsAccepted format form bits p
    → Reads (next_within_limit format) bits (elements_of_picture format form p)

-- elements up to the lawful end are those of a form in which the bits are accepted
pub record IsReadInForm (format : Format) (bits : List Bool) (es : List Element) : Type 0 where
  pub picture : Picture
  pub form : Form
  pub fits : GroupsFit form.groups picture.groups
  pub is : es ≡ elements_of_picture format form picture
  pub accepted : IsAccepted format form bits picture

abbrev pub WalkHasForm : Type 0
WalkHasForm =
    (format : Format) (bits : List Bool) (es : List Element) → Reads (next_within_limit format) bits es
    → IsReadInForm format bits es

-- what is read of a strict text are the elements of its picture, without spare octets or stuffing
abbrev pub StrictIsRead : Type 0
StrictIsRead =
    (format : Format) (p : Picture) (es : List Element) → IsValid format p → Reads (next_within_limit format) (text format p) es
    → es ≡ elements_of_picture format (strict_form p) p
