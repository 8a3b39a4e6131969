-- Accepted bits: the input forms of valid pictures that are no longer than their format allows.
use Rattle.std.specs.Prelude.{◌≡◌, ℕ, ◌+◌, ◌*◌, ◌≤◌, Bool, List, [], ◌∷◌, length}
use Rattle.pel_model.specs.declared.Format.{Format}
use Rattle.pel_model.specs.declared.Format.TheVariants.{Cif}
use Rattle.pel_model.specs.Records.{Picture}
use Rattle.pel_model.specs.Headers.{group_header_length}
use Rattle.pel_model.specs.Text.{text}
use Rattle.pel_model.specs.Valid.{IsValid, limit}
use Rattle.pel_model.specs.Spelling.{GroupForm, LeftOut, Sent, Form, sent_text, IsSpelling}

-- how many groups are left out
abbrev pub left_out : List GroupForm → ℕ
left_out [] = 0
left_out (LeftOut ∷ forms) = left_out forms + 1
left_out (Sent spares stuffings behind ∷ forms) = left_out forms

-- the length that the limit is set to: the bits without the zeros at the end, and the length of a header for each group
-- left out
abbrev pub counted_length : Format → Form → Picture → ℕ
counted_length format form picture = length (sent_text format form picture) + group_header_length * left_out form.groups

-- the bits are a valid picture in an input form within the limit
pub record IsAccepted (format : Format) (form : Form) (bits : List Bool) (picture : Picture) : Type 0 where
  pub spelling : IsSpelling format form bits picture
  pub valid : IsValid format picture
  pub short : counted_length format form picture ≤ limit format

abbrev pub Accepts : Format → List Bool → Picture → Type 0
Accepts format bits picture = (form : Form) × IsAccepted format form bits picture

-- the strict text of a valid CIF picture within the limit
abbrev pub LegalCif : List Bool → Type 0
LegalCif bits = (picture : Picture) × IsValid Cif picture × (bits ≡ text Cif picture) × (length bits ≤ limit Cif)
