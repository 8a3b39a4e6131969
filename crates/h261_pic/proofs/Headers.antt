-- The fields of a header, pushed one after another.
use Rattle.std.proofs.Common.{◌≡◌, ℕ, Bool, List, ◌++◌, ◌∙◌, ap, ap₂, append_assoc}
use Rattle.pel_bits.specs.Bits.{field as wire_field}
use Rattle.pel_bits.specs.Buffer.{Buffer}
use Rattle.pel_model.specs.Headers.{group_header_text, picture_header_text}
use Rattle.pel_model.specs.declared.Format.{Format}
use Rattle.pel_model.specs.declared.Format.TheVariants.{Qcif, Cif}
use Rattle.pel_model.specs.Bits.{field}
use Rattle.pel_model.specs.Text.{group_header, picture_header}

-- a buffer with more bits
abbrev pub with_bits : Buffer → List Bool → Buffer
with_bits b bits = record b { list = b.list ++ bits }

pub four_pushes : (b b1 b2 b3 b4 : Buffer) (w x y z : List Bool)
    → b1 ≡ with_bits b w → b2 ≡ with_bits b1 x → b3 ≡ with_bits b2 y → b4 ≡ with_bits b3 z
    → b4 ≡ with_bits b (w ++ x ++ y ++ z)
four_pushes b b1 b2 b3 b4 w x y z e1 e2 e3 e4 =
    e4 ∙ ap (λ b. with_bits b z) (e3 ∙ ap (λ b. with_bits b y) (e2 ∙ ap (λ b. with_bits b x) e1))
    ∙ ap (λ (list : List Bool). record { list = list; capacity = b.capacity }) (simp append_assoc)

pub group-header-fields : (n q number quant : ℕ) → n ≡ number → q ≡ quant
    → wire_field 1 16 ++ wire_field n 4 ++ wire_field q 5 ++ wire_field 0 1 ≡ group_header number quant
unfolding wire_field field group_header_text
group-header-fields n q number quant en eq = ap₂ group_header en eq

-- the number of the picture type
abbrev pub type_number : Format → ℕ
type_number Qcif = 3
type_number Cif = 7

pub picture-header-fields : (format : Format) (t p tr : ℕ) → t ≡ tr → p ≡ type_number format
    → wire_field 16 20 ++ wire_field t 5 ++ wire_field p 6 ++ wire_field 0 1 ≡ picture_header format tr
unfolding wire_field field picture_header_text
picture-header-fields Qcif t p tr et ep = ap₂ (λ (t : ℕ) (p : ℕ). wire_field 16 20 ++ wire_field t 5 ++ wire_field p 6 ++ wire_field 0 1) et ep
picture-header-fields Cif t p tr et ep = ap₂ (λ (t : ℕ) (p : ℕ). wire_field 16 20 ++ wire_field t 5 ++ wire_field p 6 ++ wire_field 0 1) et ep
