-- Inner contracts alone use this; nothing here has to be believed.
-- Groups that are added to a coded picture, from macroblocks that stand anywhere.
use Rattle.std.specs.Prelude.{◌≡◌, ℕ, zero, suc, ◌+◌, ◌-◌, ◌*◌, Bool, List, [], length, take, drop, flat_map, None}
use Rattle.pel_model.specs.declared.Format.{Format}
use Rattle.pel_model.specs.declared.Mark.{Mark}
use Rattle.pel_model.specs.Marks.{macroblock_marks}
use Rattle.pel_model.specs.Records.{Macroblock}
use Rattle.pel_model.specs.Headers.{group_header_length}
use Rattle.pel_model.specs.Text.{macroblocks_text}
use Rattle.pel_model.specs.Valid.{IsValidGroup, group_count, limit}
use Rattle.h261_pic.specs.Coded.{Coding, grown, placed}

-- the bits that stand at these marks
abbrev pub bits_at : List Bool → List Mark → List Bool
bits_at bits marks = flat_map (λ (m : Mark). take m.len (drop m.at bits)) marks

-- the most macroblocks of a picture: 33 in each of 12 groups
abbrev pub most_marks : ℕ
most_marks = 396

-- how many bits of macroblocks the next group may have
abbrev pub room_of : Coding → ℕ
room_of coded = limit coded.format - (length coded.bits + group_header_length * (group_count coded.format - length coded.groups))

-- so many groups with quantiser 1 and no macroblocks were written
abbrev pub emptied : ℕ → Coding → Coding
emptied zero coded = coded
emptied (suc n) coded = grown (emptied n coded) 1 [] []

-- these are the macroblock bits of a valid group, and the marks of its macroblocks, wherever they stood
abbrev pub IsGroupText : Format → (number quant : ℕ) → List Bool → List Mark → Type 0
IsGroupText format number quant bits marks =
    ∥ ((macroblocks : List Macroblock) × (bits ≡ macroblocks_text None macroblocks) × ((at : ℕ) → placed at number marks ≡ macroblock_marks at number quant None macroblocks) × IsValidGroup format (record { number = number; quant = quant; macroblocks = macroblocks })) ∥₁
