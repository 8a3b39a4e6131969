-- Marks: where the macroblocks of a picture stand in its strict text, and what each leaves to the next of its group
-- (H.261, 4.2.3).
use Rattle.std.specs.Prelude.{ℕ, ◌+◌, List, [], ◌∷◌, ◌++◌, length, Option, None, Some}
use Rattle.pel_model.specs.declared.Mark.{Mark}
use Rattle.pel_model.specs.Codes.{is_intra}
use Rattle.pel_model.specs.Records.{Macroblock, Group, Picture, quantiser_after}
use Rattle.pel_model.specs.Headers.{picture_header_length, group_header_length}
use Rattle.pel_model.specs.Text.{macroblock_text, group_text}

-- the mark of a macroblock whose first bit stands at `at`, in the group with this number
abbrev pub mark_of : (at number quant : ℕ) → Option Macroblock → Macroblock → Mark
mark_of at number quant last m = record {
  at = at;
  len = length (macroblock_text last m);
  group = number;
  address = m.address;
  quant_after = quantiser_after quant m.mquant;
  h_after = m.across;
  v_after = m.down;
  intra = is_intra m.kind;
}

-- the marks of a group's macroblocks, which stand one behind another from `at` on
abbrev pub macroblock_marks : (at number quant : ℕ) → Option Macroblock → List Macroblock → List Mark
macroblock_marks at number quant last [] = []
macroblock_marks at number quant last (m ∷ ms) =
    mark_of at number quant last m
    ∷ macroblock_marks (at + length (macroblock_text last m)) number (quantiser_after quant m.mquant) (Some m) ms

-- the marks of groups, the first of whose headers begins at `at`
abbrev pub group_marks : ℕ → List Group → List Mark
group_marks at [] = []
group_marks at (g ∷ gs) =
    macroblock_marks (at + group_header_length) g.number g.quant None g.macroblocks ++ group_marks (at + length (group_text g)) gs

-- the marks of a picture
abbrev pub marks_of : Picture → List Mark
marks_of picture = group_marks picture_header_length picture.groups
