-- Inner contracts alone use this; nothing here has to be believed.
-- The ends of atoms, from group views and marks.
use Rattle.std.specs.Prelude.{ℕ, zero, suc, ◌+◌, ◌-◌, Bool, true, false, List, [], ◌∷◌, ◌++◌, take, drop}
use Rattle.h261_pic.specs.declared.coded.GroupView.{GroupView}
use Rattle.pel_model.specs.declared.Mark.{Mark}
use Rattle.cif_pack.specs.declared.atoms.AtomEnd.{AtomEnd}
use Rattle.cif_pack.specs.Payload.{no_context}

-- the most atoms of a picture: 33 in each of 12 groups
abbrev pub most_atoms : ℕ
most_atoms = 396

-- the end of a macroblock, which is the last of its group or not
abbrev pub ends_from : Bool → Mark → AtomEnd
ends_from true m = record { at = m.at + m.len; context = no_context }
ends_from false m = record {
  at = m.at + m.len;
  context = record { gobn = m.group; mbap = m.address - 1; quant = m.quant_after; across = m.h_after; down = m.v_after };
}

abbrev pub is_none_left : List Mark → Bool
is_none_left [] = true
is_none_left (_ ∷ _) = false

-- the ends of the macroblocks of a group
abbrev pub mark_ends : List Mark → List AtomEnd
mark_ends [] = []
mark_ends (m ∷ ms) = ends_from (is_none_left ms) m ∷ mark_ends ms

-- of a header that stands alone
abbrev pub header_end : ℕ → AtomEnd
header_end at = record { at = at; context = no_context }

abbrev pub ends_in : ℕ → List Mark → List AtomEnd
ends_in at [] = header_end at ∷ []
ends_in at (m ∷ ms) = mark_ends (m ∷ ms)

-- the ends in a group
abbrev pub view_ends : List Mark → GroupView → List AtomEnd
view_ends marks v = ends_in v.from (take v.marks (drop v.first_mark marks))

-- in groups
abbrev pub views_ends : List Mark → List GroupView → List AtomEnd
views_ends marks [] = []
views_ends marks (v ∷ vs) = view_ends marks v ++ views_ends marks vs

-- how many ends a group has
abbrev pub ends_of_marks : ℕ → ℕ
ends_of_marks zero = 1
ends_of_marks (suc n) = suc n

abbrev pub count_of : GroupView → ℕ
count_of v = ends_of_marks v.marks
