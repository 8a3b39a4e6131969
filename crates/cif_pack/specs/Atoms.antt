-- Atoms: the pieces of a picture's strict text that no packet cuts (RFC 4587, 4.2: a packet begins with the header of a
-- picture, a group or a macroblock). An atom is a macroblock, and the first one of a group stands in one atom with the
-- group's header; so does the header of a group without macroblocks. The picture's header belongs to the first atom.
-- An end is the place where an atom ends, with what the header of a packet that begins there tells.
use Rattle.std.specs.Prelude.{◌≡◌, ℕ, ◌+◌, ◌-◌, List, [], ◌∷◌, ◌++◌, length, Option, None, Some}
use Rattle.cif_pack.specs.declared.atoms.AtomEnd.{AtomEnd}
use Rattle.cif_pack.specs.declared.atoms.Context.{Context}
use Rattle.cif_pack.specs.Payload.{no_context}
use Rattle.h261_pic.specs.Coded.{Coding, IsFinished}
use Rattle.pel_model.specs.declared.Format.TheVariants.{Cif}
use Rattle.pel_model.specs.Records.{Macroblock, Group, Picture, quantiser_after}
use Rattle.pel_model.specs.Headers.{picture_header_length, group_header_length}
use Rattle.pel_model.specs.Text.{macroblock_text, group_text}

-- after a macroblock of the group with this number, with the quantiser in effect there, where these are left in the group
abbrev pub context_behind : (number quant : ℕ) → Macroblock → (left : List Macroblock) → Context
context_behind number quant m [] = no_context
context_behind number quant m (_ ∷ _) =
    record { gobn = number; mbap = m.address - 1; quant = quant; across = m.across; down = m.down }

-- the ends of macroblocks that stand one after another from `at` on
abbrev pub macroblock_ends : (at number quant : ℕ) → Option Macroblock → List Macroblock → List AtomEnd
macroblock_ends at number quant last [] = []
macroblock_ends at number quant last (m ∷ ms) =
    record { at = at + length (macroblock_text last m); context = context_behind number (quantiser_after quant m.mquant) m ms }
    ∷ macroblock_ends (at + length (macroblock_text last m)) number (quantiser_after quant m.mquant) (Some m) ms

-- the ends in a group whose header ends at `at`: of the header alone where no macroblock follows
abbrev pub ends_behind : (at number quant : ℕ) → List Macroblock → List AtomEnd
ends_behind at number quant [] = record { at = at; context = no_context } ∷ []
ends_behind at number quant (m ∷ ms) = macroblock_ends at number quant None (m ∷ ms)

-- the ends in groups that stand one after another from `at` on
abbrev pub group_ends : (at : ℕ) → List Group → List AtomEnd
group_ends at [] = []
group_ends at (g ∷ gs) =
    ends_behind (at + group_header_length) g.number g.quant g.macroblocks ++ group_ends (at + length (group_text g)) gs

-- the ends in a picture
abbrev pub atom_ends : Picture → List AtomEnd
atom_ends picture = group_ends picture_header_length picture.groups

-- a coded CIF picture that has all its groups
abbrev pub IsFinishedCif : Coding → Type 0
IsFinishedCif coded = (coded.format ≡ Cif) × IsFinished coded
