use Rattle.std.proofs.Common.{◌≡◌, ◌*◌, ◌≤◌, length, take}
use Rattle.cif_pack.specs.Marked.{views_ends}
use Rattle.cif_pack.proofs.atoms.atom_ends.Given as goal

abbrev pub invariant-loop-i : goal.invariant-loop-i
invariant-loop-i l =
    (l.ends.items ≡ views_ends l.picture.marks (take l.i l.picture.groups)) × (length l.ends.items ≤ 33 * l.i)
