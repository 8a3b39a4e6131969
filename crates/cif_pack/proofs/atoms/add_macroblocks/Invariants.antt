use Rattle.std.proofs.Common.{◌≡◌, ◌++◌, take}
use Rattle.cif_pack.specs.Marked.{mark_ends}
use Rattle.cif_pack.proofs.atoms.add_macroblocks.Given as goal

abbrev pub invariant-loop-i : goal.invariant-loop-i
invariant-loop-i l = l.ends.items ≡ l.initial.ends.items ++ take l.i (mark_ends l.marks)
