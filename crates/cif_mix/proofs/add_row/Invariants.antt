use Rattle.cif_mix.proofs.RowLaws.{AtPair}
use Rattle.cif_mix.proofs.add_row.Given as goal

abbrev pub invariant-loop-i : goal.invariant-loop-i
invariant-loop-i l = AtPair l.show_left l.left l.show_right l.right l.initial.into l.into l.i
