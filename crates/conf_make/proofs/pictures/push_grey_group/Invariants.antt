-- As many grey macroblocks were pushed.
use Rattle.std.proofs.Common.{◌≡◌, ◌+◌, ◌*◌, length}
use Rattle.conf_make.specs.Pictures.{repeated, grey_macroblock}
use Rattle.conf_make.specs.Writing.{with_bits}
use Rattle.conf_make.proofs.pictures.push_grey_group.Given as goal

abbrev pub invariant-loop-i : goal.invariant-loop-i
invariant-loop-i l = record {
  bits : l.bits ≡ with_bits l.initial.bits (repeated l._i grey_macroblock);
  capacity : l.bits.capacity ≡ l.initial.bits.capacity;
  long : length l.bits.list ≡ length l.initial.bits.list + 65 * l._i;
}
