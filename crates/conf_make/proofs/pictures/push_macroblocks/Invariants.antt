-- What was pushed, and what is still to be drawn.
use Rattle.std.proofs.Common.{◌+◌, ◌-◌, ◌*◌, ◌≤◌, length}
use Rattle.conf_make.proofs.Drawn.{Pushes}
use Rattle.conf_make.proofs.pictures.push_macroblocks.Given as goal

abbrev pub invariant-loop-i : goal.invariant-loop-i
invariant-loop-i l = record {
  pushes : Pushes l.count l.fn.state l.initial.bits l.bits (l.count - l._i) l.state;
  long : length l.bits.list ≤ length l.initial.bits.list + 10 * l._i;
}
