-- The front of the piece was written, and no call has failed.
use Rattle.std.proofs.Common.{◌≡◌, ◌-◌, ◌≤◌, length, take}
use Rattle.std.specs.Io.KnownBytes.{Appends}
use Rattle.io_edge.proofs.whole.put_all.Given as goal

abbrev pub decreases-loop-count : goal.decreases-loop-count
decreases-loop-count g l = length l.fn.piece - l.count

abbrev pub invariant-loop-count : goal.invariant-loop-count
invariant-loop-count g l =
    record {
      within : l.count ≤ length l.fn.piece;
      bytes : Appends (g.K.Sink.tells l.fn.sink).written (g.K.Sink.tells l.sink).written (take l.count l.fn.piece);
      kept : (g.K.Sink.tells l.sink).faults ≡ (g.K.Sink.tells l.fn.sink).faults;
    }
