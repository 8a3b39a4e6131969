-- The front of the slice has the octets taken, and no call has failed.
use Rattle.std.proofs.Common.{◌≡◌, ◌-◌, ◌≤◌, length, take}
use Rattle.io_edge.specs.Allowance.{TakesOctets}
use Rattle.io_edge.proofs.allowance.Allowance.fetch.Given as goal

abbrev pub decreases-loop-count : goal.decreases-loop-count
decreases-loop-count g l = length l.initial.out - l.count

abbrev pub invariant-loop-count : goal.invariant-loop-count
invariant-loop-count g l =
    record {
      size : l.count ≤ length l.initial.out;
      takes : TakesOctets (g.S.Source.tells l.fn.source) (g.S.Source.tells l.source) l.fn.self l.self (take l.count l.out);
      kept : (g.S.Source.tells l.source).faults ≡ (g.S.Source.tells l.fn.source).faults;
    }
