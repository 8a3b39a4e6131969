use Rattle.std.proofs.Common.{◌≡◌, ◌+◌, ◌-◌, ◌%◌, ◌≤◌, ◌<◌, ◌++◌, take, drop}
use Rattle.pel_bits.specs.Bits.{bits}
use Rattle.pel_bits.specs.Buffer.{filled_up, whole}
use Rattle.pel_bits.proofs.octets.copy_run.Given as goal

abbrev pub invariant-loop-done : goal.invariant-loop-done
invariant-loop-done l = record {
  within : l.done ≤ l.len;
  even : l.done < l.len → (l.at + l.done) % 8 ≡ 0;
  copied : take (whole (l.at + l.done)) (bits l.octets)
      ≡ filled_up (take l.at (bits l.fn.octets) ++ take l.done (drop l.from (bits l.source)));
}

abbrev pub decreases-loop-done : goal.decreases-loop-done
decreases-loop-done l = l.len - l.done

abbrev pub invariant-loop-done-2 : goal.invariant-loop-done-2
invariant-loop-done-2 l = record {
  within : l.done ≤ l.len;
  even : l.done < l.len → (l.at + l.done) % 8 ≡ 0;
  copied : take (whole (l.at + l.done)) (bits l.octets)
      ≡ filled_up (take l.at (bits l.fn.octets) ++ take l.done (drop l.from (bits l.source)));
}

abbrev pub decreases-loop-done-2 : goal.decreases-loop-done-2
decreases-loop-done-2 l = l.len - l.done
