use Rattle.std.proofs.Common.{◌≡◌, ◌+◌, ◌*◌, ◌++◌, take}
use Rattle.pel_bits.specs.Bits.{bits, field}
use Rattle.pel_bits.proofs.octets.store.Given as goal

abbrev pub invariant-loop-k : goal.invariant-loop-k
invariant-loop-k l =
    take (8 * (l.i + l.k)) (bits l.octets) ≡ take (8 * l.i) (bits l.fn.octets) ++ take (8 * l.k) (field l.word 64)
