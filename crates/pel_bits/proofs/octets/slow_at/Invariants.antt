use Rattle.std.proofs.Common.{◌≡◌, ◌^◌, ◌<◌, take, drop}
use Rattle.pel_bits.specs.Bits.{bits, number}
use Rattle.pel_bits.proofs.octets.slow_at.Given as goal

abbrev pub invariant-loop-k : goal.invariant-loop-k
invariant-loop-k l = record {
  spelled : l.value ≡ number (take l.k (drop l.from (bits l.octets)));
  below : l.value < 2 ^ l.k;
}
