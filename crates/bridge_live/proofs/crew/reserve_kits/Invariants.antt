-- So many kits are there.
use Rattle.std.proofs.Common.{◌≡◌, All, length}
use Rattle.bridge_live.specs.Lining.{IsKit}
use Rattle.bridge_live.proofs.crew.reserve_kits.Given as goal

abbrev pub invariant-loop : goal.invariant-loop
invariant-loop l = record {
  number : length l.kits.items ≡ l.counter;
  kits : All IsKit l.kits.items;
}
