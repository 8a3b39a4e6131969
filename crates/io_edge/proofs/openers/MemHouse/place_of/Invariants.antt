-- None of the sources before this place has the name.
use Rattle.std.proofs.Common.{take}
use Rattle.io_edge.specs.Directory.{HasNone}
use Rattle.io_edge.specs.Memory.{entries_of}
use Rattle.io_edge.proofs.openers.MemHouse.place_of.Given as goal

abbrev pub invariant-loop-at : goal.invariant-loop-at
invariant-loop-at l = HasNone l.name (entries_of (take l.at l.self.sources))
