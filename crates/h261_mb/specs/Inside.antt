-- A macroblock as far as it was read, where a fault is met.
use Rattle.std.specs.Prelude.{◌≡◌, false, List, [], drop, ◌⊎◌}
use Rattle.pel_model.specs.Walk.{after}
use Rattle.pel_model.specs.Elements.{AreInside}
use Rattle.pel_model.specs.Grammar.{Element, slot, may_end}

-- behind the MBA of a macroblock: nothing else begins, and the macroblock is not whole
abbrev pub StaysInside : List Element → List Element → Type 0
StaysInside before es = AreInside es × (may_end (slot (after before es)) ≡ false)

-- from its MBA on: nothing, or its MBA and elements inside it that do not make it whole
abbrev pub IsMacroblockSoFar : List Element → List Element → Type 0
IsMacroblockSoFar before es = AreInside (drop 1 es) × ((es ≡ []) ⊎ (may_end (slot (after before es)) ≡ false))
