use Rattle.std.proofs.Common.{◌≡◌, List, length}
use Rattle.pel_model.specs.declared.Format.{Format}
use Rattle.pel_model.specs.Grammar.{Element, slot, next}
use Rattle.h261_pic.specs.HeaderElements.{Layer, flag_slot}
use Rattle.h261_pic.proofs.Spares.{SparesSoFar}
use Rattle.h261_pic.proofs.input_headers.pass_spares.Given as goal

abbrev pub invariant-loop-r : goal.invariant-loop-r
invariant-loop-r l = (format : Format) (before : List Element) (layer : Layer) → slot before ≡ flag_slot layer → SparesSoFar (next format) before layer l.fn.r l.r

abbrev pub decreases-loop-r : goal.decreases-loop-r
decreases-loop-r l = length l.r.0
