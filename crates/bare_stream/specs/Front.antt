-- What stands at the front of bits.
use Rattle.std.specs.Prelude.{◌≡◌, Bool, List, take}
use Rattle.bare_stream.specs.declared.front.Front.{Front}
use Rattle.bare_stream.specs.declared.front.Front.TheVariants.{Next, Whole, Bad}
use Rattle.bare_stream.specs.Streams.{IsNext, HasNoNext}
use Rattle.h261_pic.specs.Coded.{Coding, nothing, HoldsAccepted, IsFinished}
use Rattle.pel_model.specs.declared.Format.{Format}
use Rattle.pel_model.specs.Grammar.{next_within_limit}
use Rattle.pel_model.specs.Walk.{FirstFault}

-- a picture up to the next PSC; all bits as one picture; or their first fault. The picture stands in `coded`.
abbrev pub StandsInFront : Format → List Bool → Front → Coding → Type 0
StandsInFront format bits (Next e) coded =
    IsNext format bits e × HoldsAccepted format (take e bits) coded × IsFinished coded
StandsInFront format bits Whole coded = HasNoNext format bits × HoldsAccepted format bits coded × IsFinished coded
StandsInFront format bits (Bad fault) coded =
    HasNoNext format bits × FirstFault (next_within_limit format) bits fault.place fault.why
    × (coded ≡ nothing format)
