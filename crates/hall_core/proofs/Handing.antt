-- What a tick puts into a hand is what its places took.
use Rattle.std.proofs.Common.{◌≡◌, Option, Some, None, IfSome}
use Rattle.h261_pic.specs.Coded.{Coding, coding}
use Rattle.pel_model.specs.declared.Format.TheVariants.{Qcif}
use Rattle.pel_model.specs.declared.held.Held.{Held}
use Rattle.pel_model.specs.Records.{Picture}
use Rattle.pel_model.specs.Takes.{choice}
use Rattle.h261_pic.specs.Hand.{box_of}
use Rattle.hall_core.specs.Hall.{lanes_of}
use Rattle.hall_core.specs.Stands.{box_behind, TakesLaw}

has-of : (chosen : Option (Held Picture)) (old new : Coding) → new ≡ box_behind chosen old → IfSome chosen (λ h. new ≡ coding Qcif h.item)
has-of None old new e = tt
has-of (Some h) old new e = e

pub takes-law : TakesLaw
takes-law hall old new H stands takes q = has-of (choice (lanes_of hall) H q) (box_of old q) (box_of new q) (takes H stands q)
