-- What stands in the four boxes of a hand, and that it is what a tick took.
use Rattle.std.specs.Prelude.{◌≡◌, ℕ, IfSome}
use Rattle.pel_model.specs.declared.Format.TheVariants.{Qcif}
use Rattle.pel_model.specs.declared.Quad.{Quad}
use Rattle.pel_model.specs.declared.Quad.TheVariants.{One, Two, Three, Four}
use Rattle.pel_model.specs.History.{History}
use Rattle.pel_model.specs.Takes.{choice}
use Rattle.h261_pic.specs.declared.hand.Hand.{Hand}
use Rattle.h261_pic.specs.Coded.{Coding, coding}

-- what stands in the box of a place
abbrev pub box_of : Hand → Quad → Coding
box_of hand One = hand.one.value
box_of hand Two = hand.two.value
box_of hand Three = hand.three.value
box_of hand Four = hand.four.value

-- each box of the hand whose place takes a picture behind this history has that picture's coding
abbrev pub HasTaken : ℕ → History → Hand → Type 0
HasTaken lanes H hand = (q : Quad) → IfSome (choice lanes H q) (λ h. box_of hand q ≡ coding Qcif h.item)
