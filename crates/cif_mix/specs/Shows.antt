-- Which pictures the boxes of a hand hold, where they are to be shown, and what is composed of them.
use Rattle.std.specs.Prelude.{◌≡◌, ◌≤◌, Bool, true, false, length, Option, None, Some}
use Rattle.h261_pic.specs.Coded.{Coding, coding, IsFinished}
use Rattle.h261_pic.specs.Hand.{box_of}
use Rattle.h261_pic.specs.declared.hand.Hand.{Hand}
use Rattle.pel_model.specs.declared.Format.TheVariants.{Qcif, Cif}
use Rattle.pel_model.specs.declared.Quad.{Quad}
use Rattle.pel_model.specs.declared.Quad.TheVariants.{One, Two, Three, Four}
use Rattle.pel_model.specs.Headline.{written_limit}
use Rattle.pel_model.specs.Records.{Picture}
use Rattle.pel_model.specs.Valid.{IsValid}

-- which of the four places is to be shown
abbrev pub in_places : (one two three four : Bool) → Quad → Bool
in_places one two three four One = one
in_places one two three four Two = two
in_places one two three four Three = three
in_places one two three four Four = four

-- a box that is to be shown holds a finished QCIF picture
abbrev pub MayBeShown : (shown : Bool) → (box : Coding) → Type 0
MayBeShown shown box = shown ≡ true → (box.format ≡ Qcif) × IsFinished box

abbrev pub MayShow : (shown : Quad → Bool) → Hand → Type 0
MayShow shown hand = (q : Quad) → MayBeShown (shown q) (box_of hand q)

-- no picture where the box is not to be shown, else the valid picture whose coding it holds
abbrev pub Shows : (shown : Bool) → (box : Coding) → Option Picture → Type 0
Shows false box picture = picture ≡ None
Shows true box None = ⊥
Shows true box (Some picture) = (box ≡ coding Qcif picture) × IsValid Qcif picture

abbrev pub ShowsEach : (shown : Quad → Bool) → Hand → (Quad → Option Picture) → Type 0
ShowsEach shown hand pictures = (q : Quad) → Shows (shown q) (box_of hand q) (pictures q)

-- a finished CIF picture of at most so many bits as a tick may write
pub record IsComposed (coded : Coding) : Type 0 where
  pub cif : coded.format ≡ Cif
  pub finished : IsFinished coded
  pub within : length coded.bits ≤ written_limit
