-- Inner contracts alone use this; nothing here has to be believed.
-- What may come behind a picture's header, a group's header, a macroblock or stuffing (H.261, 4.2.1 to 4.2.3).
use Rattle.std.specs.Prelude.{◌≡◌, ℕ, Result, Ok, Err}
use Rattle.pel_model.specs.declared.Fault.{Fault}
use Rattle.pel_model.specs.Walk.{Reading, Standing, Good, read, IsTaken, IsFault}
use Rattle.pel_model.specs.Grammar.{Element, Gbsc, Stuffing, Mba, mba_rows}
use Rattle.h261_pic.specs.Reached.{IsLast}
use Rattle.h261_pic.specs.declared.coming.Coming.{Coming}
use Rattle.h261_pic.specs.declared.coming.Coming.TheVariants as coming

-- a word of MBA stands there, and was not taken
pub record IsMba (old new : Reading) : Type 0 where
  pub difference : ℕ
  pub len : ℕ
  pub word : read mba_rows old.0 ≡ Good (Mba difference) len
  pub kept : new ≡ old

-- the lawful end; a group's start code or stuffing, which was taken; a word of MBA, which was not; or what is at fault
abbrev pub Comes : Standing Element → Result Coming Fault → Reading → Reading → Type 0
Comes here (Ok coming.End) old new = IsLast here old new
Comes here (Ok coming.Group) old new = IsTaken here Gbsc old new
Comes here (Ok coming.Stuffing) old new = IsTaken here Stuffing old new
Comes here (Ok coming.Macroblock) old new = IsMba old new
Comes here (Err f) old new = IsFault here f old new

-- behind a picture header neither stuffing nor a macroblock may come
abbrev pub IsGroupOrEnd : Coming → Type 0
IsGroupOrEnd coming.End = Unit {0}
IsGroupOrEnd coming.Group = Unit {0}
IsGroupOrEnd _ = ⊥
