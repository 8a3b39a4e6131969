-- Inner contracts alone use this; nothing here has to be believed.
-- A CIF picture that grows by the groups of two places, by turns.
use Rattle.std.specs.Prelude.{◌≡◌, ◌⊎◌, ℕ, zero, suc, ◌+◌, ◌-◌, ◌*◌, ◌<◌, ◌≤◌, Bool, true, false, length, Option}
use Rattle.h261_pic.specs.Coded.{Coding, coding, next_number, view_of, group_in, HasNextGroup, CanBeCopied, IsFinished}
use Rattle.pel_model.specs.declared.Format.TheVariants.{Qcif, Cif}
use Rattle.pel_model.specs.Composed.{or_blank}
use Rattle.pel_model.specs.Records.{Picture, with_group}
use Rattle.pel_model.specs.Regions.{renumbered}
use Rattle.cif_mix.specs.Shows.{Shows}

-- ---- a picture that is shown

abbrev pub IsFinishedQcif : Coding → Type 0
IsFinishedQcif box = (box.format ≡ Qcif) × IsFinished box

-- the macroblock bits of its first n groups
abbrev pub bits_below : Coding → ℕ → ℕ
bits_below box zero = 0
bits_below box (suc n) = bits_below box n + (view_of box n).len

-- what is known of a finished one: its groups are 1, 3 and 5, and the limit of QCIF leaves 65,426 bits for macroblocks
pub record IsBox (box : Coding) : Type 0 where
  pub numbers : (i : ℕ) → i < 3 → (view_of box i).number ≡ 2 * i + 1
  pub few : bits_below box 3 ≤ 65426

-- ---- a group more

-- a CIF picture that can get a group more
pub record CanGrow (whole : Coding) : Type 0 where
  pub cif : whole.format ≡ Cif
  pub next : HasNextGroup whole

-- group `i` of a QCIF picture can be that group
pub record CanGive (picture : Coding) (i : ℕ) (whole : Coding) : Type 0 where
  pub qcif : picture.format ≡ Qcif
  pub copied : CanBeCopied picture i whole

-- it can be where the picture is shown
pub record CanTake (shown : Bool) (picture : Coding) (i : ℕ) (whole : Coding) : Type 0 where
  pub there : i < 3
  pub grows : CanGrow whole
  pub gives : shown ≡ true → CanGive picture i whole

-- the macroblock bits that are copied
abbrev pub bits_shown : Bool → Coding → ℕ → ℕ
bits_shown true picture i = (view_of picture i).len
bits_shown false picture i = 0

pub record IsAdded (shown : Bool) (picture : Coding) (i : ℕ) (old new : Coding) : Type 0 where
  pub cif : new.format ≡ Cif
  pub begun : 0 < length new.bits
  pub more : length new.groups ≡ length old.groups + 1
  pub long : length new.bits ≤ length old.bits + 26 + bits_shown shown picture i
  pub is : (p : Option Picture) (whole : Picture) → Shows shown picture p → old ≡ coding Cif whole
      → new ≡ coding Cif (with_group whole (renumbered (next_number old) (group_in (or_blank p) i)))

-- ---- the groups of two places

-- the first n groups of each, behind a picture that has `before` groups
abbrev pub with_rows : Picture → (left right : Picture) → (before n : ℕ) → Picture
with_rows whole left right before zero = whole
with_rows whole left right before (suc n) =
    with_group (with_group (with_rows whole left right before n) (renumbered (before + 2 * n + 1) (group_in left n)))
    (renumbered (before + 2 * n + 2) (group_in right n))

-- before the groups of the upper or of the lower places, with room for two pictures
pub record IsAtRow (whole : Coding) : Type 0 where
  pub cif : whole.format ≡ Cif
  pub begun : 0 < length whole.bits
  pub row : (length whole.groups ≡ 0) ⊎ (length whole.groups ≡ 6)
  pub room : length whole.bits + 26 * (12 - length whole.groups) + 130852 ≤ 262144

pub record IsRowAdded (show_left : Bool) (left : Coding) (show_right : Bool) (right : Coding) (old new : Coding) : Type 0 where
  pub cif : new.format ≡ Cif
  pub begun : 0 < length new.bits
  pub more : length new.groups ≡ length old.groups + 6
  pub long : length new.bits ≤ length old.bits + 156 + 130852
  pub is : (l r : Option Picture) (whole : Picture) → Shows show_left left l → Shows show_right right r → old ≡ coding Cif whole
      → new ≡ coding Cif (with_rows whole (or_blank l) (or_blank r) (length old.groups) 3)
