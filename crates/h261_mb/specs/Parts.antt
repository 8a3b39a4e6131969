-- Inner contracts alone use this; nothing here has to be believed.
-- The parts of a macroblock, as they are read one after another.
use Rattle.std.specs.Prelude.{◌≡◌, ℕ, ◌-◌, ◌<◌, ◌≤◌, Bool, true, cond, ℤ, pos, List, [], ◌∷◌, length, flat_map, Option, unwrap_or, Result, IfOk}
use Rattle.pel_model.specs.declared.Fault.{Fault}
use Rattle.pel_model.specs.declared.Format.{Format}
use Rattle.pel_model.specs.declared.Format.TheVariants.{Cif}
use Rattle.pel_model.specs.declared.MbKind.{MbKind}
use Rattle.pel_model.specs.declared.Why.{Why}
use Rattle.pel_model.specs.declared.Why.TheVariants.{NoCode}
use Rattle.pel_model.specs.Codes.{is_intra, has_vector}
use Rattle.pel_model.specs.Records.{Axis, Across, Down, Block}
use Rattle.pel_model.specs.Valid.{side, corner}
use Rattle.pel_model.specs.Walk.{Reading, Good, Bad, read, after, Takes, Walked}
use Rattle.pel_model.specs.Text.{resets_predictor}
use Rattle.pel_model.specs.Grammar.{Element, mba_rows, Mba, Stuffing, Mtype, Mvd, Slot, slot, AtMacroblock, AtMvd, vector_slot, cbp_slot, block_slot, kind, ones, blocks, group, address, vector_component, component_from, is_group, next}
use Rattle.pel_model.specs.Elements.{mquant_elements, vector_elements, cbp_elements, block_elements}
use Rattle.h261_mb.specs.declared.state.Front.{Front}
use Rattle.h261_mb.specs.declared.state.MbState.{MbState}
use Rattle.h261_mb.specs.Inside.{StaysInside, IsMacroblockSoFar}
use Rattle.h261_mb.specs.State.{IsNear, IsReady, Say, Stands, PatternFits, FailsThere}

-- where this slot is due, the element that stands there is taken, or is at fault
pub record TakesAt {X : Type 0} (due : Slot) (element : X → Element) (result : Result X Fault) (old new : Reading) : Type 0 where
  pub taken : (format : Format) (before : List Element) → slot before ≡ due → Takes element (next format before old) result old new
  pub onward : IfOk result (λ _. old.1 ≤ new.1)

-- ---- MBA, MTYPE and MQUANT

-- a group of the format, and the state of its macroblocks
abbrev pub HeaderMayCome : Format → ℕ → MbState → Type 0
HeaderMayCome format number state = (is_group format number ≡ true) × IsReady state

-- an address of a group, and a vector or its predictor
pub record IsPlaced (front : Front) : Type 0 where
  pub some : 0 < front.address
  pub within : front.address ≤ 33
  pub across : IsNear front.h
  pub down : IsNear front.v

-- a macroblock was begun, up to its vector
pub record IsBegun (number : ℕ) (front : Front) (before : List Element) : Type 0 where
  pub due : slot before ≡ vector_slot front.kind
  pub kind_is : kind before ≡ front.kind
  pub blocks_are : blocks before ≡ cond (is_intra front.kind) 6 0
  pub say : Say number front.address front.quant front.h front.v before

-- MQUANT behind MTYPE, where the kind has it; the quantiser in effect was `last`
pub record IsMquant (k : MbKind) (last : ℕ) (before : List Element) (quant : ℕ) (es : List Element) (new : List Bool × ℕ) : Type 0 where
  pub mquant : Option ℕ
  pub elements : es ≡ mquant_elements mquant
  pub quant_is : quant ≡ unwrap_or mquant last
  pub due : slot (after (Mtype k ∷ before) es) ≡ vector_slot k

-- the predictor, by the component of the macroblock before
abbrev pub predicted : MbKind → ℕ → ℕ → ℤ → ℤ
predicted k d at last = cond (has_vector k) (cond (resets_predictor d at) (pos 0) last) (pos 0)

-- MBA stands first
abbrev pub BeginsWithMba : List Bool → Type 0
BeginsWithMba bits = (d n : ℕ) × (read mba_rows bits ≡ Good (Mba d) n)

-- MBA, MTYPE and MQUANT; the address of the macroblock before was `last`
pub record IsFront (number last : ℕ) (before : List Element) (front : Front) (es : List Element) (new : List Bool × ℕ) : Type 0 where
  pub mquant : Option ℕ
  pub elements : es ≡ Mba (front.address - last) ∷ Mtype front.kind ∷ mquant_elements mquant
  pub begun : IsBegun number front (after before es)

-- MBA is taken, where `last` was the address before; where no word is, or stuffing, nothing is
pub record TakesAddress (last : ℕ) (result : Result ℕ Fault) (old new : Reading) : Type 0 where
  pub taken :
      (format : Format) (before : List Element) (d n : ℕ) → slot before ≡ AtMacroblock → address before ≡ last
      → read mba_rows old.0 ≡ Good (Mba d) n → Takes (λ at. Mba (at - last)) (next format before old) result old new
  pub no_word : (why : Why) → read mba_rows old.0 ≡ Bad why → FailsThere why result old new
  pub stuffing : (n : ℕ) → read mba_rows old.0 ≡ Good Stuffing n → FailsThere NoCode result old new
  pub within : IfOk result (λ at. (last < at) × (at ≤ 33))
  pub onward : IfOk result (λ _. old.1 ≤ new.1)

-- the same of MBA, MTYPE and MQUANT, behind the elements that the state stands for
pub record ReadsFront (state : MbState) (result : Result Front Fault) (old new : Reading) : Type 0 where
  pub walk :
      (format : Format) (before : List Element) (number d n : ℕ) → Stands number state before → read mba_rows old.0 ≡ Good (Mba d) n
      → Walked (next format) before (IsFront number state.address before) (IsMacroblockSoFar before) result old new
  pub no_word : (why : Why) → read mba_rows old.0 ≡ Bad why → FailsThere why result old new
  pub stuffing : (n : ℕ) → read mba_rows old.0 ≡ Good Stuffing n → FailsThere NoCode result old new
  pub within : IfOk result IsPlaced
  pub onward : IfOk result (λ _. old.1 ≤ new.1)

-- ---- MVD

-- a predictor, and where a macroblock has its first sample on an axis
abbrev pub MvdMayCome : ℤ → ℕ → Type 0
MvdMayCome last first = IsNear last × (first ≤ side Cif Across)

-- MVD of the axis is due: the predictor, the macroblock's first sample and the side of the picture
pub record MvdIsDue (format : Format) (axis : Axis) (last : ℤ) (first whole : ℕ) (before : List Element) : Type 0 where
  pub due : slot before ≡ AtMvd axis
  pub vector_is : vector_component axis before ≡ last
  pub side_is : side format axis ≡ whole
  pub corner_is : corner axis (group before) (address before) ≡ first

-- one MVD, which leads from the predictor `last` to the component
pub record IsMvd (axis : Axis) (last component : ℤ) (es : List Element) (new : List Bool × ℕ) : Type 0 where
  pub values : ℤ × ℤ
  pub elements : es ≡ Mvd axis values ∷ []
  pub component_is : component_from last values ≡ component

-- it is read, or is at fault
pub record ReadsMvd (last : ℤ) (first whole : ℕ) (result : Result ℤ Fault) (old new : Reading) : Type 0 where
  pub walk :
      (format : Format) (before : List Element) (axis : Axis) → MvdIsDue format axis last first whole before
      → Walked (next format) before (IsMvd axis last) (StaysInside before) result old new
  pub near : IfOk result IsNear
  pub onward : IfOk result (λ _. old.1 ≤ new.1)

-- both
pub record AreComponents (front : Front) (components : ℤ × ℤ) (es : List Element) (new : List Bool × ℕ) : Type 0 where
  pub across : ℤ × ℤ
  pub down : ℤ × ℤ
  pub elements : es ≡ Mvd Across across ∷ Mvd Down down ∷ []
  pub across_is : component_from front.h across ≡ components.0
  pub down_is : component_from front.v down ≡ components.1

-- a macroblock was begun, and its vector was read if it has one
pub record IsMoved (number : ℕ) (front : Front) (h v : ℤ) (before : List Element) : Type 0 where
  pub due : slot before ≡ cbp_slot front.kind
  pub kind_is : kind before ≡ front.kind
  pub blocks_are : blocks before ≡ cond (is_intra front.kind) 6 0
  pub say : Say number front.address front.quant h v before

-- both, where the kind has a vector
pub record IsVector (number : ℕ) (front : Front) (before : List Element) (components : ℤ × ℤ) (es : List Element) (new : List Bool × ℕ) : Type 0 where
  pub across : ℤ × ℤ
  pub down : ℤ × ℤ
  pub elements : es ≡ vector_elements front.kind across down
  pub moved : IsMoved number front components.0 components.1 (after before es)

-- a group of the format, and a macroblock of it
abbrev pub VectorMayCome : Format → ℕ → Front → Type 0
VectorMayCome format number front = (is_group format number ≡ true) × IsPlaced front

abbrev pub IsNearVector : ℤ × ℤ → Type 0
IsNearVector vector = IsNear vector.0 × IsNear vector.1

-- the vector is read behind what was begun, or the first fault in it is met
pub record ReadsVector (format : Format) (number : ℕ) (front : Front) (result : Result (ℤ × ℤ) Fault) (old new : Reading) : Type 0 where
  pub walk :
      (before : List Element) → IsBegun number front before
      → Walked (next format) before (IsVector number front before) (StaysInside before) result old new
  pub near : IfOk result IsNearVector
  pub onward : IfOk result (λ _. old.1 ≤ new.1)

-- ---- CBP and the blocks

-- what stands behind the vector of a macroblock of this kind is due
pub record PatternIsDue (k : MbKind) (before : List Element) : Type 0 where
  pub due : slot before ≡ cbp_slot k
  pub kind_is : kind before ≡ k
  pub to_come : blocks before ≡ cond (is_intra k) 6 0

-- CBP, where the kind has it
pub record IsPattern (k : MbKind) (before : List Element) (pattern : ℕ) (es : List Element) (new : List Bool × ℕ) : Type 0 where
  pub fits : PatternFits k pattern
  pub elements : es ≡ cbp_elements k pattern
  pub due : slot (after before es) ≡ block_slot k (ones pattern)
  pub to_come : blocks (after before es) ≡ ones pattern

-- CBP is read, or is at fault
pub record ReadsPattern (k : MbKind) (result : Result ℕ Fault) (old new : Reading) : Type 0 where
  pub walk :
      (format : Format) (before : List Element) → PatternIsDue k before
      → Walked (next format) before (IsPattern k before) (StaysInside before) result old new
  pub onward : IfOk result (λ _. old.1 ≤ new.1)

-- so many blocks, the last of the macroblock
pub record AreBlocks {X : Type 0} (count : ℕ) (before : List Element) (x : X) (es : List Element) (new : List Bool × ℕ) : Type 0 where
  pub sent : List Block
  pub many : length sent ≡ count
  pub elements : es ≡ flat_map block_elements sent
  pub due : slot (after before es) ≡ AtMacroblock

-- these blocks are due, and no others
pub record BlocksAreDue (intra : Bool) (count : ℕ) (k : MbKind) (before : List Element) : Type 0 where
  pub kind_is : kind before ≡ k
  pub intra_is : is_intra k ≡ intra
  pub due : slot before ≡ block_slot k count
  pub to_come : blocks before ≡ count

-- they are passed, or the first fault in them is met
pub record SkipsBlocks {X : Type 0} (intra : Bool) (count : ℕ) (result : Result X Fault) (old new : Reading) : Type 0 where
  pub walk :
      (format : Format) (before : List Element) (k : MbKind) → BlocksAreDue intra count k before
      → Walked (next format) before (AreBlocks count before) (StaysInside before) result old new
  pub onward : IfOk result (λ _. old.1 ≤ new.1)
