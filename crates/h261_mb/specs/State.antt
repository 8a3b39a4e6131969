-- What the state of a group's macroblocks is to the elements before, and what a macroblock adds to both.
use Rattle.std.specs.Prelude.{◌≡◌, ℕ, ◌-◌, ◌<◌, ◌≤◌, Bool, ℤ, pos, negsuc, ◌≤ℤ◌, List, ◌∷◌, ◌++◌, length, Option, MatchBool, Result, Err, IfOk, IfErr}
use Rattle.pel_model.specs.declared.Fault.{Fault}
use Rattle.pel_model.specs.declared.Format.{Format}
use Rattle.pel_model.specs.declared.Mark.{Mark}
use Rattle.pel_model.specs.declared.MbKind.{MbKind}
use Rattle.pel_model.specs.declared.Why.{Why}
use Rattle.pel_model.specs.declared.Why.TheVariants.{NoCode}
use Rattle.pel_model.specs.Codes.{is_intra, has_cbp}
use Rattle.pel_model.specs.Records.{Across, Down, Macroblock}
use Rattle.pel_model.specs.Walk.{Reading, Good, Bad, read, after, Walked}
use Rattle.pel_model.specs.Grammar.{Element, Mba, Mtype, Stuffing, mba_rows, slot, AtMacroblock, block_slot, kind, ones, blocks, group, address, quantiser, vector_component, next}
use Rattle.pel_model.specs.Elements.{mquant_elements, vector_elements, cbp_elements, macroblock_elements}
use Rattle.h261_mb.specs.declared.state.MbState.{MbState}
use Rattle.h261_mb.specs.declared.header.Header.{Header}
use Rattle.h261_mb.specs.Inside.{IsMacroblockSoFar}

-- ---- what the code asks of a state

-- a component of a vector lies from -15 to 15
abbrev pub IsNear : ℤ → Type 0
IsNear z = (negsuc 14 ≤ℤ z) × (z ≤ℤ pos 15)

pub record IsReady (state : MbState) : Type 0 where
  pub address : state.address ≤ 33
  pub across : IsNear state.h
  pub down : IsNear state.v

-- ---- what elements say

-- the group's number, the macroblock's address, the quantiser in effect, and the vector, or its predictor
pub record Say (number at q : ℕ) (h v : ℤ) (before : List Element) : Type 0 where
  pub number_is : group before ≡ number
  pub address_is : address before ≡ at
  pub quant_is : quantiser before ≡ q
  pub across_is : vector_component Across before ≡ h
  pub down_is : vector_component Down before ≡ v

-- a macroblock, stuffing or a group may come, and the state is that of the elements before
pub record Stands (number : ℕ) (state : MbState) (before : List Element) : Type 0 where
  pub due : slot before ≡ AtMacroblock
  pub say : Say number state.address state.quant state.h state.v before

-- ---- a header that was read

-- the coded block pattern: all six blocks where the kind is Intra, those of CBP where it has one, else none (4.2.3.5)
abbrev pub PatternFits : MbKind → ℕ → Type 0
PatternFits kind pattern =
    MatchBool (is_intra kind) (pattern ≡ 63) (MatchBool (has_cbp kind) (pattern < 64) (pattern ≡ 0))

-- from MBA to CBP
abbrev pub header_elements : ℕ → MbKind → Option ℕ → (across down : ℤ × ℤ) → ℕ → List Element
header_elements difference kind mquant across down pattern =
    Mba difference ∷ (Mtype kind ∷ (mquant_elements mquant ++ (vector_elements kind across down ++ cbp_elements kind pattern)))

-- its elements, what they say, and that behind them the blocks of the pattern come
pub record IsHeader (number : ℕ) (before : List Element) (header : Header) (es : List Element) (new : List Bool × ℕ) : Type 0 where
  pub difference : ℕ
  pub mquant : Option ℕ
  pub across : ℤ × ℤ
  pub down : ℤ × ℤ
  pub elements : es ≡ header_elements difference header.kind mquant across down header.pattern
  pub pattern : PatternFits header.kind header.pattern
  pub due : slot (after before es) ≡ block_slot header.kind (ones header.pattern)
  pub kind_is : kind (after before es) ≡ header.kind
  pub to_come : blocks (after before es) ≡ ones header.pattern
  pub say : Say number header.address header.quant header.h header.v (after before es)

-- the state behind the macroblock of a header
abbrev pub state_behind : Header → MbState
state_behind header = record { address = header.address; quant = header.quant; h = header.h; v = header.v }

-- ---- a macroblock that was read

-- its elements, which are those of a record; the state behind it; and its mark, if it began at `from`
pub record IsRead (number from : ℕ) (before : List Element) (state : MbState) (mark : Mark) (es : List Element) (new : List Bool × ℕ) : Type 0 where
  pub macroblock : Macroblock
  pub difference : ℕ
  pub across : ℤ × ℤ
  pub down : ℤ × ℤ
  pub elements : es ≡ macroblock_elements difference across down macroblock
  pub stands : Stands number state (after before es)
  pub address_is : macroblock.address ≡ state.address
  pub across_is : macroblock.across ≡ state.h
  pub down_is : macroblock.down ≡ state.v
  pub six : length macroblock.blocks ≡ 6
  pub mark_is : mark ≡ record { at = from; len = new.1 - from; group = number; address = state.address; quant_after = state.quant; h_after = state.h; v_after = state.v; intra = is_intra macroblock.kind }

-- ---- what readers answer

-- nothing was taken, and the fault is where the reader stands
abbrev pub FailsThere : {X : Type 0} → Why → Result X Fault → (old new : Reading) → Type 0
FailsThere why result old new = (result ≡ Err (record { place = old.1; why = why })) × (new ≡ old)

-- a header is read behind the elements that the state stands for, or the first fault in it is met; where no word is, or
-- stuffing, nothing is taken
pub record ReadsHeader (format : Format) (number : ℕ) (state : MbState) (result : Result Header Fault) (old new : Reading) : Type 0 where
  pub walk :
      (before : List Element) (d n : ℕ) → Stands number state before → read mba_rows old.0 ≡ Good (Mba d) n
      → Walked (next format) before (IsHeader number before) (IsMacroblockSoFar before) result old new
  pub no_word : (why : Why) → read mba_rows old.0 ≡ Bad why → FailsThere why result old new
  pub stuffing : (n : ℕ) → read mba_rows old.0 ≡ Good Stuffing n → FailsThere NoCode result old new
  pub ready : IfOk result (λ header. IsReady (state_behind header))
  pub onward : IfOk result (λ _. old.1 ≤ new.1)

-- the same of a whole macroblock, whose state is `now` then; after a fault it is as it was
pub record ScansMacroblock (format : Format) (number : ℕ) (state now : MbState) (result : Result Mark Fault) (old new : Reading) : Type 0 where
  pub walk :
      (before : List Element) (d n : ℕ) → Stands number state before → read mba_rows old.0 ≡ Good (Mba d) n
      → Walked (next format) before (IsRead number old.1 before now) (IsMacroblockSoFar before) result old new
  pub no_word : (why : Why) → read mba_rows old.0 ≡ Bad why → FailsThere why result old new
  pub stuffing : (n : ℕ) → read mba_rows old.0 ≡ Good Stuffing n → FailsThere NoCode result old new
  pub kept : IfErr result (λ _. now ≡ state)
  pub ready : IfOk result (λ _. IsReady now)
