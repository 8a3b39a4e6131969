-- Inner contracts alone use this; nothing here has to be believed.
-- Words of TCOEFF that stand one after another.
use Rattle.std.specs.Prelude.{◌≡◌, ℕ, ◌+◌, ◌<◌, ◌≤◌, ◌==◌, Bool, true, false, cond, List, [], ◌∷◌, ◌++◌, drop}
use Rattle.std.specs.Prelude.{Option, Some, None, Result, Ok}
use Rattle.pel_model.specs.declared.Fault.{Fault}
use Rattle.pel_model.specs.declared.Format.{Format}
use Rattle.pel_model.specs.Records.{Coefficient}
use Rattle.pel_model.specs.Walk.{Reading, Goes, AreTaken, Walked}
use Rattle.pel_model.specs.Grammar.{Element, Tcoeff, Eob, slot, AtFirst, AtCoefficient, filled, next}

-- how many coefficients these are, the zeros before them among them
abbrev pub filling : List Coefficient → ℕ
filling [] = 0
filling (c ∷ cs) = c.run + 1 + filling cs

-- their elements, and the end of the block where it follows them
abbrev pub elements : List Coefficient → Bool → List Element
elements [] false = []
elements [] true = Eob ∷ []
elements (c ∷ cs) ends = Tcoeff c ∷ elements cs ends

-- these elements are coefficients, or coefficients and the end of the block
pub record AreElements (ends : Bool) (es : List Element) : Type 0 where
  pub coefficients : List Coefficient
  pub are : es ≡ elements coefficients ends

-- some coefficients, behind which so many stand
pub record AreSome (before behind : ℕ) (es : List Element) : Type 0 where
  pub coefficients : List Coefficient
  pub are : es ≡ elements coefficients false
  pub count : behind ≡ before + filling coefficients

-- some coefficients were taken, and so many stand there then; or all that are left and the end of the block
abbrev pub AreWanted : ℕ → Option ℕ → List Element → Type 0
AreWanted before (Some behind) es = AreSome before behind es
AreWanted before None es = AreElements true es

-- so many coefficients stand before: some words are taken, which leave more to come, or the first fault is met
pub record TakesWords (count : ℕ) (result : Result (Option ℕ) Fault) (old new : Reading) : Type 0 where
  pub taken :
      (format : Format) (before : List Element) → slot before ≡ cond (count == 0) AtFirst AtCoefficient → filled before ≡ count
      → Walked (next format) before (λ behind es _. AreWanted count behind es) (AreElements false) result old new
  pub more : (n : ℕ) → result ≡ Ok (Some n) → (count < n) × (n ≤ 64)

-- where so many coefficients stand before, the rest of the block stands there, and was taken
abbrev pub EndsBlock : ℕ → Reading → Reading → Type 0
EndsBlock count old new =
    (format : Format) (before : List Element) → slot before ≡ cond (count == 0) AtFirst AtCoefficient → filled before ≡ count
    → AreTaken (next format) before (λ es _. AreElements true es) old new

-- ---- words at the front of some bits

-- whatever follows the bits: where so many coefficients stand before, these words go, and so many do then
pub record AreWords (bits : List Bool) (len before behind : ℕ) (ends : Bool) : Type 0 where
  pub coefficients : List Coefficient
  pub count : behind ≡ before + filling coefficients
  pub go :
      (format : Format) (es : List Element) (more : List Bool) (place : ℕ)
      → slot es ≡ cond (before == 0) AtFirst AtCoefficient → filled es ≡ before
      → Goes (next format) es (bits ++ more, place) (elements coefficients ends) (drop len bits ++ more, place + len)

-- a later word may stand where the first coefficient of a block without INTRADC is due: none of them begins with 1
abbrev pub MayStand : Bool → List Bool → Type 0
MayStand true [] = ⊥
MayStand true (true ∷ bits) = ⊥
MayStand _ _ = Unit {0}
