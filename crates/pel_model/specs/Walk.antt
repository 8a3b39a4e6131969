-- Reading element by element, from left to right, and the first fault. But for the reasons nothing here speaks of
-- H.261: a grammar is a function that says what stands next, from the elements before and the bits left.
use Rattle.std.specs.Prelude.{◌≡◌, ℕ, ◌+◌, Bool, List, [], ◌∷◌, length, map, take, drop, Option, Some, None, Result, Ok, Err, nat_lt, if◌then◌else◌}
use Rattle.std.specs.List.{find, list_any}
use Rattle.pel_model.specs.Bits.{number}
use Rattle.pel_model.specs.Codes.{is_prefix}
use Rattle.pel_model.specs.declared.Fault.{Fault}
use Rattle.pel_model.specs.declared.Why.{Why}
use Rattle.pel_model.specs.declared.Why.TheVariants.{Cut, NoCode}

-- ---- readings

-- the bits that are left, and the position of the first of them
abbrev pub Reading : Type 0
Reading = List Bool × ℕ

-- a reading n bits further on
abbrev pub skipped : ℕ → Reading → Reading
skipped n r = (drop n r.0, r.1 + n)

abbrev pub start : List Bool → Reading
start bits = (bits, 0)

-- ---- what stands next

-- a good element and its length, the lawful end, or an element at fault
pub data Standing (E : Type 0) : Type 0 where
  Good : E → ℕ → Standing E
  Stop : Standing E
  Bad : Why → Standing E

-- ---- words

-- words that may stand: a codeword, then `tail` bits, and the element that they are by the number of these bits
pub record Row (E : Type 0) : Type 0 where
  pub code : List Bool
  pub tail : ℕ
  pub make : ℕ → E

-- no codeword is a prefix of the bits: the bits are a prefix of one, or of none
abbrev pub cause : List (List Bool) → List Bool → Why
cause codes bits = if list_any (λ code. is_prefix bits code) codes then Cut else NoCode

-- the whole word of a row whose codeword is a prefix of the bits
abbrev pub whole_word : {E : Type 0} → Row E → List Bool → Standing E
whole_word row bits =
    if nat_lt (length bits) (length row.code + row.tail) then Bad Cut
    else Good (row.make (number (take row.tail (drop (length row.code) bits)))) (length row.code + row.tail)

abbrev pub word_at : {E : Type 0} → List (Row E) → List Bool → Option (Row E) → Standing E
word_at rows bits (Some row) = whole_word row bits
word_at rows bits None = Bad (cause (map (λ row. row.code) rows) bits)

-- the word of the rows with which the bits begin
abbrev pub read : {E : Type 0} → List (Row E) → List Bool → Standing E
read rows bits = word_at rows bits (find (λ row. is_prefix row.code bits) rows)

-- ---- conditions

-- an element that was read is good where no condition is broken
abbrev pub verdict : {E : Type 0} → E → ℕ → Option Why → Standing E
verdict e n None = Good e n
verdict e n (Some why) = Bad why

abbrev pub judged : {E : Type 0} → (E → ℕ → Option Why) → Standing E → Standing E
judged judge (Good e n) = verdict e n (judge e n)
judged judge Stop = Stop
judged judge (Bad why) = Bad why

-- ---- walks: the elements before stand newest first, those of a walk in their order

abbrev pub after : {E : Type 0} → List E → List E → List E
after before [] = before
after before (e ∷ es) = after (e ∷ before) es

-- these elements stand one after another from `r` to `end`, and are good
abbrev pub Goes : {E : Type 0} → (List E → Reading → Standing E) → List E → Reading → List E → Reading → Type 0
Goes next before r [] end = end ≡ r
Goes next before r (e ∷ es) end = (n : ℕ) × (next before r ≡ Good e n) × Goes next (e ∷ before) (skipped n r) es end

-- the first `place` bits are good elements, and what comes there is at fault
pub record FirstFault {E : Type 0} (next : List E → Reading → Standing E) (bits : List Bool) (place : ℕ) (why : Why) : Type 0 where
  pub elements : List E
  pub end : Reading
  pub walk : Goes next [] (start bits) elements end
  pub bad : next (after [] elements) end ≡ Bad why
  pub place_is : place ≡ end.1

-- the bits are these elements, up to the lawful end
pub record Reads {E : Type 0} (next : List E → Reading → Standing E) (bits : List Bool) (es : List E) : Type 0 where
  pub end : Reading
  pub walk : Goes next [] (start bits) es end
  pub stop : next (after [] es) end ≡ Stop

-- bits are read to their end in at most one way, have at most one first fault, and not both
pub record HasOneAnswer {E : Type 0} (next : List E → Reading → Standing E) : Type 0 where
  pub one_reading : (bits : List Bool) (es fs : List E) → Reads next bits es → Reads next bits fs → es ≡ fs
  pub one_fault :
      (bits : List Bool) (place other_place : ℕ) (why other_why : Why) → FirstFault next bits place why
      → FirstFault next bits other_place other_why → (place ≡ other_place) × (why ≡ other_why)
  pub not_both :
      (bits : List Bool) (es : List E) (place : ℕ) (why : Why) → Reads next bits es → FirstFault next bits place why → ⊥

-- ---- what readers answer: of one word, of one element, and of several

-- this element stands there, and was taken
pub record IsTaken {E : Type 0} (here : Standing E) (e : E) (old new : Reading) : Type 0 where
  pub len : ℕ
  pub good : here ≡ Good e len
  pub behind : new ≡ skipped len old

-- no word stands there, and nothing was taken
pub record IsNoWord {E : Type 0} (here : Standing E) (why : Why) (old new : Reading) : Type 0 where
  pub bad : here ≡ Bad why
  pub kept : new ≡ old

-- what stands there is at fault, and nothing was taken
pub record IsFault {E : Type 0} (here : Standing E) (f : Fault) (old new : Reading) : Type 0 where
  pub bad : here ≡ Bad f.why
  pub place : f.place ≡ old.1
  pub kept : new ≡ old

-- the word that stands there was taken; else nothing was
abbrev pub TakesWord : {E X : Type 0} → (X → E) → Standing E → Result X Why → Reading → Reading → Type 0
TakesWord element here (Ok x) old new = IsTaken here (element x) old new
TakesWord element here (Err why) old new = IsNoWord here why old new

-- the element that stands there was taken; else nothing was, and the fault is there
abbrev pub Takes : {E X : Type 0} → (X → E) → Standing E → Result X Fault → Reading → Reading → Type 0
Takes element here (Ok x) old new = IsTaken here (element x) old new
Takes element here (Err f) old new = IsFault here f old new

-- good elements were taken, and they are what was wanted
pub record AreTaken {E : Type 0} (next : List E → Reading → Standing E) (before : List E) (AreWanted : List E → Reading → Type 0) (old new : Reading) : Type 0 where
  pub elements : List E
  pub walk : Goes next before old elements new
  pub wanted : AreWanted elements new

-- good elements were taken, which are a part of what was wanted and not the whole, and what stands behind them is at
-- fault
pub record FailsBehind {E : Type 0} (next : List E → Reading → Standing E) (before : List E) (ArePart : List E → Type 0) (f : Fault) (old new : Reading) : Type 0 where
  pub elements : List E
  pub walk : Goes next before old elements new
  pub part : ArePart elements
  pub bad : next (after before elements) new ≡ Bad f.why
  pub place : f.place ≡ new.1

-- what was wanted was taken; else a part of it
abbrev pub Walked : {E X : Type 0} → (List E → Reading → Standing E) → List E → (X → List E → Reading → Type 0) → (List E → Type 0) → Result X Fault → Reading → Reading → Type 0
Walked next before AreWanted ArePart (Ok x) old new = AreTaken next before (AreWanted x) old new
Walked next before AreWanted ArePart (Err f) old new = FailsBehind next before ArePart f old new
