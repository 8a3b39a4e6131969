-- The laws that join the two accounts of a coded picture: its record and texts, and its elements in their order.
use Rattle.std.specs.Prelude.{◌≡◌, ℕ, ◌+◌, ◌-◌, ◌*◌, ◌<◌, ◌≤◌, Bool, true, false, List, [], ◌∷◌, ◌++◌, length, take, drop, ◌⊎◌}
use Rattle.pel_model.specs.declared.Format.{Format}
use Rattle.pel_model.specs.declared.Why.{Why}
use Rattle.pel_model.specs.declared.Why.TheVariants.{Cut, TooLong}
use Rattle.pel_model.specs.Records.{Picture}
use Rattle.pel_model.specs.Headers.{group_header_length}
use Rattle.pel_model.specs.Text.{text}
use Rattle.pel_model.specs.Valid.{IsValid, group_count, limit}
use Rattle.pel_model.specs.Spelling.{Spells}
use Rattle.pel_model.specs.Accepts.{Accepts}
use Rattle.pel_model.specs.Walk.{Good, Stop, Bad, after, Goes, FirstFault, Reads}
use Rattle.pel_model.specs.Grammar.{Element, slot, may_end, begun, counted, next, next_within_limit}
use Rattle.picture_laws.specs.PictureElements.{Tells}

-- the strict text of a valid picture is accepted with that picture, where it is no longer than the format allows
abbrev pub TextIsAccepted : Type 0
TextIsAccepted =
    (format : Format) (pic : Picture) → IsValid format pic → length (text format pic) ≤ limit format
    → Accepts format (text format pic) pic

-- accepted bits are good elements up to the lawful end, and these tell the picture
abbrev pub AcceptedIsRead : Type 0
AcceptedIsRead =
    (format : Format) (bits : List Bool) (pic : Picture) → Accepts format bits pic
    → (es : List Element) × Reads (next_within_limit format) bits es × Tells format es pic

-- good elements up to the lawful end tell a picture, and with it the bits are accepted
abbrev pub WalkHasRecord : Type 0
WalkHasRecord =
    (format : Format) (bits : List Bool) (es : List Element) → Reads (next_within_limit format) bits es
    → (pic : Picture) × Tells format es pic × Accepts format bits pic

-- ---- one record or one fault

-- bits are accepted with a record, or have a first fault
abbrev pub HasRecordOrFault : Type 0
HasRecordOrFault =
    (format : Format) (bits : List Bool)
    → ((pic : Picture) × Accepts format bits pic) ⊎ ((place : ℕ) × (why : Why) × FirstFault (next_within_limit format) bits place why)

-- never both
abbrev pub NeverBoth : Type 0
NeverBoth =
    (format : Format) (bits : List Bool) (pic : Picture) (place : ℕ) (why : Why) → Accepts format bits pic
    → FirstFault (next_within_limit format) bits place why → ⊥

-- bits spell one valid picture
abbrev pub OneSpelling : Type 0
OneSpelling =
    (format : Format) (bits : List Bool) (p q : Picture) → Spells format bits p → IsValid format p
    → Spells format bits q → IsValid format q → p ≡ q

-- one record
abbrev pub OneRecord : Type 0
OneRecord =
    (format : Format) (bits : List Bool) (p q : Picture) → Accepts format bits p → Accepts format bits q → p ≡ q

-- one fault, with one place and reason
abbrev pub OneFault : Type 0
OneFault =
    (format : Format) (bits : List Bool) (p q : ℕ) (why other : Why) → FirstFault (next_within_limit format) bits p why
    → FirstFault (next_within_limit format) bits q other → (p ≡ q) × (why ≡ other)

-- ---- the limit

-- an element of a picture is what stands there whatever the picture's length, or is too long; a lawful end and another
-- fault are as they were
pub record IsJudged (format : Format) (before : List Element) (r : List Bool × ℕ) : Type 0 where
  pub good : (e : Element) (n : ℕ) → next format before r ≡ Good e n → counted format (e ∷ before) (r.1 + n) ≤ limit format → next_within_limit format before r ≡ Good e n
  pub long : (e : Element) (n : ℕ) → next format before r ≡ Good e n → limit format < counted format (e ∷ before) (r.1 + n) → next_within_limit format before r ≡ Bad TooLong
  pub end : next format before r ≡ Stop → next_within_limit format before r ≡ Stop
  pub bad : (why : Why) → next format before r ≡ Bad why → next_within_limit format before r ≡ Bad why

abbrev pub JudgedByTheLimit : Type 0
JudgedByTheLimit = (format : Format) (before : List Element) (r : List Bool × ℕ) → IsJudged format before r

-- good elements of a picture are good whatever its length
abbrev pub WithoutTheLimit : Type 0
WithoutTheLimit =
    (format : Format) (before : List Element) (r end : List Bool × ℕ) (es : List Element)
    → Goes (next_within_limit format) before r es end → Goes (next format) before r es end

-- elements none of which stands where a lawful end can be
abbrev pub StandInside : List Element → List Element → Type 0
StandInside before [] = Unit {0}
StandInside before (e ∷ es) = (may_end (slot before) ≡ false) × StandInside (e ∷ before) es

-- the k bits from a place on are those that the limit leaves
abbrev pub Leaves : Format → List Element → ℕ → ℕ → Type 0
Leaves format before place k = place + k + group_header_length * (group_count format - begun before) ≡ limit format

-- good elements that end within the first k bits are good over these
abbrev pub GoodOverFirst : Type 0
GoodOverFirst =
    (format : Format) (before : List Element) (r end : List Bool × ℕ) (es : List Element) (k : ℕ)
    → Goes (next format) before r es end → end.1 ≤ r.1 + k
    → Goes (next format) before (take k r.0, r.1) es (take (r.1 + k - end.1) end.0, end.1)

-- elements that are good over the first k bits are good
abbrev pub GoodOverAll : Type 0
GoodOverAll =
    (format : Format) (before : List Element) (r end : List Bool × ℕ) (es : List Element) (k : ℕ)
    → Goes (next format) before (take k r.0, r.1) es end → Goes (next format) before r es (end.0 ++ drop k r.0, end.1)

-- good elements of a macroblock that end within the limit are good elements of the picture
abbrev pub WithinTheLimit : Type 0
WithinTheLimit =
    (format : Format) (before : List Element) (r end : List Bool × ℕ) (es : List Element) (k : ℕ)
    → Leaves format before r.1 k → StandInside before es → Goes (next format) before r es end → end.1 ≤ r.1 + k
    → Goes (next_within_limit format) before r es end

-- where they end past it, one of them is too long; it is the one that is cut in a reading of the bits that the limit
-- leaves, and that reading gets to no place where an end can be
pub record TooLongAt (format : Format) (before : List Element) (r : List Bool × ℕ) (k : ℕ) : Type 0 where
  pub good : List Element
  pub mid : List Bool × ℕ
  pub walk : Goes (next_within_limit format) before r good mid
  pub too_long : next_within_limit format (after before good) mid ≡ Bad TooLong
  pub cut : List Bool × ℕ
  pub cut_walk : Goes (next format) before (take k r.0, r.1) good cut
  pub is_cut : next format (after before good) cut ≡ Bad Cut
  pub place : mid.1 ≡ cut.1
  pub no_end : (es : List Element) (end : List Bool × ℕ) → Goes (next format) before (take k r.0, r.1) es end → may_end (slot (after before es)) ≡ true → ⊥

abbrev pub PastTheLimit : Type 0
PastTheLimit =
    (format : Format) (before : List Element) (r end : List Bool × ℕ) (es : List Element) (k : ℕ)
    → Leaves format before r.1 k → StandInside before es → Goes (next format) before r es end → r.1 + k < end.1
    → TooLongAt format before r k

-- bits behind the first 65,600 or 262,208 change neither the record nor the first fault: an element that ends past the
-- limit begins before it, and has fewer than 64 bits
abbrev pub kept_length : Format → ℕ
kept_length format = limit format + 64

abbrev pub KeptLength : Type 0
KeptLength =
    (format : Format) (bits : List Bool)
    → ((pic : Picture) → Accepts format bits pic → Accepts format (take (kept_length format) bits) pic)
    × ((pic : Picture) → Accepts format (take (kept_length format) bits) pic → Accepts format bits pic)
    × ((place : ℕ) (why : Why) → FirstFault (next_within_limit format) bits place why → FirstFault (next_within_limit format) (take (kept_length format) bits) place why)
    × ((place : ℕ) (why : Why) → FirstFault (next_within_limit format) (take (kept_length format) bits) place why → FirstFault (next_within_limit format) bits place why)
