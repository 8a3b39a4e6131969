-- A conference file: a header, then whole entries one behind the other, and what ends them.
use Rattle.std.specs.Prelude.{◌≡◌, ◌≢◌, ◌⊎◌, ℕ, ◌+◌, ◌-◌, ◌<◌, ◌≤◌, List, [], ◌∷◌, ◌++◌, length, take, Option, Some, Result, Ok, Err}
use Rattle.std.specs.List.{AllZip, AllByRecursion, concat}
use Rattle.io_edge.specs.Outside.{Input}
use Rattle.io_edge.specs.Allowance.{AllowanceState}
use Rattle.conf_file.specs.declared.answers.EntryWhy.{EntryWhy}
use Rattle.conf_file.specs.declared.answers.EntryWhy.TheVariants.{Header}
use Rattle.conf_file.specs.declared.answers.EntryEnd.{EntryEnd}
use Rattle.conf_file.specs.declared.answers.EntryEnd.TheVariants.{Bad, Cut, Fault, Limit}
use Rattle.conf_file.specs.Header.{header_of, header_size, HasLanes, IsNoHeader}
use Rattle.conf_file.specs.Entries.{Content, Packet, Chair, Tick, End, SpellsEntry, IsWrong, IsPartEntry}
use Rattle.conf_file.specs.Reading.{ReaderState, CallsStart, ReadsEntry}

-- what ends the entries: the entry that is the end, octets that are none, or the end of the file
pub data Stop : Type 0 where
  Whole : Stop
  WrongAt : ℕ → EntryWhy → Stop
  CutAt : ℕ → Stop

-- The octets begin with these whole entries, each behind the one before it, and these are left. So many octets of the
-- file stand before the first of them, and before what is left.
pub record BeginsWith (lanes first : ℕ) (octets : List ℕ) (list : List Content) (at : ℕ) (left : List ℕ)
    : Type 0 where
  pub entries : List (List ℕ)
  pub cut : octets ≡ concat entries ++ left
  pub spelled : AllZip (SpellsEntry lanes) list entries
  pub counted : at ≡ first + length (concat entries)

-- an entry that is not the end
abbrev pub IsNotEnd : Content → Type 0
IsNotEnd content = content ≢ End

-- how the file ends behind these whole entries, where so many of its octets stand before what is left
abbrev pub Stops : ℕ → Stop → List Content → ℕ → List ℕ → Type 0
-- the last entry is the end, and what is left is not read
Stops lanes Whole list at left = (before : List Content) × (list ≡ before ++ End ∷ [])
    × AllByRecursion IsNotEnd before
-- no entry begins there
Stops lanes (WrongAt place why) list at left = AllByRecursion IsNotEnd list × (place ≡ at)
    × ((rest : List ℕ) × IsWrong lanes why left rest)
-- the file ends before an entry does
Stops lanes (CutAt place) list at left = AllByRecursion IsNotEnd list × (place ≡ at + length left)
    × IsPartEntry lanes left

-- the octets behind so many others are cut into these entries and end so
pub record Entries (lanes first : ℕ) (octets : List ℕ) (list : List Content) (stop : Stop) : Type 0
  where
    pub at : ℕ
    pub left : List ℕ
    pub begins : BeginsWith lanes first octets list at left
    pub stops : Stops lanes stop list at left

-- what a file says: the number of lanes, the entries and what ends them; or that it has no header
pub data Said : Type 0 where
  Conference : ℕ → List Content → Stop → Said
  WrongHeader : Said
  CutHeader : ℕ → Said

abbrev pub IsFile : List ℕ → Said → Type 0
IsFile file (Conference lanes list stop) =
    (octets : List ℕ) × (file ≡ header_of lanes ++ octets) × HasLanes lanes
    × Entries lanes header_size octets list stop
IsFile file WrongHeader = (header_size ≤ length file) × IsNoHeader (take header_size file)
IsFile file (CutHeader place) = (place ≡ length file) × (length file < header_size)

-- a file says one thing at most
abbrev pub LawOfOneReading : Type 0
LawOfOneReading = (file : List ℕ) (x y : Said) → IsFile file x → IsFile file y → x ≡ y

-- A reader has read the header and these entries of the file, none of which is the end; so many octets are taken, and
-- these are left.
pub record HasRead (file : List ℕ) (lanes : ℕ) (list : List Content) (taken : ℕ) (left : List ℕ) :
    Type 0 where
  pub octets : List ℕ
  pub header : file ≡ header_of lanes ++ octets
  pub lanes_fit : HasLanes lanes
  pub begins : BeginsWith lanes header_size octets list taken left
  pub going_on : AllByRecursion IsNotEnd list

-- the file where the call for the header gave this
abbrev pub AfterStart : List ℕ → Option (List ℕ) → AllowanceState → Result ℕ EntryEnd → Type 0
AfterStart file rest new (Ok lanes) =
    (left : List ℕ) × (rest ≡ Some left) × HasRead file lanes [] new.taken left
AfterStart file rest new (Err (Bad place why)) = (place ≡ 0) × (why ≡ Header) × IsFile file WrongHeader
AfterStart file rest new (Err (Cut place)) = IsFile file (CutHeader place)
-- what was taken is less than a header
AfterStart file rest new (Err Limit) =
    (new.taken ≡ new.budget) × IsFile (take new.taken file) (CutHeader new.taken)
AfterStart file rest new (Err Fault) = IsFile (take new.taken file) (CutHeader new.taken)

-- the file where a call for the next entry behind these gave this
abbrev pub AfterNext : List ℕ → ℕ → List Content → Option (List ℕ) → AllowanceState → Result Content EntryEnd → Type 0
AfterNext file lanes list rest new (Ok End) = IsFile file (Conference lanes (list ++ End ∷ []) Whole)
AfterNext file lanes list rest new (Ok (Packet lane packet)) =
    (left : List ℕ) × (rest ≡ Some left) × HasRead file lanes (list ++ Packet lane packet ∷ []) new.taken left
AfterNext file lanes list rest new (Ok (Chair command)) =
    (left : List ℕ) × (rest ≡ Some left) × HasRead file lanes (list ++ Chair command ∷ []) new.taken left
AfterNext file lanes list rest new (Ok (Tick step)) =
    (left : List ℕ) × (rest ≡ Some left) × HasRead file lanes (list ++ Tick step ∷ []) new.taken left
AfterNext file lanes list rest new (Err (Bad place why)) = IsFile file (Conference lanes list (WrongAt place why))
AfterNext file lanes list rest new (Err (Cut place)) = IsFile file (Conference lanes list (CutAt place))
-- what was taken, as a file of its own, is cut there
AfterNext file lanes list rest new (Err Limit) =
    (new.taken ≡ new.budget) × IsFile (take new.taken file) (Conference lanes list (CutAt new.taken))
AfterNext file lanes list rest new (Err Fault) = IsFile (take new.taken file) (Conference lanes list (CutAt new.taken))

-- Where the source tells its octets, a reader gives what they say as a file, entry by entry.
pub record LawOfReading : Type 0 where
  pub starts :
      (file : List ℕ) (before after : Input) (old new : ReaderState) (result : Result ℕ EntryEnd)
      → before.left ≡ Some file → old.allowance.taken ≡ 0 → CallsStart before after old new result
      → AfterStart file after.left new.allowance result
  pub goes_on :
      (file : List ℕ) (lanes : ℕ) (list : List Content) (left : List ℕ) (before after : Input) (old new : ReaderState)
      (result : Result Content EntryEnd) → before.left ≡ Some left
      → HasRead file lanes list old.allowance.taken left → ReadsEntry lanes before after old new result
      → AfterNext file lanes list after.left new.allowance result
  -- whatever the source tells, an entry takes octets
  pub moves :
      (lanes : ℕ) (before after : Input) (old new : ReaderState) (content : Content)
      → ReadsEntry lanes before after old new (Ok content) → old.allowance.taken < new.allowance.taken

-- what the next call answers that meets no fault of its source, where these octets are left and this is the allowance
abbrev pub IsNextAnswer : ℕ → List ℕ → AllowanceState → Result Content EntryEnd → Type 0
-- an entry that the budget lets be taken whole
IsNextAnswer lanes left a (Ok content) =
    (entry : List ℕ) × (rest : List ℕ) × (left ≡ entry ++ rest) × SpellsEntry lanes content entry
    × (a.taken + length entry ≤ a.budget)
-- octets within the budget with which no entry begins
IsNextAnswer lanes left a (Err (Bad place why)) =
    (place ≡ a.taken) × ((rest : List ℕ) × IsWrong lanes why (take (a.budget - a.taken) left) rest)
-- the end of the octets before an entry and before the budget
IsNextAnswer lanes left a (Err (Cut place)) =
    (place ≡ a.taken + length left) × (a.taken + length left < a.budget) × IsPartEntry lanes left
-- less than an entry within the budget, where the octets do not end before it
IsNextAnswer lanes left a (Err Limit) =
    (a.budget ≤ a.taken + length left) × IsPartEntry lanes (take (a.budget - a.taken) left)
IsNextAnswer lanes left a (Err Fault) = ⊥

-- Where the source tells its octets, they and the budget fix what a call answers, unless the source fails.
pub record LawOfNextAnswers : Type 0 where
  pub told :
      (lanes : ℕ) (left : List ℕ) (before after : Input) (old new : ReaderState) (result : Result Content EntryEnd)
      → before.left ≡ Some left → ReadsEntry lanes before after old new result
      → (result ≡ Err Fault) ⊎ IsNextAnswer lanes left old.allowance result
  pub one_answer :
      (lanes : ℕ) (left : List ℕ) (a : AllowanceState) (x y : Result Content EntryEnd)
      → IsNextAnswer lanes left a x → IsNextAnswer lanes left a y → x ≡ y

-- the octets decide what the file says, whatever follows them
abbrev pub IsDecided : Said → Type 0
IsDecided (Conference lanes list Whole) = Unit {0}
IsDecided (Conference lanes list (WrongAt place why)) = Unit {0}
IsDecided (Conference lanes list (CutAt place)) = ⊥
IsDecided WrongHeader = Unit {0}
IsDecided (CutHeader place) = ⊥

-- what the front of a file decides, the file says
abbrev pub LawOfFileFronts : Type 0
LawOfFileFronts = (front more : List ℕ) (said : Said) → IsDecided said → IsFile front said
    → IsFile (front ++ more) said
