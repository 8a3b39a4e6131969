-- Names that are opened one after the other: what an opener that tells its entries has for them.
use Rattle.std.specs.Prelude.{⊤, All, ◌≡◌, ℕ, List, [], ◌∷◌, ◌++◌, length, map, nat_lt, if◌then◌else◌, Option, Some, None}
use Rattle.command_words.specs.Options.{Text}
use Rattle.io_edge.specs.Causes.{Rose}
use Rattle.io_edge.specs.Directory.{NamedOctets, Directory, TakesEntry, HasNone}
use Rattle.io_edge.specs.Outside.{Input}
use Rattle.bridge_cli.specs.declared.status.Status.{Status}
use Rattle.bridge_cli.specs.declared.status.Status.TheVariants.{OpenFault, NoMemory}

-- each name takes the first entry of its name that is left then, and these octets stand behind them
abbrev pub TakeEntries : (names : List Text) → (house rest : List NamedOctets) → (octets : List (List ℕ)) → Type 0
TakeEntries [] house rest octets = (octets ≡ []) × (rest ≡ house)
TakeEntries (name ∷ names) house rest octets =
    (first : List ℕ) × (more : List (List ℕ)) × (next : List NamedOctets) × (octets ≡ first ∷ more)
    × TakesEntry name house next first × TakeEntries names next rest more

-- the sources of the names have the octets of their entries left
abbrev pub GivesAll : (names : List Text) → (opened : List Input) → (old new : Option (List NamedOctets)) → Type 0
GivesAll names opened None new = ⊤
GivesAll names opened (Some house) new =
    (octets : List (List ℕ)) × (rest : List NamedOctets) × TakeEntries names house rest octets
    × (map (λ (input : Input). input.left) opened ≡ map Some octets) × (new ≡ Some rest)

-- all names were reached, and this is what their sources tell; none of their calls had failed
pub record ReachesAll (names : List Text) (opened : List Input) (before after : Directory) : Type 0 where
  pub number : length opened ≡ length names
  pub gives : GivesAll names opened before.names after.names
  pub anew : All (λ (input : Input). input.faults ≡ 0) opened
  pub kept : after.faults ≡ before.faults

-- these names took their entries, and then no entry has this name
abbrev pub Misses : (reached : List Text) → (name : Text) → (old new : Option (List NamedOctets)) → Type 0
Misses reached name None new = ⊤
Misses reached name (Some house) new =
    (octets : List (List ℕ)) × (rest : List NamedOctets) × TakeEntries reached house rest octets
    × HasNone name rest × (new ≡ Some rest)

-- in a house of these entries, the first of the names that finds none stands at this place, counted from 0
pub record MissesAt (names : List Text) (house : List NamedOctets) (place : ℕ) : Type 0 where
  pub reached : List Text
  pub name : Text
  pub others : List Text
  pub is : names ≡ reached ++ name ∷ others
  pub place_is : length reached ≡ place
  pub octets : List (List ℕ)
  pub rest : List NamedOctets
  pub takes : TakeEntries reached house rest octets
  pub none : HasNone name rest

-- the name at this place could not be reached, and those before it were
pub record CannotOpen (names : List Text) (place : ℕ) (before after : Directory) : Type 0 where
  pub reached : List Text
  pub name : Text
  pub others : List Text
  pub is : names ≡ reached ++ name ∷ others
  pub place_is : length reached ≡ place
  pub misses : Misses reached name before.names after.names
  pub rose : Rose before.faults after.faults

-- the number by which a name is told of, where the names are those of so many lanes and then the chair's: a lane's own, or 16
abbrev pub number_of_name : (lanes place : ℕ) → ℕ
number_of_name lanes place = if nat_lt place lanes then place else 16

-- why names were not opened: one of them could not be; or there was not the memory, and none had failed
abbrev pub IsUnopened : (names : List Text) → (number : ℕ → ℕ) → (before after : Directory) → Status → Type 0
IsUnopened names number before after (OpenFault lane) =
    (place : ℕ) × (lane ≡ number place) × CannotOpen names place before after
IsUnopened names number before after NoMemory = after.faults ≡ before.faults
IsUnopened names number before after _ = ⊥
