-- Directories of named octets: what an object that opens sources by name tells of itself.
use Rattle.std.specs.Prelude.{◌≡◌, ◌≢◌, ℕ, Option, None, Some, List, ◌∷◌, ◌++◌, All, ⊤, Result, MatchResult}
use Rattle.io_edge.specs.Outside.{Input}

-- a name and the octets behind it
pub record NamedOctets : Type 0 where
  pub name : List ℕ
  pub octets : List ℕ

-- the entries that an opener has left, where it tells them, and its count of faults
pub record Directory : Type 0 where
  pub names : Option (List NamedOctets)
  pub faults : ℕ

-- no entry has this name
abbrev pub HasNone : (name : List ℕ) → List NamedOctets → Type 0
HasNone name entries = All (λ (e : NamedOctets). e.name ≢ name) entries

-- these octets stand behind the first entry of this name, and the rest of the directory is without that entry
pub record TakesEntry (name : List ℕ) (entries rest : List NamedOctets) (octets : List ℕ) : Type 0 where
  pub before : List NamedOctets
  pub after : List NamedOctets
  pub is : entries ≡ before ++ record { name = name; octets = octets } ∷ after
  pub first : HasNone name before
  pub left : rest ≡ before ++ after

-- what a call made of a directory that is told: it gave a source that has the octets of the first entry of the name, and
-- that entry left the directory; or it failed, there is no such entry, and the directory stays
abbrev pub Reaches : {S E : Type 0} → (tells : S → Input) → (old new : Option (List NamedOctets)) → (name : List ℕ)
    → Result S E → Type 0
Reaches tells None new name result = ⊤
Reaches tells (Some entries) new name result =
    MatchResult result
    (λ source. (octets : List ℕ) × (rest : List NamedOctets) × TakesEntry name entries rest octets
    × ((tells source).left ≡ Some octets) × (new ≡ Some rest))
    (λ _. HasNone name entries × (new ≡ Some entries))
