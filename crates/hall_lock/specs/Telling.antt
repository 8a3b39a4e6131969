-- What turns tell: items by a relation, steps of a history that stands newest first, and an output with a state.
use Rattle.std.specs.Prelude.{◌≡◌, List, [], ◌∷◌, ◌++◌}

module _ {T X : Type 0} (tells : T → List X → Type 0) where
  -- the turns tell these items: each tells a part of them, and the parts follow each other as the turns do
  abbrev pub Tells : List T → List X → Type 0
  Tells [] items = items ≡ []
  Tells (t ∷ ts) items =
      (part : List X) × (rest : List X) × tells t part × Tells ts rest × (items ≡ part ++ rest)

  -- the turns lead from one history to another, each by the part that it tells; a later part stands before an earlier one
  abbrev pub StepsFrom : List X → List T → List X → Type 0
  StepsFrom old [] new = new ≡ old
  StepsFrom old (t ∷ ts) new = (part : List X) × tells t part × StepsFrom (part ++ old) ts new

  -- the same, of what is picked out of the part
  abbrev pub TellsPicked : {Y : Type 0} → (List X → List Y) → T → List Y → Type 0
  TellsPicked {Y} picked t items = (part : List X) × tells t part × (items ≡ picked part)

module _ {A T X : Type 0} (next : A → T → A) (piece : A → T → List X) where
  -- the output of turns from a state on: each turn's piece, which depends on the state that the turns before it leave
  abbrev pub pieces : A → List T → List X
  pieces a [] = []
  pieces a (t ∷ ts) = piece a t ++ pieces (next a t) ts
