-- The history of a machine: a list of turns, each a call with its reply.
use Rattle.std.specs.Prelude.{◌≡◌, List, [], ◌∷◌, All}
use Rattle.hall_lock.specs.declared.view.Turn.{Turn}

module _ {M C R : Type 0} (steps : M → C → R → M → Type 0) where
  -- the machine's own steps go from m to n, turn by turn through the list
  abbrev pub Goes : M → List (Turn C R) → M → Type 0
  Goes m [] n = m ≡ n
  Goes m (t ∷ ts) n = (k : M) × steps m t.call t.reply k × Goes k ts n

module _ {M C R S : Type 0} (shape : M → S) (fits : S → C → Type 0) (steps : M → C → R → M → Type 0) where
  -- the same, where each call fits the shape of m
  pub record Leads (m : M) (turns : List (Turn C R)) (n : M) : Type 0 where
    pub calls_fit : All (λ t. fits (shape m) t.call) turns
    pub goes : Goes steps m turns n
