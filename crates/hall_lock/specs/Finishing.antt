-- A machine that one call ends: until then, and while it has room, no call is answered that it has ended.
use Rattle.std.specs.Prelude.{⊤, ◌≡◌, ◌⊎◌, ℕ, ◌+◌, ◌≤◌, Bool, true, false, List, [], ◌∷◌, MatchBool}
use Rattle.hall_lock.specs.declared.view.Turn.{Turn}

module _ {C R : Type 0} (is_finish : C → Bool) where
  -- no turn stands behind one that finishes
  abbrev pub FinishLast : List (Turn C R) → Type 0
  FinishLast [] = ⊤
  FinishLast (t ∷ ts) = MatchBool (is_finish t.call) (ts ≡ []) (FinishLast ts)

module _ {M C R : Type 0} (steps : M → C → R → M → Type 0) where
  -- `room` is how many calls the machine answers otherwise before it stands at its limit
  pub record EndsByFinish (is_over : M → Bool) (room : M → ℕ) (is_finish : C → Bool) (is_ended : R → Bool) : Type 0 where
    -- a reply says that the machine has ended only where it had, or stood at its limit
    pub ended :
        (m : M) (c : C) (r : R) (n : M) → steps m c r n → is_ended r ≡ true →
        (is_over m ≡ true) ⊎ (room m ≡ 0)
    -- only the call that finishes ends it
    pub goes_on :
        (m : M) (c : C) (r : R) (n : M) → steps m c r n → is_finish c ≡ false → is_over m ≡ false →
        is_over n ≡ false
    -- a call takes room for one
    pub takes_one : (m : M) (c : C) (r : R) (n : M) → steps m c r n → room m ≤ room n + 1
