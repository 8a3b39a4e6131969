-- A seat that waits comes to its turn, and steps the machine in its box.
use Rattle.std.proofs.Common.{◌≡◌, ℕ, ◌+◌, ◌≤◌, Bool, true, List, [], ◌∷◌, ◌++◌, sym, ap, ◌∙◌, subst, arith, Option, Some, Box, MatchBool, refl, unwrap_or}
use Rattle.std.specs.Global.{Global}
use Rattle.hall_lock.specs.declared.view.View.{View}
use Rattle.hall_lock.specs.Rule.{is_at}
use Rattle.hall_lock.specs.AtTable.{Sitting, IsWaiting, Waits, TakesBox, Arrives, HasBox, LeadsFrom, FitsFrom, turn_of, looking, turning}
use Rattle.hall_lock.proofs.Histories.{is_at-here, fits_there, led_on}

module _ {M C R S : Type 0} (shape : M → S) (fits : S → C → Type 0) (steps : M → C → R → M → Type 0) where
  -- who came to the turn has the box
  pub has_box : (me now : Sitting M C R) (n : ℕ) → Arrives shape fits steps me n now → HasBox shape fits steps now
  has_box me now n came = subst (HasBox shape fits steps) (sym came.after) (came.box, refl, came.leads)

  arrives_at : (me last : Sitting M C R) (n front looks : ℕ) (other : Type 0) → IsWaiting me n → me.0.looks ≤ looks → me.0.front ≤ n
      → MatchBool (is_at n me.0.ticket) (TakesBox shape fits steps (record me.0 { front = front; looks = looks }, me.1) n last) other → Arrives shape fits steps me n last
  arrives_at me last n front looks other waiting more ahead told =
      let mine : is_at n me.0.ticket ≡ true = ap (is_at n) waiting.drawn ∙ is_at-here n in
      let before : Sitting M C R = (record me.0 { front = front; looks = looks }, me.1) in
      let took : TakesBox shape fits steps before n last = subst (λ (b : Bool). MatchBool b (TakesBox shape fits steps before n last) other) mine told in
      let empty : me.1 ≡ [] = waiting.holds_nothing in record {
        log = took.log;
        box = took.box;
        looks = looks + 1;
        after = took.after ∙ ap (λ (cs : List (ℕ × Option (Box M Global))). let z : Sitting M C R = (turning before.0 n took.log, (0, Some took.box) ∷ cs) in z) empty;
        looked_more = omega arith;
        not_fallen = ahead;
        grows = took.grows;
        long = took.long;
        leads = took.leads;
      }

  pub arrives : (me now last : Sitting M C R) (k n : ℕ) → IsWaiting me k → Waits me now → n ≡ k → now.0.front ≤ n
      → MatchBool (is_at n now.0.ticket) (TakesBox shape fits steps now n last) (last ≡ (looking now.0 n, now.1)) → Arrives shape fits steps me k last
  arrives me now last k n waiting waits is ahead told =
      let P : ℕ → Sitting M C R → Type 0 = λ x z. z.0.front ≤ x → MatchBool (is_at x z.0.ticket) (TakesBox shape fits steps z x last) (last ≡ (looking z.0 x, z.1)) → Arrives shape fits steps me k last in
      let at_rest : P k (record me.0 { front = waits.front; looks = waits.looks }, me.1) = λ far t. arrives_at me last k waits.front waits.looks _ waiting waits.not_fewer (omega (arith, far, waits.not_fallen)) t in
      subst (λ (q : ℕ × Sitting M C R). P q.0 q.1) (λ i. (sym is i, sym waits.after i)) at_rest ahead told

box_or : {B : Type 0} → B → List (ℕ × Option B) → B
box_or d [] = d
box_or d (x ∷ xs) = unwrap_or x.1 d

-- the slot's box is one
same_box : {B : Type 0} (held : List (ℕ × Option B)) (a b : B) → held ≡ (0, Some a) ∷ [] → held ≡ (0, Some b) ∷ [] → a ≡ b
unfolding box_or
same_box held a b p q = ap (box_or a) (sym p ∙ q)

module _ {M C R S : Type 0} (shape : M → S) (fits : S → C → Type 0) (steps : M → C → R → M → Type 0) (law : (m : M) (c : C) (r : R) (n : M) → steps m c r n → shape n ≡ shape m) where
  -- the machine in the box that was taken out may be asked the call
  pub fits_in_box : (me : Sitting M C R) (b : Box M Global) (c : C) → HasBox shape fits steps me → me.1 ≡ (0, Some b) ∷ [] → FitsFrom shape fits steps me.0.opening c → fits (shape b.value) c
  fits_in_box me b c has taken asked = subst (λ (x : Box M Global). fits (shape x.value) c) (same_box me.1 has.0 b has.1 taken) (fits_there shape fits steps law me.0.opening me.0.seen has.0.value c has.2 asked)

  -- and after its step the history with this turn leads to it
  pub led_in_box : (me : Sitting M C R) (b : Box M Global) (c : C) (r : R) (k : M) → HasBox shape fits steps me → me.1 ≡ (0, Some b) ∷ [] → FitsFrom shape fits steps me.0.opening c → steps b.value c r k
      → LeadsFrom shape fits steps me.0.opening (me.0.seen ++ turn_of c r ∷ []) k
  led_in_box me b c r k has taken asked stepped =
      led_on shape fits steps law me.0.opening me.0.seen has.0.value k c r has.2 asked (subst (λ (x : Box M Global). steps x.value c r k) (sym (same_box me.1 has.0 b has.1 taken)) stepped)

  -- what the box is put home with, where nothing but the slot has changed since
  pub put_in_box : (me mid now : Sitting M C R) (b : Box M Global) (c c' : C) (r : R) (slot : List (ℕ × Option (Box M Global))) → mid ≡ (me.0, slot) → now ≡ (mid.0, (0, Some b) ∷ []) → c' ≡ c
      → LeadsFrom shape fits steps me.0.opening (me.0.seen ++ turn_of c r ∷ []) b.value
      → (x : Box M Global) × (now.1 ≡ (0, Some x) ∷ []) × LeadsFrom shape fits steps now.0.opening (now.0.seen ++ turn_of c' r ∷ []) x.value
  put_in_box me mid now b c c' r slot out put asked led =
      let view : now.0 ≡ me.0 = ap (λ (z : Sitting M C R). z.0) put ∙ ap (λ (z : Sitting M C R). z.0) out in
      (b, ap (λ (z : Sitting M C R). z.1) put, subst (λ (q : View M C R × C). LeadsFrom shape fits steps q.0.opening (q.0.seen ++ turn_of q.1 r ∷ []) b.value) (λ i. (sym view i, sym asked i)) led)
