-- The lock as it is made, and as it is closed by the seat that has every share.
use Rattle.std.proofs.Common.{◌≡◌, ◌≢◌, ℕ, ◌≤◌, ◌^◌, Bool, true, false, cond, List, [], ◌∷◌, ◌++◌, length, sum_by, sym, ap, refl, ◌∙◌, subst, ⊎_elim, inr, arith, lt_of_not-le, Option, Some, None, Box, unwrap_or, is_some}
use Rattle.std.specs.Global.{Global}
use Rattle.std.proofs.lemmas.Bool.Decides.{nat_tests}
use mathlib.Core.Bool.{true≢false}
use mathlib.Core.Logic.{dite}
use mathlib.Core.Option.{none, some}
use mathlib.Core.Option as maybe
use native.Mathlib.Decide.{dec_le}
use lib.ListN.{get_elem?}
use Rattle.atomic_table.specs.Table.{State, opening, Final, Seen}
use Rattle.atomic_table.proofs.Lists.{at_snoc}
use Rattle.hall_lock.specs.declared.view.Turn.{Turn}
use Rattle.hall_lock.specs.declared.view.View.{View}
use Rattle.hall_lock.specs.Turns.{Leads}
use Rattle.atomic_table.specs.Seated.{TableId}
use Rattle.hall_lock.specs.Places.{one_below, EachOnce}
use Rattle.hall_lock.specs.Seats.{Lock, SeatState, IsOf}
use Rattle.hall_lock.specs.Closing.{Closes}
use Rattle.hall_lock.specs.Rule.{IsKept, IsSeated, Slot, spent_view, share_of, has_ticket, has_place, has_turn, is_at, waits}
use Rattle.hall_lock.specs.AtTable.{first_view, IsClosing, shown}
use Rattle.hall_lock.proofs.Sums.{two_at_least, one_counts}
use Rattle.hall_lock.proofs.Histories.{prefix_whole, one_below-yes}

abbrev one_if : Bool → ℕ
one_if b = cond b 1 0

no_waits : (x : ℕ) → 0 ≡ waits 0 0 x
no_waits x = grind (arith, nat_tests)

none_below : (x : ℕ) → 0 ≡ one_below 0 x
none_below x = grind (arith, nat_tests)

waits_first : (turn tickets : ℕ) → waits turn tickets turn ≡ 0 → tickets ≤ turn
waits_first turn tickets e = grind (arith, nat_tests)

module _ {M C R S : Type 0} (shape : M → S) (fits : S → C → Type 0) (steps : M → C → R → M → Type 0) (m : M) (most : ℕ) where
  abbrev St : Type 0
  St = State (Option (Box M Global)) (View M C R)

  abbrev Rule : St → Type 0
  Rule = IsKept shape fits steps m most

  only_one : {A : Type 0} (j : ℕ) (u v : A) → get_elem? (v ∷ []) j ≡ some u → v ≡ u
  only_one j u v at = ⊎_elim (λ (old : get_elem? [] j ≡ some u). absurd (maybe.some-ne-none u (sym old))) (λ (new : v ≡ u). new) (at_snoc [] v u j at)

  pub opens : (b : Box M Global) → b.value ≡ m → Rule (opening (0 ∷ 0 ∷ []) (Some b ∷ []) (first_view m most))
  opens b is = record {
    tickets = 0;
    turn = 0;
    log = [];
    words = refl;
    drawn = omega arith;
    bounded = omega arith;
    queue = no_waits;
    long = refl;
    slot = inr (b, refl, refl, record { calls_fit = λ k d past. absurd (omega arith); goes = sym is });
    places = none_below;
    shares = refl;
    seats = λ j u at live. subst (IsSeated m most 0 0 []) (only_one j u (first_view m most) at) record {
      opened = refl;
      limited = refl;
      part = omega arith;
      knows = ([], refl);
      heard = ([], refl);
      behind = omega arith;
      places = λ y _. refl;
      holds_turn = λ e. absurd cc;
      sold_out = λ e. absurd cc;
    };
    gone = λ j u at spent. absurd (cc (ap (λ (x : View M C R). x.spent) (only_one j u (first_view m most) at), spent));
  }

  -- the others are spent, where one seat has every share
  others_spent : (s : St) (r : Rule s) (i : ℕ) (v : View M C R) → get_elem? s.views i ≡ some v → v.share ≡ 2 ^ 32 → (j : ℕ) (w : View M C R) → j ≢ i → get_elem? s.views j ≡ some w → w ≡ spent_view
  others_spent s r i v at whole j w apart there = by w.spent refl
    where
      by : (b : Bool) → w.spent ≡ b → w ≡ spent_view
      by true e = r.gone j w there e
      by false e = absurd (omega (arith, two_at_least share_of s.views i j v w apart at there, r.shares, (r.seats j w there e).part))

  alone : (s : St) (r : Rule s) (i : ℕ) (v : View M C R) → get_elem? s.views i ≡ some v → v.share ≡ 2 ^ 32 → (f : View M C R → ℕ) → f spent_view ≡ 0 → sum_by f s.views ≡ f v
  alone s r i v at whole f zero_there = one_counts f s.views i v at (λ j w apart there. ap f (others_spent s r i v at whole j w apart there) ∙ zero_there)

  closes_state : (s : St) (r : Rule s) (ws : List ℕ) (xs : List (Option (Box M Global))) (i : ℕ) (v : View M C R) → get_elem? s.views i ≡ some v → v.spent ≡ false → v.ticket ≡ None → v.at_turn ≡ false → v.share ≡ 2 ^ 32
      → s.words ≡ ws → ((k : ℕ) (y : Option (Box M Global)) → get_elem? s.homes k ≡ some (some y) → get_elem? xs k ≡ some y) → IsClosing shape fits steps ws xs v
  closes_state s r ws xs i v at live free waits_not whole same_words same_slots =
      let it = r.seats i v at live in
      let sum : (f : View M C R → ℕ) → f spent_view ≡ 0 → sum_by f s.views ≡ f v = alone s r i v at whole in
      let no_ticket : has_ticket r.turn v ≡ 0 = ap (λ (o : Option ℕ). one_if (is_at r.turn o)) free in
      let all_passed : r.tickets ≤ r.turn = waits_first r.turn r.tickets (sym (r.queue r.turn) ∙ (sum (has_ticket r.turn) refl ∙ no_ticket)) in
      let none_there : sum_by has_turn s.views ≡ 0 = sum has_turn refl ∙ ap one_if waits_not in
      let placed : (y : ℕ) → has_place y v ≡ one_below r.turn y = λ y. sym (sum (has_place y) refl) ∙ r.places y in
      let seen_all : r.turn ≤ length v.seen = dite (dec_le r.turn (length v.seen)) (λ h. h)
      (λ short. absurd (omega (arith, placed (length v.seen), it.places (length v.seen) (omega arith), one_below-yes r.turn (length v.seen) (lt_of_not-le short)))) in
      let whole_log : v.seen ≡ r.log = prefix_whole v.seen r.log it.knows (omega (arith, r.long)) in
      let long : length v.seen ≡ r.turn = ap (λ (ts : List (Turn C R)). length ts) whole_log ∙ r.long in
      let home = box_there r.log s.homes (sum_by has_turn s.views) r.slot none_there in record {
        box = home.0;
        word = ap (λ (z : List ℕ). get_elem? z 1) (sym same_words ∙ r.words) ∙ ap some (sym long);
        slot = same_slots 0 (Some home.0) (ap (λ (hs : List (maybe.Option (Option (Box M Global)))). get_elem? hs 0) home.1);
        leads = (m, it.opened, subst (λ (ts : List (Turn C R)). Leads shape fits steps m ts home.0.value) (sym whole_log) home.2);
        places = λ y. placed y ∙ ap (λ (n : ℕ). one_below n y) (sym long);
        front = omega (arith, it.behind, long);
        full = λ e. omega (arith, it.sold_out e, r.drawn, all_passed, it.limited, long);
        within = omega (arith, long, r.drawn, r.bounded, it.limited);
      }
    where
      box_there : (log : List (Turn C R)) (homes : List (maybe.Option (Option (Box M Global)))) (n : ℕ) → Slot shape fits steps m most log homes n → n ≡ 0 → (b : Box M Global) × (homes ≡ some (Some b) ∷ []) × Leads shape fits steps m log b.value
      box_there log homes n slot zero_there = ⊎_elim (λ (out : (homes ≡ none ∷ []) × (n ≡ 1)). absurd (omega (arith, out.1)))
          (λ (home : (b : Box M Global) × (homes ≡ some (Some b) ∷ []) × (n ≡ 0) × Leads shape fits steps m log b.value). (home.0, home.1, home.3)) slot

  pub closes : (ws : List ℕ) (xs : List (Option (Box M Global))) (i : ℕ) (v : View M C R) → v.spent ≡ false → v.ticket ≡ None → v.at_turn ≡ false → v.share ≡ 2 ^ 32
      → Final (Seen Rule i v) ws xs → IsClosing shape fits steps ws xs v
  closes ws xs i v live free waits_not whole f = closes_state f.0 f.1.0 ws xs i v f.1.1 live free waits_not whole f.2 f.4

module _ {B : Type 0} where
  -- what a slot had is what was taken out of it
  taken : (o : maybe.Option (Option B)) (x : Option B) (b : B) → o ≡ some x → o ≡ some (Some b) → x ≡ Some b
  taken o x b p q = maybe.some-injective x (Some b) (sym p ∙ q)

  pub not_empty : (o : maybe.Option (Option B)) (x : Option B) (b : B) → o ≡ some x → o ≡ some (Some b) → x ≡ None → ⊥
  not_empty o x b p q e = true≢false (sym (ap is_some (sym e ∙ taken o x b p q)))

  pub same_taken : (o : maybe.Option (Option B)) (x : Option B) (a b : B) → o ≡ some x → x ≡ Some a → o ≡ some (Some b) → b ≡ a
  same_taken o x a b p e q = sym (ap (λ (z : Option B). unwrap_or z a) (sym e ∙ taken o x b p q))

pub same_number : (o : maybe.Option ℕ) (x y : ℕ) → o ≡ some x → o ≡ some y → x ≡ y
same_number o x y p q = maybe.some-injective x y (sym p ∙ q)

-- what a seat knows of the lock that it closes
module _ {M C R S : Type 0} (shape : M → S) (fits : S → C → Type 0) (steps : M → C → R → M → Type 0) where
  closed_view :
      (z : TableId) (lock : Lock M) (words : List ℕ) (slots : List (Option (Box M Global))) (v : View M C R) (n : ℕ) (x : Option (Box M Global)) (b : Box M Global) →
      IsOf lock (shown z v) → IsClosing shape fits steps words slots v → get_elem? words 1 ≡ some n → get_elem? slots 0 ≡ some x → x ≡ Some b →
      Closes shape fits steps lock (shown z v) b.value n
  closed_view z lock words slots v n x b of end word slot is =
      let count : n ≡ length v.seen = same_number _ _ _ word end.word in
      let box : end.box ≡ b = same_taken _ x b end.box slot is end.slot in
      let opened : end.leads.0 ≡ lock.opening = cc (end.leads.1, ap (λ (l : Lock (Option M)). l.opening) of) in
      let turns : v.turns ≡ lock.turns = ap (λ (l : Lock (Option M)). l.turns) of in
      record {
        history = subst (λ (m : M). Leads shape fits steps m v.seen b.value) opened
            (subst (λ (y : Box M Global). Leads shape fits steps end.leads.0 v.seen y.value) box end.leads.2);
        counted = count;
        reaches = subst (λ (k : ℕ). v.front ≤ k) (sym count) end.front;
        within = omega (arith, count, end.within, turns);
        places = subst (λ (k : ℕ). EachOnce k (v.mine ++ v.past)) (sym count) end.places;
        full = λ e. count ∙ (end.full e ∙ turns);
      }

  pub closed_so :
      (z : TableId) (lock : Lock M) (seat : SeatState M C R) (words : List ℕ) (slots : List (Option (Box M Global))) (v : View M C R) (n : ℕ) (x : Option (Box M Global)) (b : Box M Global) →
      shown z v ≡ seat → IsOf lock seat → IsClosing shape fits steps words slots v → get_elem? words 1 ≡ some n → get_elem? slots 0 ≡ some x → x ≡ Some b →
      Closes shape fits steps lock seat b.value n
  closed_so z lock seat words slots v n x b shows of end word slot is =
      subst (λ (s : SeatState M C R). Closes shape fits steps lock s b.value n) shows
      (closed_view z lock words slots v n x b (subst (λ (s : SeatState M C R). IsOf lock s) (sym shows) of) end word slot is)
