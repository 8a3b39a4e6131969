-- Steps that change one view, in what no sum counts.
use Rattle.std.proofs.Common.{◌≡◌, ◌≢◌, ℕ, ◌≤◌, Bool, true, false, cond, List, ◌++◌, length, get_or, set, sym, ap, refl, ◌∙◌, subst, ⊎_elim, arith, lt_of_not-le, Option, Box, MatchBool, eq-eqb, ne_eqb}
use Rattle.std.specs.Global.{Global}
use mathlib.Core.Logic.{dite}
use mathlib.Core.Option.{none, some}
use native.Mathlib.Decide.{ℕ_discrete, dec_le}
use lib.ListN.{get_elem?}
use lib.Seq.{set-get_or}
use Rattle.atomic_table.specs.Table.{State, step, keeps, Allows}
use Rattle.atomic_table.proofs.Lists.{at_set}
use Rattle.hall_lock.specs.declared.view.Turn.{Turn}
use Rattle.hall_lock.specs.declared.view.View.{View}
use Rattle.hall_lock.specs.Places.{AtMostOnce, times}
use Rattle.hall_lock.specs.Rule.{IsKept, IsSeated, Slot, spent_view, share_of, has_ticket, has_place, has_turn, is_at}
use Rattle.hall_lock.specs.AtTable.{Sitting, saw_tickets, recalled}
use Rattle.hall_lock.proofs.Sums.{sum_by-kept, at_least}
use Rattle.hall_lock.proofs.Histories.{one_below-le, one_below-yes}

module _ {M C R : Type 0} (m : M) (most : ℕ) where
  -- the seats, after one view changed
  pub seats_after : (vs : List (View M C R)) (i : ℕ) (w : View M C R) (t k : ℕ) (log : List (Turn C R)) → (w.spent ≡ false → IsSeated m most t k log w)
      → ((j : ℕ) (v : View M C R) → j ≢ i → get_elem? vs j ≡ some v → v.spent ≡ false → IsSeated m most t k log v)
      → (j : ℕ) (v : View M C R) → get_elem? (set vs i w) j ≡ some v → v.spent ≡ false → IsSeated m most t k log v
  seats_after vs i w t k log own others j v at live = ⊎_elim (λ (here : (j ≡ i) × (w ≡ v)). subst (λ (u : View M C R). u.spent ≡ false → IsSeated m most t k log u) here.1 own live)
      (λ (there : (j ≢ i) × (get_elem? vs j ≡ some v)). others j v there.0 there.1 live) (at_set vs i j w v at)

pub gone_after : {M C R : Type 0} (vs : List (View M C R)) (i : ℕ) (w : View M C R) → (w.spent ≡ true → w ≡ spent_view) → ((j : ℕ) (v : View M C R) → get_elem? vs j ≡ some v → v.spent ≡ true → v ≡ spent_view)
    → (j : ℕ) (v : View M C R) → get_elem? (set vs i w) j ≡ some v → v.spent ≡ true → v ≡ spent_view
gone_after {M} {C} {R} vs i w own all j v at gone = ⊎_elim (λ (here : (j ≡ i) × (w ≡ v)). subst (λ (u : View M C R). u.spent ≡ true → u ≡ spent_view) here.1 own gone)
    (λ (there : (j ≢ i) × (get_elem? vs j ≡ some v)). all j v there.1 gone) (at_set vs i j w v at)

-- a live view is no spent one
pub not_gone : {M C R : Type 0} (w : View M C R) → w.spent ≡ false → w.spent ≡ true → w ≡ spent_view
not_gone w live gone = absurd (cc (live, gone))

module _ {M C R S : Type 0} (shape : M → S) (fits : S → C → Type 0) (steps : M → C → R → M → Type 0) (m : M) (most : ℕ) where
  abbrev St : Type 0
  St = State (Option (Box M Global)) (View M C R)

  abbrev Rule : St → Type 0
  Rule = IsKept shape fits steps m most

  -- the word x keeps its number, and one view changes in what no sum counts
  pub quiet : (s : St) (r : Rule s) (x i : ℕ) (v w : View M C R) → get_elem? s.views i ≡ some v → w.spent ≡ false
      → w.share ≡ v.share → w.ticket ≡ v.ticket → w.at_turn ≡ v.at_turn → w.mine ≡ v.mine → w.past ≡ v.past
      → IsSeated m most r.tickets r.turn r.log w → Rule record { words = set s.words x (get_or s.words x 0); homes = s.homes; views = set s.views i w }
  quiet s r x i v w at live share ticket turn mine past seated = record {
    tickets = r.tickets;
    turn = r.turn;
    log = r.log;
    words = set-get_or s.words x 0 ∙ r.words;
    drawn = r.drawn;
    bounded = r.bounded;
    queue = λ y. sum_by-kept (has_ticket y) s.views i v w at (ap (λ (t : Option ℕ). cond (is_at y t) 1 0) ticket) ∙ r.queue y;
    long = r.long;
    slot = subst (λ (n : ℕ). Slot shape fits steps m most r.log s.homes n) (sym (sum_by-kept has_turn s.views i v w at (ap (λ (b : Bool). cond b 1 0) turn))) r.slot;
    places = λ y. sum_by-kept (has_place y) s.views i v w at (λ k. times y (mine k ++ past k)) ∙ r.places y;
    shares = sum_by-kept share_of s.views i v w at share ∙ r.shares;
    seats = seats_after m most s.views i w r.tickets r.turn r.log (λ _. seated) (λ j u _ there alive. r.seats j u there alive);
    gone = gone_after s.views i w (not_gone w live) r.gone;
  }

  -- the places of one view are below the length of what it has seen, each once
  pub own_places : (s : St) (r : Rule s) (i : ℕ) (v : View M C R) → get_elem? s.views i ≡ some v → v.spent ≡ false → AtMostOnce (length v.seen) (v.mine ++ v.past)
  own_places s r i v at live y =
      let it = r.seats i v at live in
      let here : has_place y v ≤ 1 = omega (arith, at_least (has_place y) s.views i v at, r.places y, one_below-le r.turn y) in
      dite (dec_le (length v.seen) y) (λ past. omega (arith, it.places y past)) (λ below. omega (arith, here, one_below-yes (length v.seen) y (lt_of_not-le below)))

  pub sees_tickets : (slots id : ℕ) (me : Sitting M C R) → me.0.spent ≡ false → Allows Rule slots id me 0 (λ n. n) (saw_tickets (step slots 0 0 0 none) me)
  sees_tickets slots id me live s r sized at small =
      let v = me.0 in
      let n = get_or s.words 0 0 in
      let read : n ≡ r.tickets = ap (λ (ws : List ℕ). get_or ws 0 0) r.words in
      let it = r.seats id me.0 at live in
      let bound : n ≤ v.turns = omega (arith, r.bounded, it.limited) in
      dite (ℕ_discrete n v.turns)
      (λ e. let w : View M C R = record v { full = true } in
      let seated : IsSeated m most r.tickets r.turn r.log w = record {
        opened = it.opened;
        limited = it.limited;
        part = it.part;
        knows = it.knows;
        heard = it.heard;
        behind = it.behind;
        places = it.places;
        holds_turn = it.holds_turn;
        sold_out = λ _. omega (arith, it.limited);
      } in
      let after : Sitting M C R = (w, me.1) in (
        w,
        keeps,
        tt,
        quiet s r 0 id v w at live refl refl refl refl refl seated,
        (bound, subst (λ (b : Bool). MatchBool b (after ≡ after) (after ≡ me)) (sym (eq-eqb n v.turns e)) refl),
      ))
      (λ ne. let after : Sitting M C R = (record v { full = true }, me.1) in (
        v,
        keeps,
        tt,
        quiet s r 0 id v v at live refl refl refl refl refl it,
        (bound, subst (λ (b : Bool). MatchBool b (me ≡ after) (me ≡ me)) (sym (ne_eqb n v.turns ne)) refl),
      ))

  pub recalls : (slots id : ℕ) (me : Sitting M C R) → me.0.spent ≡ false → Allows Rule slots id me 0 (λ n. n) (recalled (step slots 0 0 0 none) me)
  recalls slots id me live s r sized at small =
      let it = r.seats id me.0 at live in
      (me.0, keeps, tt, quiet s r 0 id me.0 me.0 at live refl refl refl refl refl it, (refl, it.heard, own_places s r id me.0 at live))
