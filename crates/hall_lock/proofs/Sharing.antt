-- A share is split, and two are joined.
use Rattle.std.proofs.Common.{◌≡◌, ℕ, ◌+◌, ◌≤◌, ◌<◌, Bool, false, cond, leb, List, [], ◌∷◌, ◌++◌, length, set, sum_by, sym, ap, refl, ◌∙◌, subst, ⊎_elim, arith, Option, None, Box}
use Rattle.std.proofs.lemmas.Bool.{or_cases}
use Rattle.std.specs.Global.{Global}
use Rattle.std.proofs.lemmas.List.Sums.{sum_by_push}
use mathlib.Core.Option.{some}
use lib.ListN.{get_elem?}
use Rattle.atomic_table.specs.Table.{State, Splits, Joins}
use Rattle.atomic_table.proofs.Lists.{at_snoc, set_else}
use Rattle.hall_lock.specs.declared.view.View.{View}
use Rattle.hall_lock.specs.Rule.{IsKept, IsSeated, Slot, spent_view, share_of, has_ticket, has_place, has_turn, is_at}
use Rattle.hall_lock.specs.AtTable.{cut_left, cut_right, glued}
use Rattle.hall_lock.proofs.Sums.{sum_by-put}
use Rattle.hall_lock.proofs.Histories.{of_two, longest, times-append}
use Rattle.hall_lock.proofs.Kept.{seats_after, gone_after, not_gone}

abbrev one_if : Bool → ℕ
one_if b = cond b 1 0

module _ {M C R S : Type 0} (shape : M → S) (fits : S → C → Type 0) (steps : M → C → R → M → Type 0) (m : M) (most : ℕ) where
  abbrev St : Type 0
  St = State (Option (Box M Global)) (View M C R)

  abbrev Rule : St → Type 0
  Rule = IsKept shape fits steps m most

  pub cuts : (id part : ℕ) (v : View M C R) → v.spent ≡ false → v.ticket ≡ None → v.at_turn ≡ false → 1 ≤ part → part < v.share → Splits Rule id v (cut_left part v) (cut_right part v)
  cuts id part v live free waits_not some_part less s r at =
      let left : View M C R = cut_left part v in
      let right : View M C R = cut_right part v in
      let vs : List (View M C R) = set s.views id left in
      let it = r.seats id v at live in
      let counts : (f : View M C R → ℕ) → f left + f right ≡ f v → sum_by f (vs ++ right ∷ []) ≡ sum_by f s.views = λ f e. omega (arith, sum_by_push f vs right, sum_by-put f s.views id v left at) in
      let seated_left : IsSeated m most r.tickets r.turn r.log left = record {
        opened = it.opened;
        limited = it.limited;
        part = omega arith;
        knows = it.knows;
        heard = it.heard;
        behind = it.behind;
        places = it.places;
        holds_turn = it.holds_turn;
        sold_out = it.sold_out;
      } in
      let seated_right : IsSeated m most r.tickets r.turn r.log right = record {
        opened = it.opened;
        limited = it.limited;
        part = some_part;
        knows = it.knows;
        heard = (v.seen, refl);
        behind = it.behind;
        places = λ y _. refl;
        holds_turn = λ e. absurd cc;
        sold_out = it.sold_out;
      } in record {
        tickets = r.tickets;
        turn = r.turn;
        log = r.log;
        words = r.words;
        drawn = r.drawn;
        bounded = r.bounded;
        queue = λ y. let none_there : has_ticket y v ≡ 0 = ap (λ (o : Option ℕ). one_if (is_at y o)) free in counts (has_ticket y) (omega (arith, none_there)) ∙ r.queue y;
        long = r.long;
        slot = subst (λ (n : ℕ). Slot shape fits steps m most r.log s.homes n) (sym (counts has_turn (omega arith))) r.slot;
        places = λ y. counts (has_place y) (omega arith) ∙ r.places y;
        shares = counts share_of (omega arith) ∙ r.shares;
        seats = λ j u there alive. ⊎_elim (λ (old : get_elem? vs j ≡ some u). seats_after m most s.views id left r.tickets r.turn r.log (λ _. seated_left) (λ k x _ at' live'. r.seats k x at' live') j u old alive)
            (λ (new : right ≡ u). subst (IsSeated m most r.tickets r.turn r.log) new seated_right) (at_snoc vs right u j there);
        gone = λ j u there spent. ⊎_elim (λ (old : get_elem? vs j ≡ some u). gone_after s.views id left (not_gone left live) r.gone j u old spent)
            (λ (new : right ≡ u). absurd (cc (ap (λ (x : View M C R). x.spent) new, spent, live))) (at_snoc vs right u j there);
      }

  pub glues : (id other : ℕ) (v w : View M C R) → v.spent ≡ false → v.at_turn ≡ false → w.spent ≡ false → w.ticket ≡ None → w.at_turn ≡ false → Joins Rule id v other w (glued v w) spent_view
  glues id other v w live waits_not live' free waits_not' s r at apart there =
      let both : View M C R = glued v w in
      let spent : View M C R = spent_view in
      let vs : List (View M C R) = set s.views id both in
      let at' : get_elem? s.views other ≡ some w = sym (set_else s.views id other both apart) ∙ there in
      let it = r.seats id v at live in
      let their = r.seats other w at' live' in
      let counts : (f : View M C R → ℕ) → f both + f spent ≡ f v + f w → sum_by f (set vs other spent) ≡ sum_by f s.views = λ f e. omega (arith, sum_by-put f vs other w spent there, sum_by-put f s.views id v both at) in
      let two = of_two v.seen w.seen r.log it.knows their.knows (leb (length v.seen) (length w.seen)) refl in
      let wide = longest v.seen w.seen (leb (length v.seen) (length w.seen)) refl in
      let placed : (y : ℕ) → has_place y both ≡ has_place y v + has_place y w = λ y.
      omega (arith, times-append y v.mine (v.past ++ (w.mine ++ w.past)), times-append y v.past (w.mine ++ w.past), times-append y v.mine v.past) in
      let seated : IsSeated m most r.tickets r.turn r.log both = record {
        opened = it.opened;
        limited = it.limited;
        part = omega (arith, it.part);
        knows = two.0;
        heard = two.1;
        behind = omega (arith, it.behind, their.behind);
        places = λ y past. omega (arith, placed y, it.places y (omega (arith, wide.0)), their.places y (omega (arith, wide.1)));
        holds_turn = λ e. absurd (cc (e, waits_not));
        sold_out = λ e. ⊎_elim it.sold_out their.sold_out (or_cases v.full w.full e);
      } in record {
        tickets = r.tickets;
        turn = r.turn;
        log = r.log;
        words = r.words;
        drawn = r.drawn;
        bounded = r.bounded;
        queue = λ y. let none_there : has_ticket y w ≡ 0 = ap (λ (o : Option ℕ). one_if (is_at y o)) free in counts (has_ticket y) (omega (arith, none_there)) ∙ r.queue y;
        long = r.long;
        slot = subst (λ (n : ℕ). Slot shape fits steps m most r.log s.homes n) (sym (counts has_turn (omega (arith, ap one_if waits_not')))) r.slot;
        places = λ y. counts (has_place y) (omega (arith, placed y)) ∙ r.places y;
        shares = counts share_of (omega arith) ∙ r.shares;
        seats = seats_after m most vs other spent r.tickets r.turn r.log (λ e. absurd cc)
            (λ j u _ there' alive. seats_after m most s.views id both r.tickets r.turn r.log (λ _. seated) (λ k x _ old live''. r.seats k x old live'') j u there' alive);
        gone = gone_after vs other spent (λ _. refl) (gone_after s.views id both (not_gone both live) r.gone);
      }
