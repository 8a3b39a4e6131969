-- The steps of a turn: a ticket is drawn, the box is taken at its turn, and it is brought home with one turn more.
use Rattle.std.proofs.Common.{◌≡◌, ℕ, ◌+◌, ◌≤◌, ◌<◌, Bool, true, false, cond, eqb, List, [], ◌∷◌, ◌++◌, length, get_or, set, sum_by, sym, ap, refl, ◌∙◌, subst, ⊎_elim, inl, inr, arith, length-append, Option, Some, None, Box, MatchBool, eq-eqb, ne_eqb}
use Rattle.std.specs.Global.{Global}
use mathlib.Core.Logic.{dite}
use mathlib.Core.List.{IsPrefix}
use mathlib.Core.Option.{none, some, some-injective}
use mathlib.Core.Option as maybe
use native.Mathlib.Decide.{ℕ_discrete}
use lib.ListN.{get_elem?}
use lib.Seq.{set-get_or}
use prog.Atomic.{either}
use Rattle.atomic_table.specs.Table.{State, step, Act, keeps, takes, gives, stepped, carried_after, Valid, Allows}
use Rattle.atomic_table.proofs.Lists.{exchanged}
use Rattle.hall_lock.specs.declared.view.Turn.{Turn}
use Rattle.hall_lock.specs.declared.view.View.{View}
use Rattle.hall_lock.specs.Turns.{Leads}
use Rattle.hall_lock.specs.Places.{one_below}
use Rattle.hall_lock.specs.Rule.{IsKept, IsSeated, Slot, share_of, has_ticket, has_place, has_turn, is_at, waits}
use Rattle.hall_lock.specs.AtTable.{Sitting, drew, looked, passed, looking, turning, passing, TakesBox, LeadsFrom}
use Rattle.hall_lock.proofs.Sums.{sum_by-put, sum_by-kept, at_least, two_at_least, none_counts}
use Rattle.hall_lock.proofs.Histories.{prefix_self, prefix_more, prefix_trans, prefix_length, one_below-more, waits-drawn, waits-passed, waits-le, waits-here, is_at-yes, is_at-here, times-append, times_one, set_at_here}
use Rattle.hall_lock.proofs.Kept.{seats_after, gone_after, not_gone, quiet, own_places}

abbrev one_if : Bool → ℕ
one_if b = cond b 1 0

module _ {M C R S : Type 0} (shape : M → S) (fits : S → C → Type 0) (steps : M → C → R → M → Type 0) (m : M) (most : ℕ) where
  abbrev St : Type 0
  St = State (Option (Box M Global)) (View M C R)

  abbrev Rule : St → Type 0
  Rule = IsKept shape fits steps m most

  -- who has no ticket is not at the turn
  not_at_turn : (t k : ℕ) (log : List (Turn C R)) (v : View M C R) → IsSeated m most t k log v → v.ticket ≡ None → v.at_turn ≡ false
  not_at_turn t k log v it none_drawn = by v.at_turn refl
    where
      by : (b : Bool) → v.at_turn ≡ b → b ≡ false
      by true e = let h = it.holds_turn e in absurd (cc (h.0, none_drawn))
      by false e = refl

  -- the ticket k is drawn
  gains : (s : St) (r : Rule s) (i k : ℕ) (v : View M C R) → get_elem? s.views i ≡ some v → v.spent ≡ false → v.ticket ≡ None → v.full ≡ false → r.tickets ≡ k → k < most
      → Rule record { words = set s.words 0 (k + 1); homes = s.homes; views = set s.views i (record v { ticket = Some k }) }
  gains s r i k v at live free not_full is below =
      let w : View M C R = record v { ticket = Some k } in
      let it = r.seats i v at live in
      let waits_not : v.at_turn ≡ false = not_at_turn r.tickets r.turn r.log v it free in record {
        tickets = k + 1;
        turn = r.turn;
        log = r.log;
        words = ap (λ (ws : List ℕ). set ws 0 (k + 1)) r.words;
        drawn = omega (arith, r.drawn);
        bounded = omega arith;
        queue = λ y.
            let put = sum_by-put (has_ticket y) s.views i v w at in
            let before : has_ticket y v ≡ 0 = ap (λ (t : Option ℕ). cond (is_at y t) 1 0) free in
            let was : sum_by (has_ticket y) s.views ≡ waits r.turn k y = r.queue y ∙ ap (λ (t : ℕ). waits r.turn t y) is in
            omega (arith, put, before, was, waits-drawn r.turn k y (omega (arith, r.drawn)));
        long = r.long;
        slot = subst (λ (n : ℕ). Slot shape fits steps m most r.log s.homes n) (sym (sum_by-kept has_turn s.views i v w at refl)) r.slot;
        places = λ y. sum_by-kept (has_place y) s.views i v w at refl ∙ r.places y;
        shares = sum_by-kept share_of s.views i v w at refl ∙ r.shares;
        seats = seats_after m most s.views i w (k + 1) r.turn r.log (λ _. record {
          opened = it.opened;
          limited = it.limited;
          part = it.part;
          knows = it.knows;
          heard = it.heard;
          behind = it.behind;
          places = it.places;
          holds_turn = λ e. absurd (cc (e, waits_not));
          sold_out = λ e. absurd (cc (e, not_full));
        }) (λ j u _ there alive. let o = r.seats j u there alive in record {
          opened = o.opened;
          limited = o.limited;
          part = o.part;
          knows = o.knows;
          heard = o.heard;
          behind = o.behind;
          places = o.places;
          holds_turn = o.holds_turn;
          sold_out = λ e. absurd (omega (arith, o.sold_out e));
        });
        gone = gone_after s.views i w (not_gone w live) r.gone;
      }

  pub draws : (slots id k : ℕ) (me : Sitting M C R) → me.0.spent ≡ false → me.0.ticket ≡ None → k < me.0.turns
      → Allows Rule slots id me 0 (λ n. either (eqb n k) (k + 1) n) (drew (step slots 0 k (k + 1) none) me)
  draws slots id k me live free below s r sized at small =
      let v = me.0 in
      let n = get_or s.words 0 0 in
      let read : n ≡ r.tickets = ap (λ (ws : List ℕ). get_or ws 0 0) r.words in
      let it = r.seats id v at live in
      let hit_view : View M C R = record v { ticket = Some k } in
      let hit : Sitting M C R = (hit_view, me.1) in
      let Told : Bool → Sitting M C R → Type 0 = λ b after. MatchBool b ((after ≡ hit) × (v.full ≡ false)) (after ≡ me) in
      let F : ℕ → Type 0 = λ y. (w : View M C R) × (a : Act (Option (Box M Global))) × Valid s.homes me.1 a × Rule (stepped s 0 y id me.1 w a) × Told (eqb n k) (w, carried_after me.1 a) in
      exchanged n k (k + 1) F
      (λ e. let not_full : v.full ≡ false = full_is v.full refl it e read in
      (hit_view, keeps, tt, gains s r id k v at live free not_full (sym read ∙ e) (omega (arith, it.limited)), subst (λ (b : Bool). Told b hit) (sym (eq-eqb n k e)) (refl, not_full)))
      (λ ne. (v, keeps, tt, quiet shape fits steps m most s r 0 id v v at live refl refl refl refl refl it, subst (λ (b : Bool). Told b me) (sym (ne_eqb n k ne)) refl))
    where
      full_is : (b : Bool) → me.0.full ≡ b → IsSeated m most r.tickets r.turn r.log me.0 → get_or s.words 0 0 ≡ k → get_or s.words 0 0 ≡ r.tickets → b ≡ false
      full_is true e it here read = absurd (omega (arith, it.sold_out e, it.limited))
      full_is false e it here read = refl

  -- while the ticket at the turn is the seat's and the seat is not at the turn, no seat is
  none_at_turn : (s : St) (r : Rule s) (i : ℕ) (v : View M C R) → get_elem? s.views i ≡ some v → v.ticket ≡ Some r.turn → v.at_turn ≡ false → sum_by has_turn s.views ≡ 0
  none_at_turn s r i v at ticket not_yet = none_counts has_turn s.views (λ j w there. by j w there w.at_turn refl w.spent refl)
    where
      counted : (u : View M C R) → u.ticket ≡ Some r.turn → has_ticket r.turn u ≡ 1
      counted u e = ap (λ (t : Option ℕ). one_if (is_at r.turn t)) e ∙ ap one_if (is_at-here r.turn)

      by : (j : ℕ) (w : View M C R) → get_elem? s.views j ≡ some w → (b : Bool) → w.at_turn ≡ b → (g : Bool) → w.spent ≡ g → one_if b ≡ 0
      by j w there false e g spent = refl
      by j w there true e true spent = absurd (cc (e, ap (λ (u : View M C R). u.at_turn) (r.gone j w there spent)))
      by j w there true e false spent =
          let theirs = (r.seats j w there spent).holds_turn e in
          dite (ℕ_discrete j i)
          (λ same. absurd (cc (e, not_yet, ap (λ (u : View M C R). u.at_turn) (some-injective w v (sym there ∙ (ap (λ (k : ℕ). get_elem? s.views k) same ∙ at))))))
          (λ apart. absurd (omega (arith, two_at_least (has_ticket r.turn) s.views i j v w apart at there, counted v ticket, counted w theirs.0, r.queue r.turn, waits-le r.turn r.tickets r.turn)))

  -- the box is taken at the turn
  enters : (s : St) (r : Rule s) (i x : ℕ) (v : View M C R) → get_elem? s.views i ≡ some v → v.spent ≡ false → v.ticket ≡ Some r.turn → v.at_turn ≡ false → (h : maybe.Option (Option (Box M Global))) → s.homes ≡ h ∷ [] → (n : ℕ) → n ≡ r.turn
      → Rule record { words = set s.words x (get_or s.words x 0); homes = set s.homes 0 none; views = set s.views i (turning v n r.log) }
  enters s r i x v at live ticket not_yet h home n read =
      let w : View M C R = turning v n r.log in
      let it = r.seats i v at live in record {
        tickets = r.tickets;
        turn = r.turn;
        log = r.log;
        words = set-get_or s.words x 0 ∙ r.words;
        drawn = r.drawn;
        bounded = r.bounded;
        queue = λ y. sum_by-kept (has_ticket y) s.views i v w at refl ∙ r.queue y;
        long = r.long;
        slot = inl (
          ap (λ (hs : List (maybe.Option (Option (Box M Global)))). set hs 0 none) home,
          omega (arith, sum_by-put has_turn s.views i v w at, ap one_if not_yet, none_at_turn s r i v at ticket not_yet),
        );
        places = λ y. sum_by-kept (has_place y) s.views i v w at refl ∙ r.places y;
        shares = sum_by-kept share_of s.views i v w at refl ∙ r.shares;
        seats = seats_after m most s.views i w r.tickets r.turn r.log (λ _. record {
          opened = it.opened;
          limited = it.limited;
          part = it.part;
          knows = prefix_self r.log;
          heard = prefix_trans v.met v.seen r.log it.heard it.knows;
          behind = omega arith;
          places = λ y past. it.places y (omega (arith, prefix_length v.seen r.log it.knows));
          holds_turn = λ _. (ticket, refl);
          sold_out = it.sold_out;
        }) (λ j u _ there alive. r.seats j u there alive);
        gone = gone_after s.views i w (not_gone w live) r.gone;
      }

  abbrev Homes : Type 0
  Homes = List (maybe.Option (Option (Box M Global)))

  -- the box is at home where no seat is at the turn
  box_is_home : (log : List (Turn C R)) (homes : Homes) (n : ℕ) → Slot shape fits steps m most log homes n → n ≡ 0 → (b : Box M Global) × (homes ≡ some (Some b) ∷ []) × Leads shape fits steps m log b.value
  box_is_home log homes n slot none_there = ⊎_elim (λ (out : (homes ≡ none ∷ []) × (n ≡ 1)). absurd (omega (arith, out.1)))
      (λ (home : (b : Box M Global) × (homes ≡ some (Some b) ∷ []) × (n ≡ 0) × Leads shape fits steps m log b.value). (home.0, home.1, home.3)) slot

  -- the slot is out where a seat is at the turn
  box_is_out : (log : List (Turn C R)) (homes : Homes) (n : ℕ) → Slot shape fits steps m most log homes n → 1 ≤ n → (homes ≡ none ∷ []) × (n ≡ 1)
  box_is_out log homes n slot some_there = ⊎_elim (λ (out : (homes ≡ none ∷ []) × (n ≡ 1)). out)
      (λ (home : (b : Box M Global) × (homes ≡ some (Some b) ∷ []) × (n ≡ 0) × Leads shape fits steps m log b.value). absurd (omega (arith, home.2))) slot

  -- what a load of `turn` tells, where b says whether it read the seat's ticket
  abbrev Told : Sitting M C R → ℕ → Bool → Sitting M C R → Type 0
  Told me n b after = (length me.0.seen ≤ n) × (me.0.front ≤ n) × (n ≤ me.0.turns) × MatchBool b (TakesBox shape fits steps me n after) (after ≡ (looking me.0 n, me.1))

  looks_by : (s : St) (r : Rule s) (id : ℕ) (me : Sitting M C R) → me.0.spent ≡ false → me.0.at_turn ≡ false → get_elem? s.views id ≡ some me.0 → (n : ℕ) → n ≡ get_or s.words 1 0 → (b : Bool) → is_at n me.0.ticket ≡ b
      → (w : View M C R) × (a : Act (Option (Box M Global))) × Valid s.homes me.1 a × Rule (stepped s 1 (get_or s.words 1 0) id me.1 w a) × Told me n b (w, carried_after me.1 a)
  looks_by s r id me live not_yet at n found true e =
      let v = me.0 in
      let it = r.seats id me.0 at live in
      let read : n ≡ r.turn = found ∙ ap (λ (ws : List ℕ). get_or ws 1 0) r.words in
      let ticket : v.ticket ≡ Some r.turn = is_at-yes n v.ticket e ∙ ap Some read in
      let home = box_is_home r.log s.homes (sum_by has_turn s.views) r.slot (none_at_turn s r id v at ticket not_yet) in
      let knows = prefix_length v.seen r.log it.knows in (
        turning v n r.log,
        takes 0 (Some home.0),
        ap (λ (hs : Homes). get_elem? hs 0) home.1,
        enters s r id 1 v at live ticket not_yet (some (Some home.0)) home.1 n read,
        (
          omega (arith, knows, r.long, read),
          omega (arith, it.behind, read),
          omega (arith, r.drawn, r.bounded, it.limited, read),
          record { log = r.log; box = home.0; after = refl; grows = it.knows; long = r.long ∙ sym read; leads = (m, it.opened, home.2) },
        ),
      )
  looks_by s r id me live not_yet at n found false e =
      let v = me.0 in
      let it = r.seats id me.0 at live in
      let read : n ≡ r.turn = found ∙ ap (λ (ws : List ℕ). get_or ws 1 0) r.words in
      let w : View M C R = looking v n in
      let knows = prefix_length v.seen r.log it.knows in
      let seated : IsSeated m most r.tickets r.turn r.log w = record {
        opened = it.opened;
        limited = it.limited;
        part = it.part;
        knows = it.knows;
        heard = it.heard;
        behind = omega (arith, read);
        places = it.places;
        holds_turn = it.holds_turn;
        sold_out = it.sold_out;
      } in (
        w,
        keeps,
        tt,
        quiet shape fits steps m most s r 1 id v w at live refl refl refl refl refl seated,
        (omega (arith, knows, r.long, read), omega (arith, it.behind, read), omega (arith, r.drawn, r.bounded, it.limited, read), refl),
      )

  pub looks : (slots id : ℕ) (me : Sitting M C R) → me.0.spent ≡ false → me.0.at_turn ≡ false → Allows Rule slots id me 1 (λ n. n) (looked shape fits steps (step slots 1 0 0 none) me)
  looks slots id me live not_yet s r sized at small = looks_by s r id me live not_yet at (get_or s.words 1 0) refl (is_at (get_or s.words 1 0) me.0.ticket) refl

  -- the box comes home, and the turn is passed
  brings : (s : St) (r : Rule s) (i k : ℕ) (v : View M C R) (t : Turn C R) (b : Box M Global) → get_elem? s.views i ≡ some v → v.spent ≡ false → v.at_turn ≡ true → v.ticket ≡ Some k
      → LeadsFrom shape fits steps v.opening (v.seen ++ t ∷ []) b.value
      → Rule record { words = set s.words 1 (k + 1); homes = set s.homes 0 (some (Some b)); views = set s.views i (passing v (t ∷ [])) }
  brings s r i k v t b at live here ticket led =
      let w : View M C R = passing v (t ∷ []) in
      let it = r.seats i v at live in
      let held = it.holds_turn here in
      let now : k ≡ r.turn = cc (held.0, ticket) in
      let counted : has_ticket r.turn v ≡ 1 = ap (λ (o : Option ℕ). one_if (is_at r.turn o)) held.0 ∙ ap one_if (is_at-here r.turn) in
      let some_there : 1 ≤ sum_by has_turn s.views = omega (arith, at_least has_turn s.views i v at, ap one_if here) in
      let out = box_is_out r.log s.homes (sum_by has_turn s.views) r.slot some_there in
      let more : r.turn < r.tickets = waits-here r.turn r.tickets (omega (arith, at_least (has_ticket r.turn) s.views i v at, counted, r.queue r.turn)) in
      let log' : List (Turn C R) = r.log ++ t ∷ [] in
      let long : length v.seen ≡ r.turn = ap (λ (ts : List (Turn C R)). length ts) held.1 ∙ r.long in
      let led' : Leads shape fits steps m log' b.value = subst (λ (ts : List (Turn C R)). Leads shape fits steps m (ts ++ t ∷ []) b.value) held.1 (subst (λ (x : M). Leads shape fits steps x (v.seen ++ t ∷ []) b.value) (cc (led.1, it.opened)) led.2) in
      let placed : (y : ℕ) → has_place y w ≡ has_place y v + one_if (eqb r.turn y) = λ y.
      omega (arith, times-append y (v.mine ++ length v.seen ∷ []) v.past, times-append y v.mine (length v.seen ∷ []), times-append y v.mine v.past, times_one y (length v.seen), ap (λ (z : ℕ). one_if (eqb z y)) long) in record {
        tickets = r.tickets;
        turn = k + 1;
        log = log';
        words = ap (λ (ws : List ℕ). set ws 1 (k + 1)) r.words;
        drawn = omega (arith, more, now);
        bounded = r.bounded;
        queue = λ y.
            let before : has_ticket y v ≡ one_if (eqb r.turn y) = ap (λ (o : Option ℕ). one_if (is_at y o)) held.0 in
            omega (arith, sum_by-put (has_ticket y) s.views i v w at, before, r.queue y, waits-passed r.turn r.tickets y more, ap (λ (z : ℕ). waits (z + 1) r.tickets y) now);
        long = omega (arith, length-append r.log (t ∷ []), r.long, now);
        slot = inr (b, ap (λ (hs : Homes). set hs 0 (some (Some b))) out.0, omega (arith, sum_by-put has_turn s.views i v w at, ap one_if here, out.1), led');
        places = λ y. omega (arith, sum_by-put (has_place y) s.views i v w at, placed y, r.places y, one_below-more r.turn y, ap (λ (z : ℕ). one_below (z + 1) y) now);
        shares = sum_by-kept share_of s.views i v w at refl ∙ r.shares;
        seats = seats_after m most s.views i w r.tickets (k + 1) log' (λ _. record {
          opened = it.opened;
          limited = it.limited;
          part = it.part;
          knows = subst (λ (ts : List (Turn C R)). IsPrefix (v.seen ++ t ∷ []) (ts ++ t ∷ [])) held.1 (prefix_self (v.seen ++ t ∷ []));
          heard = prefix_trans v.met v.seen (v.seen ++ t ∷ []) it.heard (prefix_more v.seen (t ∷ []));
          behind = omega (arith, it.behind, now);
          places = λ y past. let wide : length v.seen + 1 ≤ y = omega (arith, length-append v.seen (t ∷ [])) in
              omega (arith, placed y, it.places y (omega arith), ap one_if (ne_eqb r.turn y (λ e. omega (arith, long))));
          holds_turn = λ e. absurd cc;
          sold_out = it.sold_out;
        }) (λ j u apart there alive. let o = r.seats j u there alive in record {
          opened = o.opened;
          limited = o.limited;
          part = o.part;
          knows = prefix_trans u.seen r.log log' o.knows (prefix_more r.log (t ∷ []));
          heard = o.heard;
          behind = omega (arith, o.behind, now);
          places = o.places;
          holds_turn = λ e. let theirs = o.holds_turn e in
              let counts : has_ticket r.turn u ≡ 1 = ap (λ (z : Option ℕ). one_if (is_at r.turn z)) theirs.0 ∙ ap one_if (is_at-here r.turn) in
              absurd (omega (arith, two_at_least (has_ticket r.turn) s.views i j v u apart at there, counted, counts, r.queue r.turn, waits-le r.turn r.tickets r.turn));
          sold_out = o.sold_out;
        });
        gone = gone_after s.views i w (not_gone w live) r.gone;
      }

  passes_one : (slots id k : ℕ) (v : View M C R) (t : Turn C R) (b : Box M Global) → v.spent ≡ false → v.at_turn ≡ true → v.ticket ≡ Some k → LeadsFrom shape fits steps v.opening (v.seen ++ t ∷ []) b.value
      → Allows Rule slots id (v, (0, Some b) ∷ []) 1 (λ _. k + 1) (λ _. passed (t ∷ []) (step slots 1 (k + 1) 0 none) (v, (0, Some b) ∷ []) (k + 1))
  passes_one slots id k v t b live here ticket led s r sized at small =
      let w : View M C R = passing v (t ∷ []) in
      let r' = brings s r id k v t b at live here ticket led in
      (w, gives, tt, r', (refl, own_places shape fits steps m most record { words = set s.words 1 (k + 1); homes = set s.homes 0 (some (Some b)); views = set s.views id w } r' id w (set_at_here s.views id v w at) live))

  pub passes : (slots id k : ℕ) (me : Sitting M C R) (added : List (Turn C R)) (t : Turn C R) (b : Box M Global) → me.0.spent ≡ false → me.0.at_turn ≡ true → me.0.ticket ≡ Some k → me.1 ≡ (0, Some b) ∷ [] → added ≡ t ∷ []
      → LeadsFrom shape fits steps me.0.opening (me.0.seen ++ t ∷ []) b.value → Allows Rule slots id me 1 (λ _. k + 1) (λ _. passed added (step slots 1 (k + 1) 0 none) me (k + 1))
  passes slots id k me added t b live here ticket carried adds led =
      subst (λ (z : List (ℕ × Option (Box M Global)) × List (Turn C R)). Allows Rule slots id (me.0, z.0) 1 (λ _. k + 1) (λ _. passed z.1 (step slots 1 (k + 1) 0 none) (me.0, z.0) (k + 1)))
      (λ i. (sym carried i, sym adds i)) (passes_one slots id k me.0 t b live here ticket led)
