-- One call: what the seat made, where the machine stands, and how the seat stands.
use Rattle.std.proofs.Common.{◌≡◌, ℕ, ◌+◌, ◌<◌, ◌≤◌, Bool, true, false, List, [], ◌∷◌, ◌++◌, length, length-append, MatchBool, refl, sym, ap, subst, ◌∙◌, append_assoc, All, arith, Option, Some}
use Rattle.std.proofs.lemmas.List.Elements.{recursion_from_All, All-from_recursion}
use Rattle.std.specs.List.{AllByRecursion}
use mathlib.Core.List.{IsPrefix}
use Rattle.atomic_table.specs.Seated.{TableId}
use Rattle.hall_lock.specs.declared.view.Turn.{Turn}
use Rattle.hall_lock.specs.declared.view.View.{View}
use Rattle.hall_lock.specs.AtTable.{Sitting, Arrives, LeadsFrom, shown, passing, turn_of}
use Rattle.hall_lock.specs.Seats.{Lock, SeatState, IsOf}
use Rattle.hall_lock.specs.Turns.{Goes, Leads}
use Rattle.hall_lock.specs.Own.{Rise, made, InOrder}
use Rattle.hall_lock.specs.Asking.{AddsTurn, StepsAfter, TakesTurn, Works, NoneEnded, IsGoing, HasEnded, IsOver, StandsAt}
use Rattle.hall_lock.proofs.Histories.{shape_stays}
use Rattle.hall_lock.proofs.Every.{every_front, every_push}
use Rattle.hall_lock.proofs.Owned.{made_more, rise_more}

module _ {M C R : Type 0} where
  module _ (is_ended : R → Bool) where
    pub stands : (call : C) (reply : R) (old new : SeatState M C R) → AddsTurn call reply old new → IsGoing is_ended old → StandsAt is_ended reply new
    stands call reply old new a going =
        elim (is_ended reply) as (λ b. is_ended reply ≡ b → MatchBool b (HasEnded is_ended new) (IsGoing is_ended new)) [
          | true ↦ λ e. (
            record {
              front = made old;
              last = record { call = call; reply = reply };
              all = a.turns;
              none = going.0;
              ended = e;
            },
            a.live.1,
          )
          | false ↦ λ e. (
            subst (λ (ts : List (Turn C R)). NoneEnded is_ended ts) (sym a.turns)
                (every_push (λ (t : Turn C R). is_ended t.reply ≡ false) (made old) (record { call = call; reply = reply }) going.0 e),
            a.live.1,
          )
        ] refl

    pub over_stands : (old new : SeatState M C R) → new ≡ record old { full = true } → IsGoing is_ended old → IsOver is_ended new
    over_stands old new e going = subst (λ (s : SeatState M C R). IsOver is_ended s) (sym e) (going.0, refl)

  -- a worker went on with its seat, whose turn is the worker's
  pub works_on :
      (owner : Turn C R → ℕ) (w : ℕ) (first old new : SeatState M C R) (call : C) (reply : R) → AddsTurn call reply old new →
      owner (record { call = call; reply = reply }) ≡ w → Works owner w first old → Works owner w first new
  works_on owner w first old new call reply a mine works =
      record {
        order = a.order;
        owned = subst (λ (ts : List (Turn C R)). AllByRecursion (λ (t : Turn C R). owner t ≡ w) ts) (sym a.turns)
            (every_push (λ (t : Turn C R). owner t ≡ w) (made old) (record { call = call; reply = reply }) works.owned mine);
        kept = (a.kept.0 ∙ works.kept.0, a.kept.1 ∙ works.kept.1, a.kept.2 ∙ works.kept.2);
      }

  pub works_over :
      (owner : Turn C R → ℕ) (w : ℕ) (first old new : SeatState M C R) → new ≡ record old { full = true } →
      Works owner w first old → Works owner w first new
  works_over owner w first old new over works =
      subst (λ (s : SeatState M C R). Works owner w first s) (sym over)
      (record { order = works.order; owned = works.owned; kept = works.kept })

  module _ {S : Type 0} (shape : M → S) (fits : S → C → Type 0) (steps : M → C → R → M → Type 0) where
    last_step : (m n : M) (ts : List (Turn C R)) (t : Turn C R) → Goes steps m (ts ++ t ∷ []) n → (k : M) × Goes steps m ts k × steps k t.call t.reply n
    last_step m n [] t g = (m, refl, subst (λ (x : M). steps m t.call t.reply x) g.2 g.1)
    last_step m n (u ∷ us) t g =
        let rest = last_step g.0 n us t g.2 in (rest.0, (g.0, g.1, rest.1), rest.2)

    -- what the last of these turns was
    record IsLast (opening machine : M) (before : List (Turn C R)) (t : Turn C R) : Type 0 where
      asked : M
      leads : Leads shape fits steps opening before asked
      same : shape asked ≡ shape opening
      step : steps asked t.call t.reply machine

    module _ (law : (m : M) (c : C) (r : R) (n : M) → steps m c r n → shape n ≡ shape m) where
      is_last : (opening machine : M) (before : List (Turn C R)) (t : Turn C R) → Leads shape fits steps opening (before ++ t ∷ []) machine → IsLast opening machine before t
      is_last opening machine before t led =
          let P : Turn C R → Type 0 = λ u. fits (shape opening) u.call in
          let split = last_step opening machine before t led.goes in
          record {
            asked = split.0;
            leads = record {
              calls_fit = All-from_recursion P before (every_front P before (t ∷ []) (recursion_from_All P (before ++ t ∷ []) led.calls_fit));
              goes = split.1;
            };
            same = shape_stays shape fits steps law opening split.0 before split.1;
            step = split.2;
          }

      -- a seat that had this ticket came to its turn and passed it
      abbrev waiting_view : View M C R → ℕ → View M C R
      waiting_view v k = record v { ticket = Some k }

      abbrev turning_view : View M C R → ℕ → ℕ → List (Turn C R) → View M C R
      turning_view v k looks log = record v { ticket = Some k; front = k; looks = looks; at_turn = true; seen = log }

      passed_turn :
          (z : TableId) (lock : Lock M) (v : View M C R) (k looks : ℕ) (log : List (Turn C R)) (call : C) (reply : R) (machine : M) →
          IsOf lock (shown z v) → Rise 0 v.mine (length v.seen) → v.full ≡ false → k < lock.turns →
          IsPrefix v.seen log → length log ≡ k → v.front ≤ k → v.looks < looks →
          LeadsFrom shape fits steps v.opening (log ++ turn_of call reply ∷ []) machine →
          TakesTurn shape fits steps lock call reply (shown z v) (shown z (passing (turning_view v k looks log) (turn_of call reply ∷ [])))
      passed_turn z lock v k looks log call reply machine of order live left grows long front more led =
          let t : Turn C R = turn_of call reply in
          let opened : led.0 ≡ lock.opening = cc (led.1, ap (λ (l : Lock (Option M)). l.opening) of) in
          let last = is_last lock.opening machine log t (subst (λ (m : M). Leads shape fits steps m (log ++ t ∷ []) machine) opened led.2) in
          record {
            after = record {
              before = log;
              machine = last.asked;
              next = machine;
              ends = refl;
              leads = last.leads;
              same = last.same;
              step = last.step;
            };
            begins = grows;
            adds = record {
              turns = made_more v.seen log (log ++ t ∷ []) v.mine (v.mine ++ length log ∷ []) t order grows refl refl;
              order = rise_more v.seen log (log ++ t ∷ []) v.mine (v.mine ++ length log ∷ []) t order grows refl refl;
              grows = (grows.0 ++ t ∷ [], sym (append_assoc v.seen grows.0 (t ∷ [])) ∙ ap (λ (w : List (Turn C R)). w ++ t ∷ []) grows.1);
              live = (live, live);
              kept = (refl, refl, refl);
            };
            place = refl;
            reads = sym long;
            not_fallen = front;
            looked = more;
            within = omega (arith, length-append log (t ∷ []), long, left);
          }

      pub turn_taken :
          (z z' : TableId) (lock : Lock M) (old : SeatState M C R) (me drawn came now : Sitting M C R) (k : ℕ) (call : C) (reply : R) →
          shown z me.0 ≡ old → z' ≡ z → IsOf lock old → Rise 0 me.0.mine (length me.0.seen) → me.0.full ≡ false → k < lock.turns →
          drawn ≡ (record me.0 { ticket = Some k }, []) → Arrives shape fits steps drawn k came →
          now ≡ (passing came.0 (turn_of call reply ∷ []), []) →
          ((m : M) × LeadsFrom shape fits steps came.0.opening (came.0.seen ++ turn_of call reply ∷ []) m) →
          TakesTurn shape fits steps lock call reply old (shown z' now.0)
      turn_taken z z' lock old me drawn came now k call reply shows same of order live left draws arrives passes led =
          let v : View M C R = me.0 in
          let waits : Sitting M C R = (waiting_view v k, []) in
          let a : Arrives shape fits steps waits k came = subst (λ (x : Sitting M C R). Arrives shape fits steps x k came) draws arrives in
          let view : came.0 ≡ turning_view v k a.looks a.log = ap (λ (x : Sitting M C R). x.0) a.after in
          let after : now.0 ≡ passing (turning_view v k a.looks a.log) (turn_of call reply ∷ []) =
          ap (λ (x : Sitting M C R). x.0) passes ∙ ap (λ (x : View M C R). passing x (turn_of call reply ∷ [])) view in
          let leads : LeadsFrom shape fits steps v.opening (a.log ++ turn_of call reply ∷ []) led.0 =
          subst (λ (x : View M C R). LeadsFrom shape fits steps x.opening (x.seen ++ turn_of call reply ∷ []) led.0) view led.1 in
          subst (λ (s : SeatState M C R). TakesTurn shape fits steps lock call reply s (shown z' now.0)) shows
          (subst (λ (y : TableId). TakesTurn shape fits steps lock call reply (shown z v) (shown y now.0)) (sym same)
          (subst (λ (x : View M C R). TakesTurn shape fits steps lock call reply (shown z v) (shown z x)) (sym after)
          (passed_turn z lock v k a.looks a.log call reply led.0 (subst (λ (s : SeatState M C R). IsOf lock s) (sym shows) of) order live left a.grows a.long a.not_fallen a.looked_more leads)))

      -- its places rise
      pub order_taken :
          (me drawn came now : Sitting M C R) (k : ℕ) (t : Turn C R) → Rise 0 me.0.mine (length me.0.seen) →
          drawn ≡ (record me.0 { ticket = Some k }, []) → Arrives shape fits steps drawn k came →
          now ≡ (passing came.0 (t ∷ []), []) → Rise 0 now.0.mine (length now.0.seen)
      order_taken me drawn came now k t order draws arrives passes =
          let v : View M C R = me.0 in
          let waits : Sitting M C R = (waiting_view v k, []) in
          let a : Arrives shape fits steps waits k came = subst (λ (x : Sitting M C R). Arrives shape fits steps x k came) draws arrives in
          let view : came.0 ≡ turning_view v k a.looks a.log = ap (λ (x : Sitting M C R). x.0) a.after in
          let after : now.0 ≡ passing (turning_view v k a.looks a.log) (t ∷ []) =
          ap (λ (x : Sitting M C R). x.0) passes ∙ ap (λ (x : View M C R). passing x (t ∷ [])) view in
          subst (λ (x : View M C R). Rise 0 x.mine (length x.seen)) (sym after)
          (rise_more v.seen a.log (a.log ++ t ∷ []) v.mine (v.mine ++ length a.log ∷ []) t order a.grows refl refl)
