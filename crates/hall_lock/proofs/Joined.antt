-- Seats that are joined into one, one by one.
use Rattle.std.proofs.Common.{◌≡◌, ℕ, Bool, true, false, ◌||◌, cond, leb, List, [], ◌∷◌, ◌++◌, length, flat_map, refl, sym, ap, subst, ◌∙◌, arith, append_assoc, append-nil}
use Rattle.std.proofs.lemmas.List.Sums.{sum_by_push}
use Rattle.std.proofs.lemmas.Grind.{flat_map-append}
use mathlib.Core.List.{IsPrefix}
use Rattle.atomic_table.specs.Seated.{TableId}
use Rattle.hall_lock.specs.declared.view.Turn.{Turn}
use Rattle.hall_lock.specs.declared.view.View.{View}
use Rattle.hall_lock.specs.AtTable.{Sitting, shown, glued}
use Rattle.hall_lock.specs.Own.{Rise}
use Rattle.hall_lock.specs.Seats.{SeatState, joined, longer, shorter}
use Rattle.hall_lock.proofs.Histories.{prefix_self, prefix_trans, longest}
use Rattle.hall_lock.proofs.Owned.{rise_longer}
use Rattle.hall_lock.specs.Joining.{Joins, TakesIn}
use Rattle.hall_lock.specs.TurnLaws.{JoinLaw}
use Rattle.hall_lock.proofs.Every.{every_weaker, every_push, every_front, every_back}

or_left : (a b : Bool) → a ≡ true → (a || b) ≡ true
or_left true b e = refl
or_left false b e = absurd (cc e)

or_right : (a b : Bool) → b ≡ true → (a || b) ≡ true
or_right true b e = refl
or_right false b e = e

or_none : (a b : Bool) → a ≡ false → b ≡ false → (a || b) ≡ false
or_none true b e f = absurd (cc e)
or_none false b e f = f

-- each of two histories begins the longer one
line_of : {X : Type 0} (xs ys : List X) (b : Bool) → IsPrefix (cond b xs ys) (cond b ys xs) → IsPrefix xs (cond b ys xs) × IsPrefix ys (cond b ys xs)
line_of xs ys true p = (p, prefix_self ys)
line_of xs ys false p = (prefix_self xs, p)

module _ {M C R : Type 0} where
  pub joins_none : (s : SeatState M C R) → Joins s [] s
  joins_none s = record {
    past = sym (append-nil s.past);
    share = omega arith;
    kept = (refl, refl, refl);
    seen = (prefix_self s.seen, tt);
    full = (λ e. e, tt);
    not_full = λ all. all.0;
  }

  pub joins_more :
      (old mid other : SeatState M C R) (others : List (SeatState M C R)) → Joins old others mid →
      IsPrefix mid.seen (joined mid other).seen → IsPrefix other.seen (joined mid other).seen →
      Joins old (others ++ other ∷ []) (joined mid other)
  joins_more old mid other others j mine theirs =
      let places : SeatState M C R → List ℕ = λ o. o.mine ++ o.past in
      let new : SeatState M C R = joined mid other in
      record {
        past =
            ap (λ (w : List ℕ). w ++ (other.mine ++ other.past)) j.past
            ∙ (append_assoc old.past (flat_map places others) (other.mine ++ other.past)
            ∙ ap (λ (w : List ℕ). old.past ++ w) (sym (flat_map-append places others (other ∷ [])
            ∙ ap (λ (w : List ℕ). flat_map places others ++ w) (append-nil (other.mine ++ other.past)))));
        share = omega (arith, j.share, sum_by_push (λ (o : SeatState M C R). o.share) others other);
        kept = j.kept;
        seen = every_push (λ (o : SeatState M C R). IsPrefix o.seen new.seen) (old ∷ others) other
            (every_weaker (λ (o : SeatState M C R). IsPrefix o.seen mid.seen) (λ (o : SeatState M C R). IsPrefix o.seen new.seen)
            (λ o p. prefix_trans o.seen mid.seen new.seen p mine) (old ∷ others) j.seen) theirs;
        full = every_push (λ (o : SeatState M C R). o.full ≡ true → new.full ≡ true) (old ∷ others) other
            (every_weaker (λ (o : SeatState M C R). o.full ≡ true → mid.full ≡ true) (λ (o : SeatState M C R). o.full ≡ true → new.full ≡ true)
            (λ o p e. or_left mid.full other.full (p e)) (old ∷ others) j.full) (λ e. or_right mid.full other.full e);
        not_full = λ all.
            or_none mid.full other.full
            (j.not_full (every_front (λ (o : SeatState M C R). o.full ≡ false) (old ∷ others) (other ∷ []) all))
            (every_back (λ (o : SeatState M C R). o.full ≡ false) (old ∷ others) (other ∷ []) all).0;
      }

  pub join_law : JoinLaw M C R
  join_law = record { none = joins_none; more = joins_more }

  joined_so : (z zo : TableId) (v w : View M C R) → IsPrefix (shorter v.seen w.seen) (longer v.seen w.seen) → TakesIn (shown z v) (shown zo w) (shown z (glued v w))
  joined_so z zo v w line =
      let both = line_of v.seen w.seen (leb (length v.seen) (length w.seen)) line in
      record { both = refl; line = both; joins = λ first others j. joins_more first (shown z v) (shown zo w) others j both.0 both.1 }

  -- a seat's view was joined into another's
  pub taken_in :
      (z z' zo : TableId) (old other : SeatState M C R) (me you now : Sitting M C R) → shown z me.0 ≡ old → shown zo you.0 ≡ other →
      z' ≡ z → now ≡ (glued me.0 you.0, []) → IsPrefix (shorter me.0.seen you.0.seen) (longer me.0.seen you.0.seen) →
      TakesIn old other (shown z' now.0)
  taken_in z z' zo old other me you now shows tells same told line =
      let v = me.0 in
      let w = you.0 in
      subst (λ (s : SeatState M C R). TakesIn old s (shown z' now.0)) tells
      (subst (λ (s : SeatState M C R). TakesIn s (shown zo w) (shown z' now.0)) shows
      (subst (λ (y : TableId). TakesIn (shown z v) (shown zo w) (shown y now.0)) (sym same)
      (subst (λ (x : Sitting M C R). TakesIn (shown z v) (shown zo w) (shown z x.0)) (sym told) (joined_so z zo v w line))))

  -- its places rise
  pub order_joined :
      (me you now : Sitting M C R) → now ≡ (glued me.0 you.0, []) → Rise 0 me.0.mine (length me.0.seen) → Rise 0 now.0.mine (length now.0.seen)
  order_joined me you now told order =
      let wide = longest me.0.seen you.0.seen (leb (length me.0.seen) (length you.0.seen)) refl in
      subst (λ (x : Sitting M C R). Rise 0 x.0.mine (length x.0.seen)) (sym told)
      (rise_longer me.0.mine 0 (length me.0.seen) (length (longer me.0.seen you.0.seen)) order wide.0)
