-- The history is shared out among the workers.
use Rattle.std.proofs.Common.{◌≡◌, ℕ, ◌+◌, ◌≤◌, ◌<◌, List, [], ◌∷◌, ◌++◌, length, take, drop, sum_by, flat_map, refl, sym, ap, ap₂, subst, ◌∙◌, arith, append_assoc, append-nil, length-append}
use Rattle.std.proofs.lemmas.List.Sums.{sum_by-cons}
use Rattle.std.specs.List.{AllByRecursion}
use mathlib.Core.List.{IsPrefix}
use Rattle.hall_lock.specs.declared.view.Turn.{Turn}
use Rattle.hall_lock.specs.Places.{times, EachOnce}
use Rattle.hall_lock.specs.Seats.{SeatState}
use Rattle.hall_lock.proofs.Histories.{one_below-yes}
use Rattle.hall_lock.specs.Own.{turns_at, Rise, made}
use Rattle.hall_lock.specs.Sorting.{joint, OwnsFrom, SortedFrom, WorkFrom, MadeFrom, SharedOut}
use Rattle.hall_lock.specs.TurnLaws.{ShareLaw}
use Rattle.hall_lock.proofs.Owned.{rise_longer, turns_stay, here, within, length-turns_at}
use Rattle.hall_lock.proofs.Counted.{counted}
use Rattle.hall_lock.proofs.Sorted.{sorts, owned_within}

module _ {T : Type 0} where
  longer_prefix : (xs ys : List T) (ps : List ℕ) (low : ℕ) → IsPrefix xs ys → Rise low ps (length xs) → Rise low ps (length ys)
  longer_prefix xs ys ps low p r =
      rise_longer ps low (length xs) (length ys) r (omega (arith, sym (ap (λ (w : List T). length w) p.1) ∙ length-append xs p.0))

  stay_prefix : (xs ys : List T) (ps : List ℕ) (low : ℕ) → IsPrefix xs ys → Rise low ps (length xs) → turns_at ys ps ≡ turns_at xs ps
  stay_prefix xs ys ps low p r = subst (λ (w : List T). turns_at w ps ≡ turns_at xs ps) p.1 (turns_stay xs p.0 ps low r)

  -- what holds of the turn at each place holds of each turn
  at_each : (Q : T → Type 0) (h g k : List T) → h ≡ g ++ k → ((x : ℕ) (t : T) → take 1 (drop x h) ≡ t ∷ [] → Q t) → AllByRecursion Q k
  at_each Q h g [] e each = tt
  at_each Q h g (t ∷ k) e each = (
    each (length g) t (subst (λ (w : List T). take 1 (drop (length g) w) ≡ t ∷ []) (sym e) (here g k t)),
    at_each Q h (g ++ t ∷ []) k (e ∙ sym (append_assoc g (t ∷ []) k)) each,
  )

module _ {M C R : Type 0} where
  abbrev mines : List (SeatState M C R) → List (List ℕ)
  mines [] = []
  mines (s ∷ ss) = s.mine ∷ mines ss

  length-mines : (ss : List (SeatState M C R)) → length (mines ss) ≡ length ss
  length-mines [] = refl
  length-mines (s ∷ ss) = omega (arith, length-mines ss)

  module _ (owner : Turn C R → ℕ) (history : List (Turn C R)) where
    -- the workers' places, where nothing was joined into them
    places_joined : (w : ℕ) (ss : List (SeatState M C R)) → WorkFrom owner w ss → flat_map (λ o. o.mine ++ o.past) ss ≡ joint (mines ss)
    places_joined w [] work = refl
    places_joined w (s ∷ ss) work =
        ap₂ (λ (a b : List ℕ). a ++ b) (ap (λ (a : List ℕ). s.mine ++ a) work.1 ∙ append-nil s.mine) (places_joined (w + 1) ss work.3)

    owns_all : (w : ℕ) (ss : List (SeatState M C R)) → WorkFrom owner w ss → AllByRecursion (λ o. IsPrefix o.seen history) ss → OwnsFrom owner history w (mines ss)
    owns_all w [] work heard = tt
    owns_all w (s ∷ ss) work heard = (
      longer_prefix s.seen history s.mine 0 heard.0 work.0,
      subst (λ (ts : List (Turn C R)). AllByRecursion (λ (t : Turn C R). owner t ≡ w) ts) (sym (stay_prefix s.seen history s.mine 0 heard.0 work.0)) work.2,
      owns_all (w + 1) ss work.3 heard.1,
    )

    made_from : (w : ℕ) (ss : List (SeatState M C R)) → WorkFrom owner w ss → AllByRecursion (λ o. IsPrefix o.seen history) ss → SortedFrom owner history w (mines ss) → MadeFrom owner history w ss
    made_from w [] work heard sorted = tt
    made_from w (s ∷ ss) work heard sorted =
        (sorted.0 ∙ stay_prefix s.seen history s.mine 0 heard.0 work.0, made_from (w + 1) ss work.3 heard.1 sorted.1)

    long_made : (w : ℕ) (ss : List (SeatState M C R)) → WorkFrom owner w ss → length (joint (mines ss)) ≡ sum_by (λ s. length (made s)) ss
    long_made w [] work = refl
    long_made w (s ∷ ss) work =
        omega (
          arith,
          length-append s.mine (joint (mines ss)),
          length-turns_at s.seen s.mine 0 work.0,
          long_made (w + 1) ss work.3,
          sum_by-cons (λ (o : SeatState M C R). length (made o)) s ss,
        )

    pub shared_out :
        (ss : List (SeatState M C R)) → WorkFrom owner 0 ss → AllByRecursion (λ o. IsPrefix o.seen history) ss →
        EachOnce (length history) (joint (mines ss)) → SharedOut owner history ss
    shared_out ss work heard once =
        let owns : OwnsFrom owner history 0 (mines ss) = owns_all 0 ss work heard in
        let nothing : (x : ℕ) (t : Turn C R) → take 1 (drop x history) ≡ t ∷ [] → 1 ≤ times x [] → owner t < 0 = λ x t at some. absurd (omega (arith, some)) in
        record {
          turns = made_from 0 ss work heard (sorts owner history [] 0 (mines ss) nothing owns once);
          count = sym (counted (length history) (joint (mines ss)) once) ∙ long_made 0 ss work;
          owned = at_each (λ (t : Turn C R). owner t < length ss) history [] history refl (λ x t at.
              omega (arith, (owned_within owner history 0 (mines ss) owns x t at (omega (arith, once x, one_below-yes (length history) x (within history x t at)))).1, length-mines ss));
        }

pub share_law : {M C R : Type 0} → ShareLaw M C R
share_law owner first closing workers no_mine no_past work joins once =
    let places : closing.mine ++ closing.past ≡ joint (mines workers) =
    ap₂ (λ (a b : List ℕ). a ++ b) (joins.kept.1 ∙ no_mine) (joins.past ∙ ap (λ (a : List ℕ). a ++ flat_map (λ o. o.mine ++ o.past) workers) no_past)
    ∙ places_joined owner closing.seen 0 workers work in
    shared_out owner closing.seen workers work joins.seen.1 (subst (λ (ps : List ℕ). EachOnce (length closing.seen) ps) places once)
