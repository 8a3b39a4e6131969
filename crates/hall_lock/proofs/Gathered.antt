-- What is gathered from the turns that have something to give.
use Rattle.std.proofs.Common.{◌≡◌, Bool, true, false, cond, List, [], ◌∷◌, ◌++◌, filter, fold, flat_map, refl, sym, ap, ap₂, ◌∙◌, append_assoc, append-nil}
use Rattle.hall_lock.specs.Telling.{pieces}
use Rattle.hall_lock.specs.TurnLaws.{PieceLaw, GatherLaw}

module _ {A T X : Type 0} (next : A → T → A) (piece : A → T → List X) where
  pub pieces_push : (a : A) (ts : List T) (t : T) → pieces next piece a (ts ++ t ∷ []) ≡ pieces next piece a ts ++ piece (fold next a ts) t
  pieces_push a [] t = append-nil (piece a t)
  pieces_push a (u ∷ us) t =
      ap (λ (w : List X). piece a u ++ w) (pieces_push (next a u) us t)
      ∙ sym (append_assoc (piece a u) (pieces next piece (next a u) us) (piece (fold next (next a u) us) t))

  pub pieces_left_out :
      (test : T → Bool) → ((a : A) (t : T) → test t ≡ false → (piece a t ≡ []) × (next a t ≡ a)) → (a : A) (ts : List T) →
      (pieces next piece a ts ≡ pieces next piece a (filter test ts)) × (fold next a ts ≡ fold next a (filter test ts))
  pieces_left_out test none a [] = (refl, refl)
  pieces_left_out test none a (t ∷ ts) =
      elim (test t) as (λ b. test t ≡ b → (pieces next piece a (t ∷ ts) ≡ pieces next piece a (cond b (t ∷ filter test ts) (filter test ts))) × (fold next a (t ∷ ts) ≡ fold next a (cond b (t ∷ filter test ts) (filter test ts)))) [
        | true ↦ λ yes.
            let rest = pieces_left_out test none (next a t) ts in
            (ap (λ (w : List X). piece a t ++ w) rest.0, rest.1)
        | false ↦ λ no.
            let rest = pieces_left_out test none a ts in (
              ap₂ (λ (w : List X) (b : A). w ++ pieces next piece b ts) (none a t no).0 (none a t no).1 ∙ rest.0,
              ap (λ (b : A). fold next b ts) (none a t no).1 ∙ rest.1,
            )
      ] refl

pub piece_law : {A T X : Type 0} → PieceLaw A T X
piece_law = record { push = pieces_push; left_out = pieces_left_out }

pub gather_law : {T X : Type 0} → GatherLaw T X
gather_law items test none [] = refl
gather_law {T} {X} items test none (t ∷ ts) =
    elim (test t) as (λ b. test t ≡ b → flat_map items (t ∷ ts) ≡ flat_map items (cond b (t ∷ filter test ts) (filter test ts))) [
      | true ↦ λ yes. ap (λ (w : List X). items t ++ w) (gather_law items test none ts)
      | false ↦ λ no. ap (λ (w : List X). w ++ flat_map items ts) (none t no) ∙ gather_law items test none ts
    ] refl
