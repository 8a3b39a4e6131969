-- What turns tell.
use Rattle.std.proofs.Common.{◌≡◌, Bool, true, false, cond, List, [], ◌∷◌, ◌++◌, filter, refl, sym, ap, ap₂, subst, ◌∙◌, append_assoc, append-nil}
use Rattle.hall_lock.specs.Telling.{Tells}
use Rattle.hall_lock.specs.TurnLaws.{TellLaw, StepLaw}

module _ {T X : Type 0} (tells : T → List X → Type 0) where
  pub tells_push : (ts : List T) (t : T) (items part : List X) → Tells tells ts items → tells t part → Tells tells (ts ++ t ∷ []) (items ++ part)
  tells_push [] t items part none told = (part, [], told, refl, ap (λ (w : List X). w ++ part) none ∙ sym (append-nil part))
  tells_push (u ∷ us) t items part all told =
      (all.0, all.1 ++ part, all.2, tells_push us t all.1 part all.3 told, ap (λ (w : List X). w ++ part) all.4 ∙ append_assoc all.0 all.1 part)

  pub tells_one :
      ((t : T) (a b : List X) → tells t a → tells t b → a ≡ b) →
      (ts : List T) (items others : List X) → Tells tells ts items → Tells tells ts others → items ≡ others
  tells_one law [] items others e f = e ∙ sym f
  tells_one law (t ∷ ts) items others e f =
      e.4 ∙ (ap₂ (λ (a b : List X). a ++ b) (law t e.0 f.0 e.2 f.2) (tells_one law ts e.1 f.1 e.3 f.3) ∙ sym f.4)

  pub tells_left_out :
      (test : T → Bool) → ((t : T) (part : List X) → test t ≡ false → tells t part → part ≡ []) →
      (ts : List T) (items : List X) → Tells tells ts items → Tells tells (filter test ts) items
  tells_left_out test none [] items e = e
  tells_left_out test none (t ∷ ts) items e =
      elim (test t) as (λ b. test t ≡ b → Tells tells (cond b (t ∷ filter test ts) (filter test ts)) items) [
        | true ↦ λ yes. (e.0, e.1, e.2, tells_left_out test none ts e.1 e.3, e.4)
        | false ↦ λ no.
            subst (λ (w : List X). Tells tells (filter test ts) w)
            (sym (e.4 ∙ ap (λ (w : List X). w ++ e.1) (none t e.0 no e.2))) (tells_left_out test none ts e.1 e.3)
      ] refl

  pub tells_put_in :
      (test : T → Bool) → ((t : T) → test t ≡ false → tells t []) →
      (ts : List T) (items : List X) → Tells tells (filter test ts) items → Tells tells ts items
  tells_put_in test none [] items e = e
  tells_put_in test none (t ∷ ts) items e =
      elim (test t) as (λ b. test t ≡ b → Tells tells (cond b (t ∷ filter test ts) (filter test ts)) items → Tells tells (t ∷ ts) items) [
        | true ↦ λ yes told. (told.0, told.1, told.2, tells_put_in test none ts told.1 told.3, told.4)
        | false ↦ λ no told. ([], items, none t no, tells_put_in test none ts items told, refl)
      ] refl e

  pub tell_law : TellLaw tells
  tell_law = record {
    push = tells_push;
    one = tells_one;
    left_out = tells_left_out;
    put_in = tells_put_in;
  }

  -- what is picked out of the later history
  pub steps_tell : {Y : Type 0} → StepLaw tells Y
  steps_tell {Y} picked law old new [] e = ([], refl, ap picked e ∙ sym (append-nil (picked old)))
  steps_tell {Y} picked law old new (t ∷ ts) e =
      let rest = steps_tell {Y = Y} picked law (e.0 ++ old) new ts e.2 in (
        picked e.0 ++ rest.0,
        (picked e.0, rest.0, (e.0, e.1, refl), rest.1, refl),
        rest.2 ∙ (ap (λ (w : List Y). w ++ rest.0) (law e.0 old) ∙ append_assoc (picked old) (picked e.0) rest.0),
      )
