-- Turns at places: those that were there stay where the history grows, and one more stands at its end.
use Rattle.std.proofs.Common.{◌≡◌, ℕ, zero, suc, ◌+◌, ◌≤◌, ◌<◌, List, [], ◌∷◌, ◌++◌, length, take, drop, refl, sym, ap, ap₂, subst, ◌∙◌, arith, append_assoc, append-nil, length-append}
use mathlib.Core.List.{IsPrefix}
use Rattle.hall_lock.specs.Own.{turns_at, Rise}

pub rise_within : (ps : List ℕ) (low high : ℕ) → Rise low ps high → low ≤ high
rise_within [] low high r = r
rise_within (p ∷ ps) low high r = omega (arith, r.0, rise_within ps (p + 1) high r.1)

pub rise_longer : (ps : List ℕ) (low high more : ℕ) → Rise low ps high → high ≤ more → Rise low ps more
rise_longer [] low high more r le = omega (arith, r)
rise_longer (p ∷ ps) low high more r le = (r.0, rise_longer ps (p + 1) high more r.1 le)

pub rise_push : (ps : List ℕ) (low high : ℕ) → Rise low ps high → Rise low (ps ++ high ∷ []) (high + 1)
rise_push [] low high r = (r, omega arith)
rise_push (p ∷ ps) low high r = (r.0, rise_push ps (p + 1) high r.1)

module _ {T : Type 0} where
  one_stays : (h k : List T) (p : ℕ) → p < length h → take 1 (drop p (h ++ k)) ≡ take 1 (drop p h)
  one_stays [] k p lt = absurd (omega arith)
  one_stays (x ∷ xs) k zero lt = refl
  one_stays (x ∷ xs) k (suc p) lt = one_stays xs k p (omega arith)

  -- the turns at places that were there stay
  pub turns_stay : (h k : List T) (ps : List ℕ) (low : ℕ) → Rise low ps (length h) → turns_at (h ++ k) ps ≡ turns_at h ps
  turns_stay h k [] low r = refl
  turns_stay h k (p ∷ ps) low r =
      let lt : p < length h = omega (arith, rise_within ps (p + 1) (length h) r.1) in
      ap₂ (λ (a b : List T). a ++ b) (one_stays h k p lt) (turns_stay h k ps (p + 1) r.1)

  pub turns_at-append : (h : List T) (ps qs : List ℕ) → turns_at h (ps ++ qs) ≡ turns_at h ps ++ turns_at h qs
  turns_at-append h [] qs = refl
  turns_at-append h (p ∷ ps) qs =
      ap (λ (a : List T). take 1 (drop p h) ++ a) (turns_at-append h ps qs)
      ∙ sym (append_assoc (take 1 (drop p h)) (turns_at h ps) (turns_at h qs))

  -- the turn that stands behind these
  pub here : (h k : List T) (t : T) → take 1 (drop (length h) (h ++ t ∷ k)) ≡ t ∷ []
  here [] k t = refl
  here (x ∷ xs) k t = here xs k t

  -- a turn that stands somewhere stands within
  pub within : (h : List T) (x : ℕ) (t : T) → take 1 (drop x h) ≡ t ∷ [] → x < length h
  within [] zero t e = absurd (cc e)
  within [] (suc x) t e = absurd (cc e)
  within (y ∷ ys) zero t e = omega arith
  within (y ∷ ys) (suc x) t e = omega (arith, within ys x t e)

  one_long : (h : List T) (p : ℕ) → p < length h → length (take 1 (drop p h)) ≡ 1
  one_long [] p lt = absurd (omega arith)
  one_long (x ∷ xs) zero lt = refl
  one_long (x ∷ xs) (suc p) lt = one_long xs p (omega arith)

  -- there is a turn at each place
  pub length-turns_at : (h : List T) (ps : List ℕ) (low : ℕ) → Rise low ps (length h) → length (turns_at h ps) ≡ length ps
  length-turns_at h [] low r = refl
  length-turns_at h (p ∷ ps) low r =
      let lt : p < length h = omega (arith, rise_within ps (p + 1) (length h) r.1) in
      omega (arith, length-append (take 1 (drop p h)) (turns_at h ps), one_long h p lt, length-turns_at h ps (p + 1) r.1)

  -- a turn is made behind all that were seen
  pub made_more :
      (seen before new : List T) (mine mine' : List ℕ) (t : T) → Rise 0 mine (length seen) →
      IsPrefix seen before → new ≡ before ++ t ∷ [] → mine' ≡ mine ++ length before ∷ [] →
      turns_at new mine' ≡ turns_at seen mine ++ t ∷ []
  made_more seen before new mine mine' t r begins ends place =
      let longer : Rise 0 mine (length before) = rise_longer mine 0 (length seen) (length before) r (omega (arith, sym (ap (λ (w : List T). length w) begins.1) ∙ length-append seen begins.0)) in
      let stay : turns_at (before ++ t ∷ []) mine ≡ turns_at seen mine =
      turns_stay before (t ∷ []) mine 0 longer ∙ (subst (λ (w : List T). turns_at w mine ≡ turns_at seen mine) begins.1 (turns_stay seen begins.0 mine 0 r)) in
      ap₂ (λ (w : List T) (ps : List ℕ). turns_at w ps) ends place
      ∙ (turns_at-append (before ++ t ∷ []) mine (length before ∷ [])
      ∙ ap₂ (λ (a b : List T). a ++ b) stay (append-nil (take 1 (drop (length before) (before ++ t ∷ []))) ∙ here before [] t))

  pub rise_more :
      (seen before new : List T) (mine mine' : List ℕ) (t : T) → Rise 0 mine (length seen) →
      IsPrefix seen before → new ≡ before ++ t ∷ [] → mine' ≡ mine ++ length before ∷ [] →
      Rise 0 mine' (length new)
  rise_more seen before new mine mine' t r begins ends place =
      let longer : Rise 0 mine (length before) = rise_longer mine 0 (length seen) (length before) r (omega (arith, sym (ap (λ (w : List T). length w) begins.1) ∙ length-append seen begins.0)) in
      let more : Rise 0 (mine ++ length before ∷ []) (length before + 1) = rise_push mine 0 (length before) longer in
      let long : length before + 1 ≡ length new = omega (arith, ap (λ (w : List T). length w) ends ∙ length-append before (t ∷ [])) in
      subst (λ (ps : List ℕ). Rise 0 ps (length new)) (sym place) (subst (λ (n : ℕ). Rise 0 (mine ++ length before ∷ []) n) long more)
