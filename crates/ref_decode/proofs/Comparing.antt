-- Two walks from one place: one goes on where the other ends.
use Rattle.std.proofs.Common.{◌≡◌, ℕ, List, [], ◌∷◌, ◌++◌, refl, sym, ◌∙◌, ap, subst, ◌⊎◌, inl, inr, append-nil}
use Rattle.pel_model.specs.declared.Why.{Why}
use Rattle.pel_model.specs.Walk.{Reading, Standing, Good, Bad, skipped, after, Goes}
use Rattle.pel_model.proofs.Walks.{good_same}

good_bad : {E : Type 0} (s : Standing E) (e : E) (n : ℕ) (why : Why) → s ≡ Bad why → s ≡ Good e n → ⊥
good_bad s e n why bad good = cc

module _ {E : Type 0} (next : List E → Reading → Standing E) where
  -- the walk of xs up to `end`, and that of ys up to `mid`
  pub record GoesOn (before : List E) (xs ys : List E) (end mid : Reading) : Type 0 where
    pub more : List E
    pub is : ys ≡ xs ++ more
    pub walk : Goes next (after before xs) end more mid

  longer : (before : List E) (x : E) (xs ys : List E) (end mid : Reading) → GoesOn (x ∷ before) xs ys end mid → GoesOn before (x ∷ xs) (x ∷ ys) end mid
  longer before x xs ys end mid on = record { more = on.more; is = ap (λ t. x ∷ t) on.is; walk = on.walk }

  pub compared : (before : List E) (r end mid : Reading) (xs ys : List E) → Goes next before r xs end → Goes next before r ys mid → GoesOn before xs ys end mid ⊎ GoesOn before ys xs mid end
  compared before r end mid [] ys p q = inl (record { more = ys; is = refl; walk = subst (λ (k : Reading). Goes next before k ys mid) (sym p) q })
  compared before r end mid (x ∷ xs) [] p q = inr (record { more = x ∷ xs; is = refl; walk = subst (λ (k : Reading). Goes next before k (x ∷ xs) end) (sym q) p })
  compared before r end mid (x ∷ xs) (y ∷ ys) p q =
      let s = good_same x y p.0 q.0 (sym p.1 ∙ q.1) in
      let rest = subst (λ (k : ℕ). Goes next (x ∷ before) (skipped k r) ys mid) (sym s.1) (subst (λ (e : E). Goes next (e ∷ before) (skipped q.0 r) ys mid) (sym s.0) q.2) in
      elim (compared (x ∷ before) (skipped p.0 r) end mid xs ys p.2 rest) [
        | inl on ↦ inl (subst (λ (e : E). GoesOn before (x ∷ xs) (e ∷ ys) end mid) s.0 (longer before x xs ys end mid on))
        | inr on ↦ inr (subst (λ (e : E). GoesOn before (e ∷ ys) (x ∷ xs) mid end) s.0 (longer before x ys xs mid end on))
      ]

  none_more : (before : List E) (end mid : Reading) (xs ys : List E) (why : Why) (more : List E) → ys ≡ xs ++ more → Goes next (after before xs) end more mid → next (after before xs) end ≡ Bad why → ys ≡ xs
  none_more before end mid xs ys why [] is walk bad = is ∙ append-nil xs
  none_more before end mid xs ys why (z ∷ zs) is walk bad = absurd (good_bad (next (after before xs) end) z walk.0 why bad walk.1)

  -- a walk that goes on does not do so at a fault
  pub none_at_fault : (before : List E) (end mid : Reading) (xs ys : List E) (why : Why) → GoesOn before xs ys end mid → next (after before xs) end ≡ Bad why → ys ≡ xs
  none_at_fault before end mid xs ys why on bad = none_more before end mid xs ys why on.more on.is on.walk bad
