-- The turns of one owner in a history are those at the owner's places.
use Rattle.std.proofs.Common.{◌≡◌, ℕ, zero, suc, ◌+◌, ◌≤◌, ◌<◌, Bool, true, false, cond, eqb, List, [], ◌∷◌, ◌++◌, length, take, drop, filter, refl, sym, ap, ap₂, subst, ◌∙◌, arith, append_assoc, length-append}
use Rattle.std.proofs.lemmas.Bool.Decides.{nat_tests}
use Rattle.std.specs.List.{AllByRecursion}
use Rattle.hall_lock.specs.Places.{times, EachOnce}
use Rattle.hall_lock.proofs.Histories.{times-append, one_below-yes}
use Rattle.hall_lock.specs.Own.{turns_at, Rise}
use Rattle.hall_lock.specs.Sorting.{joint, OwnsFrom, SortedFrom}
use Rattle.hall_lock.specs.TurnLaws.{SortLaw}
use Rattle.hall_lock.proofs.Every.{every_back}
use Rattle.hall_lock.proofs.Counted.{one_if, times-yes, times-no, counted}
use Rattle.hall_lock.proofs.Owned.{rise_within, here, within}

none_then : (b : Bool) → 0 ≡ one_if b → b ≡ false
none_then true e = absurd (omega arith)
none_then false e = refl

some_then : (b : Bool) → 1 ≤ one_if b → b ≡ true
some_then true e = refl
some_then false e = absurd (omega arith)

none_of : (n : ℕ) → (1 ≤ n → ⊥) → n ≡ 0
none_of zero not = refl
none_of (suc n) not = absurd (not (omega arith))

-- a number below where the places begin stands nowhere
times-low : (ps : List ℕ) (low high x : ℕ) → Rise low ps high → x < low → times x ps ≡ 0
times-low [] low high x r lt = refl
times-low (p ∷ ps) low high x r lt =
    let other : eqb p x ≡ false = grind (arith, nat_tests, r.0, lt) in
    omega (arith, times-no x p ps other, times-low ps (p + 1) high x r.1 (omega (arith, r.0, lt)))

module _ {T : Type 0} where
  -- from `low` on, a place is in the list where its turn passes the test, once, and else is not
  abbrev pub Hits : (T → Bool) → List T → ℕ → List ℕ → Type 0
  Hits P h low ps = (x : ℕ) (t : T) → low ≤ x → take 1 (drop x h) ≡ t ∷ [] → times x ps ≡ one_if (P t)

  pub picks :
      (P : T → Bool) (h g k : List T) (n : ℕ) (ps : List ℕ) → h ≡ g ++ k → n ≡ length g →
      Rise n ps (length h) → Hits P h n ps → filter P k ≡ turns_at h ps
  picks P h g [] n [] e l r hits = refl
  picks P h g [] n (p ∷ ps) e l r hits =
      absurd (omega (arith, r.0, rise_within ps (p + 1) (length h) r.1, ap (λ (w : List T). length w) e ∙ length-append g [], l))
  picks P h g (t ∷ k) n [] e l r hits =
      let at : take 1 (drop n h) ≡ t ∷ [] = subst (λ (w : List T). take 1 (drop n w) ≡ t ∷ []) (sym e) (subst (λ (m : ℕ). take 1 (drop m (g ++ t ∷ k)) ≡ t ∷ []) (sym l) (here g k t)) in
      let no : P t ≡ false = none_then (P t) (hits n t (omega arith) at) in
      let e' : h ≡ (g ++ t ∷ []) ++ k = e ∙ sym (append_assoc g (t ∷ []) k) in
      let l' : n + 1 ≡ length (g ++ t ∷ []) = omega (arith, l, length-append g (t ∷ [])) in
      let r' : n + 1 ≤ length h = omega (arith, l, ap (λ (w : List T). length w) e ∙ length-append g (t ∷ k)) in
      ap (λ (b : Bool). cond b (t ∷ filter P k) (filter P k)) no
      ∙ picks P h (g ++ t ∷ []) k (n + 1) [] e' l' r' (λ x u le found. hits x u (omega (arith, le)) found)
  picks P h g (t ∷ k) n (p ∷ ps) e l r hits =
      let at : take 1 (drop n h) ≡ t ∷ [] = subst (λ (w : List T). take 1 (drop n w) ≡ t ∷ []) (sym e) (subst (λ (m : ℕ). take 1 (drop m (g ++ t ∷ k)) ≡ t ∷ []) (sym l) (here g k t)) in
      let e' : h ≡ (g ++ t ∷ []) ++ k = e ∙ sym (append_assoc g (t ∷ []) k) in
      let l' : n + 1 ≡ length (g ++ t ∷ []) = omega (arith, l, length-append g (t ∷ [])) in
      elim (eqb p n) as (λ b. eqb p n ≡ b → cond (P t) (t ∷ filter P k) (filter P k) ≡ turns_at h (p ∷ ps)) [
        | true ↦ λ same.
            let is : p ≡ n = grind (arith, nat_tests) in
            let once : times n (p ∷ ps) ≡ one_if (P t) = hits n t (omega arith) at in
            let yes : P t ≡ true = some_then (P t) (omega (arith, once, times-yes n p ps same)) in
            let rises : Rise (n + 1) ps (length h) = subst (λ (m : ℕ). Rise (m + 1) ps (length h)) is r.1 in
            let rest : filter P k ≡ turns_at h ps =
            picks P h (g ++ t ∷ []) k (n + 1) ps e' l' rises (λ x u le found.
            let other : eqb p x ≡ false = grind (arith, nat_tests, le, is) in
            sym (times-no x p ps other) ∙ hits x u (omega (arith, le)) found) in
            ap (λ (b : Bool). cond b (t ∷ filter P k) (filter P k)) yes
            ∙ ap₂ (λ (a b : List T). a ++ b) (sym (subst (λ (m : ℕ). take 1 (drop m h) ≡ t ∷ []) (sym is) at)) rest
        | false ↦ λ other.
            let above : n + 1 ≤ p = grind (arith, nat_tests, r.0) in
            let here_not : times n (p ∷ ps) ≡ 0 = times-low (p ∷ ps) (n + 1) (length h) n (above, r.1) (omega arith) in
            let no : P t ≡ false = none_then (P t) (sym here_not ∙ hits n t (omega arith) at) in
            ap (λ (b : Bool). cond b (t ∷ filter P k) (filter P k)) no
            ∙ picks P h (g ++ t ∷ []) k (n + 1) (p ∷ ps) e' l' (above, r.1) (λ x u le found. hits x u (omega (arith, le)) found)
      ] refl

  module _ (owner : T → ℕ) where
    -- who owns the turn at a place of the list
    owned_at : (h : List T) (w x : ℕ) (t : T) (ps : List ℕ) → AllByRecursion (λ u. owner u ≡ w) (turns_at h ps) → take 1 (drop x h) ≡ t ∷ [] → 1 ≤ times x ps → owner t ≡ w
    owned_at h w x t [] all at some = absurd (omega (arith, some))
    owned_at h w x t (p ∷ ps) all at some =
        elim (eqb p x) as (λ b. eqb p x ≡ b → owner t ≡ w) [
          | true ↦ λ same.
              let is : p ≡ x = grind (arith, nat_tests) in
              let found : take 1 (drop p h) ≡ t ∷ [] = subst (λ (m : ℕ). take 1 (drop m h) ≡ t ∷ []) (sym is) at in
              (subst (λ (a : List T). AllByRecursion (λ (u : T). owner u ≡ w) (a ++ turns_at h ps)) found all).0
          | false ↦ λ other.
              owned_at h w x t ps (every_back (λ (u : T). owner u ≡ w) (take 1 (drop p h)) (turns_at h ps) all) at (omega (arith, some, times-no x p ps other))
        ] refl

    -- a place of any of the lists is one of theirs
    pub owned_within :
        (h : List T) (w : ℕ) (pss : List (List ℕ)) → OwnsFrom owner h w pss → (x : ℕ) (t : T) →
        take 1 (drop x h) ≡ t ∷ [] → 1 ≤ times x (joint pss) → (w ≤ owner t) × (owner t < w + length pss)
    owned_within h w [] owns x t at some = absurd (omega (arith, some))
    owned_within h w (ps ∷ pss) owns x t at some =
        elim (times x ps) as (λ n. times x ps ≡ n → (w ≤ owner t) × (owner t < w + length (ps ∷ pss))) [
          | zero ↦ λ none.
              let rest = owned_within h (w + 1) pss owns.2 x t at (omega (arith, some, none, times-append x ps (joint pss))) in
              (omega (arith, rest.0), omega (arith, rest.1))
          | suc n ↦ λ more.
              let is : owner t ≡ w = owned_at h w x t ps owns.1 at (omega (arith, more)) in
              (omega (arith, is), omega (arith, is))
        ] refl

    hits_own :
        (h : List T) (bs : List ℕ) (w : ℕ) (ps : List ℕ) (pss : List (List ℕ)) →
        ((x : ℕ) (t : T) → take 1 (drop x h) ≡ t ∷ [] → 1 ≤ times x bs → owner t < w) →
        OwnsFrom owner h w (ps ∷ pss) → EachOnce (length h) (bs ++ (ps ++ joint pss)) →
        Hits (λ t. eqb (owner t) w) h 0 ps
    hits_own h bs w ps pss before owns once x t le at =
        let all : times x bs + (times x ps + times x (joint pss)) ≡ 1 =
        omega (arith, once x, one_below-yes (length h) x (within h x t at), times-append x bs (ps ++ joint pss), times-append x ps (joint pss)) in
        elim (eqb (owner t) w) as (λ b. eqb (owner t) w ≡ b → times x ps ≡ one_if b) [
          | true ↦ λ same.
              let is : owner t ≡ w = grind (arith, nat_tests) in
              let front : times x bs ≡ 0 = none_of (times x bs) (λ some. omega (arith, before x t at some, is)) in
              let back : times x (joint pss) ≡ 0 = none_of (times x (joint pss)) (λ some. omega (arith, (owned_within h (w + 1) pss owns.2 x t at some).0, is)) in
              omega (arith, all, front, back)
          | false ↦ λ other.
              let apart : owner t ≡ w → ⊥ = λ e. grind (arith, nat_tests) in
              none_of (times x ps) (λ some. apart (owned_at h w x t ps owns.1 at some))
        ] refl

    pub sorts :
        (h : List T) (bs : List ℕ) (w : ℕ) (pss : List (List ℕ)) →
        ((x : ℕ) (t : T) → take 1 (drop x h) ≡ t ∷ [] → 1 ≤ times x bs → owner t < w) →
        OwnsFrom owner h w pss → EachOnce (length h) (bs ++ joint pss) → SortedFrom owner h w pss
    sorts h bs w [] before owns once = tt
    sorts h bs w (ps ∷ pss) before owns once = (
      picks (λ (t : T). eqb (owner t) w) h [] h 0 ps refl refl owns.0 (hits_own h bs w ps pss before owns once),
      sorts h (bs ++ ps) (w + 1) pss
          (λ x t at some.
          elim (times x bs) as (λ n. times x bs ≡ n → owner t < w + 1) [
            | zero ↦ λ none. omega (arith, owned_at h w x t ps owns.1 at (omega (arith, some, none, times-append x bs ps)))
            | suc n ↦ λ more. omega (arith, before x t at (omega (arith, more)))
          ] refl)
          owns.2
          (subst (λ (ws : List ℕ). EachOnce (length h) ws) (sym (append_assoc bs ps (joint pss))) once),
    )

pub sort_law : {T : Type 0} → SortLaw T
sort_law = record {
  sorted = λ owner history placess owns once. sorts owner history [] 0 placess (λ x t at some. absurd (omega (arith, some))) owns once;
  counted = counted;
}
