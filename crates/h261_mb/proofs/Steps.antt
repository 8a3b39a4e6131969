-- Walks of several parts, to their end or to a fault.
use Rattle.std.proofs.Common.{◌≡◌, ℕ, ◌≤◌, List, [], ◌∷◌, ◌++◌, Result, Ok, Err, sym, ◌∙◌, subst, ap, arith}
use Rattle.pel_model.specs.declared.Fault.{Fault}
use Rattle.pel_model.specs.declared.Why.{Why}
use Rattle.pel_model.specs.Walk.{Reading, Standing, Good, Bad, skipped, after, Goes, FailsBehind, Walked}
use Rattle.pel_model.specs.Grammar.{Element, Mba, Stuffing}
use Rattle.h261_mb.specs.State.{FailsThere}
use Rattle.pel_model.proofs.Walks.{goes-append, after-append}

module _ (next : List Element → Reading → Standing Element) (before : List Element) where
  -- an element, and a walk behind it
  pub goes_first : (r mid end : Reading) (e : Element) (n : ℕ) (es : List Element) → next before r ≡ Good e n → mid ≡ skipped n r → Goes next (e ∷ before) mid es end → Goes next before r (e ∷ es) end
  goes_first r mid end e n es is moved rest = (n, is, subst (λ (m : Reading). Goes next (e ∷ before) m es end) moved rest)

  -- what was wanted says something else
  pub walked_as : {X : Type 0} (AreWanted AreTold : X → List Element → Reading → Type 0) (ArePart : List Element → Type 0) (result : Result X Fault) (old new : Reading) → ((x : X) (es : List Element) → AreWanted x es new → AreTold x es new) → Walked next before AreWanted ArePart result old new → Walked next before AreTold ArePart result old new
  walked_as AreWanted AreTold ArePart (Ok x) old new says walk = record { elements = walk.elements; walk = walk.walk; wanted = says x walk.elements walk.wanted }
  walked_as AreWanted AreTold ArePart (Err f) old new says walk = walk

  -- an element at fault behind a walk; the reader stayed there
  pub fails_here : (ArePart : List Element → Type 0) (old mid new : Reading) (es : List Element) (f : Fault) → Goes next before old es mid → ArePart es → next (after before es) mid ≡ Bad f.why → f.place ≡ mid.1 → new ≡ mid → FailsBehind next before ArePart f old new
  fails_here ArePart old mid new es f walk part bad at stayed =
      subst (λ (end : Reading). FailsBehind next before ArePart f old end) (sym stayed) (record { elements = es; walk = walk; part = part; bad = bad; place = at })

  -- behind a walk, one that meets an element at fault
  pub fails_later : (ArePart : List Element → Type 0) (r mid end : Reading) (es : List Element) (f : Fault) {Rest : List Element → Type 0} → Goes next before r es mid → (later : FailsBehind next (after before es) Rest f mid end) → ArePart (es ++ later.elements) → FailsBehind next before ArePart f r end
  fails_later ArePart r mid end es f here later part = record {
    elements = es ++ later.elements;
    walk = goes-append next before r mid end es later.elements here later.walk;
    part = part;
    bad = ap (λ (b : List Element). next b end) (after-append before es later.elements) ∙ later.bad;
    place = later.place;
  }

-- a walk does not go back
pub goes_onward : (next : List Element → Reading → Standing Element) (before : List Element) (r end : Reading) (es : List Element) → Goes next before r es end → r.1 ≤ end.1
goes_onward next before r end [] walk = omega (arith, ap (λ (r : Reading). r.1) walk)
goes_onward next before r end (e ∷ es) walk =
    omega (arith, goes_onward next (e ∷ before) (skipped walk.0 r) end es walk.2)

-- what was taken did not fail
pub not_there : {X : Type 0} (x : X) (f : Fault) → ◌≡◌ {A = Result X Fault} (Ok x) (Err f) → ⊥
not_there x f is = cc

same_fault : {X : Type 0} (f g : Fault) → ◌≡◌ {A = Result X Fault} (Err f) (Err g) → f ≡ g
same_fault f g is = cc

-- a fault that was met first is that of the whole
pub still_fails : {X Y : Type 0} (why : Why) (f : Fault) (old new : Reading) → FailsThere {X = X} why (Err f) old new → FailsThere {X = Y} why (Err f) old new
still_fails why f old new told = (ap Err (same_fault f _ told.0), told.1)

-- where a word stands, none other does, nor a fault
pub not_bad : (why : Why) (e : Element) (n : ℕ) (here : Standing Element) → here ≡ Good e n → here ≡ Bad why → ⊥
not_bad why e n here good bad = clash (sym bad ∙ good)
  where
    clash : Bad why ≡ Good e n → ⊥
    clash h = cc

pub not_stuffing : (d m n : ℕ) (here : Standing Element) → here ≡ Good (Mba d) n → here ≡ Good Stuffing m → ⊥
not_stuffing d m n here good stuffing = clash (sym stuffing ∙ good)
  where
    clash : Good Stuffing m ≡ Good (Mba d) n → ⊥
    clash h = cc
