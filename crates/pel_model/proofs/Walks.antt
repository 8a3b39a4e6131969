-- Laws of walks, for every grammar.
use Rattle.std.proofs.Common.{◌≡◌, ℕ, ◌+◌, Bool, List, [], ◌∷◌, ◌++◌, drop, Err, refl, sym, ◌∙◌, ap, subst, add_assoc}
use Rattle.std.proofs.lemmas.List.{drop-drop}
use Rattle.pel_model.specs.declared.Fault.{Fault}
use Rattle.pel_model.specs.declared.Why.{Why}
use Rattle.pel_model.specs.Walk.{Reading, Standing, Good, Stop, Bad, skipped, start, after, Goes, FirstFault, Reads, HasOneAnswer, Walked}

pub after-append : {E : Type 0} (before xs ys : List E) → after before (xs ++ ys) ≡ after (after before xs) ys
after-append before [] ys = refl
after-append before (x ∷ xs) ys = after-append (x ∷ before) xs ys

-- a reading moved twice is one moved once
pub skipped-skipped : (m n : ℕ) (r : Reading) → skipped m (skipped n r) ≡ skipped (n + m) r
skipped-skipped m n r = ap (λ (bs : List Bool). (bs, r.1 + n + m)) (drop-drop m n r.0) ∙ ap (λ (k : ℕ). (drop (n + m) r.0, k)) (add_assoc r.1 n m)

pub good_same : {E : Type 0} (x y : E) (n m : ℕ) → Good x n ≡ Good y m → (x ≡ y) × (n ≡ m)
good_same x y n m same = (cc, cc)

good_not_stop : {E : Type 0} (s : Standing E) (e : E) (n : ℕ) → s ≡ Stop → s ≡ Good e n → ⊥
good_not_stop s e n stop good = cc

good_not_bad : {E : Type 0} (s : Standing E) (e : E) (n : ℕ) (why : Why) → s ≡ Bad why → s ≡ Good e n → ⊥
good_not_bad s e n why bad good = cc

bad_same : {E : Type 0} (why other : Why) → ◌≡◌ {A = Standing E} (Bad why) (Bad other) → why ≡ other
bad_same why other same = cc

stop_not_bad : {E : Type 0} (s : Standing E) (why : Why) → s ≡ Stop → s ≡ Bad why → ⊥
stop_not_bad s why stop bad = cc

module _ {E : Type 0} (next : List E → Reading → Standing E) where
  -- two walks, one behind the other
  pub goes-append : (before : List E) (r mid end : Reading) (xs ys : List E) → Goes next before r xs mid → Goes next (after before xs) mid ys end → Goes next before r (xs ++ ys) end
  goes-append before r mid end [] ys here there = subst (λ (m : Reading). Goes next before m ys end) here there
  goes-append before r mid end (x ∷ xs) ys here there =
      (here.0, here.1, goes-append (x ∷ before) (skipped here.0 r) mid end xs ys here.2 there)

  -- a walk of one element
  pub goes_one : (before : List E) (r : Reading) (e : E) (n : ℕ) → next before r ≡ Good e n → Goes next before r (e ∷ []) (skipped n r)
  goes_one before r e n step = (n, step, refl)

  -- one more element at the end of a walk
  pub goes_more : (before : List E) (r mid : Reading) (es : List E) (e : E) (n : ℕ) → Goes next before r es mid → next (after before es) mid ≡ Good e n → Goes next before r (es ++ e ∷ []) (skipped n mid)
  goes_more before r mid es e n here step =
      goes-append before r mid (skipped n mid) es (e ∷ []) here (goes_one (after before es) mid e n step)

  -- two walks from one place to where neither goes on are one
  pub same_walk : (before : List E) (r end end' : Reading) (xs ys : List E) → Goes next before r xs end → Goes next before r ys end' → ((e : E) (n : ℕ) → next (after before xs) end ≡ Good e n → ⊥) → ((e : E) (n : ℕ) → next (after before ys) end' ≡ Good e n → ⊥) → (xs ≡ ys) × (end ≡ end')
  same_walk before r end end' [] [] p q stop stop' = (refl, p ∙ sym q)
  same_walk before r end end' [] (y ∷ ys) p q stop stop' =
      absurd (stop y q.0 (ap (next before) p ∙ q.1))
  same_walk before r end end' (x ∷ xs) [] p q stop stop' =
      absurd (stop' x p.0 (ap (next before) q ∙ p.1))
  same_walk before r end end' (x ∷ xs) (y ∷ ys) p q stop stop' =
      let s = good_same x y p.0 q.0 (sym p.1 ∙ q.1) in
      let rest = subst (λ (k : ℕ). Goes next (x ∷ before) (skipped k r) ys end') (sym s.1) (subst (λ (e : E). Goes next (e ∷ before) (skipped q.0 r) ys end') (sym s.0) q.2) in
      let no_more = subst (λ (h : E). (e : E) (n : ℕ) → next (after (h ∷ before) ys) end' ≡ Good e n → ⊥) (sym s.0) stop' in
      let same = same_walk (x ∷ before) (skipped p.0 r) end end' xs ys p.2 rest stop no_more in
      (ap (λ t. x ∷ t) same.0 ∙ ap (λ h. h ∷ ys) s.0, same.1)

  no_more_at_end : (before : List E) (end : Reading) → next before end ≡ Stop → (e : E) (n : ℕ) → next before end ≡ Good e n → ⊥
  no_more_at_end before end stop e n good = good_not_stop (next before end) e n stop good

  no_more_at_fault : (before : List E) (end : Reading) (why : Why) → next before end ≡ Bad why → (e : E) (n : ℕ) → next before end ≡ Good e n → ⊥
  no_more_at_fault before end why bad e n good = good_not_bad (next before end) e n why bad good

  -- a walk goes one way: what one reading takes is what another takes
  pub one_reading : (bits : List Bool) (xs ys : List E) → Reads next bits xs → Reads next bits ys → xs ≡ ys
  one_reading bits xs ys p q =
      (same_walk [] (start bits) p.end q.end xs ys p.walk q.walk (no_more_at_end (after [] xs) p.end p.stop) (no_more_at_end (after [] ys) q.end q.stop)).0

  -- what stands behind two walks that are one
  same_standing : (xs ys : List E) (end end' : Reading) → xs ≡ ys → end ≡ end' → next (after [] xs) end ≡ next (after [] ys) end'
  same_standing xs ys end end' es at = ap (λ (zs : List E). next (after [] zs) end) es ∙ ap (next (after [] ys)) at

  pub one_fault : (bits : List Bool) (p q : ℕ) (why other : Why) → FirstFault next bits p why → FirstFault next bits q other → (p ≡ q) × (why ≡ other)
  one_fault bits p q why other a b =
      let same = same_walk [] (start bits) a.end b.end a.elements b.elements a.walk b.walk (no_more_at_fault (after [] a.elements) a.end why a.bad) (no_more_at_fault (after [] b.elements) b.end other b.bad) in
      (a.place_is ∙ (ap (λ (r : Reading). r.1) same.1 ∙ sym b.place_is), bad_same why other (sym a.bad ∙ (same_standing a.elements b.elements a.end b.end same.0 same.1 ∙ b.bad)))

  pub not_both : (bits : List Bool) (es : List E) (place : ℕ) (why : Why) → Reads next bits es → FirstFault next bits place why → ⊥
  not_both bits es place why reads fault =
      let same = same_walk [] (start bits) reads.end fault.end es fault.elements reads.walk fault.walk (no_more_at_end (after [] es) reads.end reads.stop) (no_more_at_fault (after [] fault.elements) fault.end why fault.bad) in
      stop_not_bad (next (after [] es) reads.end) why reads.stop (same_standing es fault.elements reads.end fault.end same.0 same.1 ∙ fault.bad)

  pub one_answer : HasOneAnswer next
  one_answer = record { one_reading = one_reading; one_fault = one_fault; not_both = not_both }

  -- ---- what a caller does with what its callees answered

  module _ {X : Type 0} (before : List E) (AreWanted : X → List E → Reading → Type 0) (ArePart : List E → Type 0) (r mid : Reading) (es : List E) (here : Goes next before r es mid) where
    -- behind a walk, an element at fault
    pub bad_here : (why : Why) (place : ℕ) → ArePart es → next (after before es) mid ≡ Bad why → place ≡ mid.1 → Walked {X = X} next before AreWanted ArePart (Err (record { place = place; why = why })) r mid
    bad_here why place part bad at = record { elements = es; walk = here; part = part; bad = bad; place = at }

    -- behind a walk, one that meets an element at fault
    pub bad_later : (f : Fault) (end : Reading) (ys : List E) → Goes next (after before es) mid ys end → ArePart (es ++ ys) → next (after (after before es) ys) end ≡ Bad f.why → f.place ≡ end.1 → Walked {X = X} next before AreWanted ArePart (Err f) r end
    bad_later f end ys there part bad at = record {
      elements = es ++ ys;
      walk = goes-append before r mid end es ys here there;
      part = part;
      bad = subst (λ (b : List E). next b end ≡ Bad f.why) (sym (after-append before es ys)) bad;
      place = at;
    }
