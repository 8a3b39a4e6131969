-- Rising serials, and what the last eight of them are.
use Rattle.std.proofs.Common.{◌≡◌, ℕ, zero, suc, ◌+◌, ◌-◌, ◌<◌, ◌≤◌, nat_le, Bool, true, false, cond, Option, Some, None, List, [], ◌∷◌, ◌++◌, length, filter, find, drop, All, refl, sym, ap, ap₂, subst, ◌∙◌, arith, length-append}
use Rattle.std.specs.List.{after_first}
use Rattle.std.proofs.lemmas.Bool.Decides.{nat_tests}
use Rattle.std.proofs.lemmas.List.Elements.{filter-append, All-cons}
use Rattle.circular_buffer.specs.Buffer.{Buffer, buffer}
use Rattle.pel_model.specs.declared.held.Held.{Held}
use Rattle.pel_model.specs.Lanes.{Arrival, Received, Missing, RiseAbove, last_of, with_serials, is_above, held_above, may_follow, low_by, low_after}
use Rattle.lane_ring.specs.Arrivals.{PostLaw, GapLaw, AboveLaw, TickLaw, SerialLaw, HasArrivals}
use Rattle.lane_ring.specs.Ring.{LaneView}
use Rattle.lane_ring.specs.Taking.{serials_of}
use Rattle.lane_ring.proofs.Draining.{after_first-no, after_first-yes}

module _ {X : Type 0} where
  pub last_of-short : (k : ℕ) (xs : List X) → length xs ≤ k → last_of k xs ≡ xs
  last_of-short k xs short = let none : length xs - k ≡ 0 = omega arith in ap (λ n. drop n xs) none

  pub last_of-cons : (k : ℕ) (x : X) (xs : List X) → k ≤ length xs → last_of k (x ∷ xs) ≡ last_of k xs
  last_of-cons k x xs long =
      let more : length (x ∷ xs) - k ≡ suc (length xs - k) = omega arith in ap (λ n. drop n (x ∷ xs)) more

  pub last_of-append : (k : ℕ) (xs : List X) (x : X) → last_of k (xs ++ x ∷ []) ≡ last_of k (last_of k xs ++ x ∷ [])
  last_of-append k [] x = ap (λ zs. last_of k (zs ++ x ∷ [])) (sym (last_of-short k [] (omega arith)))
  last_of-append k (y ∷ ys) x =
      elim (nat_le (length (y ∷ ys)) k) as (λ v. nat_le (length (y ∷ ys)) k ≡ v →
      last_of k ((y ∷ ys) ++ x ∷ []) ≡ last_of k (last_of k (y ∷ ys) ++ x ∷ [])) [
        | true ↦ λ e.
            let short : length (y ∷ ys) ≤ k = grind (arith, nat_tests) in
            ap (λ zs. last_of k (zs ++ x ∷ [])) (sym (last_of-short k (y ∷ ys) short))
        | false ↦ λ e.
            let long : k ≤ length ys = grind (arith, nat_tests) in
            last_of-cons k y (ys ++ x ∷ []) (omega (arith, length-append ys (x ∷ [])))
            ∙ last_of-append k ys x
            ∙ ap (λ zs. last_of k (zs ++ x ∷ [])) (sym (last_of-cons k y ys long))
      ] refl

module _ {T : Type 0} where
  -- the serials rise, and all are above lo
  abbrev pub Rises : ℕ → List (Held T) → Type 0
  Rises lo [] = Unit {0}
  Rises lo (h ∷ hs) = (lo < h.serial) × Rises h.serial hs

  -- no serial is above m
  abbrev pub AtMost : ℕ → List (Held T) → Type 0
  AtMost m [] = Unit {0}
  AtMost m (h ∷ hs) = (h.serial ≤ m) × AtMost m hs

  rises-lower : (lo lo' : ℕ) (xs : List (Held T)) → lo ≤ lo' → Rises lo' xs → Rises lo xs
  rises-lower lo lo' [] under r = tt
  rises-lower lo lo' (x ∷ xs) under r = (omega (arith, r.0), r.1)

  pub rises-with_serials : (lo n : ℕ) (es : List (Arrival T)) → lo < n → Rises lo (with_serials n es)
  rises-with_serials lo n [] under = tt
  rises-with_serials lo n (Received refresh x ∷ es) under = (under, rises-with_serials n (n + 1) es (omega arith))
  rises-with_serials lo n (Missing ∷ es) under = rises-with_serials lo (n + 1) es (omega arith)

  rises-filter : (p : Held T → Bool) (lo : ℕ) (xs : List (Held T)) → Rises lo xs → Rises lo (filter p xs)
  rises-filter p lo [] r = tt
  rises-filter p lo (x ∷ xs) r =
      elim (p x) as (λ v. Rises lo (cond v (x ∷ filter p xs) (filter p xs))) [
        | true ↦ (r.0, rises-filter p x.serial xs r.1)
        | false ↦ rises-lower lo x.serial (filter p xs) (omega (arith, r.0)) (rises-filter p x.serial xs r.1)
      ]

  -- what is above low rises from low on
  rises-above : (low lo : ℕ) (xs : List (Held T)) → Rises lo xs → Rises low (filter (is_above low) xs)
  rises-above low lo [] r = tt
  rises-above low lo (x ∷ xs) r =
      elim (is_above low x) as (λ v. is_above low x ≡ v → Rises low (cond v (x ∷ filter (is_above low) xs) (filter (is_above low) xs))) [
        | true ↦ λ e. (grind (arith, nat_tests), rises-filter (is_above low) x.serial xs r.1)
        | false ↦ λ e. rises-above low x.serial xs r.1
      ] refl

  rises-drop : (n lo : ℕ) (xs : List (Held T)) → Rises lo xs → Rises lo (drop n xs)
  rises-drop zero lo xs r = r
  rises-drop (suc n) lo [] r = tt
  rises-drop (suc n) lo (x ∷ xs) r =
      rises-lower lo x.serial (drop n xs) (omega (arith, r.0)) (rises-drop n x.serial xs r.1)

  pub rises-held : (low : ℕ) (es : List (Arrival T)) → Rises low (held_above low es)
  rises-held low es = rises-drop _ low _ (rises-above low 0 (with_serials 1 es) (rises-with_serials 0 1 es (omega arith)))

  at_most-with_serials : (m n : ℕ) (es : List (Arrival T)) → n + length es ≤ m + 1 → AtMost m (with_serials n es)
  at_most-with_serials m n [] within = tt
  at_most-with_serials m n (Received refresh x ∷ es) within = (omega arith, at_most-with_serials m (n + 1) es (omega arith))
  at_most-with_serials m n (Missing ∷ es) within = at_most-with_serials m (n + 1) es (omega arith)

  at_most-filter : (p : Held T → Bool) (m : ℕ) (xs : List (Held T)) → AtMost m xs → AtMost m (filter p xs)
  at_most-filter p m [] h = tt
  at_most-filter p m (x ∷ xs) h =
      elim (p x) as (λ v. AtMost m (cond v (x ∷ filter p xs) (filter p xs))) [
        | true ↦ (h.0, at_most-filter p m xs h.1)
        | false ↦ at_most-filter p m xs h.1
      ]

  at_most-drop : (n m : ℕ) (xs : List (Held T)) → AtMost m xs → AtMost m (drop n xs)
  at_most-drop zero m xs h = h
  at_most-drop (suc n) m [] h = tt
  at_most-drop (suc n) m (x ∷ xs) h = at_most-drop n m xs h.1

  pub at_most-held : (low : ℕ) (es : List (Arrival T)) → AtMost (length es) (held_above low es)
  at_most-held low es =
      at_most-drop _ (length es) _ (at_most-filter (is_above low) (length es) (with_serials 1 es) (at_most-with_serials (length es) 1 es (omega arith)))

  -- a list that rises from n on is all above n
  above-all : (n lo : ℕ) (xs : List (Held T)) → n ≤ lo → Rises lo xs → filter (is_above n) xs ≡ xs
  above-all n lo [] under r = refl
  above-all n lo (x ∷ xs) under r =
      let above : is_above n x ≡ true = grind (arith, nat_tests, r.0) in
      rw above (ap (λ ys. x ∷ ys) (above-all n x.serial xs (omega (arith, r.0)) r.1))

  above-above : (low high : ℕ) (xs : List (Held T)) → low ≤ high → filter (is_above high) (filter (is_above low) xs) ≡ filter (is_above high) xs
  above-above low high [] under = refl
  above-above low high (x ∷ xs) under =
      elim (is_above low x) as (λ v. is_above low x ≡ v →
      filter (is_above high) (cond v (x ∷ filter (is_above low) xs) (filter (is_above low) xs)) ≡ cond (is_above high x) (x ∷ filter (is_above high) xs) (filter (is_above high) xs)) [
        | true ↦ λ e. ap (λ ys. cond (is_above high x) (x ∷ ys) ys) (above-above low high xs under)
        | false ↦ λ e.
            let under_high : is_above high x ≡ false = grind (arith, nat_tests) in
            rw under_high (above-above low high xs under)
      ] refl

  length-filter-le : (p : Held T → Bool) (xs : List (Held T)) → length (filter p xs) ≤ length xs
  length-filter-le p [] = omega arith
  length-filter-le p (x ∷ xs) =
      elim (p x) as (λ v. length (cond v (x ∷ filter p xs) (filter p xs)) ≤ length (x ∷ xs)) [
        | true ↦ omega (arith, length-filter-le p xs)
        | false ↦ omega (arith, length-filter-le p xs)
      ]

  -- the first of a list of more than k matters not for the last k
  kept_first : (k n : ℕ) (x : Held T) (xs : List (Held T)) → Rises x.serial xs → k ≤ length xs →
      last_of k (filter (is_above n) xs) ≡ last_of k (filter (is_above n) (x ∷ xs))
  kept_first k n x xs r long =
      elim (is_above n x) as (λ v. is_above n x ≡ v → last_of k (filter (is_above n) xs) ≡ last_of k (cond v (x ∷ filter (is_above n) xs) (filter (is_above n) xs))) [
        | true ↦ λ e.
            let all = above-all n x.serial xs (grind (arith, nat_tests)) r in
            let long' : k ≤ length (filter (is_above n) xs) = omega (arith, ap length all) in
            sym (last_of-cons k x (filter (is_above n) xs) long')
        | false ↦ λ e. refl
      ] refl

  -- the last ones above n are those above n of the last ones
  above-last_of : (k n lo : ℕ) (xs : List (Held T)) → Rises lo xs → filter (is_above n) (last_of k xs) ≡ last_of k (filter (is_above n) xs)
  above-last_of k n lo [] r =
      let nothing : last_of k [] ≡ [] = last_of-short k [] (omega arith) in ap (filter (is_above n)) nothing ∙ sym nothing
  above-last_of k n lo (x ∷ xs) r =
      elim (nat_le (length (x ∷ xs)) k) as (λ v. nat_le (length (x ∷ xs)) k ≡ v →
      filter (is_above n) (last_of k (x ∷ xs)) ≡ last_of k (filter (is_above n) (x ∷ xs))) [
        | true ↦ λ e.
            let short : length (x ∷ xs) ≤ k = grind (arith, nat_tests) in
            ap (filter (is_above n)) (last_of-short k (x ∷ xs) short)
            ∙ sym (last_of-short k (filter (is_above n) (x ∷ xs)) (omega (arith, length-filter-le (is_above n) (x ∷ xs))))
        | false ↦ λ e.
            let long : k ≤ length xs = grind (arith, nat_tests) in
            ap (filter (is_above n)) (last_of-cons k x xs long)
            ∙ above-last_of k n x.serial xs r.1
            ∙ kept_first k n x xs r.1 long
      ] refl

  pub above_law : AboveLaw T
  above_law low high es under =
      ap (last_of 8) (sym (above-above low high (with_serials 1 es) under))
      ∙ sym (above-last_of 8 high low (filter (is_above low) (with_serials 1 es)) (rises-above low 0 (with_serials 1 es) (rises-with_serials 0 1 es (omega arith))))

  with_serials-missed : (n : ℕ) (es : List (Arrival T)) → with_serials n (es ++ Missing ∷ []) ≡ with_serials n es
  with_serials-missed n [] = refl
  with_serials-missed n (Received refresh x ∷ es) = ap (λ hs. record { serial = n; refresh = refresh; item = x } ∷ hs) (with_serials-missed (n + 1) es)
  with_serials-missed n (Missing ∷ es) = with_serials-missed (n + 1) es

  pub gap_law : GapLaw T
  gap_law low es = ap (λ hs. last_of 8 (filter (is_above low) hs)) (with_serials-missed 1 es)

  one_held : ℕ → Bool → T → Held T
  one_held n refresh x = record { serial = n; refresh = refresh; item = x }

  with_serials-posted : (n m : ℕ) (es : List (Arrival T)) (refresh : Bool) (x : T) → n + length es ≡ m →
      with_serials n (es ++ Received refresh x ∷ []) ≡ with_serials n es ++ one_held m refresh x ∷ []
  unfolding one_held
  with_serials-posted n m [] refresh x e = ap (λ k. one_held k refresh x ∷ []) (omega arith)
  with_serials-posted n m (Received other y ∷ es) refresh x e =
      ap (λ hs. one_held n other y ∷ hs) (with_serials-posted (n + 1) m es refresh x (omega arith))
  with_serials-posted n m (Missing ∷ es) refresh x e = with_serials-posted (n + 1) m es refresh x (omega arith)

  pub post_law : PostLaw T
  unfolding one_held
  post_law low es refresh x known =
      let new = one_held (length es + 1) refresh x in
      let above : is_above low new ≡ true = grind (arith, nat_tests) in
      ap (λ hs. last_of 8 (filter (is_above low) hs)) (with_serials-posted 1 (length es + 1) es refresh x (omega arith))
      ∙ ap (last_of 8) (filter-append (is_above low) (with_serials 1 es) (new ∷ []))
      ∙ ap (λ b. last_of 8 (filter (is_above low) (with_serials 1 es) ++ cond b (new ∷ []) [])) above
      ∙ last_of-append 8 (filter (is_above low) (with_serials 1 es)) new

  low_by-later : (found : Option (Held T)) (x : Held T) (xs : List (Held T)) (lo : ℕ) → low_by found (x ∷ xs) lo ≡ low_by found xs x.serial
  low_by-later None x xs lo = refl
  low_by-later (Some h) x xs lo = refl

  low_by-le : (p : Held T → Bool) (lo : ℕ) (xs : List (Held T)) → Rises lo xs → lo ≤ low_by (find p xs) xs lo
  low_by-le p lo [] r = omega arith
  low_by-le p lo (x ∷ xs) r =
      elim (p x) as (λ v. lo ≤ low_by (cond v (Some x) (find p xs)) (x ∷ xs) lo) [
        | true ↦ omega (arith, r.0)
        | false ↦ omega (arith, r.0, low_by-le p x.serial xs r.1, low_by-later (find p xs) x xs lo)
      ]

  low_by-at_most : (p : Held T → Bool) (m lo : ℕ) (xs : List (Held T)) → lo ≤ m → AtMost m xs → low_by (find p xs) xs lo ≤ m
  low_by-at_most p m lo [] under h = under
  low_by-at_most p m lo (x ∷ xs) under h =
      elim (p x) as (λ v. low_by (cond v (Some x) (find p xs)) (x ∷ xs) lo ≤ m) [
        | true ↦ h.0
        | false ↦ omega (arith, low_by-at_most p m x.serial xs h.0 h.1, low_by-later (find p xs) x xs lo)
      ]

  -- what stands behind the first that passes is what is above it; where none passes, nothing is above the last
  after_first-above : (p : Held T → Bool) (lo : ℕ) (xs : List (Held T)) → Rises lo xs → after_first p xs ≡ filter (is_above (low_by (find p xs) xs lo)) xs
  after_first-above p lo [] r = refl
  after_first-above p lo (x ∷ xs) r =
      elim (p x) as (λ v. p x ≡ v → after_first p (x ∷ xs) ≡ filter (is_above (low_by (cond v (Some x) (find p xs)) (x ∷ xs) lo)) (x ∷ xs)) [
        | true ↦ λ e.
            let own : is_above x.serial x ≡ false = grind (arith, nat_tests) in
            after_first-yes p x xs e
            ∙ sym (above-all x.serial x.serial xs (omega arith) r.1)
            ∙ ap (λ b. cond b (x ∷ filter (is_above x.serial) xs) (filter (is_above x.serial) xs)) (sym own)
        | false ↦ λ e.
            let low = low_by (find p xs) xs x.serial in
            let under : is_above low x ≡ false = grind (arith, nat_tests, low_by-le p x.serial xs r.1) in
            after_first-no p x xs e
            ∙ after_first-above p x.serial xs r.1
            ∙ ap (λ b. cond b (x ∷ filter (is_above low) xs) (filter (is_above low) xs)) (sym under)
            ∙ ap (λ n. filter (is_above n) (x ∷ xs)) (sym (low_by-later (find p xs) x xs lo))
      ] refl

  pub tick_law : TickLaw T
  tick_law = record {
    rest = λ last low es.
        after_first-above (may_follow last) low (held_above low es) (rises-held low es)
        ∙ sym (above_law low (low_after last (held_above low es) low) es (low_by-le (may_follow last) low (held_above low es) (rises-held low es)));
    rises = λ last low es. low_by-le (may_follow last) low (held_above low es) (rises-held low es);
    known = λ last low es under. low_by-at_most (may_follow last) (length es) low (held_above low es) under (at_most-held low es);
  }

  -- a lane after a post, a gap and a tick
  pub arrivals-post : (old : LaneView T) (ring : Buffer (Held T)) (spares : List T) (room low : ℕ) (es : List (Arrival T)) (refresh : Bool) (x : T) →
      ring ≡ buffer (last_of room (old.held ++ record { serial = old.count + 1; refresh = refresh; item = x } ∷ [])) room → room ≡ 8 →
      HasArrivals old low es → HasArrivals (record { held = ring.items; spares = spares; count = old.count + 1 }) low (es ++ Received refresh x ∷ [])
  unfolding one_held
  arrivals-post old ring spares room low es refresh x held eight h = record {
    held = ap (λ (b : Buffer (Held T)). b.items) held
        ∙ ap (λ k. last_of k (old.held ++ one_held (old.count + 1) refresh x ∷ [])) eight
        ∙ ap₂ (λ (hs : List (Held T)) (n : ℕ). last_of 8 (hs ++ one_held (n + 1) refresh x ∷ [])) h.held h.count
        ∙ sym (post_law low es refresh x h.known);
    count = omega (arith, h.count, length-append es (Received refresh x ∷ []));
    known = omega (arith, h.known, length-append es (Received refresh x ∷ []));
  }

  pub arrivals-gap : (old new : LaneView T) (low : ℕ) (es : List (Arrival T)) → new.held ≡ old.held → new.count ≡ old.count + 1 →
      HasArrivals old low es → HasArrivals new low (es ++ Missing ∷ [])
  arrivals-gap old new low es held count h = record {
    held = held ∙ h.held ∙ sym (gap_law low es);
    count = omega (arith, count, h.count, length-append es (Missing ∷ []));
    known = omega (arith, h.known, length-append es (Missing ∷ []));
  }

  pub arrivals-tick : (old new : LaneView T) (low : ℕ) (es : List (Arrival T)) (last : Option ℕ) → new.held ≡ after_first (may_follow last) old.held →
      new.count ≡ old.count → HasArrivals old low es → HasArrivals new (low_after last old.held low) es
  arrivals-tick old new low es last held count h =
      subst (λ hs. HasArrivals new (low_after last hs low) es) (sym h.held) (record {
        held = held ∙ ap (after_first (may_follow last)) h.held ∙ tick_law.rest last low es;
        count = count ∙ h.count;
        known = tick_law.known last low es h.known;
      })

  rise_above : (lo : ℕ) (hs : List (Held T)) → Rises lo hs → RiseAbove lo (serials_of hs)
  rise_above lo [] r = tt
  rise_above lo (h ∷ hs) r = (r.0, rise_above h.serial hs r.1)

  each_at_most : (m : ℕ) (hs : List (Held T)) → AtMost m hs → All (λ n. n ≤ m) (serials_of hs)
  each_at_most m [] a = λ k d below. omega arith
  each_at_most m (h ∷ hs) a = All-cons (λ n. n ≤ m) h.serial (serials_of hs) a.0 (each_at_most m hs a.1)

  pub serial_law : SerialLaw T
  serial_law = record {
    rise = λ low xs. rise_above low (held_above low xs) (rises-held low xs);
    given = λ low xs. each_at_most (length xs) (held_above low xs) (at_most-held low xs);
  }
