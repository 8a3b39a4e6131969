-- Rings behind a post and a gap, and lists of rings of which one is changed.
use Rattle.std.proofs.Common.{◌≡◌, ℕ, zero, suc, ◌+◌, ◌-◌, ◌<◌, ◌≤◌, ◌≢◌, ◌==◌, true, false, cond, Option, Some, None, List, [], ◌∷◌, ◌++◌, length, map, set, drop, slice_get, refl, sym, ap, ap₂, subst, ◌∙◌, arith, length-append}
use Rattle.std.proofs.lemmas.Bool.Decides.{nat_tests}
use Rattle.std.proofs.lemmas.List.{length-map, map-append}
use Rattle.std.specs.List.{drop-map}
use Rattle.h261_pic.specs.Coded.{coding}
use Rattle.lane_ring.specs.Arrivals.{held_as}
use Rattle.lane_ring.proofs.Rising.{post_law, gap_law, tick_law}
use Rattle.pel_model.specs.declared.Format.TheVariants.{Qcif}
use Rattle.pel_model.specs.declared.Quad.{Quad}
use Rattle.pel_model.specs.declared.held.Held.{Held}
use Rattle.pel_model.specs.History.{Post, Gap, Order, Tick, End, History, arrivals}
use Rattle.pel_model.specs.Lanes.{Arrival, Received, Missing, lane_room, last_of, held_above}
use Rattle.pel_model.specs.Records.{Picture}
use Rattle.pel_model.specs.Refresh.{is_refresh}
use Rattle.pel_model.specs.Takes.{low_serial, low_behind, place_of, held_pictures, last_taken}
use Rattle.hall_core.specs.Hall.{RingView}
use Rattle.hall_core.specs.Stands.{ring_behind}

-- ---- one of a list is changed

pub get-set-same : {X : Type 0} (xs : List X) (i : ℕ) (x : X) → i < length xs → slice_get (set xs i x) i ≡ Some x
get-set-same [] i x within = absurd (omega (arith, within))
get-set-same (y ∷ ys) zero x within = refl
get-set-same (y ∷ ys) (suc i) x within = get-set-same ys i x (omega (arith, within))

pub get-set-other : {X : Type 0} (xs : List X) (i j : ℕ) (x : X) → j ≢ i → slice_get (set xs i x) j ≡ slice_get xs j
get-set-other [] i j x apart = refl
get-set-other (y ∷ ys) zero zero x apart = absurd (apart refl)
get-set-other (y ∷ ys) zero (suc j) x apart = refl
get-set-other (y ∷ ys) (suc i) zero x apart = refl
get-set-other (y ∷ ys) (suc i) (suc j) x apart = get-set-other ys i j x (λ e. apart (ap suc e))

pub get-map : {X Y : Type 0} (f : X → Y) (xs : List X) (i : ℕ) (x : X) → slice_get xs i ≡ Some x → slice_get (map f xs) i ≡ Some (f x)
get-map f [] i x e = absurd (no e)
  where
    no : None ≡ Some x → ⊥
    no e = cc
get-map f (y ∷ ys) zero x e = let same : y ≡ x = cc in ap (λ v. Some (f v)) same
get-map f (y ∷ ys) (suc i) x e = get-map f ys i x e

pub some-same : {X : Type 0} (x y : X) → Some x ≡ Some y → x ≡ y
some-same x y e = cc

pub map-last : {X Y : Type 0} (f : X → Y) (n : ℕ) (xs : List X) → map f (last_of n xs) ≡ last_of n (map f xs)
map-last f n xs =
    sym (drop-map f (length xs - n) xs) ∙ sym (ap (λ k. drop (k - n) (map f xs)) (length-map xs f))

-- ---- what ticks took or passed was given out

known-behind : (lanes : ℕ) (H : History) (place : Option Quad) (came : List (Arrival Picture)) (low : ℕ) → low ≤ length came →
    low_behind lanes H place came low ≤ length came
known-behind lanes H None came low k = k
known-behind lanes H (Some q) came low k = tick_law.known (last_taken lanes H q) low came k

grows : (lane c : ℕ) (xs : List (Arrival Picture)) (x : Arrival Picture) (low : ℕ) → low ≤ length xs →
    low ≤ length (cond (lane == c) (xs ++ x ∷ []) xs)
grows lane c xs x low k =
    elim (lane == c) as (λ v. low ≤ length (cond v (xs ++ x ∷ []) xs)) [
      | true ↦ omega (arith, k, length-append xs (x ∷ []))
      | false ↦ k
    ]

pub known : (lanes : ℕ) (H : History) (c : ℕ) → low_serial lanes H c ≤ length (arrivals H c)
known lanes [] c = omega arith
known lanes (Post lane p ∷ H) c = grows lane c (arrivals H c) (Received (is_refresh Qcif p) p) _ (known lanes H c)
known lanes (Gap lane ∷ H) c = grows lane c (arrivals H c) Missing _ (known lanes H c)
known lanes (Order command reply ∷ H) c = known lanes H c
known lanes (Tick note ∷ H) c = known-behind lanes H (place_of lanes H c) (arrivals H c) _ (known lanes H c)
known lanes (End ∷ H) c = known lanes H c

-- ---- a ring behind a gap and a post

same-number : (c : ℕ) → (c == c) ≡ true
same-number c = grind (arith, nat_tests)

other-number : (lane c : ℕ) → c ≢ lane → (lane == c) ≡ false
other-number lane c apart = grind (arith, nat_tests)

abbrev pub came-behind : ℕ → History → List (Arrival Picture) → ℕ → RingView
came-behind lanes H came c = record {
  held = map (held_as (coding Qcif)) (held_above (low_serial lanes H c) came);
  count = length came;
}

pub gap-ring : (lanes c : ℕ) (H : History) → ring_behind lanes (Gap c ∷ H) c
    ≡ record { held = (ring_behind lanes H c).held; count = (ring_behind lanes H c).count + 1 }
gap-ring lanes c H =
    ap (λ b. came-behind lanes H (cond b (arrivals H c ++ Missing ∷ []) (arrivals H c)) c) (same-number c)
    ∙ ap₂ (λ (hs : List (Held Picture)) (n : ℕ). record { held = map (held_as (coding Qcif)) hs; count = n })
    (gap_law (low_serial lanes H c) (arrivals H c)) (length-append (arrivals H c) (Missing ∷ []))

pub gap-others : (lanes lane c : ℕ) (H : History) → c ≢ lane → ring_behind lanes (Gap lane ∷ H) c ≡ ring_behind lanes H c
gap-others lanes lane c H apart =
    ap (λ b. came-behind lanes H (cond b (arrivals H c ++ Missing ∷ []) (arrivals H c)) c) (other-number lane c apart)

pub post-others : (lanes lane c : ℕ) (p : Picture) (H : History) → c ≢ lane → ring_behind lanes (Post lane p ∷ H) c ≡ ring_behind lanes H c
post-others lanes lane c p H apart =
    ap (λ b. came-behind lanes H (cond b (arrivals H c ++ Received (is_refresh Qcif p) p ∷ []) (arrivals H c)) c) (other-number lane c apart)

pub post-ring : (lanes c : ℕ) (p : Picture) (H : History) → ring_behind lanes (Post c p ∷ H) c
    ≡ record {
      held = last_of lane_room ((ring_behind lanes H c).held
          ++ record { serial = (ring_behind lanes H c).count + 1; refresh = is_refresh Qcif p; item = coding Qcif p } ∷ []);
      count = (ring_behind lanes H c).count + 1;
    }
post-ring lanes c p H =
    let new : List (Held Picture) = record { serial = length (arrivals H c) + 1; refresh = is_refresh Qcif p; item = p } ∷ [] in
    ap (λ b. came-behind lanes H (cond b (arrivals H c ++ Received (is_refresh Qcif p) p ∷ []) (arrivals H c)) c) (same-number c)
    ∙ ap₂ (λ (hs : List (Held Picture)) (n : ℕ). record { held = map (held_as (coding Qcif)) hs; count = n })
    (post_law (low_serial lanes H c) (arrivals H c) (is_refresh Qcif p) p (known lanes H c)) (length-append (arrivals H c) (Received (is_refresh Qcif p) p ∷ []))
    ∙ ap (λ hs. record { held = hs; count = length (arrivals H c) + 1 })
    (map-last (held_as (coding Qcif)) lane_room (held_pictures lanes H c ++ new)
    ∙ ap (last_of lane_room) (map-append (held_as (coding Qcif)) (held_pictures lanes H c) new))

-- ---- the rings of all lanes, where the ring of one is changed
pub rings-step : (lanes lane : ℕ) (rings : List RingView) (ring : RingView) (old new : ℕ → RingView) →
    ((c : ℕ) → c < lanes → slice_get rings c ≡ Some (old c)) → lane < length rings →
    ring ≡ new lane → ((c : ℕ) → c ≢ lane → new c ≡ old c) →
    (c : ℕ) → c < lanes → slice_get (set rings lane ring) c ≡ Some (new c)
rings-step lanes lane rings ring old new are within is others c below =
    elim (c == lane) as (λ v. (c == lane) ≡ v → slice_get (set rings lane ring) c ≡ Some (new c)) [
      | true ↦ λ e. let same : c ≡ lane = grind (arith, nat_tests) in
          subst (λ (k : ℕ). slice_get (set rings lane ring) k ≡ Some (new k)) (sym same) (get-set-same rings lane ring within ∙ ap Some is)
      | false ↦ λ e. let apart : c ≢ lane = grind (arith, nat_tests) in
          get-set-other rings lane c ring apart ∙ are c below ∙ ap Some (sym (others c apart))
    ] refl
