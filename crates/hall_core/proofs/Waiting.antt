-- The lanes for which a hall waits are those for which the conference waits.
use Rattle.std.proofs.Common.{◌≡◌, ℕ, zero, suc, ◌+◌, ◌<◌, ◌≤◌, ◌^◌, ◌*◌, ◌%◌, ◌==◌, nat_lt, not, ◌&&◌, ◌||◌, Bool, true, false, cond, Option, Some, None, List, [], ◌∷◌, length, map, sum_by, refl, sym, ap, ap₂, ◌∙◌, arith, add-one}
use Rattle.std.specs.List.{list_any, range_with_len, fold}
use Rattle.std.proofs.Math.Nat.{two-pow-succ, pow-le-pow_right, mod-eq_of_lt}
use Rattle.std.proofs.lemmas.List.FromFn.{sum_by-map-range_with_len_more}
use Rattle.std.proofs.lemmas.Option.{get_or_from_slice_get}
use Rattle.h261_pic.specs.Coded.{coding}
use Rattle.lane_ring.specs.Arrivals.{held_as}
use Rattle.pel_model.specs.declared.Format.TheVariants.{Qcif}
use Rattle.pel_model.specs.declared.Quad.{Quad}
use Rattle.pel_model.specs.declared.Quad.TheVariants.{One, Two, Three, Four}
use Rattle.pel_model.specs.declared.held.Held.{Held}
use Rattle.pel_model.specs.History.{History, arrivals, lane_at}
use Rattle.pel_model.specs.Plan.{is_lane}
use Rattle.pel_model.specs.Takes.{last_taken, held_pictures, is_at_loss, is_waited_for, waiting}
use Rattle.stage_plan.specs.Places.{lane_in}
use Rattle.stage_plan.specs.PerPlace.{in_place}
use Rattle.hall_core.specs.Hall.{HallView}
use Rattle.hall_core.specs.Stands.{ring_behind, StandsFor}
use Rattle.hall_core.specs.Taking.{ring_in, is_ring_at_loss, is_waited_in, waiting_in}

-- the bits of the lanes below this one
abbrev pub waiting_below : HallView → ℕ → ℕ
waiting_below hall n = sum_by (λ c. cond (is_waited_in hall c) (2 ^ c) 0) (range_with_len 0 n)

pub held-serial : {T U : Type 0} (f : T → U) (n : ℕ) (hs : List (Held T)) →
    list_any (λ (h : Held U). h.serial == n) (map (held_as f) hs) ≡ list_any (λ (h : Held T). h.serial == n) hs
held-serial f n [] = refl
held-serial f n (h ∷ hs) = ap (λ b. (h.serial == n) || b) (held-serial f n hs)

fold-same : (f g : ℕ → ℕ) (from a n top : ℕ) → a + n ≡ top → ((c : ℕ) → c < top → f c ≡ g c) →
    fold (λ (sum : ℕ) (x : ℕ). sum + f x) from (range_with_len a n) ≡ fold (λ (sum : ℕ) (x : ℕ). sum + g x) from (range_with_len a n)
fold-same f g from a zero top e same = refl
fold-same f g from a (suc n) top e same =
    ap (λ (k : ℕ). fold (λ (sum : ℕ) (x : ℕ). sum + f x) (from + k) (range_with_len (a + 1) n)) (same a (omega (arith, e)))
    ∙ fold-same f g (from + g a) (a + 1) n top (omega (arith, e)) same

sum-same : (f g : ℕ → ℕ) (n : ℕ) → ((c : ℕ) → c < n → f c ≡ g c) → sum_by f (range_with_len 0 n) ≡ sum_by g (range_with_len 0 n)
sum-same f g n same = fold-same f g 0 0 n n (omega arith) same

-- ---- bit by bit

map-same : (ns : List ℕ) → map (λ (n : ℕ). n) ns ≡ ns
map-same [] = refl
map-same (n ∷ ns) = ap (λ ms. n ∷ ms) (map-same ns)

pub one-more : (hall : HallView) (n : ℕ) → waiting_below hall (n + 1) ≡ waiting_below hall n + cond (is_waited_in hall n) (2 ^ n) 0
one-more hall n =
    let f : ℕ → ℕ = λ c. cond (is_waited_in hall c) (2 ^ c) 0 in
    ap (sum_by f) (sym (map-same (range_with_len 0 (n + 1)))) ∙ sum_by-map-range_with_len_more f (λ (k : ℕ). k) 0 n n (omega arith)
    ∙ ap (λ ns. sum_by f ns + f n) (map-same (range_with_len 0 n))

doubled : (n : ℕ) → 2 ^ (n + 1) ≡ 2 ^ n + 2 ^ n
doubled n = ap (λ (k : ℕ). 2 ^ k) (add-one n) ∙ two-pow-succ n

pub small-bit : (n : ℕ) → n < 16 → (1 * 2 ^ n) % 65536 ≡ 2 ^ n
small-bit n below =
    let one : 1 * 2 ^ n ≡ 2 ^ n = omega arith in
    let least : 0 < 2 = omega arith in
    let most : n ≤ 15 = omega (arith, below) in
    let bound : 2 ^ n ≤ 2 ^ 15 = pow-le-pow_right least most in
    ap (λ (k : ℕ). k % 65536) one ∙ mod-eq_of_lt (omega (arith, bound))

pub with-bit : (hall : HallView) (n sum : ℕ) → sum ≡ waiting_below hall n → sum < 2 ^ n → is_waited_in hall n ≡ true →
    (sum + 2 ^ n ≡ waiting_below hall (n + 1)) × (sum + 2 ^ n < 2 ^ (n + 1))
with-bit hall n sum is small waits = (
  ap (λ (k : ℕ). k + 2 ^ n) is ∙ sym (one-more hall n ∙ ap (λ b. waiting_below hall n + cond b (2 ^ n) 0) waits),
  omega (arith, small, doubled n),
)

pub without-bit : (hall : HallView) (n sum : ℕ) → sum ≡ waiting_below hall n → sum < 2 ^ n → is_waited_in hall n ≡ false →
    (sum ≡ waiting_below hall (n + 1)) × (sum < 2 ^ (n + 1))
without-bit hall n sum is small goes = (
  is ∙ sym (one-more hall n ∙ ap (λ b. waiting_below hall n + cond b (2 ^ n) 0) goes ∙ omega arith),
  omega (arith, small, doubled n),
)

-- ---- a hall that stands for a history

loss-same : (lanes : ℕ) (H : History) (c : ℕ) (last : Option ℕ) →
    is_ring_at_loss last (ring_behind lanes H c) ≡ is_at_loss last (length (arrivals H c)) (held_pictures lanes H c)
loss-same lanes H c None = refl
loss-same lanes H c (Some last) =
    ap (λ b. nat_lt last (length (arrivals H c)) && not b) (held-serial (coding Qcif) (last + 1) (held_pictures lanes H c))

module _ (hall : HallView) (H : History) (stands : StandsFor hall H) where
  pub ring-stands : (c : ℕ) → c < hall.plan.lanes → ring_in hall c ≡ ring_behind hall.plan.lanes H c
  ring-stands c below = get_or_from_slice_get hall.rings c (ring_behind hall.plan.lanes H c) (record { held = []; count = 0 }) (stands.rings c below)

  abbrev Told : ℕ → Quad → Bool
  Told c q = is_lane c (lane_at hall.plan.lanes H q)
      && is_at_loss (last_taken hall.plan.lanes H q) (length (arrivals H c)) (held_pictures hall.plan.lanes H c)

  at-place : (c : ℕ) → c < hall.plan.lanes → (q : Quad) →
      (is_lane c (lane_in hall.plan q) && is_ring_at_loss (in_place hall.last q) (ring_in hall c)) ≡ Told c q
  at-place c below q =
      ap₂ (λ (x y : Bool). x && y) (ap (is_lane c) (stands.plan.seats q))
      (ap₂ is_ring_at_loss (stands.last q) (ring-stands c below) ∙ loss-same hall.plan.lanes H c (last_taken hall.plan.lanes H q))

  waited-same : (c : ℕ) → c < hall.plan.lanes → is_waited_in hall c ≡ is_waited_for hall.plan.lanes H c
  waited-same c below =
      ap₂ (λ (x y : Bool). x || y) (at-place c below One)
      (ap₂ (λ (x y : Bool). x || y) (at-place c below Two)
      (ap₂ (λ (x y : Bool). x || y) (at-place c below Three)
      (ap (λ (x : Bool). x || false) (at-place c below Four))))

  pub waiting-same : waiting_in hall ≡ waiting hall.plan.lanes H
  waiting-same =
      sum-same (λ c. cond (is_waited_in hall c) (2 ^ c) 0) (λ c. cond (is_waited_for hall.plan.lanes H c) (2 ^ c) 0) hall.plan.lanes
      (λ c below. ap (λ b. cond b (2 ^ c) 0) (waited-same c below))
