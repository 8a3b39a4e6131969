-- The coefficients of a block from its levels.
use Rattle.std.proofs.Common.{◌≡◌, ℕ, zero, suc, ◌+◌, ◌-◌, ◌*◌, ◌<◌, ◌≤◌, ◌==◌, ◌&&◌, nat_lt, Bool, true, false, ℤ, pos, negsuc, ◌+ℤ◌, ◌*ℤ◌, ◌-ℤ◌, neg_ℤ, List, [], ◌∷◌, ◌++◌, length, map, replicate, Option, Some, None, refl, sym, ◌∙◌, ap, ap₂, inl, inr, arith}
use Rattle.std.specs.List.{flat_map, position_or_len}
use Rattle.std.specs.Int.{int_div_euclid}
use Rattle.std.proofs.lemmas.Bool.{false≢true, cases_Bool, cond-false, cond-true, le-ltb, ltb-true, ne_eqb}
use Rattle.std.proofs.lemmas.List.FromFn.{get_or-map-range_with_len}
use Rattle.pel_model.specs.Levels.{run_and_level, sent_levels, levels}
use Rattle.pel_model.specs.Records.{Coefficient, Block}
use Rattle.pel_model.specs.Residual.{one_if_even, scaled, reconstructed, with_zeros, in_transmission, intra_dc, transmission_order, coefficients_of, residual}
use Rattle.pel_model.specs.Transform.{clipped, sum_below, kernel, fixed}
use Rattle.ref_decode.specs.Blocks.{IsBlockOf, coefficient_at, scan_places}
use Rattle.std.specs.Prelude.{slice_index, unsigned_abs, ◌<ℤ◌}
use Rattle.std.proofs.lemmas.Int.{ints}
use Rattle.ref_decode.specs.Passes.{at_place}
use Rattle.ref_decode.proofs.Sums.{sum_same}

-- ---- entries

at-zeros : (xs : List ℤ) (n k : ℕ) → at_place (xs ++ replicate n (pos 0)) k ≡ at_place xs k
at-zeros [] zero k = refl
at-zeros [] (suc n) zero = refl
at-zeros [] (suc n) (suc k) = at-zeros [] n k
at-zeros (x ∷ xs) n zero = refl
at-zeros (x ∷ xs) n (suc k) = at-zeros xs n k

at-map : (f : ℤ → ℤ) → f (pos 0) ≡ pos 0 → (xs : List ℤ) (k : ℕ) → at_place (map f xs) k ≡ f (at_place xs k)
at-map f z [] k = sym z
at-map f z (x ∷ xs) zero = refl
at-map f z (x ∷ xs) (suc k) = at-map f z xs k

pub zero_stays : (quant : ℕ) → reconstructed quant (pos 0) ≡ pos 0
unfolding reconstructed
zero_stays quant = refl

-- ---- the order of transmission

one_more : (f : ℤ → ℤ) → f (pos 0) ≡ pos 0 → (n : ℕ) (v : ℤ) (xs : List ℤ) → map f ((replicate n (pos 0) ++ v ∷ []) ++ xs) ≡ replicate n (pos 0) ++ f v ∷ map f xs
one_more f z zero v xs = refl
one_more f z (suc n) v xs = ap₂ (λ (x : ℤ) (t : List ℤ). x ∷ t) z (one_more f z n v xs)

with_zeros-is : (quant : ℕ) (cs : List Coefficient) → with_zeros quant cs ≡ map (reconstructed quant) (flat_map run_and_level cs)
unfolding with_zeros
with_zeros-is quant [] = refl
with_zeros-is quant (c ∷ cs) =
    ap (λ t. replicate c.run (pos 0) ++ reconstructed quant c.level ∷ t) (with_zeros-is quant cs)
    ∙ sym (one_more (reconstructed quant) (zero_stays quant) c.run c.level (flat_map run_and_level cs))

coefficients_at : (quant n : ℕ) (cs : List Coefficient) (k : ℕ) → at_place (with_zeros quant cs) k ≡ clipped (negsuc 2047) (pos 2047) (scaled quant (at_place (flat_map run_and_level cs ++ replicate n (pos 0)) k))
unfolding reconstructed
coefficients_at quant n cs k =
    ap (λ xs. at_place xs k) (with_zeros-is quant cs)
    ∙ (at-map (reconstructed quant) (zero_stays quant) (flat_map run_and_level cs) k
    ∙ ap (reconstructed quant) (sym (at-zeros (flat_map run_and_level cs) n k)))

clip_same : (m : ℕ) → m ≤ 2047 → clipped (negsuc 2047) (pos 2047) (pos m) ≡ pos m
clip_same m h = cond-false _ _ _ (le-ltb 2047 m h)

clip_dc : (n : ℕ) → n ≤ 255 → clipped (negsuc 2047) (pos 2047) (intra_dc n) ≡ intra_dc n
clip_dc n h = elim (cases_Bool (n == 255)) [
  | inl e ↦
      let is : intra_dc n ≡ pos 1024 = cond-true (n == 255) (pos 1024) (pos (8 * n)) e in
      ap (clipped (negsuc 2047) (pos 2047)) is ∙ (clip_same 1024 (omega arith) ∙ sym is)
  | inr e ↦
      let is : intra_dc n ≡ pos (8 * n) = cond-false (n == 255) (pos 1024) (pos (8 * n)) e in
      ap (clipped (negsuc 2047) (pos 2047)) is ∙ (clip_same (8 * n) (omega arith) ∙ sym is)
]

transmitted_at : (quant : ℕ) (intra : Bool) (dc : Option ℕ) (cs : List Coefficient) (k : ℕ) → IsBlockOf intra (record { dc = dc; coefficients = cs }) → at_place (in_transmission quant (record { dc = dc; coefficients = cs })) k ≡ coefficient_at quant intra (levels (record { dc = dc; coefficients = cs })) k
transmitted_at quant true None cs k valid = absurd valid.0
transmitted_at quant true (Some n) cs zero valid =
    let a : at_place (in_transmission quant (record { dc = Some n; coefficients = cs })) 0 ≡ intra_dc n = refl in
    let b : coefficient_at quant true (levels (record { dc = Some n; coefficients = cs })) 0 ≡ clipped (negsuc 2047) (pos 2047) (intra_dc n) = refl in
    a ∙ (sym (clip_dc n valid.0.1) ∙ sym b)
transmitted_at quant true (Some n) cs (suc k) valid =
    let e : (suc k == 0) ≡ false = ne_eqb (suc k) 0 (λ h. omega (arith, h)) in
    coefficients_at quant (64 - length (sent_levels (record { dc = Some n; coefficients = cs }))) cs k ∙ sym (cond-false (suc k == 0) _ _ e)
transmitted_at quant false None cs k valid = coefficients_at quant (64 - length (sent_levels (record { dc = None; coefficients = cs }))) cs k
transmitted_at quant false (Some n) cs k valid = absurd (false≢true (sym valid.0))

one_suc : (n : ℕ) → n + 1 ≡ suc n
one_suc n = omega arith

turned_round : (a b : ℕ) → neg_ℤ (pos a) +ℤ pos b ≡ neg_ℤ (pos a -ℤ pos b)
turned_round a b = omega (arith, ints)

-- the magnitude of a level above 0, or of one below
pub scaled_above : (quant : ℕ) (level m : ℤ) → pos 0 <ℤ level → m ≡ pos (quant * (2 * unsigned_abs level + 1)) -ℤ pos (one_if_even quant) → scaled quant level ≡ m
scaled_above quant (pos zero) m h is = absurd (omega (arith, ints, h))
scaled_above quant (pos (suc n)) m h is =
    let e : quant * (2 * (n + 1) + 1) ≡ quant * (2 * suc n + 1) = ap (λ k. quant * (2 * k + 1)) (one_suc n) in
    ap (λ k. pos k -ℤ pos (one_if_even quant)) e ∙ sym is
scaled_above quant (negsuc n) m h is = absurd (omega (arith, ints, h))

pub scaled_below : (quant : ℕ) (level m : ℤ) → level <ℤ pos 0 → m ≡ pos (quant * (2 * unsigned_abs level + 1)) -ℤ pos (one_if_even quant) → scaled quant level ≡ neg_ℤ m
scaled_below quant (pos n) m h is = absurd (omega (arith, ints, h))
scaled_below quant (negsuc n) m h is =
    let e : quant * (2 * (n + 1) + 1) ≡ quant * (2 * suc n + 1) = ap (λ k. quant * (2 * k + 1)) (one_suc n) in
    ap (λ k. neg_ℤ (pos k) +ℤ pos (one_if_even quant)) e ∙ (turned_round (quant * (2 * suc n + 1)) (one_if_even quant) ∙ ap neg_ℤ (sym is))

-- ---- the places

all_below : List ℕ → Bool
all_below [] = true
all_below (k ∷ ks) = nat_lt k 64 && all_below ks

and_both : (a b : Bool) → (a && b) ≡ true → (a ≡ true) × (b ≡ true)
and_both true true h = (refl, refl)
and_both true false h = absurd cc
and_both false b h = absurd cc

below_at : (ks : List ℕ) (k : ℕ) → all_below ks ≡ true → slice_index ks k < 64
unfolding all_below
below_at [] k h = omega arith
below_at (n ∷ ns) zero h = ltb-true n 64 (and_both (nat_lt n 64) (all_below ns) h).0
below_at (n ∷ ns) (suc k) h = below_at ns k (and_both (nat_lt n 64) (all_below ns) h).1

pub scan_small : (k : ℕ) → slice_index scan_places k < 64
unfolding scan_places transmission_order all_below
scan_small k = below_at scan_places k refl

places_at : (quant : ℕ) (b : Block) (k : ℕ) → k < 64 → at_place (coefficients_of quant b) k ≡ at_place (in_transmission quant b) (slice_index scan_places k)
unfolding coefficients_of scan_places
places_at quant b k h =
    get_or-map-range_with_len (λ place. at_place (in_transmission quant b) (position_or_len (λ k. k == place) transmission_order)) 0 64 k k (pos 0) h (omega arith)
    ∙ ap (at_place (in_transmission quant b)) (sym (get_or-map-range_with_len (λ place. position_or_len (λ k. k == place) transmission_order) 0 64 k k 0 h (omega arith)))

fixed_same : (xs ys : List ℤ) (x y : ℕ) → ((k : ℕ) → k < 64 → at_place xs k ≡ at_place ys k) → fixed xs x y ≡ fixed ys x y
unfolding fixed
fixed_same xs ys x y same =
    ap (λ s. int_div_euclid (s +ℤ pos 33554432) (pos 67108864))
    (sum_same 8 (λ v. sum_below 8 (λ u. (kernel u x *ℤ kernel v y) *ℤ at_place xs (8 * v + u))) (λ v. sum_below 8 (λ u. (kernel u x *ℤ kernel v y) *ℤ at_place ys (8 * v + u)))
    (λ v hv. sum_same 8 (λ u. (kernel u x *ℤ kernel v y) *ℤ at_place xs (8 * v + u)) (λ u. (kernel u x *ℤ kernel v y) *ℤ at_place ys (8 * v + u))
    (λ u hu. ap (λ z. (kernel u x *ℤ kernel v y) *ℤ z) (same (8 * v + u) (omega arith)))))

-- coefficients that were put into their places are those of the block
pub block_adds : (quant : ℕ) (intra : Bool) (b : Block) (coefs : List ℤ) (x y : ℕ) → IsBlockOf intra b → ((k : ℕ) → k < 64 → at_place coefs k ≡ coefficient_at quant intra (levels b) (slice_index scan_places k)) → clipped (negsuc 255) (pos 255) (fixed coefs x y) ≡ residual fixed quant (Some b) x y
unfolding residual
block_adds quant intra b coefs x y valid are =
    ap (clipped (negsuc 255) (pos 255))
    (fixed_same coefs (coefficients_of quant b) x y
    (λ k h. are k h ∙ (sym (transmitted_at quant intra b.dc b.coefficients (slice_index scan_places k) valid) ∙ sym (places_at quant b k h))))
