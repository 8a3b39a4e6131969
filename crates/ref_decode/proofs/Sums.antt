-- Sums and products of integers.
use Rattle.std.proofs.Common.{◌≡◌, ℕ, zero, suc, ◌+◌, ◌*◌, ◌<◌, ◌≤◌, ℤ, pos, negsuc, ◌+ℤ◌, ◌-ℤ◌, ◌*ℤ◌, refl, sym, ◌∙◌, ap, ap₂, arith, ◌-◌}
use Rattle.std.specs.Prelude.{unsigned_abs}
use Rattle.std.proofs.Common.{◌≢◌, List, [], ◌∷◌, length, length-set, get_or-set_other, get_or-set_same, below_more}
use Rattle.std.specs.Prelude.{slice_set, slice_index}
use Rattle.std.proofs.lemmas.Int.{ints}
use Rattle.ref_decode.specs.Passes.{at_place}
use Rattle.std.proofs.Math.IntN.{suc_ℤ-*ℤ, pred_ℤ-*ℤ, zero-*ℤ, *ℤ_comm, *ℤ-zero}
use Rattle.pel_model.specs.Transform.{sum_below}

-- ---- products

pub times_plus : (a b c : ℤ) → a *ℤ (b +ℤ c) ≡ a *ℤ b +ℤ a *ℤ c
times_plus (pos zero) b c = omega (arith, ints, zero-*ℤ (b +ℤ c), zero-*ℤ b, zero-*ℤ c)
times_plus (pos (suc n)) b c =
    omega (arith, ints, suc_ℤ-*ℤ (pos n) (b +ℤ c), suc_ℤ-*ℤ (pos n) b, suc_ℤ-*ℤ (pos n) c, times_plus (pos n) b c)
times_plus (negsuc zero) b c =
    omega (arith, ints, pred_ℤ-*ℤ (pos zero) (b +ℤ c), pred_ℤ-*ℤ (pos zero) b, pred_ℤ-*ℤ (pos zero) c, zero-*ℤ (b +ℤ c), zero-*ℤ b, zero-*ℤ c)
times_plus (negsuc (suc n)) b c =
    omega (arith, ints, pred_ℤ-*ℤ (negsuc n) (b +ℤ c), pred_ℤ-*ℤ (negsuc n) b, pred_ℤ-*ℤ (negsuc n) c, times_plus (negsuc n) b c)

pub plus_times : (a b c : ℤ) → (a +ℤ b) *ℤ c ≡ a *ℤ c +ℤ b *ℤ c
plus_times a b c = *ℤ_comm (a +ℤ b) c ∙ times_plus c a b ∙ ap₂ (λ (x y : ℤ). x +ℤ y) (*ℤ_comm c a) (*ℤ_comm c b)

minus_times : (a b c : ℤ) → (a -ℤ b) *ℤ c ≡ a *ℤ c -ℤ b *ℤ c
minus_times a b c =
    let back : (a -ℤ b) +ℤ b ≡ a = omega (arith, ints) in
    omega (arith, ints, plus_times (a -ℤ b) b c, ap (λ z. z *ℤ c) back)

pub times_assoc : (a b c : ℤ) → (a *ℤ b) *ℤ c ≡ a *ℤ (b *ℤ c)
times_assoc (pos zero) b c = ap (λ z. z *ℤ c) (zero-*ℤ b) ∙ (zero-*ℤ c ∙ sym (zero-*ℤ (b *ℤ c)))
times_assoc (pos (suc n)) b c =
    omega (arith, ints, ap (λ z. z *ℤ c) (suc_ℤ-*ℤ (pos n) b), plus_times (pos n *ℤ b) b c, times_assoc (pos n) b c, suc_ℤ-*ℤ (pos n) (b *ℤ c))
times_assoc (negsuc zero) b c =
    omega (arith, ints, ap (λ z. z *ℤ c) (pred_ℤ-*ℤ (pos zero) b), minus_times (pos zero *ℤ b) b c, ap (λ z. z *ℤ c) (zero-*ℤ b), zero-*ℤ c, pred_ℤ-*ℤ (pos zero) (b *ℤ c), zero-*ℤ (b *ℤ c))
times_assoc (negsuc (suc n)) b c =
    omega (arith, ints, ap (λ z. z *ℤ c) (pred_ℤ-*ℤ (negsuc n) b), minus_times (negsuc n *ℤ b) b c, times_assoc (negsuc n) b c, pred_ℤ-*ℤ (negsuc n) (b *ℤ c))

-- the order of three factors
pub turned : (k l f : ℤ) → l *ℤ (f *ℤ k) ≡ (k *ℤ l) *ℤ f
turned k l f =
    ap (λ z. l *ℤ z) (*ℤ_comm f k) ∙ (sym (times_assoc l k f) ∙ ap (λ z. z *ℤ f) (*ℤ_comm l k))

-- ---- sums

pub sum_more : (n : ℕ) (f : ℕ → ℤ) → sum_below (n + 1) f ≡ sum_below n f +ℤ f n
unfolding sum_below
sum_more n f = let e : n + 1 ≡ suc n = omega arith in ap (λ m. sum_below m f) e

pub sum_none : (f : ℕ → ℤ) → sum_below 0 f ≡ pos 0
unfolding sum_below
sum_none f = refl

pub sum_same : (n : ℕ) (f g : ℕ → ℤ) → ((k : ℕ) → k < n → f k ≡ g k) → sum_below n f ≡ sum_below n g
unfolding sum_below
sum_same zero f g same = refl
sum_same (suc n) f g same =
    ap₂ (λ (x y : ℤ). x +ℤ y) (sum_same n f g (λ k h. same k (omega arith))) (same n (omega arith))

pub sum_times : (n : ℕ) (a : ℤ) (f : ℕ → ℤ) → a *ℤ sum_below n f ≡ sum_below n (λ k. a *ℤ f k)
unfolding sum_below
sum_times zero a f = *ℤ-zero a
sum_times (suc n) a f = times_plus a (sum_below n f) (f n) ∙ ap (λ z. z +ℤ a *ℤ f n) (sum_times n a f)

pub sum_zero : (n : ℕ) (f : ℕ → ℤ) → ((k : ℕ) → k < n → f k ≡ pos 0) → sum_below n f ≡ pos 0
unfolding sum_below
sum_zero zero f none = refl
sum_zero (suc n) f none =
    ap₂ (λ (x y : ℤ). x +ℤ y) (sum_zero n f (λ k h. none k (omega arith))) (none n (omega arith))

sum_front_by : (used d : ℕ) (f : ℕ → ℤ) → ((k : ℕ) → used ≤ k → k < used + d → f k ≡ pos 0) → sum_below (used + d) f ≡ sum_below used f
unfolding sum_below
sum_front_by used zero f none = let e : used + zero ≡ used = omega arith in ap (λ m. sum_below m f) e
sum_front_by used (suc d) f none =
    let e : used + suc d ≡ suc (used + d) = omega arith in
    let last : f (used + d) ≡ pos 0 = none (used + d) (omega arith) (omega arith) in
    let rest : sum_below (used + d) f ≡ sum_below used f = sum_front_by used d f (λ k h l. none k h (omega arith)) in
    ap (λ m. sum_below m f) e ∙ omega (arith, ints, last, rest)

-- zeros at the end add nothing
pub sum_front : (n used : ℕ) (f : ℕ → ℤ) → used ≤ n → ((k : ℕ) → used ≤ k → k < n → f k ≡ pos 0) → sum_below n f ≡ sum_below used f
sum_front n used f within none =
    let e : n ≡ used + (n - used) = omega arith in
    ap (λ m. sum_below m f) e ∙ sum_front_by used (n - used) f (λ k h l. none k h (omega (arith, e)))

abs_plus : (a b : ℤ) → unsigned_abs (a +ℤ b) ≤ unsigned_abs a + unsigned_abs b
abs_plus a b = omega (arith, ints)

pub sum_small : (n b : ℕ) (f : ℕ → ℤ) → ((k : ℕ) → k < n → unsigned_abs (f k) ≤ b) → unsigned_abs (sum_below n f) ≤ n * b
unfolding sum_below
sum_small zero b f small = omega arith
sum_small (suc n) b f small =
    omega (arith, abs_plus (sum_below n f) (f n), sum_small n b f (λ k h. small k (omega arith)), small n (omega arith))

-- ---- writing and adding lane by lane

pub eight_zeros : (x : ℕ) → at_place (pos 0 ∷ pos 0 ∷ pos 0 ∷ pos 0 ∷ pos 0 ∷ pos 0 ∷ pos 0 ∷ pos 0 ∷ []) x ≡ pos 0
eight_zeros zero = refl
eight_zeros (suc zero) = refl
eight_zeros (suc (suc zero)) = refl
eight_zeros (suc (suc (suc zero))) = refl
eight_zeros (suc (suc (suc (suc zero)))) = refl
eight_zeros (suc (suc (suc (suc (suc zero))))) = refl
eight_zeros (suc (suc (suc (suc (suc (suc zero)))))) = refl
eight_zeros (suc (suc (suc (suc (suc (suc (suc zero))))))) = refl
eight_zeros (suc (suc (suc (suc (suc (suc (suc (suc x)))))))) = refl

-- one more of eight sums was written
pub lane_added : (sums old added : List ℤ) (term : ℕ → ℤ) (i : ℕ) (r : ℤ) → length sums ≡ 8 → i < 8 → ((x : ℕ) → x < i → at_place sums x ≡ at_place old x +ℤ term x) → ((x : ℕ) → i ≤ x → at_place sums x ≡ at_place old x) → r ≡ at_place sums i +ℤ term i → added ≡ slice_set sums i r → (length added ≡ 8) × ((x : ℕ) → x < i + 1 → at_place added x ≡ at_place old x +ℤ term x) × ((x : ℕ) → i + 1 ≤ x → at_place added x ≡ at_place old x)
lane_added sums old added term i r long within done todo is set_is = rw set_is (
  length-set sums i r ∙ long,
  below_more (λ x. at_place (slice_set sums i r) x ≡ at_place old x +ℤ term x) i
      (λ x h. let ne : x ≢ i = omega arith in rw get_or-set_other (done x h))
      (let lt : i < length sums = omega (arith, long, within) in rw get_or-set_same (is ∙ ap (λ z. z +ℤ term i) (todo i (omega arith)))),
  λ x h. let ne : x ≢ i = omega arith in rw get_or-set_other (todo x (omega arith)),
)

-- one more entry was written
pub put_more : (P : ℕ → ℤ → Type 0) (xs : List ℤ) (i : ℕ) (v : ℤ) → i < length xs → ((k : ℕ) → k < i → P k (at_place xs k)) → P i v → (k : ℕ) → k < i + 1 → P k (at_place (slice_set xs i v) k)
put_more P xs i v lt done here =
    below_more (λ k. P k (at_place (slice_set xs i v) k)) i
    (λ k h. let ne : k ≢ i = omega arith in rw get_or-set_other (done k h))
    (rw get_or-set_same here)

pub put_more_unsigned : (P : ℕ → ℕ → Type 0) (xs : List ℕ) (i v : ℕ) → i < length xs → ((k : ℕ) → k < i → P k (slice_index xs k)) → P i v → (k : ℕ) → k < i + 1 → P k (slice_index (slice_set xs i v) k)
put_more_unsigned P xs i v lt done here =
    below_more (λ k. P k (slice_index (slice_set xs i v) k)) i
    (λ k h. let ne : k ≢ i = omega arith in rw get_or-set_other (done k h))
    (rw get_or-set_same here)
