-- The loop filter reads its own block alone.
use Rattle.std.proofs.Common.{◌≡◌, ℕ, zero, suc, ◌+◌, ◌-◌, ◌*◌, ◌/◌, ◌%◌, ◌<◌, ◌==◌, ◌||◌, false, List, refl, sym, ◌∙◌, ap, inl, inr, arith}
use Rattle.std.specs.Prelude.{slice_index}
use Rattle.std.proofs.lemmas.Bool.{false≢true, cases_Bool, cond-false, cond-true}
use Rattle.pel_model.specs.Prediction.{weighted, filtered}
use Rattle.ref_decode.specs.Blocks.{block_at}

-- a place that is neither the first nor the last of a block
not_last : (i : ℕ) → i < 8 → ((i % 8 == 0) || (i % 8 == 7)) ≡ false → i + 1 < 8
not_last zero h e = absurd (false≢true (sym e))
not_last (suc zero) h e = omega arith
not_last (suc (suc zero)) h e = omega arith
not_last (suc (suc (suc zero))) h e = omega arith
not_last (suc (suc (suc (suc zero)))) h e = omega arith
not_last (suc (suc (suc (suc (suc zero))))) h e = omega arith
not_last (suc (suc (suc (suc (suc (suc zero)))))) h e = omega arith
not_last (suc (suc (suc (suc (suc (suc (suc zero))))))) h e = absurd (false≢true (sym e))
not_last (suc (suc (suc (suc (suc (suc (suc (suc n)))))))) h e = absurd (omega (arith, h))

not_first : (i : ℕ) → ((i % 8 == 0) || (i % 8 == 7)) ≡ false → 0 < i
not_first zero e = absurd (false≢true (sym e))
not_first (suc n) e = omega arith

-- a line that is moved by whole blocks is filtered as it is
pub weighted_moved : (f g : ℕ → ℕ) (at i : ℕ) → at % 8 ≡ 0 → i < 8 → ((k : ℕ) → k < 8 → f (at + k) ≡ g k) → weighted f (at + i) ≡ weighted g i
weighted_moved f g at i whole h same =
    let m : (at + i) % 8 ≡ i % 8 = omega (arith, whole) in
    let t : (((at + i) % 8 == 0) || ((at + i) % 8 == 7)) ≡ ((i % 8 == 0) || (i % 8 == 7)) = ap (λ n. (n == 0) || (n == 7)) m in
    elim (cases_Bool ((i % 8 == 0) || (i % 8 == 7))) [
      | inl e ↦
          cond-true (((at + i) % 8 == 0) || ((at + i) % 8 == 7)) (4 * f (at + i)) (f (at + i - 1) + 2 * f (at + i) + f (at + i + 1)) (t ∙ e)
          ∙ (ap (λ n. 4 * n) (same i h)
          ∙ sym (cond-true ((i % 8 == 0) || (i % 8 == 7)) (4 * g i) (g (i - 1) + 2 * g i + g (i + 1)) e))
      | inr e ↦
          let some : 0 < i = not_first i e in
          let more : i + 1 < 8 = not_last i h e in
          let a : at + i - 1 ≡ at + (i - 1) = omega (arith, some) in
          let b : at + i + 1 ≡ at + (i + 1) = omega arith in
          let p : f (at + i - 1) ≡ g (i - 1) = ap f a ∙ same (i - 1) (omega (arith, h)) in
          let q : f (at + i + 1) ≡ g (i + 1) = ap f b ∙ same (i + 1) more in
          cond-false (((at + i) % 8 == 0) || ((at + i) % 8 == 7)) (4 * f (at + i)) (f (at + i - 1) + 2 * f (at + i) + f (at + i + 1)) (t ∙ e)
          ∙ (omega (arith, p, q, same i h)
          ∙ sym (cond-false ((i % 8 == 0) || (i % 8 == 7)) (4 * g i) (g (i - 1) + 2 * g i + g (i + 1)) e))
    ]

pub weighted_same : (f g : ℕ → ℕ) (i : ℕ) → i < 8 → ((k : ℕ) → k < 8 → f k ≡ g k) → weighted f i ≡ weighted g i
weighted_same f g i h same =
    let e : 0 + i ≡ i = omega arith in
    ap (weighted f) (sym e) ∙ weighted_moved f g 0 i refl h (λ k hk. let d : 0 + k ≡ k = omega arith in ap f d ∙ same k hk)

pub filtered_same : (f g : ℕ → ℕ → ℕ) (x y : ℕ) → x < 8 → y < 8 → ((a b : ℕ) → a < 8 → b < 8 → f a b ≡ g a b) → filtered f x y ≡ filtered g x y
filtered_same f g x y hx hy same =
    ap (λ n. (n + 8) / 16)
    (weighted_same (λ b. weighted (λ a. f a b) x) (λ b. weighted (λ a. g a b) x) y hy
    (λ b hb. weighted_same (λ a. f a b) (λ a. g a b) x hx (λ a ha. same a b ha hb)))

-- the same sums of a block, moved
pub filtered_moved : (f g : ℕ → ℕ → ℕ) (left top x y : ℕ) → left % 8 ≡ 0 → top % 8 ≡ 0 → x < 8 → y < 8 → ((a b : ℕ) → a < 8 → b < 8 → f (left + a) (top + b) ≡ g a b) → filtered f (left + x) (top + y) ≡ filtered g x y
filtered_moved f g left top x y across down hx hy same =
    ap (λ n. (n + 8) / 16)
    (weighted_moved (λ b. weighted (λ a. f a b) (left + x)) (λ b. weighted (λ a. g a b) x) top y down hy
    (λ b hb. weighted_moved (λ a. f a (top + b)) (λ a. g a b) left x across hx (λ a ha. same a b ha hb)))

-- the sums of the rows of a block, then of its columns
pub smoothed-is : (block sums : List ℕ) (x y : ℕ) → ((k : ℕ) → k < 64 → slice_index sums k ≡ weighted (λ a. block_at block a (k / 8)) (k % 8)) → x < 8 → y < 8 → (weighted (λ b. block_at sums x b) y + 8) / 16 ≡ filtered (λ a b. block_at block a b) x y
smoothed-is block sums x y are hx hy =
    ap (λ n. (n + 8) / 16)
    (weighted_same (λ b. block_at sums x b) (λ b. weighted (λ a. block_at block a b) x) y hy
    (λ b hb.
    let q : (8 * b + x) / 8 ≡ b = omega arith in
    let r : (8 * b + x) % 8 ≡ x = omega arith in
    are (8 * b + x) (omega arith) ∙ (ap (λ n. weighted (λ a. block_at block a n) ((8 * b + x) % 8)) q ∙ ap (λ n. weighted (λ a. block_at block a b) n) r)))
