-- A block is written row by row.
use Rattle.std.proofs.Common.{◌≡◌, ℕ, zero, suc, ◌+◌, ◌*◌, ◌<◌, ◌≤◌, ◌⊎◌, inl, inr, List, length, replicate, pos, ◌+ℤ◌, refl, ◌∙◌, arith, below_more}
use Rattle.pel_model.specs.Decode.{sample}
use Rattle.std.specs.Prelude.{slice_index}
use Rattle.std.proofs.Math.Nat.{mul-le-mul_left}
use Rattle.ref_decode.specs.Blocks.{block_at}

abbrev pub Apart : (from width y k : ℕ) → Type 0
Apart from width y k = (b : ℕ) → b < y → (k < from + width * b) ⊎ (from + width * b + 8 ≤ k)

pub row_more : (from width y : ℕ) (old mid new block : List ℕ) → 8 ≤ width
    → length mid ≡ length old → ((b x : ℕ) → b < y → x < 8 → slice_index mid (from + width * b + x) ≡ block_at block x b) → ((k : ℕ) → Apart from width y k → slice_index mid k ≡ slice_index old k)
    → length new ≡ length mid → ((x : ℕ) → x < 8 → slice_index new (from + width * y + x) ≡ block_at block x y) → ((k : ℕ) → k < from + width * y → slice_index new k ≡ slice_index mid k) → ((k : ℕ) → from + width * y + 8 ≤ k → slice_index new k ≡ slice_index mid k)
    → (length new ≡ length old) × ((b x : ℕ) → b < y + 1 → x < 8 → slice_index new (from + width * b + x) ≡ block_at block x b) × ((k : ℕ) → Apart from width (y + 1) k → slice_index new k ≡ slice_index old k)
row_more from width y old mid new block wide long done kept long' inside before behind = (
  long' ∙ long,
  λ b x hb hx. below_more (λ b. (x : ℕ) → x < 8 → slice_index new (from + width * b + x) ≡ block_at block x b) y
      (λ b h x hx. let next : b + 1 ≤ y = omega arith in before (from + width * b + x) (omega (arith, mul-le-mul_left width next, wide, hx)) ∙ done b x h hx)
      inside b hb x hx,
  λ k apart. elim (apart y (omega arith)) [
    | inl lt ↦ before k lt ∙ kept k (λ b h. apart b (omega arith))
    | inr ge ↦ behind k ge ∙ kept k (λ b h. apart b (omega arith))
  ],
)

pub zeros_at : (n k : ℕ) → slice_index (replicate n 0) k ≡ 0
zeros_at zero k = refl
zeros_at (suc n) zero = refl
zeros_at (suc n) (suc k) = zeros_at n k

-- a sample to which nothing is added
pub sample_same : (p : ℕ) → p < 256 → sample (pos p +ℤ pos 0) ≡ p
sample_same p h = omega arith
