-- One coefficient among zeros.
use Rattle.std.proofs.Common.{◌≡◌, inl, inr, ℕ, zero, suc, ◌<◌, ◌≤◌, ℤ, pos, unsigned_abs, List, length, set, replicate, slice_index_or, refl, ◌∙◌, ap, arith, get_or-set_same, get_or-set_other, to_z-of_z}
use Rattle.std.proofs.lemmas.Bool.{cases_eq}
use Rattle.ref_decode.proofs.tests.fixed_alone.Goals as goal

zero_at : (n k : ℕ) → slice_index_or (replicate n (pos 0)) k (pos 0) ≡ pos 0
zero_at zero k = refl
zero_at (suc n) zero = refl
zero_at (suc n) (suc k) = zero_at n k

small_at : (xs : List ℤ) (place k : ℕ) (v w : ℤ) → xs ≡ replicate 64 (pos 0) → place < length xs → w ≡ v → unsigned_abs v ≤ 2048
    → unsigned_abs (slice_index_or (set xs place w) k (pos 0)) ≤ 2048
small_at xs place k v w zeros within same small = elim (cases_eq k place) [
  | inl h ↦ let e : slice_index_or (set xs place w) k (pos 0) ≡ v = ap (λ i. slice_index_or (set xs place w) i (pos 0)) h ∙ get_or-set_same xs place w (pos 0) within ∙ same in
      omega (arith, ap unsigned_abs e, small)
  | inr h ↦ let e : slice_index_or (set xs place w) k (pos 0) ≡ pos 0 =
      get_or-set_other xs place k w (pos 0) h ∙ ap (λ (l : List ℤ). slice_index_or l k (pos 0)) zeros ∙ zero_at 64 k in
      omega (arith, ap unsigned_abs e)
]

pub fixed-requires : goal.fixed-requires
fixed-requires g k h = small_at _ g.args.place k g.args.value _ refl g.requires.place (to_z-of_z g.ranges.value) g.requires.value
