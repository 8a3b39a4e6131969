-- Inner contracts alone use this; nothing here has to be believed.
-- Blocks: their levels, coefficients and samples.
use Rattle.std.specs.Prelude.{◌≡◌, ℕ, ◌+◌, ◌*◌, ◌^◌, ◌<◌, ◌≤◌, ◌==◌, ◌&&◌, Bool, cond, ℤ, pos, negsuc, ◌+ℤ◌, unsigned_abs}
use Rattle.std.specs.Prelude.{List, map, slice_index, Some, Result, Ok, Err, MatchBool}
use Rattle.std.specs.List.{position_or_len, range_with_len}
use Rattle.pel_model.specs.Decode.{sample}
use Rattle.pel_model.specs.Prediction.{filtered}
use Rattle.pel_model.specs.Records.{Block}
use Rattle.pel_model.specs.Residual.{transmission_order, scaled, residual}
use Rattle.pel_model.specs.Transform.{clipped, fixed}
use Rattle.pel_model.specs.Valid.{IsIntraBlock, IsCodedBlock}
use Rattle.ref_decode.specs.Passes.{at_place}

-- a block of a macroblock that is Intra or not
abbrev pub IsBlockOf : Bool → Block → Type 0
IsBlockOf intra b = MatchBool intra (IsIntraBlock b) (IsCodedBlock b)

-- the places in the order of transmission
unfoldable pub scan_places : List ℕ
scan_places = map (λ place. position_or_len (λ k. k == place) transmission_order) (range_with_len 0 64)

-- the coefficient with this place in the order of transmission
abbrev pub coefficient_at : (quant : ℕ) → Bool → List ℤ → ℕ → ℤ
coefficient_at quant intra levels place =
    cond (intra && (place == 0)) (clipped (negsuc 2047) (pos 2047) (at_place levels 0))
    (clipped (negsuc 2047) (pos 2047) (scaled quant (at_place levels place)))

-- what the block adds was read
abbrev pub AddsBlock : {E : Type 0} → (quant : ℕ) → Block → Result (List ℤ) E → Type 0
AddsBlock quant b (Ok added) = (x y : ℕ) → x < 8 → y < 8 → at_place added (8 * y + x) ≡ residual fixed quant (Some b) x y
AddsBlock quant b (Err e) = ⊥

-- the sample of a block at a column and row
abbrev pub block_at : List ℕ → (x y : ℕ) → ℕ
block_at block x y = slice_index block (8 * y + x)

abbrev pub filtered_if : Bool → (ℕ → ℕ → ℕ) → (x y : ℕ) → ℕ
filtered_if filter samples x y = cond filter (filtered samples x y) (samples x y)

abbrev pub joined_at : List ℕ → List ℤ → ℕ → ℕ
joined_at predicted added k = sample (pos (slice_index predicted k) +ℤ at_place added k)

-- clipped to the range of coefficients, which tells its size too
pub record IsClipped (from to : ℤ) : Type 0 where
  pub value : to ≡ clipped (negsuc 2047) (pos 2047) from
  pub size : unsigned_abs to ≤ 2048

-- a row of a block stands at this place of so many samples
pub record IsRowAt (y from count : ℕ) : Type 0 where
  pub row : y < 8
  pub small : from < 2 ^ 30
  pub within : from + 8 ≤ count
