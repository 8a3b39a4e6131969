-- Blocks that stand one after another.
use Rattle.std.specs.Prelude.{◌≡◌, ℕ, zero, suc, Bool, true, false, cond, List, is_some}
use Rattle.pel_model.specs.declared.Format.{Format}
use Rattle.pel_model.specs.Elements.{block_elements}
use Rattle.pel_model.specs.Grammar.{Element, slot, AtDc, AtFirst, next}
use Rattle.pel_model.specs.Records.{Block}
use Rattle.pel_model.specs.Walk.{Reading, AreTaken}

-- where a block is due, with INTRADC or without, one stands there, and it was taken
abbrev pub BlockStands : (intra : Bool) (old new : Reading) → Type 0
BlockStands intra old new =
    (format : Format) (before : List Element) → slot before ≡ cond intra AtDc AtFirst
    → AreTaken (next format) before (λ es _. (b : Block) × (es ≡ block_elements b) × (is_some b.dc ≡ intra)) old new

-- so many stand there, one behind the other, and were taken
abbrev pub BlocksStand : (intra : Bool) (count : ℕ) (old new : Reading) → Type 0
BlocksStand intra zero old new = new ≡ old
BlocksStand intra (suc n) old new = (mid : Reading) × BlocksStand intra n old mid × BlockStands intra mid new

-- they were taken, or nothing was
pub record PassesBlocks (intra : Bool) (count : ℕ) (result : Bool) (old new : Reading) : Type 0 where
  pub passed : result ≡ true → BlocksStand intra count old new
  pub kept : result ≡ false → new ≡ old
