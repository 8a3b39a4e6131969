-- The short words of MBA, before whose first 1 stand three zeros at most.
use Rattle.std.proofs.Common.{◌≡◌, ◌≢◌, ℕ, ◌≤◌, Bool, true, false, List, [], ◌∷◌, ◌++◌, length, take, refl, arith}
use Rattle.pel_bits.specs.Bits.{number}
use Rattle.pel_bits.specs.Reading.{zeros}
use Rattle.pel_model.specs.Codes.{mba_table}
use Rattle.pel_model.specs.Walk.{Good, read}
use Rattle.pel_model.specs.Grammar.{Mba, word_row, mba_rows}
use Rattle.vlc_codes.proofs.WordLaws.{whole-good}
use Rattle.h261_pic.specs.Comes.{IsMba}

-- where four bits are not all 0, a word of MBA begins among them
pub short-word : (left : List Bool) (place : ℕ) → 8 ≤ length left → number (take 4 (left ++ zeros 4)) ≢ 0 → IsMba (left, place) (left, place)
unfolding mba_table number
short-word [] place long some = absurd (omega (arith, long))
short-word (true ∷ left) place long some = record { difference = 1; len = 1; word = whole-good (word_row (true ∷ []) (Mba 1)) (true ∷ left) (omega (arith, long)); kept = refl }
short-word (false ∷ []) place long some = absurd (omega (arith, long))
short-word (false ∷ true ∷ []) place long some = absurd (omega (arith, long))
short-word (false ∷ true ∷ true ∷ left) place long some = record { difference = 2; len = 3; word = whole-good (word_row (false ∷ true ∷ true ∷ []) (Mba 2)) (false ∷ true ∷ true ∷ left) (omega (arith, long)); kept = refl }
short-word (false ∷ true ∷ false ∷ left) place long some = record { difference = 3; len = 3; word = whole-good (word_row (false ∷ true ∷ false ∷ []) (Mba 3)) (false ∷ true ∷ false ∷ left) (omega (arith, long)); kept = refl }
short-word (false ∷ false ∷ []) place long some = absurd (omega (arith, long))
short-word (false ∷ false ∷ true ∷ []) place long some = absurd (omega (arith, long))
short-word (false ∷ false ∷ true ∷ true ∷ left) place long some = record { difference = 4; len = 4; word = whole-good (word_row (false ∷ false ∷ true ∷ true ∷ []) (Mba 4)) (false ∷ false ∷ true ∷ true ∷ left) (omega (arith, long)); kept = refl }
short-word (false ∷ false ∷ true ∷ false ∷ left) place long some = record { difference = 5; len = 4; word = whole-good (word_row (false ∷ false ∷ true ∷ false ∷ []) (Mba 5)) (false ∷ false ∷ true ∷ false ∷ left) (omega (arith, long)); kept = refl }
short-word (false ∷ false ∷ false ∷ []) place long some = absurd (omega (arith, long))
short-word (false ∷ false ∷ false ∷ false ∷ left) place long some = absurd (some refl)
short-word (false ∷ false ∷ false ∷ true ∷ []) place long some = absurd (omega (arith, long))
short-word (false ∷ false ∷ false ∷ true ∷ true ∷ left) place long some = record { difference = 6; len = 5; word = whole-good (word_row (false ∷ false ∷ false ∷ true ∷ true ∷ []) (Mba 6)) (false ∷ false ∷ false ∷ true ∷ true ∷ left) (omega (arith, long)); kept = refl }
short-word (false ∷ false ∷ false ∷ true ∷ false ∷ left) place long some = record { difference = 7; len = 5; word = whole-good (word_row (false ∷ false ∷ false ∷ true ∷ false ∷ []) (Mba 7)) (false ∷ false ∷ false ∷ true ∷ false ∷ left) (omega (arith, long)); kept = refl }
