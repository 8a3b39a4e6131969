-- The six bits of CBP.
use Rattle.std.proofs.Common.{◌≡◌, ℕ, zero, suc, ◌<◌, ◌/◌, ◌%◌, ◌==◌, ◌&&◌, Bool, true, List, [], ◌∷◌, length, slice_get, slice_index, Some, arith, count_by, get_or, refl, sym, ◌∙◌, ap}
use Rattle.std.proofs.lemmas.Bool.{eqb-true, and_parts}
use Rattle.std.specs.Prelude.{count_ones}
use Rattle.std.specs.Int.Count.{ones as ones_set, ones_in}
use Rattle.pel_model.specs.Bits.{field, number}
use Rattle.pel_model.specs.Grammar.{ones}
use Rattle.vlc_codes.proofs.CellLaws.{listed, listed_at}

abbrev is_told : ℕ → Bool
is_told c = count_ones c == ones c && (count_by (λ b. b) (field c 6) == ones c && number (field c 6) == c)

all_told : listed is_told 0 64 ≡ listed (λ k. true) 0 64
unfolding ones_set ones_in field number
all_told = refl

told : (c : ℕ) → c < 64 → is_told c ≡ true
told c within =
    sym (listed_at is_told 64 c true within) ∙ (ap (λ (tests : List Bool). get_or tests c true) all_told ∙ listed_at (λ k. true) 64 c true within)

pub six_ones : (c : ℕ) → c < 64 → count_ones c ≡ ones c
six_ones c within = eqb-true (count_ones c) (ones c) (and_parts (count_ones c == ones c) _ (told c within)).0

pub six_counted : (c : ℕ) → c < 64 → count_by (λ b. b) (field c 6) ≡ ones c
six_counted c within =
    eqb-true (count_by (λ b. b) (field c 6)) (ones c) (and_parts (count_by (λ b. b) (field c 6) == ones c) _ (and_parts (count_ones c == ones c) _ (told c within)).1).0

pub six_number : (c : ℕ) → c < 64 → number (field c 6) ≡ c
six_number c within =
    eqb-true (number (field c 6)) c (and_parts (count_by (λ b. b) (field c 6) == ones c) _ (and_parts (count_ones c == ones c) _ (told c within)).1).1

-- a block's bit
pub bit-of-six : (n i : ℕ) → i < 6 → slice_get (field n 6) i ≡ Some (n / slice_index (32 ∷ 16 ∷ 8 ∷ 4 ∷ 2 ∷ 1 ∷ []) i % 2 == 1)
unfolding field
bit-of-six n zero below = refl
bit-of-six n (suc zero) below = refl
bit-of-six n (suc (suc zero)) below = refl
bit-of-six n (suc (suc (suc zero))) below = refl
bit-of-six n (suc (suc (suc (suc zero)))) below = refl
bit-of-six n (suc (suc (suc (suc (suc zero))))) below = refl
bit-of-six n (suc (suc (suc (suc (suc (suc i)))))) below = absurd (omega arith)

pub six_long : (c : ℕ) → length (field c 6) ≡ 6
unfolding field
six_long c = refl
