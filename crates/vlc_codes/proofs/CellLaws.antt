-- Cells: what stands at a table's index, and why it is what stands at the front of the bits.
use Rattle.std.proofs.Common.{◌≡◌, ℕ, zero, suc, ◌+◌, ◌-◌, ◌*◌, ◌/◌, ◌%◌, ◌^◌, ◌<◌, ◌≤◌, ◌&&◌, Bool, true, false, List, [], ◌∷◌, ◌++◌, length, get_or, nat_lt, if◌then◌else◌, refl, sym, ◌∙◌, ap, subst, inl, inr, zero-add, arith}
use Rattle.std.proofs.lemmas.Bool.{ltb-true, ltb-false, and_parts, cases_Bool, cond-false, cond-true}
use Rattle.std.proofs.Math.Nat.{pow-le-pow_right}
use Rattle.std.specs.Int.{leading_zeros, w32}
use Rattle.std.proofs.lemmas.Nat.{leading_length, shr_below, le-div, pow-add, pow_pos}
use Rattle.pel_bits.specs.Bits.{field}
use Rattle.pel_bits.specs.Reading.{zeros}
use Rattle.pel_bits.proofs.Fields.{field-add, field-zero}
use Rattle.pel_model.specs.Codes.{is_prefix}
use Rattle.vlc_codes.specs.declared.lookup.Cell.{Cell}
use Rattle.vlc_codes.specs.Lookup.{cell_of, no_cell}
use Rattle.vlc_codes.specs.Inner.{cell_in}

-- the bits that an index stands for: some zeros, a 1, and five bits
abbrev pub front : ℕ → List Bool
front k = field (32 + k % 32) (k / 32 + 6)

abbrev pub listed : {A : Type 0} → (ℕ → A) → ℕ → ℕ → List A
listed f k zero = []
listed f k (suc n) = f k ∷ listed f (k + 1) n

pub get_listed : {A : Type 0} (f : ℕ → A) (i n k : ℕ) (d : A) → k < n → get_or (listed f i n) k d ≡ f (i + k)
get_listed f i zero k d h = absurd (omega arith)
get_listed f i (suc n) zero d h = ap f (omega arith)
get_listed f i (suc n) (suc k) d h = get_listed f (i + 1) n k d (omega arith) ∙ ap f (omega arith)

pub listed_at : {A : Type 0} (f : ℕ → A) (n k : ℕ) (d : A) → k < n → get_or (listed f 0 n) k d ≡ f k
listed_at f n k d h = get_listed f 0 n k d h ∙ ap f (zero-add k)

-- these bits alone decide whether the word stands at the front of them and of more
abbrev pub is_settled : List Bool → List Bool → Bool
is_settled [] bits = true
is_settled (b ∷ w) [] = false
is_settled (true ∷ w) (true ∷ bits) = is_settled w bits
is_settled (false ∷ w) (false ∷ bits) = is_settled w bits
is_settled (b ∷ w) (c ∷ bits) = true

abbrev pub all_settled : List (List Bool) → List Bool → Bool
all_settled [] bits = true
all_settled (w ∷ ws) bits = is_settled w bits && all_settled ws bits

is_prefix-settled : (w bits more : List Bool) → is_settled w bits ≡ true → is_prefix w (bits ++ more) ≡ is_prefix w bits
is_prefix-settled [] bits more h = refl
is_prefix-settled (b ∷ w) [] more h = absurd cc
is_prefix-settled (true ∷ w) (true ∷ bits) more h = is_prefix-settled w bits more h
is_prefix-settled (false ∷ w) (false ∷ bits) more h = is_prefix-settled w bits more h
is_prefix-settled (true ∷ w) (false ∷ bits) more h = refl
is_prefix-settled (false ∷ w) (true ∷ bits) more h = refl

pub cell-settled : (ws : List (List Bool)) (i : ℕ) (bits more : List Bool) → all_settled ws bits ≡ true → cell_of ws i (bits ++ more) ≡ cell_of ws i bits
cell-settled [] i bits more h = refl
cell-settled (w ∷ ws) i bits more h =
    let both = and_parts (is_settled w bits) (all_settled ws bits) h in
    ap (λ (b : Bool). if b then record { len = length w; value = i } else cell_of ws (i + 1) (bits ++ more)) (is_prefix-settled w bits more both.0)
    ∙ ap (λ (c : Cell). if is_prefix w bits then record { len = length w; value = i } else c) (cell-settled ws (i + 1) bits more both.1)

-- ---- the index of 32 bits

-- the six bits from the first 1 on
pub six_bits : (top z : ℕ) → top < 2 ^ 32 → z ≡ leading_zeros w32 top → z ≤ 9 → (32 ≤ top / 2 ^ (26 - z)) × (top / 2 ^ (26 - z) < 64)
six_bits top z fits is few =
    let l = leading_length 32 top fits in
    let e : ℕ = 26 - z in
    let m : l.0 ≡ 6 + (26 - z) = omega (arith, l.1) in
    let above : top < 2 ^ (6 + (26 - z)) = subst (λ (k : ℕ). top < 2 ^ k) m l.2 in
    let least : 2 ^ (6 + (26 - z)) ≤ 2 * top + 1 = subst (λ (k : ℕ). 2 ^ k ≤ 2 * top + 1) m l.3 in
    (le-div 32 top (2 ^ (26 - z)) (pow_pos (26 - z)) (omega (arith, pow-add 2 6 (26 - z))), shr_below top 6 (26 - z) above)

pub no_bits : (top : ℕ) → top < 2 ^ 32 → 9 < leading_zeros w32 top → top < 2 ^ 22
no_bits top fits many =
    let l = leading_length 32 top fits in
    let few : l.0 ≤ 22 = omega (arith, l.1) in
    let most : 2 ^ l.0 ≤ 2 ^ 22 = pow-le-pow_right (omega arith) few in
    omega (arith, l.2)

abbrev cell : ℕ → ℕ → Cell
cell len value = record { len = len; value = value }

cell_of-zeros : (ws : List (List Bool)) → all_settled ws (zeros 10) ≡ true → cell_of ws 0 (zeros 10) ≡ no_cell → (top : ℕ) → top < 2 ^ 22 → cell_of ws 0 (field top 32) ≡ no_cell
cell_of-zeros ws low none top below =
    let high : top / 2 ^ 22 ≡ 0 = omega arith in
    let bits : field top 32 ≡ zeros 10 ++ field top 22 = field-add top 10 22 ∙ ap (λ (t : List Bool). t ++ field top 22) (ap (λ (n : ℕ). field n 10) high ∙ field-zero 10) in
    ap (cell_of ws 0) bits ∙ (cell-settled ws 0 (zeros 10) (field top 22) low ∙ none)

abbrev index : ℕ → ℕ → ℕ
index top z = 32 * z + top / 2 ^ (26 - z) - 32

-- what stands at the index is what stands at the front
cell_of-front : (lens indices : List ℕ) (ws : List (List Bool)) → lens ≡ listed (λ k. (cell_of ws 0 (front k)).len) 0 320 → indices ≡ listed (λ k. (cell_of ws 0 (front k)).value) 0 320 → listed (λ k. all_settled ws (front k)) 0 320 ≡ listed (λ k. true) 0 320 → (top z : ℕ) → top < 2 ^ 32 → z ≡ leading_zeros w32 top → z ≤ 9 → cell (get_or lens (index top z) 0) (get_or indices (index top z) 0) ≡ cell_of ws 0 (field top 32)
cell_of-front lens indices ws lens_are indices_are settled top z fits is few =
    let six = six_bits top z fits is few in
    let k : ℕ = 32 * z + top / 2 ^ (26 - z) - 32 in
    let below : k < 320 = omega (arith, six) in
    let row : k / 32 + 6 ≡ z + 6 = omega (arith, six) in
    let column : 32 + k % 32 ≡ top / 2 ^ (26 - z) = omega (arith, six) in
    let width : z + 6 + (26 - z) ≡ 32 = omega arith in
    let bits : field top 32 ≡ front k ++ field top (26 - z) =
    ap (field top) (sym width)
    ∙ (field-add top (z + 6) (26 - z)
    ∙ ap (λ (t : List Bool). t ++ field top (26 - z)) (ap (λ (n : ℕ). field n (z + 6)) (sym column) ∙ ap (field (32 + k % 32)) (sym row))) in
    let decided : all_settled ws (front k) ≡ true =
    sym (listed_at (λ k. all_settled ws (front k)) 320 k true below) ∙ (ap (λ (bs : List Bool). get_or bs k true) settled ∙ listed_at (λ k. true) 320 k true below) in
    let len : get_or lens k 0 ≡ (cell_of ws 0 (front k)).len =
    ap (λ (ns : List ℕ). get_or ns k 0) lens_are ∙ listed_at (λ k. (cell_of ws 0 (front k)).len) 320 k 0 below in
    let index : get_or indices k 0 ≡ (cell_of ws 0 (front k)).value =
    ap (λ (ns : List ℕ). get_or ns k 0) indices_are ∙ listed_at (λ k. (cell_of ws 0 (front k)).value) 320 k 0 below in
    ap (λ (n : ℕ). cell n (get_or indices k 0)) len
    ∙ (ap (cell (cell_of ws 0 (front k)).len) index ∙ sym (ap (cell_of ws 0) bits ∙ cell-settled ws 0 (front k) (field top (26 - z)) decided))

-- a table that was computed from the words holds what stands at the front
pub cell-in : (lens indices : List ℕ) (ws : List (List Bool)) → lens ≡ listed (λ k. (cell_of ws 0 (front k)).len) 0 320 → indices ≡ listed (λ k. (cell_of ws 0 (front k)).value) 0 320 → listed (λ k. all_settled ws (front k)) 0 320 ≡ listed (λ k. true) 0 320 → all_settled ws (zeros 10) ≡ true → cell_of ws 0 (zeros 10) ≡ no_cell → (top : ℕ) → top < 2 ^ 32 → cell_in lens indices top ≡ cell_of ws 0 (field top 32)
cell-in lens indices ws lens_are indices_are settled low none top fits =
    let z : ℕ = leading_zeros w32 top in
    let here : Cell = cell (get_or lens (index top (leading_zeros w32 top)) 0) (get_or indices (index top (leading_zeros w32 top)) 0) in
    elim (cases_Bool (nat_lt 9 (leading_zeros w32 top))) [
      | inl many ↦
          cond-true (nat_lt 9 (leading_zeros w32 top)) no_cell here many
          ∙ sym (cell_of-zeros ws low none top (no_bits top fits (ltb-true 9 (leading_zeros w32 top) many)))
      | inr few ↦
          cond-false (nat_lt 9 (leading_zeros w32 top)) no_cell here few
          ∙ cell_of-front lens indices ws lens_are indices_are settled top (leading_zeros w32 top) fits refl (ltb-false 9 (leading_zeros w32 top) few)
    ]
