-- The bits of octets.
use Rattle.std.proofs.Common.{◌≡◌, ℕ, ◌+◌, ◌-◌, ◌*◌, ◌≤◌, List, [], ◌∷◌, ◌++◌, length, take, drop, refl, sym, ◌∙◌, ap, arith, length-append, length-drop, length-take, take_at, drop_at, take-append-drop}
use Rattle.std.proofs.lemmas.Grind.{flat_map-append}
use Rattle.std.proofs.lemmas.List.{drop-drop, drop-take, take-take}
use Rattle.pel_bits.specs.Bits.{bits, field}
use Rattle.pel_bits.proofs.Fields.{length-field}

pub length-bits : (xs : List ℕ) → length (bits xs) ≡ 8 * length xs
length-bits [] = refl
length-bits (x ∷ xs) = length-append (field x 8) (bits xs) ∙ omega (arith, length-field x 8, length-bits xs)

pub bits-append : (xs ys : List ℕ) → bits (xs ++ ys) ≡ bits xs ++ bits ys
bits-append xs ys = flat_map-append (λ b. field b 8) xs ys

-- the bits of the first octets
pub take-bits : (n : ℕ) (xs : List ℕ) → n ≤ length xs → take (8 * n) (bits xs) ≡ bits (take n xs)
take-bits n xs fits =
    let all : bits xs ≡ bits (take n xs) ++ bits (drop n xs) = ap bits (sym (take-append-drop n xs)) ∙ bits-append (take n xs) (drop n xs) in
    let len : length (bits (take n xs)) ≡ 8 * n = length-bits (take n xs) ∙ omega (arith, length-take n xs) in
    ap (take (8 * n)) all ∙ take_at (bits (take n xs)) (bits (drop n xs)) (8 * n) len

-- the bits of the octets after these
pub drop-bits : (n : ℕ) (xs : List ℕ) → n ≤ length xs → drop (8 * n) (bits xs) ≡ bits (drop n xs)
drop-bits n xs fits =
    let all : bits xs ≡ bits (take n xs) ++ bits (drop n xs) = ap bits (sym (take-append-drop n xs)) ∙ bits-append (take n xs) (drop n xs) in
    let len : length (bits (take n xs)) ≡ 8 * n = length-bits (take n xs) ∙ omega (arith, length-take n xs) in
    ap (drop (8 * n)) all ∙ drop_at (bits (take n xs)) (bits (drop n xs)) (8 * n) len

-- ---- a part of the bits of octets
pub length-part : (octets : List ℕ) (from len : ℕ) → from + len ≤ 8 * length octets → length (take len (drop from (bits octets))) ≡ len
length-part octets from len inside =
    length-take len (drop from (bits octets)) ∙ omega (arith, length-drop from (bits octets), length-bits octets)

pub length-front : (octets : List ℕ) (len : ℕ) → len ≤ 8 * length octets → length (take len (bits octets)) ≡ len
length-front octets len inside = length-take len (bits octets) ∙ omega (arith, length-bits octets)

pub part-part : (octets : List ℕ) (from len m n : ℕ) → m + n ≤ len → take n (drop m (take len (drop from (bits octets)))) ≡ take n (drop (from + m) (bits octets))
part-part octets from len m n inside =
    let split : len ≡ m + (len - m) = omega arith in
    ap (λ (k : ℕ). take n (drop m (take k (drop from (bits octets))))) split
    ∙ (ap (take n) (drop-take m (len - m) (drop from (bits octets)))
    ∙ (take-take n (len - m) (drop m (drop from (bits octets))) (omega arith)
    ∙ ap (take n) (drop-drop m from (bits octets))))
