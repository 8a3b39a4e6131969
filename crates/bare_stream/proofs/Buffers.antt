-- The octets of a buffer that are filled, as bits.
use Rattle.std.proofs.Common.{◌≡◌, ℕ, suc, ◌+◌, ◌-◌, ◌*◌, ◌/◌, ◌%◌, ◌≤◌, Bool, List, [], ◌∷◌, ◌++◌, length, take, drop, sym, ◌∙◌, ap, arith, length-drop}
use lib.Seq.{paste}
use Rattle.std.proofs.lemmas.List.{drop_all, length-take-le, drop-drop, drop-take, drop-append-le, take-append-le}
use Rattle.std.proofs.Math.Seq.{take-length}
use Rattle.std.proofs.lemmas.List.Edits.{take-paste}
use Rattle.bare_stream.specs.Filling.{window}
use Rattle.picture_laws.specs.Laws.{kept_length}
use Rattle.pel_bits.specs.Bits.{bits}
use Rattle.pel_bits.proofs.OctetBits.{length-bits, bits-append, drop-bits}
use Rattle.pel_model.specs.declared.Format.{Format}
use Rattle.pel_model.specs.declared.Format.TheVariants.{Qcif, Cif}

-- octets have eight bits each
pub rest-length : (octets : List ℕ) (filled from : ℕ) → filled ≤ length octets → length (drop from (bits (take filled octets))) ≡ 8 * filled - from
rest-length octets filled from inside =
    omega (arith, length-drop from (bits (take filled octets)), length-bits (take filled octets), length-take-le filled octets inside)

-- bits from a place on are those of the octets from its own on
from-octet : (octets : List ℕ) (from : ℕ) → from ≤ 8 * length octets → drop (from % 8) (bits (drop (from / 8) octets)) ≡ drop from (bits octets)
from-octet octets from inside =
    ap (drop (from % 8)) (sym (drop-bits (from / 8) octets (omega (arith, inside))))
    ∙ (drop-drop (from % 8) (8 * (from / 8)) (bits octets) ∙ ap (λ (k : ℕ). drop k (bits octets)) (omega arith))

-- the octets that hold the rest, moved to the front
pub moved : (octets items : List ℕ) (filled from : ℕ) → from ≤ 8 * filled → filled ≤ length octets
    → items ≡ paste octets 0 (drop (from / 8) octets) (filled - from / 8)
    → take (filled - from / 8) items ≡ drop (from / 8) (take filled octets)
moved octets items filled from below inside is =
    let given = from / 8 in
    let left = filled - given in
    let whole : given + left ≡ filled = omega (arith, below) in
    ap (take left) is ∙ ap (λ (k : ℕ). take k (paste octets 0 (drop given octets) left)) (omega arith)
    ∙ take-paste octets 0 (drop given octets) left (omega arith) (omega (arith, length-drop given octets, inside))
    ∙ (sym (drop-take given left octets) ∙ ap (λ (k : ℕ). drop given (take k octets)) whole)

take-behind : (xs ys : List ℕ) (n : ℕ) → take (length xs + n) (xs ++ ys) ≡ xs ++ take n ys
take-behind [] ys n = ap (λ (k : ℕ). take k ys) (omega arith)
take-behind (x ∷ xs) ys n =
    ap (λ (k : ℕ). take k (x ∷ (xs ++ ys))) (to_suc (length xs)) ∙ ap (λ (t : List ℕ). x ∷ t) (take-behind xs ys n)
  where
    to_suc : (k : ℕ) → suc k + n ≡ suc (k + n)
    to_suc k = omega arith

-- and octets behind them
pub rest-more : (octets items front out more : List ℕ) (filled from n : ℕ) → from ≤ 8 * filled → filled ≤ length octets
    → take (filled - from / 8) front ≡ drop (from / 8) (take filled octets) → filled - from / 8 ≤ length front
    → items ≡ take (filled - from / 8) front ++ (out ++ more) → n ≤ length out
    → drop (from % 8) (bits (take (filled - from / 8 + n) items)) ≡ drop from (bits (take filled octets)) ++ bits (take n out)
rest-more octets items front out more filled from n below inside moved_ long is few =
    let given = from / 8 in
    let left = filled - given in
    let held : length (take filled octets) ≡ filled = length-take-le filled octets inside in
    let first : take left front ≡ drop given (take filled octets) = moved_ in
    let size : length (drop given (take filled octets)) ≡ left = omega (arith, length-drop given (take filled octets), held) in
    let taken : take (left + n) items ≡ drop given (take filled octets) ++ take n out =
    ap (take (left + n)) (is ∙ ap (λ (t : List ℕ). t ++ (out ++ more)) first)
    ∙ (ap (λ (k : ℕ). take (k + n) (drop given (take filled octets) ++ (out ++ more))) (sym size)
    ∙ take-behind (drop given (take filled octets)) (out ++ more) n
    ∙ ap (λ (t : List ℕ). drop given (take filled octets) ++ t) (take-append-le n out more few)) in
    ap (λ (t : List ℕ). drop (from % 8) (bits t)) taken
    ∙ (ap (drop (from % 8)) (bits-append (drop given (take filled octets)) (take n out))
    ∙ (drop-append-le (from % 8) (bits (drop given (take filled octets))) (bits (take n out)) (omega (arith, length-bits (drop given (take filled octets)), size, below))
    ∙ ap (λ (t : List Bool). t ++ bits (take n out)) (from-octet (take filled octets) from (omega (arith, held, below)))))

-- and all that were taken
pub rest-all : (octets items front out more : List ℕ) (filled from n : ℕ) → from ≤ 8 * filled → filled ≤ length octets
    → take (filled - from / 8) front ≡ drop (from / 8) (take filled octets) → filled - from / 8 ≤ length front
    → items ≡ take (filled - from / 8) front ++ (out ++ more) → n ≡ filled - from / 8 + length out
    → drop (from % 8) (bits (take n items)) ≡ drop from (bits (take filled octets)) ++ bits out
rest-all octets items front out more filled from n below inside moved_ long is size =
    ap (λ (k : ℕ). drop (from % 8) (bits (take k items))) size
    ∙ (rest-more octets items front out more filled from (length out) below inside moved_ long is (omega arith)
    ∙ ap (λ (t : List ℕ). drop from (bits (take filled octets)) ++ bits t) (take-length out))

-- the bits of a rest are all that are behind its first
pub seen-all : (octets items : List ℕ) (filled from n : ℕ) → items ≡ octets → n ≡ length (drop from (bits (take filled octets)))
    → take n (drop from (bits (take filled items))) ≡ drop from (bits (take filled octets))
seen-all octets items filled from n is size =
    ap (λ (t : List ℕ). take n (drop from (bits (take filled t)))) is
    ∙ (ap (λ (k : ℕ). take k (drop from (bits (take filled octets)))) size ∙ take-length (drop from (bits (take filled octets))))

-- a buffer is not long
pub window-fits : (format : Format) → window format ≤ 32777
window-fits Qcif = omega arith
window-fits Cif = omega arith

-- behind the last bit there is none
pub none-left : (octets : List ℕ) (filled : ℕ) → filled ≤ length octets → drop (8 * filled) (bits (take filled octets)) ≡ []
none-left octets filled inside = drop_all (8 * filled) (bits (take filled octets)) (omega (arith, length-bits (take filled octets), length-take-le filled octets inside))

-- a full buffer has enough, where its rest begins in the first octet
pub all-enough : (octets : List ℕ) (n from : ℕ) (format : Format) → n ≤ length octets → n ≡ 2 * window format → kept_length format ≤ length (drop (from % 8) (bits (take n octets)))
all-enough octets n from format inside full = omega (arith, rest-length octets n (from % 8) inside, full)
