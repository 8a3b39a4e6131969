-- The parts of a header.
use Rattle.std.proofs.Common.{◌≡◌, ℕ, ◌++◌, List, [], ◌∷◌, length, take, drop, slice_index, codes, refl, sym, ap, ap₂, ◌∙◌, arith}
use Rattle.std.proofs.lemmas.List.{get_or-drop, take-append-drop, length-drop}
use Rattle.conf_file.specs.Header.{header_of, header_size}

two : (xs : List ℕ) → length xs ≡ 2 → xs ≡ slice_index xs 0 ∷ slice_index xs 1 ∷ []
two [] h = absurd (omega (arith, h))
two (x ∷ []) h = absurd (omega (arith, h))
two (x ∷ y ∷ []) h = refl
two (x ∷ y ∷ z ∷ zs) h = absurd (omega (arith, h))

-- ten octets that begin with the letters and have the version behind them are a header
pub header_back : (octets : List ℕ) → length octets ≡ header_size → take 8 octets ≡ codes "H261CONF" → slice_index octets 8 ≡ 1
    → octets ≡ header_of (slice_index octets 9)
header_back octets long letters version =
    let behind = drop 8 octets in
    let last : behind ≡ slice_index behind 0 ∷ slice_index behind 1 ∷ [] = two behind (omega (arith, length-drop 8 octets, long)) in
    let same : behind ≡ 1 ∷ slice_index octets 9 ∷ [] =
    last ∙ ap₂ (λ v n. v ∷ n ∷ []) (get_or-drop 8 octets 0 0 ∙ version) (get_or-drop 8 octets 1 0) in
    sym (take-append-drop 8 octets) ∙ ap₂ ◌++◌ letters same

-- what the parts of a header are
pub header_parts : (octets : List ℕ) (lanes : ℕ) → octets ≡ header_of lanes
    → (take 8 octets ≡ codes "H261CONF") × (slice_index octets 8 ≡ 1) × (slice_index octets 9 ≡ lanes)
header_parts octets lanes whole = (ap (take 8) whole, ap (λ xs. slice_index xs 8) whole, ap (λ xs. slice_index xs 9) whole)
