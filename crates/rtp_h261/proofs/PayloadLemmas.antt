-- The fields of a payload header.
use Rattle.std.proofs.Common.{◌≡◌, ℕ, zero, suc, min, ◌+◌, ◌-◌, ◌*◌, ◌^◌, ◌<◌, ◌≤◌, ◌==◌, nat_le, Bool, true, false, ◌&&◌, List, [], ◌∷◌, ◌++◌, length, take, drop, refl, sym, ap, ap₂, subst, ◌∙◌, arith, length-take, length-drop}
use Rattle.std.proofs.lemmas.List.{drop-drop, drop-take, take-take, take_at, drop_at}
use Rattle.std.proofs.lemmas.Bool.Decides.{nat_tests}
use Rattle.std.proofs.Math.Seq.{take-add}
use Rattle.rtp_h261.specs.declared.payload.PayloadHeader.{PayloadHeader}
use Rattle.rtp_h261.specs.Packets.{sbit, ebit, carried, is_usable}
use Rattle.rtp_h261.specs.Payload.{AreWidths, payload_header_bits, five_bits_of}
use Rattle.pel_bits.specs.Bits.{bits, field, number}
use Rattle.pel_bits.proofs.Fields.{field-number, number_below, number-fits, length-field}

long : (from width : ℕ) (bs : List Bool) → from + width ≤ length bs → length (take width (drop from bs)) ≡ width
long from width bs inside = omega (arith, inside, length-take width (drop from bs), length-drop from bs)

pub field_is : (n from width : ℕ) (bs : List Bool) → from + width ≤ length bs → n ≡ number (take width (drop from bs)) → field n width ≡ take width (drop from bs)
field_is n from width bs inside is =
    let part = take width (drop from bs) in
    ap₂ field is (sym (long from width bs inside)) ∙ field-number part

pub number_small : (n from width : ℕ) (bs : List Bool) → from + width ≤ length bs → n ≡ number (take width (drop from bs)) → n < 2 ^ width
number_small n from width bs inside is =
    subst (λ k. k < 2 ^ width) (sym is) (subst (λ k. number (take width (drop from bs)) < 2 ^ k) (long from width bs inside) (number_below (take width (drop from bs))))

bit_is : (bs : List Bool) → length bs ≡ 1 → (number bs == 1) ∷ [] ≡ bs
unfolding number
bit_is [] h = absurd (omega (arith, h))
bit_is (true ∷ []) h = refl
bit_is (false ∷ []) h = refl
bit_is (a ∷ b ∷ bs) h = absurd (omega (arith, h))

pub flag_is : (from : ℕ) (bs : List Bool) → from + 1 ≤ length bs → (number (take 1 (drop from bs)) == 1) ∷ [] ≡ take 1 (drop from bs)
flag_is from bs inside = bit_is (take 1 (drop from bs)) (long from 1 bs inside)

-- one field behind another
behind : (from a b : ℕ) (bs xs ys : List Bool) → xs ≡ take a (drop from bs) → ys ≡ take b (drop (from + a) bs) → xs ++ ys ≡ take (a + b) (drop from bs)
behind from a b bs xs ys x y =
    ap₂ (λ (us vs : List Bool). us ++ vs) x (y ∙ ap (take b) (sym (drop-drop a from bs)))
    ∙ sym (take-add a b (drop from bs))

-- the fields of a header one after another
pub header_is : (h : PayloadHeader) (bs : List Bool)
    → field h.sbit 3 ≡ take 3 (drop 0 bs) → field h.ebit 3 ≡ take 3 (drop 3 bs) → h.i ∷ [] ≡ take 1 (drop 6 bs) → h.v ∷ [] ≡ take 1 (drop 7 bs)
    → field h.gobn 4 ≡ take 4 (drop 8 bs) → field h.mbap 5 ≡ take 5 (drop 12 bs) → field h.quant 5 ≡ take 5 (drop 17 bs)
    → field (five_bits_of h.hmvd) 5 ≡ take 5 (drop 22 bs) → field (five_bits_of h.vmvd) 5 ≡ take 5 (drop 27 bs)
    → payload_header_bits h ≡ take 32 bs
header_is h bs a b i v g m q x y =
    behind 0 3 29 bs _ _ a (behind 3 3 26 bs _ _ b (behind 6 1 25 bs (h.i ∷ []) _ i (behind 7 1 24 bs (h.v ∷ []) _ v
    (behind 8 4 20 bs _ _ g (behind 12 5 15 bs _ _ m (behind 17 5 10 bs _ _ q (behind 22 5 5 bs _ _ x y)))))))

-- ---- the bits behind a header

pub sbit_is : (h : PayloadHeader) (octets : List ℕ) → AreWidths h → payload_header_bits h ≡ take 32 (bits octets) → sbit octets ≡ h.sbit
sbit_is h octets w is =
    ap number (sym (take-take 3 32 (bits octets) (omega arith)) ∙ ap (take 3) (sym is) ∙ take_at (field h.sbit 3) _ 3 (length-field h.sbit 3))
    ∙ number-fits h.sbit 3 w.sbit

pub ebit_is : (h : PayloadHeader) (octets : List ℕ) → AreWidths h → payload_header_bits h ≡ take 32 (bits octets) → ebit octets ≡ h.ebit
ebit_is h octets w is =
    let cut : take 3 (drop 3 (bits octets)) ≡ take 3 (drop 3 (take 32 (bits octets))) =
    sym (ap (take 3) (drop-take 3 29 (bits octets)) ∙ take-take 3 29 (drop 3 (bits octets)) (omega arith)) in
    ap number (cut ∙ ap (λ (xs : List Bool). take 3 (drop 3 xs)) (sym is) ∙ ap (take 3) (drop_at (field h.sbit 3) _ 3 (length-field h.sbit 3)) ∙ take_at (field h.ebit 3) _ 3 (length-field h.ebit 3))
    ∙ number-fits h.ebit 3 w.ebit

take_none : (n : ℕ) → take {A = Bool} n [] ≡ []
take_none zero = refl
take_none (suc n) = refl

take_both : (m n : ℕ) (xs : List Bool) → take m (take n xs) ≡ take (min n m) xs
take_both m n [] = ap (take m) (take_none n) ∙ take_none m ∙ sym (take_none (min n m))
take_both zero n (x ∷ xs) = ap (λ k. take k (x ∷ xs)) {x = 0} {y = min n 0} (omega arith)
take_both (suc m) zero (x ∷ xs) = ap (λ k. take k (x ∷ xs)) {x = 0} {y = min 0 (suc m)} (omega arith)
take_both (suc m) (suc n) (x ∷ xs) =
    let e : suc (min n m) ≡ min (suc n) (suc m) = omega arith in
    ap (λ (ys : List Bool). x ∷ ys) (take_both m n xs) ∙ ap (λ k. take k (x ∷ xs)) e

and_false : (b : Bool) → (b && false) ≡ false
and_false true = refl
and_false false = refl

pub not_usable : (h : PayloadHeader) (octets : List ℕ) → AreWidths h → payload_header_bits h ≡ take 32 (bits octets)
    → min (length octets - 4) 65536 * 8 < h.sbit + h.ebit → is_usable octets ≡ false
not_usable h octets w is few =
    let s = sbit_is h octets w is in
    let e = ebit_is h octets w is in
    let test : nat_le (sbit octets + ebit octets) (8 * (length octets - 4)) ≡ false = grind (arith, nat_tests, s, e, few, w.sbit, w.ebit) in
    ap (λ (b : Bool). nat_le 4 (length octets) && b) test ∙ and_false (nat_le 4 (length octets))

pub usable : (h : PayloadHeader) (octets : List ℕ) → 4 ≤ length octets → AreWidths h → payload_header_bits h ≡ take 32 (bits octets)
    → h.sbit + h.ebit ≤ min (length octets - 4) 65536 * 8 → is_usable octets ≡ true
usable h octets there w is enough =
    let s = sbit_is h octets w is in
    let e = ebit_is h octets w is in
    let first : nat_le 4 (length octets) ≡ true = grind (arith, nat_tests, there) in
    let test : nat_le (sbit octets + ebit octets) (8 * (length octets - 4)) ≡ true = grind (arith, nat_tests, s, e, enough) in
    ap₂ (λ (a b : Bool). a && b) first test

pub carried_is : (h : PayloadHeader) (octets : List ℕ) (room : ℕ) → room ≤ 500000 → AreWidths h → payload_header_bits h ≡ take 32 (bits octets)
    → take (min (min (length octets - 4) 65536 * 8 - (h.sbit + h.ebit)) room) (drop h.sbit (bits (drop 4 octets))) ≡ take room (carried octets)
carried_is h octets room small w is =
    let s = sbit_is h octets w is in
    let e = ebit_is h octets w is in
    let long : min (min (length octets - 4) 65536 * 8 - (h.sbit + h.ebit)) room ≡ min (8 * (length octets - 4) - (h.sbit + h.ebit)) room = omega (arith, small, w.sbit, w.ebit) in
    let away : h.sbit + h.ebit ≡ sbit octets + ebit octets = omega (arith, s, e) in
    ap (λ k. take k (drop h.sbit (bits (drop 4 octets)))) long
    ∙ sym (take_both room (8 * (length octets - 4) - (h.sbit + h.ebit)) (drop h.sbit (bits (drop 4 octets))))
    ∙ ap₂ (λ (a k : ℕ). take room (take (8 * (length octets - 4) - a) (drop k (bits (drop 4 octets))))) away (sym s)
