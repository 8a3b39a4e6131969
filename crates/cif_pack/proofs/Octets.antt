-- Octets whose first or last bits are zeros, and octets that bits are packed into.
use Rattle.std.proofs.Common.{◌≡◌, ℕ, zero, suc, ◌+◌, ◌-◌, ◌*◌, ◌/◌, ◌%◌, ◌^◌, ◌<◌, Bool, true, false, List, [], ◌∷◌, ◌++◌, take, drop, slice_index, refl, sym, ◌∙◌, ap, ap₂, subst, arith, append_assoc, append-nil, pos, negsuc, ℤ}
use Rattle.byteorder.specs.Endian.{big_bytes}
use Rattle.pel_bits.specs.Bits.{bits, field}
use Rattle.pel_bits.specs.Reading.{zeros}
use Rattle.pel_bits.proofs.Fields.{field-add, field-mod, field-join, field-zero, field-shift, take-field, drop-field, number-field, number-fits}
use Rattle.cif_pack.specs.declared.atoms.Context.{Context}
use Rattle.cif_pack.specs.Payload.{bits_packed, payload_header, low_five_bits}

front_value : (x n : ℕ) → n < 8 → x < 256 → x * 2 ^ n % 256 / 2 ^ n ≡ x % 2 ^ (8 - n)
front_value x zero h k = omega (arith, k)
front_value x (suc zero) h k = omega (arith, k)
front_value x (suc (suc zero)) h k = omega (arith, k)
front_value x (suc (suc (suc zero))) h k = omega (arith, k)
front_value x (suc (suc (suc (suc zero)))) h k = omega (arith, k)
front_value x (suc (suc (suc (suc (suc zero))))) h k = omega (arith, k)
front_value x (suc (suc (suc (suc (suc (suc zero)))))) h k = omega (arith, k)
front_value x (suc (suc (suc (suc (suc (suc (suc zero))))))) h k = omega (arith, k)
front_value x (suc (suc (suc (suc (suc (suc (suc (suc n)))))))) h k = absurd (omega (arith, h))

back_value : (x n : ℕ) → n < 8 → x < 256 → x / 2 ^ n * 2 ^ n % 256 ≡ x / 2 ^ n * 2 ^ n
back_value x zero h k = omega (arith, k)
back_value x (suc zero) h k = omega (arith, k)
back_value x (suc (suc zero)) h k = omega (arith, k)
back_value x (suc (suc (suc zero))) h k = omega (arith, k)
back_value x (suc (suc (suc (suc zero)))) h k = omega (arith, k)
back_value x (suc (suc (suc (suc (suc zero))))) h k = omega (arith, k)
back_value x (suc (suc (suc (suc (suc (suc zero)))))) h k = omega (arith, k)
back_value x (suc (suc (suc (suc (suc (suc (suc zero))))))) h k = omega (arith, k)
back_value x (suc (suc (suc (suc (suc (suc (suc (suc n)))))))) h k = absurd (omega (arith, h))

small_front : (x n : ℕ) → n < 8 → x % 2 ^ (8 - n) / 2 ^ (8 - n) ≡ 0
small_front x zero h = omega arith
small_front x (suc zero) h = omega arith
small_front x (suc (suc zero)) h = omega arith
small_front x (suc (suc (suc zero))) h = omega arith
small_front x (suc (suc (suc (suc zero)))) h = omega arith
small_front x (suc (suc (suc (suc (suc zero))))) h = omega arith
small_front x (suc (suc (suc (suc (suc (suc zero)))))) h = omega arith
small_front x (suc (suc (suc (suc (suc (suc (suc zero))))))) h = omega arith
small_front x (suc (suc (suc (suc (suc (suc (suc (suc n)))))))) h = absurd (omega (arith, h))

-- a field of the last w bits
mod_field : (n w : ℕ) → field (n % 2 ^ w) w ≡ field n w
mod_field n w = ap (λ k. field (n % 2 ^ k) w) (omega arith) ∙ field-mod n 0 w

-- the last w of eight bits stay
kept_front : (x n w : ℕ) → n + w ≡ 8 → n < 8 → field (x % 2 ^ (8 - n)) (n + w) ≡ zeros n ++ drop n (field x (n + w))
kept_front x n w long less =
    let w_is : 8 - n ≡ w = omega (arith, long) in
    let upper : x % 2 ^ (8 - n) / 2 ^ w ≡ 0 = subst (λ k. x % 2 ^ (8 - n) / 2 ^ k ≡ 0) w_is (small_front x n less) in
    let lower : field (x % 2 ^ (8 - n)) w ≡ field x w = ap (λ k. field (x % 2 ^ k) w) w_is ∙ mod_field x w in
    field-add (x % 2 ^ (8 - n)) n w
    ∙ ap₂ (λ (a : List Bool) (b : List Bool). a ++ b) (ap (λ k. field k n) upper ∙ field-zero n) (lower ∙ sym (drop-field x n w))

pub without-front : (x n : ℕ) → n < 8 → x < 256 → field (x * 2 ^ n % 256 / 2 ^ n) 8 ≡ zeros n ++ drop n (field x 8)
without-front x n less small =
    ap (λ k. field k 8) (front_value x n less small)
    ∙ subst (λ k. field (x % 2 ^ (8 - n)) k ≡ zeros n ++ drop n (field x k)) (omega (arith, less)) (kept_front x n (8 - n) (omega (arith, less)) less)

kept_back : (x n w : ℕ) → field (x / 2 ^ n * 2 ^ n) (w + n) ≡ take w (field x (w + n)) ++ zeros n
kept_back x n w = field-shift (x / 2 ^ n) w n ∙ ap (λ t. t ++ zeros n) (sym (take-field x w n))

pub without-back : (x n : ℕ) → n < 8 → x < 256 → field (x / 2 ^ n * 2 ^ n % 256) 8 ≡ take (8 - n) (field x 8) ++ zeros n
without-back x n less small =
    ap (λ k. field k 8) (back_value x n less small)
    ∙ subst (λ k. field (x / 2 ^ n * 2 ^ n) k ≡ take (8 - n) (field x k) ++ zeros n) (omega (arith, less)) (kept_back x n (8 - n))

-- ---- the payload header

five : ℕ → List Bool
five n = field n 5

pub header-word : (sbit ebit : ℕ) (c : Context) → sbit < 8 → ebit < 8
    → field (((((((sbit * 8 + ebit) * 4 + 1) * 16 + c.gobn % 16) * 32 + c.mbap % 32) * 32 + c.quant % 32) * 32 + low_five_bits c.across) * 32 + low_five_bits c.down) 32
    ≡ payload_header sbit ebit false true c
unfolding field
header-word sbit ebit c s e =
    let a = sbit * 8 + ebit in
    let b = a * 4 + 1 in
    let g = b * 16 + c.gobn % 16 in
    let m = g * 32 + c.mbap % 32 in
    let q = m * 32 + c.quant % 32 in
    let h = q * 32 + low_five_bits c.across in
    let f0 : field a 6 ≡ field sbit 3 ++ field ebit 3 = field-join sbit ebit 3 3 e in
    let f1 : field b 8 ≡ field a 6 ++ false ∷ true ∷ [] = field-join a 1 6 2 (omega arith) in
    let f2 : field g 12 ≡ field b 8 ++ field c.gobn 4 = field-join b (c.gobn % 16) 8 4 (omega arith) ∙ ap (λ t. field b 8 ++ t) (field-mod c.gobn 0 4) in
    let f3 : field m 17 ≡ field g 12 ++ field c.mbap 5 = field-join g (c.mbap % 32) 12 5 (omega arith) ∙ ap (λ t. field g 12 ++ t) (field-mod c.mbap 0 5) in
    let f4 : field q 22 ≡ field m 17 ++ field c.quant 5 = field-join m (c.quant % 32) 17 5 (omega arith) ∙ ap (λ t. field m 17 ++ t) (field-mod c.quant 0 5) in
    let f5 : field h 27 ≡ field q 22 ++ field (low_five_bits c.across) 5 = field-join q (low_five_bits c.across) 22 5 (five_below c.across) in
    let f6 : field (h * 32 + low_five_bits c.down) 32 ≡ field h 27 ++ field (low_five_bits c.down) 5 = field-join h (low_five_bits c.down) 27 5 (five_below c.down) in
    f6 ∙ ap (λ t. t ++ field (low_five_bits c.down) 5) (f5 ∙ ap (λ t. t ++ field (low_five_bits c.across) 5)
    (f4 ∙ ap (λ t. t ++ field c.quant 5) (f3 ∙ ap (λ t. t ++ field c.mbap 5) (f2 ∙ ap (λ t. t ++ field c.gobn 4) (f1 ∙ ap (λ t. t ++ false ∷ true ∷ []) f0)))))
  where
    five_below : (z : ℤ) → low_five_bits z < 2 ^ 5
    five_below (pos n) = omega arith
    five_below (negsuc n) = omega arith

-- the same of numbers that are these
pub header-word-of : (a b g m q h v sbit ebit : ℕ) (c : Context) → sbit < 8 → ebit < 8 → a ≡ sbit → b ≡ ebit
    → g ≡ c.gobn % 16 → m ≡ c.mbap % 32 → q ≡ c.quant % 32 → h ≡ low_five_bits c.across → v ≡ low_five_bits c.down
    → field (((((((a * 8 + b) * 4 + 1) * 16 + g) * 32 + m) * 32 + q) * 32 + h) * 32 + v) 32 ≡ payload_header sbit ebit false true c
header-word-of a b g m q h v sbit ebit c s e a_is b_is g_is m_is q_is h_is v_is =
    ap (λ k. field k 32) (same a b g m q h v sbit ebit _ _ _ _ _ a_is b_is g_is m_is q_is h_is v_is) ∙ header-word sbit ebit c s e
  where
    same : (a b g m q h v a2 b2 g2 m2 q2 h2 v2 : ℕ) → a ≡ a2 → b ≡ b2 → g ≡ g2 → m ≡ m2 → q ≡ q2 → h ≡ h2 → v ≡ v2
        → ((((((a * 8 + b) * 4 + 1) * 16 + g) * 32 + m) * 32 + q) * 32 + h) * 32 + v ≡ ((((((a2 * 8 + b2) * 4 + 1) * 16 + g2) * 32 + m2) * 32 + q2) * 32 + h2) * 32 + v2
    same a b g m q h v a2 b2 g2 m2 q2 h2 v2 e1 e2 e3 e4 e5 e6 e7 = omega (arith, e1, e2, e3, e4, e5, e6, e7)

-- ---- packed

pub packed-octet : (n : ℕ) (rest : List Bool) → bits_packed (field n 8 ++ rest) ≡ n % 256 ∷ bits_packed rest
unfolding bits_packed field
packed-octet n rest = ap (λ k. k ∷ bits_packed rest) (number-field n 8)

pub packed-bits : (octets : List ℕ) → ((i : ℕ) → slice_index octets i < 256) → bits_packed (bits octets) ≡ octets
unfolding field bits_packed
packed-bits [] small = refl
packed-bits (x ∷ xs) small =
    ap₂ (λ (n : ℕ) (ns : List ℕ). n ∷ ns) (number-fits x 8 (small 0)) (packed-bits xs (λ i. small (suc i)))

packed-two : (n : ℕ) (rest : List Bool) → bits_packed (field n 16 ++ rest) ≡ n / 256 % 256 ∷ n % 256 ∷ bits_packed rest
packed-two n rest =
    ap (λ t. bits_packed (t ++ rest)) (field-add n 8 8) ∙ ap bits_packed (append_assoc (field (n / 256) 8) (field n 8) rest)
    ∙ packed-octet (n / 256) (field n 8 ++ rest) ∙ ap (λ t. n / 256 % 256 ∷ t) (packed-octet n rest)

pub packed-word : (n : ℕ) → bits_packed (field n 32) ≡ big_bytes 4 n
unfolding bits_packed
packed-word n =
    ap bits_packed (field-add n 16 16 ∙ ap (λ t. field (n / 65536) 16 ++ t) (sym (append-nil (field n 16))))
    ∙ packed-two (n / 65536) (field n 16 ++ []) ∙ ap (λ t. n / 65536 / 256 % 256 ∷ n / 65536 % 256 ∷ t) (packed-two n [])
    ∙ ap₂ (λ (a : ℕ) (b : ℕ). a ∷ b ∷ n / 256 % 256 ∷ n % 256 ∷ []) (omega arith) (omega arith)
