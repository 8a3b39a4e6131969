-- A coefficient's sign, run and level, as they stand in the next 32 bits.
use Rattle.std.proofs.Common.{◌≡◌, ℕ, zero, suc, ◌+◌, ◌-◌, ◌/◌, ◌%◌, ◌^◌, ◌<◌, ◌≤◌, ◌==◌, ℤ, Bool, true, false, cond, List, ◌++◌, length, take, drop, refl, sym, ◌∙◌, ap, arith, length-drop}
use mathlib.Core.Path.{fun_ext}
use Rattle.std.specs.List.{flat_map}
use Rattle.std.proofs.lemmas.List.{take-append-le, drop-append-le, drop-take, take-take}
use Rattle.std.proofs.lemmas.Nat.{mod_below}
use Rattle.pel_bits.specs.Bits.{bits, field, number}
use Rattle.pel_bits.specs.Reading.{zeros}
use Rattle.pel_bits.proofs.Fields.{number-field}
use Rattle.pel_bits.proofs.RunBits.{field-part}
use Rattle.pel_model.specs.Bits as model
use Rattle.pel_model.specs.Walk.{Good, whole_word}
use Rattle.pel_model.specs.Grammar.{Tcoeff, coefficient_row, escape_row, signed, from_twos_complement}
use Rattle.vlc_codes.proofs.WordLaws.{field-peeked, whole-good}

-- the number of bits is one, in both crates below
pub same_number : (bits : List Bool) → model.number bits ≡ number bits
unfolding number model.number
same_number bits = refl

-- and so are the bits of a number
pub same_field : (n w : ℕ) → model.field n w ≡ field n w
unfolding field model.field
same_field n w = refl

-- and those of octets
pub same_bits : (octets : List ℕ) → model.bits octets ≡ bits octets
same_bits octets = ap (λ (f : ℕ → List Bool). flat_map f octets) (fun_ext λ b. same_field b 8)

-- some of the next 32 bits
pub part-of-top : (bits : List Bool) (top s w : ℕ) → top ≡ number (take 32 (bits ++ zeros 32)) → s + w ≤ length bits → s + w ≤ 32 → model.number (take w (drop s bits)) ≡ top / 2 ^ (32 - s - w) % 2 ^ w
part-of-top bits top s w is inside short =
    let r : ℕ = 32 - s - w in
    let sum : s + (w + r) ≡ 32 = omega arith in
    let seen : field top 32 ≡ take 32 (bits ++ zeros 32) = ap (λ (n : ℕ). field n 32) is ∙ field-peeked bits 32 in
    let part : take w (drop s (field top 32)) ≡ field (top / 2 ^ r) w = ap (λ (n : ℕ). take w (drop s (field top n))) (sym sum) ∙ field-part top s w r in
    let front : take w (drop s (take 32 (bits ++ zeros 32))) ≡ take w (drop s (bits ++ zeros 32)) =
    ap (λ (n : ℕ). take w (drop s (take n (bits ++ zeros 32)))) (sym sum)
    ∙ (ap (take w) (drop-take s (w + r) (bits ++ zeros 32)) ∙ take-take w (w + r) (drop s (bits ++ zeros 32)) (omega arith)) in
    let within : take w (drop s (take 32 (bits ++ zeros 32))) ≡ take w (drop s bits) =
    front
    ∙ (ap (take w) (drop-append-le s bits (zeros 32) (omega arith)) ∙ take-append-le w (drop s bits) (zeros 32) (omega (arith, length-drop s bits))) in
    let same : take w (drop s bits) ≡ field (top / 2 ^ r) w = sym within ∙ (ap (λ (bs : List Bool). take w (drop s bs)) (sym seen) ∙ part) in
    same_number (take w (drop s bits)) ∙ (ap number same ∙ number-field (top / 2 ^ r) w)

signed-bit : (level sign : ℕ) → sign < 2 → signed level (cond (sign == 1) 1 0) ≡ signed level sign
signed-bit level zero h = refl
signed-bit level (suc zero) h = refl
signed-bit level (suc (suc n)) h = absurd (omega arith)

-- a code and its sign
pub pair-good : (bits code : List Bool) (top len run level : ℕ) (answer : ℤ) → top ≡ number (take 32 (bits ++ zeros 32)) → length code ≡ len → len < length bits → len ≤ 16 → answer ≡ signed level (cond (top / 2 ^ (31 - len) % 2 == 1) 1 0) → whole_word (coefficient_row code run level) bits ≡ Good (Tcoeff (record { run = run; level = answer; long = false })) (len + 1)
pair-good bits code top len run level answer is long inside short answered =
    let shift : 32 - len - 1 ≡ 31 - len = omega arith in
    let sign : model.number (take 1 (drop (length code) bits)) ≡ top / 2 ^ (31 - len) % 2 =
    ap (λ (n : ℕ). model.number (take 1 (drop n bits))) long
    ∙ (part-of-top bits top len 1 is (omega arith) (omega arith) ∙ ap (λ (n : ℕ). top / 2 ^ n % 2) shift) in
    let level_is : signed level (model.number (take 1 (drop (length code) bits))) ≡ answer =
    ap (signed level) sign
    ∙ (sym (signed-bit level (top / 2 ^ (31 - len) % 2) (mod_below (top / 2 ^ (31 - len)) 2 (omega arith))) ∙ sym answered) in
    whole-good (coefficient_row code run level) bits (omega (arith, long))
    ∙ (ap (λ (z : ℤ). Good (Tcoeff (record { run = run; level = z; long = false })) (length code + 1)) level_is
    ∙ ap (λ (n : ℕ). Good (Tcoeff (record { run = run; level = answer; long = false })) (n + 1)) long)

-- an escape
pub escape-good : (bits : List Bool) (top : ℕ) (answer : ℤ) → top ≡ number (take 32 (bits ++ zeros 32)) → 20 ≤ length bits → answer ≡ from_twos_complement (top / 4096 % 16384 % 256) → whole_word escape_row bits ≡ Good (Tcoeff (record { run = top / 4096 % 16384 / 256; level = answer; long = true })) 20
escape-good bits top answer is inside answered =
    let fields : model.number (take 14 (drop 6 bits)) ≡ top / 4096 % 16384 = part-of-top bits top 6 14 is inside (omega arith) in
    whole-good escape_row bits inside
    ∙ (ap (λ (n : ℕ). Good (Tcoeff (record { run = n / 256; level = from_twos_complement (n % 256); long = true })) 20) fields
    ∙ ap (λ (z : ℤ). Good (Tcoeff (record { run = top / 4096 % 16384 / 256; level = z; long = true })) 20) (sym answered))
