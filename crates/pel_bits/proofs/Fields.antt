-- Fields of bits and the numbers that they spell.
use Rattle.std.proofs.Common.{◌≡◌, ℕ, zero, suc, ◌+◌, ◌*◌, ◌/◌, ◌%◌, ◌^◌, ◌<◌, ◌==◌, Bool, true, false, cond, List, [], ◌∷◌, ◌++◌, length, take, drop, refl, sym, ◌∙◌, ap, zero-add, arith, length-append, take_at, drop_at}
use Rattle.std.proofs.Math.Nat.{add_comm, zero-div, mod-one, pow-suc, mod-eq_of_lt}
use Rattle.std.proofs.Math.Pow.{mod-mod-pow}
use Rattle.std.proofs.lemmas.Nat.{shr-shr, field_of, shr_high, mod_low, mod-pow-add, pow-add, pow_pos, mod_below}
use Rattle.pel_bits.specs.Bits.{is_odd, field, number}
use Rattle.pel_bits.specs.Reading.{zeros}

pub length-field : (n w : ℕ) → length (field n w) ≡ w
unfolding field
length-field n zero = refl
length-field n (suc w) = ap suc (length-field n w)

-- a field is the field of its upper bits and that of its lower bits
pub field-add : (n a b : ℕ) → field n (a + b) ≡ field (n / 2 ^ b) a ++ field n b
unfolding field
field-add n zero b = ap (field n) (zero-add b)
field-add n (suc a) b =
    let sum : suc a + b ≡ suc (a + b) = omega arith in
    let top : n / 2 ^ (a + b) ≡ n / 2 ^ b / 2 ^ a = ap (λ (k : ℕ). n / 2 ^ k) (add_comm a b) ∙ sym (shr-shr n b a) in
    ap (field n) sum ∙ (ap (λ (x : ℕ). is_odd x ∷ field n (a + b)) top ∙ ap (λ (t : List Bool). is_odd (n / 2 ^ b / 2 ^ a) ∷ t) (field-add n a b))

-- a field looks at no bit above it
pub field-mod : (n j w : ℕ) → field (n % 2 ^ (j + w)) w ≡ field n w
unfolding field
field-mod n j zero = refl
field-mod n j (suc w) =
    let sum : j + suc w ≡ (j + 1) + w = omega arith in
    let bit : n % 2 ^ (j + suc w) / 2 ^ w % 2 ≡ n / 2 ^ w % 2 = ap (λ (k : ℕ). n % 2 ^ k / 2 ^ w % 2) sum ∙ (ap (λ (x : ℕ). x % 2) (field_of n (j + 1) w) ∙ mod-mod-pow (n / 2 ^ w) j 1) in
    ap (λ (x : ℕ). (x == 1) ∷ field (n % 2 ^ (j + suc w)) w) bit ∙ ap (λ (t : List Bool). is_odd (n / 2 ^ w) ∷ t) (ap (λ (k : ℕ). field (n % 2 ^ k) w) sum ∙ field-mod n (j + 1) w)

-- the field of a number put together from two
pub field-join : (a b m k : ℕ) → b < 2 ^ k → field (a * 2 ^ k + b) (m + k) ≡ field a m ++ field b k
field-join a b m k below =
    let high : field ((a * 2 ^ k + b) / 2 ^ k) m ≡ field a m = ap (λ (x : ℕ). field x m) (shr_high a k b below) in
    let low : field (a * 2 ^ k + b) k ≡ field b k = sym (field-mod (a * 2 ^ k + b) 0 k) ∙ (ap (λ (e : ℕ). field ((a * 2 ^ k + b) % 2 ^ e) k) (zero-add k) ∙ ap (λ (x : ℕ). field x k) (mod_low a k b below)) in
    field-add (a * 2 ^ k + b) m k ∙ (ap (λ (t : List Bool). t ++ field (a * 2 ^ k + b) k) high ∙ ap (λ (t : List Bool). field a m ++ t) low)

pub field-zero : (w : ℕ) → field 0 w ≡ zeros w
unfolding field
field-zero zero = refl
field-zero (suc w) = ap (λ (x : ℕ). is_odd x ∷ field 0 w) (zero-div (2 ^ w)) ∙ ap (λ (t : List Bool). false ∷ t) (field-zero w)

-- the field of a number with zeros behind it
pub field-shift : (a m k : ℕ) → field (a * 2 ^ k) (m + k) ≡ field a m ++ zeros k
field-shift a m k =
    let sum : a * 2 ^ k ≡ a * 2 ^ k + 0 = omega arith in
    ap (λ (x : ℕ). field x (m + k)) sum ∙ (field-join a 0 m k (pow_pos k) ∙ ap (λ (t : List Bool). field a m ++ t) (field-zero k))

-- the first bits of a field are the field of the number's upper bits
pub take-field : (n a b : ℕ) → take a (field n (a + b)) ≡ field (n / 2 ^ b) a
take-field n a b = ap (take a) (field-add n a b) ∙ take_at (field (n / 2 ^ b) a) (field n b) a (length-field (n / 2 ^ b) a)

pub drop-field : (n a b : ℕ) → drop a (field n (a + b)) ≡ field n b
drop-field n a b = ap (drop a) (field-add n a b) ∙ drop_at (field (n / 2 ^ b) a) (field n b) a (length-field (n / 2 ^ b) a)

odd-times : (m p : ℕ) → m < 2 → cond (m == 1) p 0 ≡ m * p
odd-times zero p _ = omega arith
odd-times (suc zero) p _ = omega arith
odd-times (suc (suc m)) p below = omega arith

-- the bits of a number's last w bits spell the number modulo 2 ^ w
pub number-field : (n w : ℕ) → number (field n w) ≡ n % 2 ^ w
unfolding field number
number-field n zero = sym (mod-one n)
number-field n (suc w) =
    let first : cond (is_odd (n / 2 ^ w)) (2 ^ w) 0 ≡ (n / 2 ^ w % 2) * 2 ^ w = odd-times (n / 2 ^ w % 2) (2 ^ w) (mod_below (n / 2 ^ w) 2 (omega arith)) in
    let whole : n % 2 ^ (1 + w) ≡ (n / 2 ^ w % 2 ^ 1) * 2 ^ w + n % 2 ^ w = mod-pow-add n 1 w in
    let sum : suc w ≡ 1 + w = omega arith in
    ap (λ (k : ℕ). cond (is_odd (n / 2 ^ w)) (2 ^ k) 0 + number (field n w)) (length-field n w)
    ∙ (ap (λ (x : ℕ). x + number (field n w)) first
    ∙ (ap (λ (x : ℕ). (n / 2 ^ w % 2) * 2 ^ w + x) (number-field n w)
    ∙ (sym whole ∙ ap (λ (k : ℕ). n % 2 ^ k) (sym sum))))

pub number_below : (bs : List Bool) → number bs < 2 ^ length bs
unfolding number
number_below [] = omega arith
number_below (true ∷ bs) = omega (arith, number_below bs, pow-suc 2 (length bs))
number_below (false ∷ bs) = omega (arith, number_below bs, pow-suc 2 (length bs))

suc-is : (n : ℕ) → suc n ≡ 1 + n
suc-is n = omega arith

-- a number's bits in the width of the bits that spell it are these bits
pub field-number : (bs : List Bool) → field (number bs) (length bs) ≡ bs
unfolding field number
field-number [] = refl
field-number (true ∷ bs) =
    ap (λ (x : ℕ). field x (suc (length bs))) (omega arith)
    ∙ (ap (field (1 * 2 ^ length bs + number bs)) (suc-is (length bs))
    ∙ (field-join 1 (number bs) 1 (length bs) (number_below bs)
    ∙ ap (λ (t : List Bool). true ∷ t) (field-number bs)))
field-number (false ∷ bs) =
    ap (λ (x : ℕ). field x (suc (length bs))) (omega arith)
    ∙ (ap (field (0 * 2 ^ length bs + number bs)) (suc-is (length bs))
    ∙ (field-join 0 (number bs) 1 (length bs) (number_below bs)
    ∙ ap (λ (t : List Bool). false ∷ t) (field-number bs)))

-- a field of a number that fits it spells it
pub number-fits : (n w : ℕ) → n < 2 ^ w → number (field n w) ≡ n
number-fits n w below = number-field n w ∙ mod-eq_of_lt below

cond-times : (b : Bool) (p q : ℕ) → cond b (p * q) 0 ≡ cond b p 0 * q
cond-times true p q = refl
cond-times false p q = omega arith

regroup : (a n p m : ℕ) → a * p + (n * p + m) ≡ (a + n) * p + m
regroup a n p m = omega arith

-- what two runs of bits spell together
pub number-append : (xs ys : List Bool) → number (xs ++ ys) ≡ number xs * 2 ^ length ys + number ys
unfolding number
number-append [] ys = omega arith
number-append (b ∷ xs) ys =
    let len : 2 ^ length (xs ++ ys) ≡ 2 ^ length xs * 2 ^ length ys = ap (λ (k : ℕ). 2 ^ k) (length-append xs ys) ∙ pow-add 2 (length xs) (length ys) in
    let first : cond b (2 ^ length (xs ++ ys)) 0 ≡ cond b (2 ^ length xs) 0 * 2 ^ length ys = ap (λ (p : ℕ). cond b p 0) len ∙ cond-times b (2 ^ length xs) (2 ^ length ys) in
    ap (λ (p : ℕ). p + number (xs ++ ys)) first
    ∙ (ap (λ (p : ℕ). cond b (2 ^ length xs) 0 * 2 ^ length ys + p) (number-append xs ys) ∙ regroup (cond b (2 ^ length xs) 0) (number xs) (2 ^ length ys) (number ys))
