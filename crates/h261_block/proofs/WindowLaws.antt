-- The first bits of a word of 64, which show the window of a reader.
use Rattle.std.proofs.Common.{◌≡◌, ℕ, ◌+◌, ◌-◌, ◌*◌, ◌/◌, ◌%◌, ◌^◌, ◌≤◌, ◌++◌, take, drop, sym, ◌∙◌, ap, arith}
use Rattle.std.proofs.lemmas.List.{drop-take, take-append-le}
use Rattle.pel_bits.specs.Bits.{field}
use Rattle.pel_bits.specs.Reading.{zeros}
use Rattle.pel_bits.proofs.Fields.{length-field, field-mod, field-shift, take-field, drop-field}

-- the first bits of a number
pub first-bits : (rest w : ℕ) → w ≤ 64 → take w (field rest 64) ≡ field (rest / 2 ^ (64 - w)) w
first-bits rest w fits =
    let sum : w + (64 - w) ≡ 64 = omega arith in
    ap (λ (n : ℕ). take w (field rest n)) (sym sum) ∙ take-field rest w (64 - w)

-- shifted to the left, it shows the bits behind
pub shifted : (rest len sure : ℕ) → len ≤ sure → sure ≤ 64 → take (sure - len) (field (rest * 2 ^ len % 2 ^ 64) 64) ≡ drop len (take sure (field rest 64))
shifted rest len sure short fits =
    let r : ℕ = 64 - len in
    let up : r + len ≡ 64 = omega arith in
    let down : len + r ≡ 64 = omega arith in
    let behind : drop len (field rest 64) ≡ field rest r = ap (λ (n : ℕ). drop len (field rest n)) (sym down) ∙ drop-field rest len r in
    let moved : field (rest * 2 ^ len % 2 ^ 64) 64 ≡ field rest r ++ zeros len =
    field-mod (rest * 2 ^ len) 0 64 ∙ (ap (field (rest * 2 ^ len)) (sym up) ∙ field-shift rest r len) in
    let split : len + (sure - len) ≡ sure = omega arith in
    ap (take (sure - len)) moved
    ∙ (take-append-le (sure - len) (field rest r) (zeros len) (omega (arith, length-field rest r))
    ∙ (ap (take (sure - len)) (sym behind)
    ∙ (sym (drop-take len (sure - len) (field rest 64)) ∙ ap (λ (n : ℕ). drop len (take n (field rest 64))) split)))

-- the window in the upper 56 bits
pub window-up : (window : ℕ) → take 56 (field (window * 2 ^ 8 % 2 ^ 64) 64) ≡ field window 56
window-up window = shifted window 8 64 (omega arith) (omega arith) ∙ (ap (drop 8) (first-bits window 64 (omega arith) ∙ ap (λ (n : ℕ). field n 64) (omega arith)) ∙ drop-field window 8 56)
