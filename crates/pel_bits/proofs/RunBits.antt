-- A run of bits within one word, and the octets of a word.
use Rattle.std.proofs.Common.{◌≡◌, ℕ, zero, suc, ◌+◌, ◌-◌, ◌*◌, ◌/◌, ◌%◌, ◌^◌, ◌<◌, ◌≤◌, Bool, false, List, [], ◌∷◌, ◌++◌, length, get_or, take, drop, set, refl, sym, zero-add, ◌∙◌, ap, subst, arith, append_assoc, length-append, length-drop, length-take, length-set, append-nil, take_at, take-take}
use Rattle.std.proofs.lemmas.List.{drop-drop, drop-take, drop_more, get_or-drop, take_more_set, take-append-le, take-replicate, take_all, length-replicate, replicate-append-replicate}
use Rattle.std.proofs.lemmas.Nat.{shr-shr, shr_high, mod_low, mod-pow-add, field_of, shl_below, shr_below, shl_whole, mod_below, pow_pos, pow-add, mul-add-lt}
use Rattle.std.proofs.Math.Nat.{mul_comm, pow-le-pow_right}
use Rattle.std.proofs.Math.Seq.{take-add, take-append-add}
use Rattle.pel_bits.specs.Bits.{bits, field, number}
use Rattle.pel_bits.specs.Reading.{zeros}
use Rattle.pel_bits.specs.Buffer.{Buffer, filled_up, whole}
use Rattle.pel_bits.proofs.Fields.{length-field, field-mod, field-join, field-shift, take-field, drop-field, number-field, number_below, number-append, field-number}
use Rattle.pel_bits.proofs.OctetBits.{length-bits, bits-append, take-bits, drop-bits, length-part, length-front}

mul-more : (k : ℕ) → 8 * (k + 1) ≡ 8 * k + 8
mul-more k = omega arith

below-take : (n : ℕ) (octets : List ℕ) → ((j : ℕ) → get_or octets j 0 < 256) → (k : ℕ) → get_or (take n octets) k 0 < 256
below-take zero octets fits k = omega arith
below-take (suc n) [] fits k = omega arith
below-take (suc n) (x ∷ octets) fits zero = fits 0
below-take (suc n) (x ∷ octets) fits (suc k) = below-take n octets (λ j. fits (suc j)) k

-- some bits out of the middle of a field
pub field-part : (n s w r : ℕ) → take w (drop s (field n (s + (w + r)))) ≡ field (n / 2 ^ r) w
field-part n s w r = ap (take w) (drop-field n s (w + r)) ∙ take-field n w r

-- a run within the first m bits of a list
part-of-front : (s w m : ℕ) (bs : List Bool) → s + w ≤ m → take w (drop s bs) ≡ take w (drop s (take m bs))
part-of-front s w m bs fits =
    let r : ℕ = m - s - w in
    let sum : s + (w + r) ≡ m = omega arith in
    let inner : drop s (take m bs) ≡ take (w + r) (drop s bs) = ap (λ (k : ℕ). drop s (take k bs)) (sym sum) ∙ drop-take s (w + r) bs in
    sym (ap (take w) inner ∙ take-take w (w + r) (drop s bs) (omega arith))

-- the run that begins s bits into a word
pub word-run : (word s w : ℕ) → s < 8 → w ≤ 56 → word / 2 ^ (8 - s) % 72057594037927936 / 2 ^ (56 - w) ≡ number (take w (drop s (field word 64)))
word-run word s w low fits =
    let r : ℕ = (8 - s) + (56 - w) in
    let sum : s + (w + r) ≡ 64 = omega arith in
    let inner : take w (drop s (field word 64)) ≡ field (word / 2 ^ r) w = ap (λ (k : ℕ). take w (drop s (field word k))) (sym sum) ∙ field-part word s w r in
    let width : w + (56 - w) ≡ 56 = omega arith in
    let high : word / 2 ^ (8 - s) % 2 ^ 56 / 2 ^ (56 - w) ≡ word / 2 ^ (8 - s) / 2 ^ (56 - w) % 2 ^ w = ap (λ (k : ℕ). word / 2 ^ (8 - s) % 2 ^ k / 2 ^ (56 - w)) (sym width) ∙ field_of (word / 2 ^ (8 - s)) w (56 - w) in
    high ∙ (ap (λ (x : ℕ). x % 2 ^ w) (shr-shr word (8 - s) (56 - w)) ∙ (sym (number-field (word / 2 ^ r) w) ∙ ap number (sym inner)))

-- a run that begins in octet from / 8, within the n octets there
pub run-of-front : (octets : List ℕ) (from w n word : ℕ) → from / 8 + n ≤ length octets → from % 8 + w ≤ 8 * n → field word (8 * n) ≡ bits (take n (drop (from / 8) octets)) → take w (drop from (bits octets)) ≡ take w (drop (from % 8) (field word (8 * n)))
run-of-front octets from w n word inside fits same =
    let i : ℕ = from / 8 in
    let s : ℕ = from % 8 in
    let sum : 8 * i + s ≡ from = omega arith in
    let tail : drop (8 * i) (bits octets) ≡ bits (drop i octets) = drop-bits i octets (omega arith) in
    let front : take (8 * n) (bits (drop i octets)) ≡ field word (8 * n) = take-bits n (drop i octets) (omega (arith, length-drop i octets)) ∙ sym same in
    ap (λ (k : ℕ). take w (drop k (bits octets))) (sym sum)
    ∙ (ap (take w) (sym (drop-drop s (8 * i) (bits octets)))
    ∙ (ap (λ (bs : List Bool). take w (drop s bs)) tail
    ∙ (part-of-front s w (8 * n) (bits (drop i octets)) fits
    ∙ ap (λ (bs : List Bool). take w (drop s bs)) front)))

pub run-in-word : (octets : List ℕ) (from w word : ℕ) → from / 8 + 8 ≤ length octets → w ≤ 56 → field word 64 ≡ bits (take 8 (drop (from / 8) octets)) → word / 2 ^ (8 - from % 8) % 72057594037927936 / 2 ^ (56 - w) ≡ number (take w (drop from (bits octets)))
run-in-word octets from w word inside fits same =
    word-run word (from % 8) w (mod_below from 8 (omega arith)) fits
    ∙ ap number (sym (run-of-front octets from w 8 word inside (omega arith) same))

-- the first octet after n others
pub take-step : (n i j : ℕ) (octets : List ℕ) → j ≡ i + 1 → i < length octets → take (suc n) (drop i octets) ≡ get_or octets i 0 ∷ take n (drop j octets)
take-step n i j octets next inside =
    ap (take (suc n)) (drop_more octets i 0 inside) ∙ ap (λ (k : ℕ). get_or octets i 0 ∷ take n (drop k octets)) (sym next)

pub run-of-bit : (octets : List ℕ) (at : ℕ) → at < 8 * length octets → get_or octets (at / 8) 0 / 2 ^ (7 - at % 8) % 2 ≡ number (take 1 (drop at (bits octets)))
run-of-bit octets at inside =
    let i : ℕ = at / 8 in
    let s : ℕ = at % 8 in
    let octet : ℕ = get_or octets (at / 8) 0 in
    let one : bits (take 1 (drop i octets)) ≡ field octet 8 = ap bits (take-step 0 i (i + 1) octets refl (omega arith)) ∙ append-nil (field octet 8) in
    let sum : s + (1 + (7 - s)) ≡ 8 = omega arith in
    let bit : take 1 (drop at (bits octets)) ≡ field (octet / 2 ^ (7 - s)) 1 =
    run-of-front octets at 1 1 octet (omega arith) (omega arith) (sym one)
    ∙ (ap (λ (k : ℕ). take 1 (drop s (field octet k))) (sym sum) ∙ field-part octet s 1 (7 - s)) in
    sym (ap number bit ∙ number-field (octet / 2 ^ (7 - s)) 1)

-- one more bit is read
pub slow-step : (bs : List Bool) (from k value bit : ℕ) → from + k < length bs → value ≡ number (take k (drop from bs)) → bit ≡ number (take 1 (drop (from + k) bs)) → 2 * value + bit ≡ number (take (k + 1) (drop from bs))
slow-step bs from k value bit inside spelled next =
    let one : length (take 1 (drop (from + k) bs)) ≡ 1 = length-take 1 (drop (from + k) bs) ∙ omega (arith, length-drop (from + k) bs) in
    let parts : take (k + 1) (drop from bs) ≡ take k (drop from bs) ++ take 1 (drop (from + k) bs) =
    take-add k 1 (drop from bs) ∙ ap (λ (t : List Bool). take k (drop from bs) ++ take 1 t) (drop-drop k from bs) in
    let both : number (take k (drop from bs) ++ take 1 (drop (from + k) bs)) ≡ value * 2 + bit =
    number-append (take k (drop from bs)) (take 1 (drop (from + k) bs))
    ∙ (ap (λ (n : ℕ). number (take k (drop from bs)) * 2 ^ n + number (take 1 (drop (from + k) bs))) one
    ∙ (ap (λ (n : ℕ). n * 2 ^ 1 + number (take 1 (drop (from + k) bs))) (sym spelled) ∙ ap (λ (n : ℕ). value * 2 + n) (sym next))) in
    omega (arith, ap number parts, both)

pub bit_below : (bs : List Bool) (at : ℕ) → number (take 1 (drop at bs)) < 2
bit_below bs at =
    let len : length (take 1 (drop at bs)) ≤ 1 = omega (arith, length-take 1 (drop at bs)) in
    let p : 2 ^ length (take 1 (drop at bs)) ≤ 2 ^ 1 = pow-le-pow_right (omega arith) len in
    omega (arith, number_below (take 1 (drop at bs)), p)

-- ---- octets and the number that their bits spell
unfoldable pub joined : List ℕ → ℕ
joined [] = 0
joined (b ∷ bs) = b * 2 ^ (8 * length bs) + joined bs

pub join_below : (a b m k : ℕ) → a < 2 ^ m → b < 2 ^ k → a * 2 ^ k + b < 2 ^ (m + k)
join_below a b m k p q =
    let e : 2 ^ k * 2 ^ m ≡ 2 ^ (m + k) = mul_comm (2 ^ k) (2 ^ m) ∙ sym (pow-add 2 m k) in
    subst (λ (n : ℕ). a * 2 ^ k + b < n) e (mul-add-lt a (2 ^ k) b (2 ^ m) p q)

pub joined_below : (bs : List ℕ) → ((i : ℕ) → get_or bs i 0 < 256) → joined bs < 2 ^ (8 * length bs)
unfolding joined
joined_below [] fits = omega arith
joined_below (b ∷ bs) fits =
    let sum : 8 * length (b ∷ bs) ≡ 8 + 8 * length bs = omega arith in
    let below : b * 2 ^ (8 * length bs) + joined bs < 2 ^ (8 + 8 * length bs) = join_below b (joined bs) 8 (8 * length bs) (fits 0) (joined_below bs (λ i. fits (suc i))) in
    subst (λ (k : ℕ). b * 2 ^ (8 * length bs) + joined bs < 2 ^ k) (sym sum) below

pub field-joined : (bs : List ℕ) → ((i : ℕ) → get_or bs i 0 < 256) → field (joined bs) (8 * length bs) ≡ bits bs
unfolding joined field
field-joined [] fits = refl
field-joined (b ∷ bs) fits =
    let sum : 8 * length (b ∷ bs) ≡ 8 + 8 * length bs = omega arith in
    ap (field (b * 2 ^ (8 * length bs) + joined bs)) sum
    ∙ (field-join b (joined bs) 8 (8 * length bs) (joined_below bs (λ i. fits (suc i)))
    ∙ ap (λ (t : List Bool). field b 8 ++ t) (field-joined bs (λ i. fits (suc i))))

pub eight_octets : (octets : List ℕ) (i : ℕ) → i + 8 ≤ length octets → take 8 (drop i octets) ≡ get_or octets i 0 ∷ get_or octets (i + 1) 0 ∷ get_or octets (i + 2) 0 ∷ get_or octets (i + 3) 0 ∷ get_or octets (i + 4) 0 ∷ get_or octets (i + 5) 0 ∷ get_or octets (i + 6) 0 ∷ get_or octets (i + 7) 0 ∷ []
eight_octets octets i inside =
    take-step 7 i (i + 1) octets (omega arith) (omega arith) ∙ ap (λ (t : List ℕ). get_or octets i 0 ∷ t) (take-step 6 (i + 1) (i + 2) octets (omega arith) (omega arith) ∙ ap (λ (t : List ℕ). get_or octets (i + 1) 0 ∷ t) (take-step 5 (i + 2) (i + 3) octets (omega arith) (omega arith) ∙ ap (λ (t : List ℕ). get_or octets (i + 2) 0 ∷ t) (take-step 4 (i + 3) (i + 4) octets (omega arith) (omega arith) ∙ ap (λ (t : List ℕ). get_or octets (i + 3) 0 ∷ t) (take-step 3 (i + 4) (i + 5) octets (omega arith) (omega arith) ∙ ap (λ (t : List ℕ). get_or octets (i + 4) 0 ∷ t) (take-step 2 (i + 5) (i + 6) octets (omega arith) (omega arith) ∙ ap (λ (t : List ℕ). get_or octets (i + 5) 0 ∷ t) (take-step 1 (i + 6) (i + 7) octets (omega arith) (omega arith) ∙ ap (λ (t : List ℕ). get_or octets (i + 6) 0 ∷ t) (take-step 0 (i + 7) (i + 8) octets (omega arith) (omega arith))))))))

pub word-of-octets : (octets : List ℕ) (i word : ℕ) → i + 8 ≤ length octets → ((k : ℕ) → get_or octets k 0 < 256) → word ≡ get_or octets i 0 * 72057594037927936 + get_or octets (i + 1) 0 * 281474976710656 + get_or octets (i + 2) 0 * 1099511627776 + get_or octets (i + 3) 0 * 4294967296 + get_or octets (i + 4) 0 * 16777216 + get_or octets (i + 5) 0 * 65536 + get_or octets (i + 6) 0 * 256 + get_or octets (i + 7) 0 → field word 64 ≡ bits (take 8 (drop i octets))
unfolding joined
word-of-octets octets i word inside fits is =
    let eight : List ℕ = get_or octets i 0 ∷ get_or octets (i + 1) 0 ∷ get_or octets (i + 2) 0 ∷ get_or octets (i + 3) 0 ∷ get_or octets (i + 4) 0 ∷ get_or octets (i + 5) 0 ∷ get_or octets (i + 6) 0 ∷ get_or octets (i + 7) 0 ∷ [] in
    let all : word ≡ joined eight = is ∙ omega arith in
    let below : (k : ℕ) → get_or eight k 0 < 256 = λ k. subst (λ (xs : List ℕ). get_or xs k 0 < 256) (eight_octets octets i inside) (below-take 8 (drop i octets) (λ j. subst (λ (n : ℕ). n < 256) (sym (get_or-drop i octets j 0)) (fits (i + j))) k) in
    ap (λ (x : ℕ). field x 64) all ∙ (field-joined eight below ∙ ap bits (sym (eight_octets octets i inside)))

-- ---- one octet of a word is written
pub store-step : (cur : List ℕ) (front : List Bool) (i k word : ℕ) → i + k < length cur → k < 8 → take (8 * (i + k)) (bits cur) ≡ front ++ take (8 * k) (field word 64) → take (8 * (i + (k + 1))) (bits (set cur (i + k) (word / 2 ^ (56 - 8 * k) % 256))) ≡ front ++ take (8 * (k + 1)) (field word 64)
store-step cur front i k word inside low before =
    let octet : ℕ = word / 2 ^ (56 - 8 * k) % 256 in
    let cur' : List ℕ = set cur (i + k) octet in
    let e : 8 * (i + (k + 1)) ≡ 8 * (i + k + 1) = omega arith in
    let octets : take (8 * (i + k + 1)) (bits cur') ≡ bits (take (i + k) cur) ++ field octet 8 =
    take-bits (i + k + 1) cur' (omega (arith, length-set cur (i + k) octet))
    ∙ (ap bits (take_more_set cur (i + k) octet inside)
    ∙ (bits-append (take (i + k) cur) (octet ∷ []) ∙ ap (λ (t : List Bool). bits (take (i + k) cur) ++ t) (append-nil (field octet 8)))) in
    let old : bits (take (i + k) cur) ≡ front ++ take (8 * k) (field word 64) = sym (take-bits (i + k) cur (omega arith)) ∙ before in
    let sum : 8 * k + (8 + (56 - 8 * k)) ≡ 64 = omega arith in
    let part : take 8 (drop (8 * k) (field word 64)) ≡ field octet 8 =
    ap (λ (n : ℕ). take 8 (drop (8 * k) (field word n))) (sym sum)
    ∙ (field-part word (8 * k) 8 (56 - 8 * k) ∙ sym (field-mod (word / 2 ^ (56 - 8 * k)) 0 8)) in
    let more : take (8 * (k + 1)) (field word 64) ≡ take (8 * k) (field word 64) ++ take 8 (drop (8 * k) (field word 64)) = ap (λ (n : ℕ). take n (field word 64)) (mul-more k) ∙ take-add (8 * k) 8 (field word 64) in
    ap (λ (n : ℕ). take n (bits cur')) e
    ∙ (octets
    ∙ (ap (λ (t : List Bool). t ++ field octet 8) old
    ∙ (append_assoc front (take (8 * k) (field word 64)) (field octet 8)
    ∙ ap (λ (t : List Bool). front ++ t) (ap (λ (t : List Bool). take (8 * k) (field word 64) ++ t) (sym part) ∙ sym more))))

-- ---- a run is written behind the bits before it
plus-rest : (w n : ℕ) → w ≤ n → w + (n - w) ≡ n
plus-rest w n fits = omega arith

regroup : (a b c d e : List Bool) → c ++ d ≡ e → a ++ (b ++ c) ++ d ≡ a ++ b ++ e
regroup a b c d e is =
    append_assoc a (b ++ c) d
    ∙ (ap (λ (t : List Bool). a ++ t) (append_assoc b c d ∙ ap (λ (t : List Bool). b ++ t) is) ∙ sym (append_assoc a b e))

regroup_left : (a b c d : List Bool) → a ++ (b ++ c ++ d) ≡ a ++ b ++ c ++ d
regroup_left a b c d =
    sym (append_assoc a (b ++ c) d) ∙ ap (λ (t : List Bool). t ++ d) (sym (append_assoc a b c))

-- what stands in the word: the bits of the first octet that stay, the run, and zeros
pub field-of-run : (kept value s w : ℕ) → s < 8 → w ≤ 56 → kept < 2 ^ s → value < 2 ^ w → field ((kept * 2 ^ 56 % 2 ^ 64 + value * 2 ^ (56 - w) % 2 ^ 64) * 2 ^ (8 - s) % 2 ^ 64) 64 ≡ field kept s ++ field value w ++ zeros (64 - s - w)
field-of-run kept value s w low fits p q =
    let v : ℕ = value * 2 ^ (56 - w) in
    let v_below : v < 2 ^ 56 = subst (λ (k : ℕ). v < 2 ^ k) (plus-rest w 56 fits) (shl_below value w (56 - w) q) in
    let run : ℕ = kept * 2 ^ 56 + v in
    let run_below : run < 2 ^ (s + 56) = join_below kept v s 56 p v_below in
    let kept_whole : kept * 2 ^ 56 % 2 ^ 64 ≡ kept * 2 ^ 56 = shl_whole kept s 56 64 p (omega arith) in
    let value_whole : value * 2 ^ (56 - w) % 2 ^ 64 ≡ v = shl_whole value w (56 - w) 64 q (omega arith) in
    let run_whole : run * 2 ^ (8 - s) % 2 ^ 64 ≡ run * 2 ^ (8 - s) = shl_whole run (s + 56) (8 - s) 64 run_below (omega arith) in
    let width : (s + 56) + (8 - s) ≡ 64 = omega arith in
    let value_field : field v 56 ≡ field value w ++ zeros (56 - w) = ap (field v) (sym (plus-rest w 56 fits)) ∙ field-shift value w (56 - w) in
    let run_field : field run (s + 56) ≡ field kept s ++ (field value w ++ zeros (56 - w)) = field-join kept v s 56 v_below ∙ ap (λ (t : List Bool). field kept s ++ t) value_field in
    let tail : zeros (56 - w) ++ zeros (8 - s) ≡ zeros (64 - s - w) = replicate-append-replicate (56 - w) (8 - s) false ∙ ap zeros (omega arith) in
    ap (λ (x : ℕ). field x 64) (ap (λ (x : ℕ). (x + value * 2 ^ (56 - w) % 2 ^ 64) * 2 ^ (8 - s) % 2 ^ 64) kept_whole ∙ (ap (λ (x : ℕ). (kept * 2 ^ 56 + x) * 2 ^ (8 - s) % 2 ^ 64) value_whole ∙ run_whole))
    ∙ (ap (field (run * 2 ^ (8 - s))) (sym width)
    ∙ (field-shift run (s + 56) (8 - s)
    ∙ (ap (λ (t : List Bool). t ++ zeros (8 - s)) run_field
    ∙ regroup (field kept s) (field value w) (zeros (56 - w)) (zeros (8 - s)) (zeros (64 - s - w)) tail)))

pub run_fits : (kept s value w : ℕ) → s < 8 → w ≤ 56 → kept < 2 ^ s → value < 2 ^ w → kept * 72057594037927936 % 18446744073709551616 + value * 2 ^ (56 - w) % 18446744073709551616 < 18446744073709551616
run_fits kept s value w low fits p q =
    let v_below : value * 2 ^ (56 - w) < 2 ^ 56 = subst (λ (k : ℕ). value * 2 ^ (56 - w) < 2 ^ k) (plus-rest w 56 fits) (shl_below value w (56 - w) q) in
    let small : s ≤ 7 = omega arith in
    let most : 2 ^ s ≤ 2 ^ 7 = pow-le-pow_right (omega arith) small in
    omega arith

pub kept_below : (octet s : ℕ) → s < 8 → octet < 256 → octet / 2 ^ (8 - s) < 2 ^ s
kept_below octet s low fits = shr_below octet s (8 - s) (subst (λ (k : ℕ). octet < 2 ^ k) (sym (plus-rest s 8 (omega arith))) fits)

-- the first bits of an octet
front-of-octet : (octets : List ℕ) (i s : ℕ) → i < length octets → s ≤ 8 → take s (drop (8 * i) (bits octets)) ≡ field (get_or octets i 0 / 2 ^ (8 - s)) s
front-of-octet octets i s inside fits =
    let octet : ℕ = get_or octets i 0 in
    let one : drop (8 * i) (bits octets) ≡ field octet 8 ++ bits (drop (i + 1) octets) = drop-bits i octets (omega arith) ∙ ap bits (drop_more octets i 0 inside) in
    let eight : s + (8 - s) ≡ 8 = omega arith in
    ap (take s) one
    ∙ (take-append-le s (field octet 8) (bits (drop (i + 1) octets)) (omega (arith, length-field octet 8))
    ∙ (ap (λ (k : ℕ). take s (field octet k)) (sym eight) ∙ take-field octet s (8 - s)))

-- the first `at` bits, from whole octets and the first bits of the next
pub bits-before : (octets : List ℕ) (at : ℕ) → at / 8 < length octets → take at (bits octets) ≡ take (8 * (at / 8)) (bits octets) ++ field (get_or octets (at / 8) 0 / 2 ^ (8 - at % 8)) (at % 8)
bits-before octets at inside =
    let i : ℕ = at / 8 in
    let s : ℕ = at % 8 in
    let sum : at ≡ 8 * i + s = omega arith in
    ap (λ (k : ℕ). take k (bits octets)) sum
    ∙ (take-add (8 * i) s (bits octets)
    ∙ ap (λ (t : List Bool). take (8 * i) (bits octets) ++ t) (front-of-octet octets i s inside (omega arith)))

-- zeros behind a list, cut short
pub take-zeros : (bs : List Bool) (n z : ℕ) → length bs ≤ n → n ≤ length bs + z → take n (bs ++ zeros z) ≡ bs ++ zeros (n - length bs)
take-zeros bs n z low high =
    let sum : n ≡ length bs + (n - length bs) = omega arith in
    ap (λ (k : ℕ). take k (bs ++ zeros z)) sum
    ∙ (take-append-add bs (zeros z) (n - length bs)
    ∙ ap (λ (t : List Bool). bs ++ t) (take-replicate (n - length bs) z false (omega arith)))

pub put-word : (old new : List ℕ) (at kept value w : ℕ) → at / 8 + 8 ≤ length old → w ≤ 56 → value < 2 ^ w → kept < 2 ^ (at % 8) → take at (bits old) ≡ take (8 * (at / 8)) (bits old) ++ field kept (at % 8) → take (8 * (at / 8 + 8)) (bits new) ≡ take (8 * (at / 8)) (bits old) ++ field ((kept * 2 ^ 56 % 2 ^ 64 + value * 2 ^ (56 - w) % 2 ^ 64) * 2 ^ (8 - at % 8) % 2 ^ 64) 64 → take (whole (at + w)) (bits new) ≡ filled_up (take at (bits old) ++ field value w)
put-word old new at kept value w room fits below kept_fits before stored =
    let s : ℕ = at % 8 in
    let now : List Bool = take at (bits old) ++ field value w in
    let len : length now ≡ at + w =
    length-append (take at (bits old)) (field value w) ∙ omega (arith, length-take at (bits old), length-bits old, length-field value w) in
    let all : take (8 * (at / 8 + 8)) (bits new) ≡ now ++ zeros (64 - s - w) =
    stored
    ∙ (ap (λ (t : List Bool). take (8 * (at / 8)) (bits old) ++ t) (field-of-run kept value s w (mod_below at 8 (omega arith)) fits kept_fits below)
    ∙ (regroup_left (take (8 * (at / 8)) (bits old)) (field kept s) (field value w) (zeros (64 - s - w))
    ∙ ap (λ (t : List Bool). t ++ field value w ++ zeros (64 - s - w)) (sym before))) in
    sym (take-take (whole (at + w)) (8 * (at / 8 + 8)) (bits new) (omega arith))
    ∙ (ap (take (whole (at + w))) all
    ∙ (take-zeros now (whole (at + w)) (64 - s - w) (omega arith) (omega arith)
    ∙ ap (λ (k : ℕ). now ++ zeros (whole k - length now)) (sym len)))

-- ---- a run of any length is copied, piece by piece
pub front-of-filled : (octets : List ℕ) (bs : List Bool) (n : ℕ) → length bs ≡ n → take (whole n) (bits octets) ≡ filled_up bs → take n (bits octets) ≡ bs
front-of-filled octets bs n len is =
    sym (take-take n (whole n) (bits octets) (omega arith))
    ∙ (ap (take n) is ∙ take_at bs (zeros (whole (length bs) - length bs)) n len)

pub copy-step : (old cur new source : List ℕ) (at from done w : ℕ) → at ≤ 8 * length old → from + (done + w) ≤ 8 * length source → take (whole (at + done)) (bits cur) ≡ filled_up (take at (bits old) ++ take done (drop from (bits source))) → take (whole (at + done + w)) (bits new) ≡ filled_up (take (at + done) (bits cur) ++ take w (drop (from + done) (bits source))) → take (whole (at + (done + w))) (bits new) ≡ filled_up (take at (bits old) ++ take (done + w) (drop from (bits source)))
copy-step old cur new source at from done w room inside before copied =
    let rest : List Bool = drop from (bits source) in
    let rest_len : length rest ≡ 8 * length source - from = length-drop from (bits source) ∙ ap (λ (n : ℕ). n - from) (length-bits source) in
    let had : List Bool = take at (bits old) ++ take done rest in
    let had_len : length had ≡ at + done =
    length-append (take at (bits old)) (take done rest) ∙ omega (arith, length-take at (bits old), length-bits old, length-take done rest, rest_len) in
    let piece : List Bool = take w (drop (from + done) (bits source)) in
    let piece_at : piece ≡ take w (drop done rest) = sym (ap (take w) (drop-drop done from (bits source))) in
    let joined : had ++ piece ≡ take at (bits old) ++ take (done + w) rest =
    ap (λ (t : List Bool). had ++ t) piece_at
    ∙ (append_assoc (take at (bits old)) (take done rest) (take w (drop done rest))
    ∙ ap (λ (t : List Bool). take at (bits old) ++ t) (sym (take-add done w rest))) in
    let now : take (at + done) (bits cur) ++ piece ≡ take at (bits old) ++ take (done + w) rest =
    ap (λ (t : List Bool). t ++ piece) (front-of-filled cur had (at + done) had_len before) ∙ joined in
    let place : at + (done + w) ≡ at + done + w = omega arith in
    ap (λ (n : ℕ). take (whole n) (bits new)) place ∙ (copied ∙ ap filled_up now)

-- a run that lies within the octets is the field of the number that it spells
pub field-of-part : (source : List ℕ) (from w : ℕ) → from + w ≤ 8 * length source → field (number (take w (drop from (bits source)))) w ≡ take w (drop from (bits source))
field-of-part source from w inside =
    let piece : List Bool = take w (drop from (bits source)) in
    ap (field (number piece)) (sym (length-part source from w inside)) ∙ field-number piece

pub part_below : (source : List ℕ) (from w : ℕ) → from + w ≤ 8 * length source → number (take w (drop from (bits source))) < 2 ^ w
part_below source from w inside =
    let piece : List Bool = take w (drop from (bits source)) in
    subst (λ (n : ℕ). number piece < 2 ^ n) (length-part source from w inside) (number_below piece)

-- a word that is shifted to the left keeps its lower bits
kept-by-shift : (word s : ℕ) → s ≤ 64 → word * 2 ^ s % 2 ^ 64 ≡ word % 2 ^ (64 - s) * 2 ^ s
kept-by-shift word s fits =
    let plain : word * 2 ^ s ≡ word * 2 ^ s + 0 = omega arith in
    let width : 64 ≡ (64 - s) + s = omega arith in
    let high : word * 2 ^ s / 2 ^ s ≡ word = ap (λ (n : ℕ). n / 2 ^ s) plain ∙ shr_high word s 0 (pow_pos s) in
    let low : word * 2 ^ s % 2 ^ s ≡ 0 = ap (λ (n : ℕ). n % 2 ^ s) plain ∙ mod_low word s 0 (pow_pos s) in
    ap (λ (k : ℕ). word * 2 ^ s % 2 ^ k) width
    ∙ (mod-pow-add (word * 2 ^ s) (64 - s) s
    ∙ (ap (λ (n : ℕ). n % 2 ^ (64 - s) * 2 ^ s + word * 2 ^ s % 2 ^ s) high
    ∙ (ap (λ (n : ℕ). word % 2 ^ (64 - s) * 2 ^ s + n) low ∙ omega arith)))

-- 64 bits are those of a word from its bit s on, and the first s bits of the octet behind it
pub word-and-octet : (octets : List ℕ) (from word : ℕ) → from / 8 + 9 ≤ length octets → get_or octets (from / 8 + 8) 0 < 256 → field word 64 ≡ bits (take 8 (drop (from / 8) octets)) → field (word * 2 ^ (from % 8) % 2 ^ 64 + get_or octets (from / 8 + 8) 0 / 2 ^ (8 - from % 8)) 64 ≡ take 64 (drop from (bits octets))
word-and-octet octets from word inside octet_fits same =
    let i : ℕ = from / 8 in
    let s : ℕ = from % 8 in
    let w : ℕ = 64 - s in
    let rest : ℕ = get_or octets (from / 8 + 8) 0 / 2 ^ (8 - s) in
    let low : s < 8 = mod_below from 8 (omega arith) in
    let width : 64 ≡ w + s = omega arith in
    let turned : 64 ≡ s + w = omega arith in
    let place : from + w ≡ 8 * (i + 8) = omega arith in
    let lower : take w (drop s (field word 64)) ≡ field word w =
    ap (λ (k : ℕ). take w (drop s (field word k))) turned
    ∙ (ap (take w) (drop-field word s w) ∙ take_all w (field word w) (omega (arith, length-field word w))) in
    let first : take w (drop from (bits octets)) ≡ field word w = run-of-front octets from w 8 word (omega arith) (omega arith) same ∙ lower in
    let behind : take s (drop w (drop from (bits octets))) ≡ field rest s =
    ap (take s) (drop-drop w from (bits octets))
    ∙ (ap (λ (k : ℕ). take s (drop k (bits octets))) place ∙ front-of-octet octets (i + 8) s (omega arith) (omega arith)) in
    let kept : field (word % 2 ^ w) w ≡ field word w = ap (λ (k : ℕ). field (word % 2 ^ k) w) (sym (zero-add w)) ∙ field-mod word 0 w in
    ap (λ (n : ℕ). field (n + rest) 64) (kept-by-shift word s (omega arith))
    ∙ (ap (field (word % 2 ^ w * 2 ^ s + rest)) width
    ∙ (field-join (word % 2 ^ w) rest w s (kept_below (get_or octets (from / 8 + 8) 0) s low octet_fits)
    ∙ (ap (λ (t : List Bool). t ++ field rest s) (kept ∙ sym first)
    ∙ (ap (λ (t : List Bool). take w (drop from (bits octets)) ++ t) (sym behind)
    ∙ (sym (take-add w s (drop from (bits octets))) ∙ ap (λ (k : ℕ). take k (drop from (bits octets))) (sym width))))))

pub long_word_fits : (word octet s : ℕ) → s < 8 → octet < 256 → word * 2 ^ s % 2 ^ 64 + octet / 2 ^ (8 - s) < 2 ^ 64
long_word_fits word octet s low octet_fits =
    let width : (64 - s) + s ≡ 64 = omega arith in
    let high : word % 2 ^ (64 - s) < 2 ^ (64 - s) = mod_below word (2 ^ (64 - s)) (pow_pos (64 - s)) in
    let joined : word % 2 ^ (64 - s) * 2 ^ s + octet / 2 ^ (8 - s) < 2 ^ 64 =
    subst (λ (k : ℕ). word % 2 ^ (64 - s) * 2 ^ s + octet / 2 ^ (8 - s) < 2 ^ k) width (join_below (word % 2 ^ (64 - s)) (octet / 2 ^ (8 - s)) (64 - s) s high (kept_below octet s low octet_fits)) in
    subst (λ (n : ℕ). n + octet / 2 ^ (8 - s) < 2 ^ 64) (sym (kept-by-shift word s (omega arith))) joined

-- 64 bits are copied as one word
pub copied-word : (old new source : List ℕ) (at from word : ℕ) → at % 8 ≡ 0 → at / 8 + 8 ≤ length old → from / 8 + 9 ≤ length source → field word 64 ≡ take 64 (drop from (bits source)) → take (8 * (at / 8 + 8)) (bits new) ≡ take (8 * (at / 8)) (bits old) ++ field word 64 → take (whole (at + 64)) (bits new) ≡ filled_up (take at (bits old) ++ take 64 (drop from (bits source)))
copied-word old new source at from word even room inside run stored =
    let place : 8 * (at / 8) ≡ at = omega arith in
    let now : List Bool = take at (bits old) ++ take 64 (drop from (bits source)) in
    let len : length now ≡ at + 64 =
    length-append (take at (bits old)) (take 64 (drop from (bits source)))
    ∙ omega (arith, length-front old at (omega arith), length-part source from 64 (omega arith)) in
    let none : whole (length now) - length now ≡ 0 = omega (arith, len) in
    ap (λ (n : ℕ). take n (bits new)) (omega arith)
    ∙ (stored
    ∙ (ap (λ (n : ℕ). take n (bits old) ++ field word 64) place
    ∙ (ap (λ (t : List Bool). take at (bits old) ++ t) run
    ∙ (sym (append-nil now) ∙ ap (λ (n : ℕ). now ++ zeros n) (sym none)))))

-- the run that was written behind the first n bits stands there
pub now-holds : (octets : List ℕ) (bs run : List Bool) (n w : ℕ) → length bs ≡ n → length run ≡ w → take (whole (n + w)) (bits octets) ≡ filled_up (bs ++ run) → take (n + w) (bits octets) ≡ bs ++ run
now-holds octets bs run n w p q is =
    front-of-filled octets (bs ++ run) (n + w) (length-append bs run ∙ omega arith) is

pub now-filled : (octets : List ℕ) (bs run : List Bool) (n w : ℕ) → length bs ≡ n → length run ≡ w → take (whole (n + w)) (bits octets) ≡ filled_up (bs ++ run) → take (whole (n + w)) (bits octets) ≡ filled_up (take (n + w) (bits octets))
now-filled octets bs run n w p q is = is ∙ ap filled_up (sym (now-holds octets bs run n w p q is))

abbrev pub holding : List Bool → ℕ → Buffer
holding bs n = record { list = bs; capacity = n }

-- ---- a run past the end
number-zeros : (n : ℕ) → number (zeros n) ≡ 0
unfolding number
number-zeros zero = refl
number-zeros (suc n) = omega (arith, number-zeros n)

pub number-past : (bs : List Bool) (width : ℕ) → length bs ≤ width → number (take width (bs ++ zeros width)) ≡ number bs * 2 ^ (width - length bs)
number-past bs width short =
    let tail : List Bool = zeros (width - length bs) in
    ap number (take-zeros bs width width short (omega arith))
    ∙ (number-append bs tail
    ∙ (ap (λ (k : ℕ). number bs * 2 ^ k + number tail) (length-replicate (width - length bs) false)
    ∙ (ap (λ (k : ℕ). number bs * 2 ^ (width - length bs) + k) (number-zeros (width - length bs)) ∙ omega arith)))

-- the last bits, as they are peeked at with zeros behind them
pub peeked-short : (bs : List Bool) (place left width : ℕ) → place + left ≡ length bs → left ≤ width → width ≤ 32 → number (take left (drop place bs)) * 2 ^ (width - left) % 2 ^ 64 ≡ number (take width (drop place bs ++ zeros width))
peeked-short bs place left width all short fits =
    let rest : List Bool = drop place bs in
    let len : length rest ≡ left = length-drop place bs ∙ omega arith in
    let same : take left rest ≡ rest = take_all left rest (omega arith) in
    let below : number rest < 2 ^ left = subst (λ (n : ℕ). number rest < 2 ^ n) len (number_below rest) in
    ap (λ (bs : List Bool). number bs * 2 ^ (width - left) % 2 ^ 64) same
    ∙ (shl_whole (number rest) left (width - left) 64 below (omega arith)
    ∙ (ap (λ (n : ℕ). number rest * 2 ^ (width - n)) (sym len) ∙ sym (number-past rest width (omega arith))))

pub number-fits_in : (bs : List Bool) (width : ℕ) → length bs ≤ width → number bs < 2 ^ width
number-fits_in bs width short =
    let most : 2 ^ length bs ≤ 2 ^ width = pow-le-pow_right (omega arith) short in
    omega (arith, number_below bs)
