-- The bits of a payload header, and the octets that hold them.
use Rattle.std.proofs.Common.{◌≡◌, ℕ, zero, suc, ℤ, pos, negsuc, ◌+◌, ◌*◌, ◌/◌, ◌%◌, ◌^◌, ◌<◌, Bool, true, false, if◌then◌else◌, List, [], ◌∷◌, ◌++◌, length, take, drop, refl, sym, ap, ap₂, ◌∙◌, arith, append-nil, append_assoc}
use Rattle.std.proofs.lemmas.List.{take_at, drop_at}
use Rattle.byteorder.specs.Endian.{big_bytes}
use Rattle.pel_bits.specs.Bits.{bits, field, number}
use Rattle.pel_bits.proofs.Fields.{length-field, number-fits, field-add, field-mod, field-join}
use Rattle.rtp_h261.specs.declared.payload.PayloadHeader.{PayloadHeader}
use Rattle.rtp_h261.specs.Payload.{AreWidths, FitsFiveBits, payload_header_bits, five_bits_of, LawOfHeaders}

-- ---- one header has these bits

split : (xs us ys vs : List Bool) → length xs ≡ length us → xs ++ ys ≡ us ++ vs → (xs ≡ us) × (ys ≡ vs)
split xs us ys vs long same = (
  sym (take_at xs ys (length xs) refl) ∙ ap (take (length xs)) same ∙ take_at us vs (length xs) (sym long),
  sym (drop_at xs ys (length xs) refl) ∙ ap (drop (length xs)) same ∙ drop_at us vs (length xs) (sym long),
)

field_split : (m n w : ℕ) (ys vs : List Bool) → m < 2 ^ w → n < 2 ^ w → field m w ++ ys ≡ field n w ++ vs → (m ≡ n) × (ys ≡ vs)
field_split m n w ys vs a b same =
    let s = split (field m w) (field n w) ys vs (length-field m w ∙ sym (length-field n w)) same in
    (sym (number-fits m w a) ∙ ap number s.0 ∙ number-fits n w b, s.1)

abbrev head_of : List Bool → Bool
head_of [] = false
head_of (b ∷ bs) = b

flag_split : (a b : Bool) (ys vs : List Bool) → a ∷ ys ≡ b ∷ vs → (a ≡ b) × (ys ≡ vs)
flag_split a b ys vs same = (ap head_of same, ap (drop 1) same)

five_small : (x : ℤ) → FitsFiveBits x → five_bits_of x < 32
five_small (pos n) h = omega (arith, h)
five_small (negsuc n) h = omega (arith, h)

five_one : (x y : ℤ) → FitsFiveBits x → FitsFiveBits y → five_bits_of x ≡ five_bits_of y → x ≡ y
five_one (pos m) (pos n) a b same = ap pos (omega (arith, a, b, same))
five_one (pos m) (negsuc n) a b same = absurd (omega (arith, a, b, same))
five_one (negsuc m) (pos n) a b same = absurd (omega (arith, a, b, same))
five_one (negsuc m) (negsuc n) a b same = ap negsuc (omega (arith, a, b, same))

same_header : (h k : PayloadHeader) → h.sbit ≡ k.sbit → h.ebit ≡ k.ebit → h.i ≡ k.i → h.v ≡ k.v → h.gobn ≡ k.gobn → h.mbap ≡ k.mbap
    → h.quant ≡ k.quant → h.hmvd ≡ k.hmvd → h.vmvd ≡ k.vmvd → h ≡ k
same_header h k a b c d e f g x y =
    let sides : record { sbit = h.sbit; ebit = h.ebit; i = h.i; v = h.v; gobn = h.gobn; mbap = h.mbap; quant = h.quant; hmvd = h.hmvd; vmvd = h.vmvd } ≡ k = rw (a, b, c, d, e, f, g, x, y) refl in
    sides

pub header_law : LawOfHeaders
header_law h k a b same =
    let sbit = field_split h.sbit k.sbit 3 _ _ a.sbit b.sbit same in
    let ebit = field_split h.ebit k.ebit 3 _ _ a.ebit b.ebit sbit.1 in
    let i = flag_split h.i k.i _ _ ebit.1 in
    let v = flag_split h.v k.v _ _ i.1 in
    let gobn = field_split h.gobn k.gobn 4 _ _ a.gobn b.gobn v.1 in
    let mbap = field_split h.mbap k.mbap 5 _ _ a.mbap b.mbap gobn.1 in
    let quant = field_split h.quant k.quant 5 _ _ a.quant b.quant mbap.1 in
    let across = field_split (five_bits_of h.hmvd) (five_bits_of k.hmvd) 5 _ _ (five_small h.hmvd a.hmvd) (five_small k.hmvd b.hmvd) quant.1 in
    let down : five_bits_of h.vmvd ≡ five_bits_of k.vmvd =
    sym (number-fits (five_bits_of h.vmvd) 5 (five_small h.vmvd a.vmvd)) ∙ ap number across.1 ∙ number-fits (five_bits_of k.vmvd) 5 (five_small k.vmvd b.vmvd) in
    same_header h k sbit.0 ebit.0 i.0 v.0 gobn.0 mbap.0 quant.0 (five_one h.hmvd k.hmvd a.hmvd b.hmvd across.0) (five_one h.vmvd k.vmvd a.vmvd b.vmvd down)

-- ---- the octets of a number

octet_field : (n k : ℕ) → field (n / 2 ^ k % 256) 8 ≡ field (n / 2 ^ k) 8
octet_field n k = field-mod (n / 2 ^ k) 0 8

pub word_bits : (n : ℕ) → bits (big_bytes 4 n) ≡ field n 32
word_bits n =
    let low : field (n % 256) 8 ≡ field n 8 = field-mod n 0 8 in
    ap₂ (λ (xs ys : List Bool). xs ++ ys) (octet_field n 24)
    (ap₂ (λ (xs ys : List Bool). xs ++ ys) (octet_field n 16) (ap₂ (λ (xs ys : List Bool). xs ++ ys) (octet_field n 8) (append-nil (field (n % 256) 8) ∙ low)
    ∙ sym (field-add n 8 8)) ∙ sym (field-add n 8 16)) ∙ sym (field-add n 8 24)

flag_field : (b : Bool) → field (if b then 1 else 0) 1 ≡ b ∷ []
unfolding field
flag_field true = refl
flag_field false = refl

pub none_behind : (n : ℕ) (xs : List ℕ) → length xs ≡ n → drop n xs ≡ []
none_behind zero [] h = refl
none_behind zero (x ∷ xs) h = absurd (omega (arith, h))
none_behind (suc n) [] h = refl
none_behind (suc n) (x ∷ xs) h = none_behind n xs (omega (arith, h))

-- ---- a header as a number

abbrev pub IsWord : ℕ → ℕ → List Bool → Type 0
IsWord n w bs = field n w ≡ bs

next : (n w : ℕ) (bs : List Bool) (m k : ℕ) → m < 2 ^ k → IsWord n w bs → IsWord (n * 2 ^ k + m) (w + k) (bs ++ field m k)
next n w bs m k small is = field-join n m w k small ∙ ap (λ (xs : List Bool). xs ++ field m k) is

flag_small : (b : Bool) → (if b then 1 else 0) < 2
flag_small true = omega arith
flag_small false = omega arith

pub header_word : (h : PayloadHeader) → AreWidths h
    → IsWord (((((((((h.sbit * 8 + h.ebit) * 2 + (if h.i then 1 else 0)) * 2 + (if h.v then 1 else 0)) * 16 + h.gobn) * 32 + h.mbap) * 32 + h.quant) * 32 + five_bits_of h.hmvd) * 32
    + five_bits_of h.vmvd)) 32 (payload_header_bits h)
header_word h w =
    let a = next h.sbit 3 (field h.sbit 3) h.ebit 3 w.ebit refl in
    let b = next _ 6 _ (if h.i then 1 else 0) 1 (flag_small h.i) a in
    let c = next _ 7 _ (if h.v then 1 else 0) 1 (flag_small h.v) b in
    let d = next _ 8 _ h.gobn 4 w.gobn c in
    let e = next _ 12 _ h.mbap 5 w.mbap d in
    let f = next _ 17 _ h.quant 5 w.quant e in
    let g = next _ 22 _ (five_bits_of h.hmvd) 5 (five_small h.hmvd w.hmvd) f in
    let l = next _ 27 _ (five_bits_of h.vmvd) 5 (five_small h.vmvd w.vmvd) g in
    let i = flag_field h.i in
    let v = flag_field h.v in
    l ∙ rw (i, v) (simp append_assoc refl)
