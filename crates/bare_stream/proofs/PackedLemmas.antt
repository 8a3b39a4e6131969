-- Bits as octets.
use Rattle.std.proofs.Common.{◌≡◌, ℕ, zero, suc, ◌+◌, ◌-◌, ◌*◌, ◌/◌, ◌^◌, ◌<◌, ◌≤◌, Bool, false, List, [], ◌∷◌, ◌++◌, length, take, drop, slice_index, Result, Ok, Err, IsErr, IfOk, refl, sym, ◌∙◌, ap, ap₂, subst, arith, append_assoc, length-append, length-drop, take_at, drop_at}
use Rattle.std.proofs.lemmas.List.{length-take-le, length-replicate}
use Rattle.pel_model.specs.declared.Format.{Format}
use Rattle.pel_model.specs.declared.Format.TheVariants.{Qcif, Cif}
use Rattle.pel_model.specs.Valid.{limit}
use Rattle.std.specs.Io.KnownBytes.{Appends}
use Rattle.bare_stream.specs.Packed.{octets_spelled, left_over, PutsOctets, PutsBits}
use Rattle.io_edge.specs.Outside.{Output}
use Rattle.io_edge.specs.Whole.{PutsAll}
use Rattle.pel_bits.specs.Bits.{bits, field, number}
use Rattle.pel_bits.specs.Buffer.{filled_up, whole}
use Rattle.pel_bits.specs.Reading.{zeros}
use Rattle.pel_bits.proofs.OctetBits.{length-bits, take-bits}
use Rattle.pel_bits.proofs.Fields.{number-fits, field-number, number_below}

-- octets are what their bits spell
pub spelled-bits : (octets : List ℕ) → ((i : ℕ) → slice_index octets i < 256) → octets_spelled (bits octets) ≡ octets
unfolding field octets_spelled
spelled-bits [] small = refl
spelled-bits (x ∷ xs) small = ap₂ (λ (n : ℕ) (ns : List ℕ). n ∷ ns) (number-fits x 8 (small 0)) (spelled-bits xs (λ i. small (suc i)))

-- fewer than eight bits are left over
pub left-short : (bs : List Bool) → length (left_over bs) < 8
unfolding left_over
left-short [] = omega arith
left-short (a ∷ []) = omega arith
left-short (a ∷ b ∷ []) = omega arith
left-short (a ∷ b ∷ c ∷ []) = omega arith
left-short (a ∷ b ∷ c ∷ d ∷ []) = omega arith
left-short (a ∷ b ∷ c ∷ d ∷ e ∷ []) = omega arith
left-short (a ∷ b ∷ c ∷ d ∷ e ∷ f ∷ []) = omega arith
left-short (a ∷ b ∷ c ∷ d ∷ e ∷ f ∷ g ∷ []) = omega arith
left-short (a ∷ b ∷ c ∷ d ∷ e ∷ f ∷ g ∷ h ∷ bs) = left-short bs

pub spelled-length : (bs : List Bool) → 8 * length (octets_spelled bs) + length (left_over bs) ≡ length bs
unfolding octets_spelled left_over
spelled-length [] = refl
spelled-length (a ∷ []) = refl
spelled-length (a ∷ b ∷ []) = refl
spelled-length (a ∷ b ∷ c ∷ []) = refl
spelled-length (a ∷ b ∷ c ∷ d ∷ []) = refl
spelled-length (a ∷ b ∷ c ∷ d ∷ e ∷ []) = refl
spelled-length (a ∷ b ∷ c ∷ d ∷ e ∷ f ∷ []) = refl
spelled-length (a ∷ b ∷ c ∷ d ∷ e ∷ f ∷ g ∷ []) = refl
spelled-length (a ∷ b ∷ c ∷ d ∷ e ∷ f ∷ g ∷ h ∷ bs) = omega (arith, spelled-length bs)

-- bits behind others spell with those that are left over
pub spelled-append : (xs ys : List Bool) → octets_spelled (xs ++ ys) ≡ octets_spelled xs ++ octets_spelled (left_over xs ++ ys)
unfolding octets_spelled left_over
spelled-append [] ys = refl
spelled-append (a ∷ []) ys = refl
spelled-append (a ∷ b ∷ []) ys = refl
spelled-append (a ∷ b ∷ c ∷ []) ys = refl
spelled-append (a ∷ b ∷ c ∷ d ∷ []) ys = refl
spelled-append (a ∷ b ∷ c ∷ d ∷ e ∷ []) ys = refl
spelled-append (a ∷ b ∷ c ∷ d ∷ e ∷ f ∷ []) ys = refl
spelled-append (a ∷ b ∷ c ∷ d ∷ e ∷ f ∷ g ∷ []) ys = refl
spelled-append (a ∷ b ∷ c ∷ d ∷ e ∷ f ∷ g ∷ h ∷ bs) ys =
    ap (λ (ns : List ℕ). number (a ∷ b ∷ c ∷ d ∷ e ∷ f ∷ g ∷ h ∷ []) ∷ ns) (spelled-append bs ys)

pub left-append : (xs ys : List Bool) → left_over (xs ++ ys) ≡ left_over (left_over xs ++ ys)
unfolding left_over
left-append [] ys = refl
left-append (a ∷ []) ys = refl
left-append (a ∷ b ∷ []) ys = refl
left-append (a ∷ b ∷ c ∷ []) ys = refl
left-append (a ∷ b ∷ c ∷ d ∷ []) ys = refl
left-append (a ∷ b ∷ c ∷ d ∷ e ∷ []) ys = refl
left-append (a ∷ b ∷ c ∷ d ∷ e ∷ f ∷ []) ys = refl
left-append (a ∷ b ∷ c ∷ d ∷ e ∷ f ∷ g ∷ []) ys = refl
left-append (a ∷ b ∷ c ∷ d ∷ e ∷ f ∷ g ∷ h ∷ bs) ys = left-append bs ys

eight : (a b c d e f g h : Bool) → field (number (a ∷ b ∷ c ∷ d ∷ e ∷ f ∷ g ∷ h ∷ [])) 8 ≡ a ∷ b ∷ c ∷ d ∷ e ∷ f ∷ g ∷ h ∷ []
eight a b c d e f g h = field-number (a ∷ b ∷ c ∷ d ∷ e ∷ f ∷ g ∷ h ∷ [])

-- the bits of the octets that bits spell, and what is left over, are the bits
pub bits-spelled : (bs : List Bool) → bits (octets_spelled bs) ++ left_over bs ≡ bs
unfolding octets_spelled left_over
bits-spelled [] = refl
bits-spelled (a ∷ []) = refl
bits-spelled (a ∷ b ∷ []) = refl
bits-spelled (a ∷ b ∷ c ∷ []) = refl
bits-spelled (a ∷ b ∷ c ∷ d ∷ []) = refl
bits-spelled (a ∷ b ∷ c ∷ d ∷ e ∷ []) = refl
bits-spelled (a ∷ b ∷ c ∷ d ∷ e ∷ f ∷ []) = refl
bits-spelled (a ∷ b ∷ c ∷ d ∷ e ∷ f ∷ g ∷ []) = refl
bits-spelled (a ∷ b ∷ c ∷ d ∷ e ∷ f ∷ g ∷ h ∷ bs) =
    append_assoc (field (number (a ∷ b ∷ c ∷ d ∷ e ∷ f ∷ g ∷ h ∷ [])) 8) (bits (octets_spelled bs)) (left_over bs)
    ∙ ap₂ (λ (x y : List Bool). x ++ y) (eight a b c d e f g h) (bits-spelled bs)

spelled-small : (bs : List Bool) (i : ℕ) → slice_index (octets_spelled bs) i < 256
unfolding octets_spelled
spelled-small [] i = omega arith
spelled-small (a ∷ []) i = omega arith
spelled-small (a ∷ b ∷ []) i = omega arith
spelled-small (a ∷ b ∷ c ∷ []) i = omega arith
spelled-small (a ∷ b ∷ c ∷ d ∷ []) i = omega arith
spelled-small (a ∷ b ∷ c ∷ d ∷ e ∷ []) i = omega arith
spelled-small (a ∷ b ∷ c ∷ d ∷ e ∷ f ∷ []) i = omega arith
spelled-small (a ∷ b ∷ c ∷ d ∷ e ∷ f ∷ g ∷ []) i = omega arith
spelled-small (a ∷ b ∷ c ∷ d ∷ e ∷ f ∷ g ∷ h ∷ bs) zero = number_below (a ∷ b ∷ c ∷ d ∷ e ∷ f ∷ g ∷ h ∷ [])
spelled-small (a ∷ b ∷ c ∷ d ∷ e ∷ f ∷ g ∷ h ∷ bs) (suc i) = spelled-small bs i

-- what is left over is what stands behind the whole octets
pub left-drop : (bs : List Bool) (n : ℕ) → n ≡ 8 * (length bs / 8) → left_over bs ≡ drop n bs
left-drop bs n count =
    let long : length (bits (octets_spelled bs)) ≡ n = omega (arith, count, spelled-length bs, left-short bs, ap length (bits-spelled bs), length-append (bits (octets_spelled bs)) (left_over bs)) in
    sym (drop_at (bits (octets_spelled bs)) (left_over bs) n long) ∙ ap (drop n) (bits-spelled bs)

-- ---- what is put

pub put-done : {E F : Type 0} (bs : List Bool) (octets : List ℕ) (before after : Output) (u : Unit) → octets_spelled bs ≡ octets
    → PutsAll {E = E} before after octets (Ok u) → PutsBits {E = F} bs before after (Ok (length octets))
put-done bs octets before after u is h = record {
  puts = (subst (Appends before.written after.written) (sym is) h.bytes, ap length (sym is));
  cause = record { later = h.cause.later; counted = h.cause.counted; kept = h.cause.kept; failed = tt };
}

pub put-failed : {E F : Type 0} (bs : List Bool) (octets : List ℕ) (before after : Output) (e : E) (result : Result ℕ F) → octets_spelled bs ≡ octets → IsErr result
    → PutsAll before after octets (Err e) → PutsBits bs before after result
put-failed bs octets before after e (Ok n) is failed h = absurd (cc)
put-failed bs octets before after e (Err f) is failed h = record {
  puts = (h.bytes.0, subst (λ (os : List ℕ). h.bytes.0 < length os) (sym is) h.bytes.1, subst (λ (os : List ℕ). Appends before.written after.written (take h.bytes.0 os)) (sym is) h.bytes.2);
  cause = record { later = h.cause.later; counted = h.cause.counted; kept = tt; failed = h.cause.failed };
}

-- other bits that spell the same
pub puts-same : {E : Type 0} (xs ys : List Bool) (before after : Output) (result : Result ℕ E) → octets_spelled xs ≡ octets_spelled ys
    → PutsBits xs before after result → PutsBits ys before after result
puts-same xs ys before after result is h =
    record { puts = subst (λ (os : List ℕ). PutsOctets before.written after.written os result) is h.puts; cause = h.cause }

-- ---- the bits that are kept

whole-rest : (bs : List Bool) (from width : ℕ) → from + width ≡ length bs → take width (drop from bs) ≡ drop from bs
whole-rest bs from width sum = take_whole width (drop from bs) (omega (arith, sum, length-drop from bs))
  where
    take_whole : (n : ℕ) (xs : List Bool) → n ≡ length xs → take n xs ≡ xs
    take_whole zero [] h = refl
    take_whole (suc n) (x ∷ xs) h = ap (λ (t : List Bool). x ∷ t) (take_whole n xs (omega (arith, h)))
    take_whole zero (x ∷ xs) h = absurd (omega (arith, h))
    take_whole (suc n) [] h = absurd (omega (arith, h))

pub kept-fits : (bs : List Bool) (from width n : ℕ) → from + width ≡ length bs → n ≡ number (take width (drop from bs)) → n < 2 ^ width
kept-fits bs from width n sum is =
    let low = number_below (take width (drop from bs)) in
    let long : length (take width (drop from bs)) ≡ width = length-take-le width (drop from bs) (omega (arith, sum, length-drop from bs)) in
    subst (λ (k : ℕ). n < 2 ^ k) long (subst (λ (m : ℕ). m < 2 ^ length (take width (drop from bs))) (sym is) low)

pub kept-field : (bs : List Bool) (from width n : ℕ) → from + width ≡ length bs → n ≡ number (take width (drop from bs)) → field n width ≡ drop from bs
kept-field bs from width n sum is =
    let long : length (take width (drop from bs)) ≡ width = length-take-le width (drop from bs) (omega (arith, sum, length-drop from bs)) in
    ap₂ field is (sym long) ∙ field-number (take width (drop from bs)) ∙ whole-rest bs from width sum

-- how many octets hold bits
pub length-filled : (bs : List Bool) (octets : List ℕ) → bits octets ≡ filled_up bs → length octets ≡ (length bs + 7) / 8
length-filled bs octets is =
    let long : length (filled_up bs) ≡ length bs + (8 * ((length bs + 7) / 8) - length bs) = length-append bs (zeros _) ∙ ap (λ (n : ℕ). length bs + n) (length-replicate _ false) in
    omega (arith, long, ap length is, length-bits octets)

-- how many octets bits spell
pub count-spelled : (bs : List Bool) → length (octets_spelled bs) ≡ length bs / 8
count-spelled bs = omega (arith, spelled-length bs, left-short bs)

-- the whole octets of the first of those that hold bits are what these bits spell
pub spelled-front : (bs : List Bool) (octets : List ℕ) (n : ℕ) → bits octets ≡ filled_up bs → n ≡ length bs / 8 → octets_spelled (bits (take n octets)) ≡ octets_spelled bs
spelled-front bs octets n is count =
    let long = length-filled bs octets is in
    let behind = zeros (whole (length bs) - length bs) in
    let front : bits (take n octets) ≡ bits (octets_spelled bs) =
    sym (take-bits n octets (omega (arith, long, count)))
    ∙ (ap (take (8 * n)) (is ∙ (ap (λ (t : List Bool). t ++ behind) (sym (bits-spelled bs)) ∙ append_assoc (bits (octets_spelled bs)) (left_over bs) behind))
    ∙ take_at (bits (octets_spelled bs)) (left_over bs ++ behind) (8 * n) (length-bits (octets_spelled bs) ∙ omega (arith, count-spelled bs, count))) in
    ap octets_spelled front ∙ spelled-bits (octets_spelled bs) (spelled-small bs)

-- the bits that wait and a text have room
pub text-fits : (format : Format) (old : List Bool) (text : List Bool) → length old < 8 → length text ≤ limit format → length (old ++ text) ≤ 262151
text-fits Qcif old text few short = omega (arith, few, short, length-append old text)
text-fits Cif old text few short = omega (arith, few, short, length-append old text)

pub ok-below : {E : Type 0} (result : Result ℕ E) (n m : ℕ) → IfOk result (λ k. k ≡ n) → n ≤ m → IfOk result (λ k. k ≤ m)
ok-below (Ok k) n m is below = omega (arith, is, below)
ok-below (Err e) n m is below = tt
