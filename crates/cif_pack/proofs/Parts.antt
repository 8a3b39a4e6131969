-- The octets in which a part of the bits stands.
use Rattle.std.proofs.Common.{◌≡◌, ℕ, zero, suc, ◌+◌, ◌-◌, ◌*◌, ◌/◌, ◌%◌, ◌<◌, ◌≤◌, Bool, false, List, [], ◌∷◌, ◌++◌, length, take, drop, slice_index, refl, sym, ◌∙◌, ap, ap₂, arith, append_assoc, append-nil, length-take-le}
use Rattle.std.proofs.lemmas.List.{take-append-drop, length-drop, drop-drop, drop_more, take-append-le, drop-append-le, length-replicate}
use Rattle.std.proofs.Math.Seq.{take-append-add, drop-append-add}
use Rattle.pel_bits.specs.Bits.{bits, field}
use Rattle.pel_bits.specs.Reading.{zeros}
use Rattle.pel_bits.proofs.Fields.{length-field}
use Rattle.pel_bits.proofs.OctetBits.{length-bits, bits-append}
use Rattle.cif_pack.specs.Payload.{bits_packed}
use Rattle.cif_pack.proofs.Octets.{packed-bits}

-- zeros in place of the first s bits, which lie in the first piece, and of the last e, which lie in the last
several : (P F M Y Q : List Bool) (s e : ℕ) → s < length F → e < length Y
    → zeros s ++ (take (length F - s + (length M + (length Y - e))) (drop (length P + s) (P ++ (F ++ (M ++ (Y ++ Q))))) ++ zeros e)
    ≡ (zeros s ++ drop s F) ++ (M ++ (take (length Y - e) Y ++ zeros e))
several P F M Y Q s e less few =
    let rest = M ++ (Y ++ Q) in
    let dropped : drop (length P + s) (P ++ (F ++ rest)) ≡ drop s F ++ rest =
    drop-append-add P (F ++ rest) s ∙ drop-append-le s F rest (omega (arith, less)) in
    let long : length (drop s F) ≡ length F - s = length-drop s F in
    let taken : take (length F - s + (length M + (length Y - e))) (drop s F ++ rest) ≡ drop s F ++ (M ++ take (length Y - e) Y) =
    ap (λ k. take (k + (length M + (length Y - e))) (drop s F ++ rest)) (sym long)
    ∙ take-append-add (drop s F) rest (length M + (length Y - e))
    ∙ ap (λ t. drop s F ++ t) (take-append-add M (Y ++ Q) (length Y - e) ∙ ap (λ t. M ++ t) (take-append-le (length Y - e) Y Q (omega arith))) in
    ap (λ t. zeros s ++ (t ++ zeros e)) (ap (take (length F - s + (length M + (length Y - e)))) dropped ∙ taken)
    ∙ ap (λ t. zeros s ++ t) (append_assoc (drop s F) (M ++ take (length Y - e) Y) (zeros e) ∙ ap (λ t. drop s F ++ t) (append_assoc M (take (length Y - e) Y) (zeros e)))
    ∙ sym (append_assoc (zeros s) (drop s F) (M ++ (take (length Y - e) Y ++ zeros e)))

-- the same where all lies in one piece
single : (P F Q : List Bool) (s e : ℕ) → s + e < length F
    → zeros s ++ (take (length F - s - e) (drop (length P + s) (P ++ (F ++ Q))) ++ zeros e)
    ≡ take (length F - e) (zeros s ++ drop s F) ++ zeros e
single P F Q s e less =
    let dropped : drop (length P + s) (P ++ (F ++ Q)) ≡ drop s F ++ Q = drop-append-add P (F ++ Q) s ∙ drop-append-le s F Q (omega (arith, less)) in
    let taken : take (length F - s - e) (drop s F ++ Q) ≡ take (length F - s - e) (drop s F) =
    take-append-le (length F - s - e) (drop s F) Q (omega (arith, length-drop s F)) in
    let front : take (length F - e) (zeros s ++ drop s F) ≡ zeros s ++ take (length F - s - e) (drop s F) =
    ap (λ k. take k (zeros s ++ drop s F)) (omega (arith, less, length-replicate s false)) ∙ take-append-add (zeros s) (drop s F) (length F - s - e) in
    ap (λ t. zeros s ++ (t ++ zeros e)) (ap (take (length F - s - e)) dropped ∙ taken)
    ∙ sym (append_assoc (zeros s) (take (length F - s - e) (drop s F)) (zeros e)) ∙ ap (λ t. t ++ zeros e) (sym front)

-- ---- of octets

-- octets in front of one, between it and a later one, and behind that
record Cut (octets : List ℕ) (first last : ℕ) : Type 0 where
  middle : List ℕ
  behind : List ℕ
  front : length (take first octets) ≡ first
  long : length middle ≡ last - (first + 1)
  is : octets ≡ take first octets ++ (slice_index octets first ∷ (middle ++ (slice_index octets last ∷ behind)))
  middle_is : take (last - (first + 1)) (drop (first + 1) octets) ≡ middle

cut_of : (octets : List ℕ) (first last : ℕ) → first < last → last < length octets → Cut octets first last
cut_of octets first last less inside =
    let middle = take (last - (first + 1)) (drop (first + 1) octets) in
    let behind = drop (last + 1) octets in
    let rest : drop (first + 1) octets ≡ middle ++ (slice_index octets last ∷ behind) =
    sym (take-append-drop (last - (first + 1)) (drop (first + 1) octets))
    ∙ ap (λ t. middle ++ t) (drop-drop (last - (first + 1)) (first + 1) octets ∙ ap (λ k. drop k octets) (omega (arith, less)) ∙ drop_more octets last 0 inside) in
    record {
      middle = middle;
      behind = behind;
      front = length-take-le first octets (omega (arith, less, inside));
      long = length-take-le (last - (first + 1)) (drop (first + 1) octets) (omega (arith, less, inside, length-drop (first + 1) octets));
      is = sym (take-append-drop first octets) ∙ ap (λ t. take first octets ++ t) (drop_more octets first 0 (omega (arith, less, inside)) ∙ ap (λ t. slice_index octets first ∷ t) rest);
      middle_is = refl;
    }

all-small-one : (x : ℕ) → x < 256 → (i : ℕ) → slice_index (x ∷ []) i < 256
all-small-one x h zero = h
all-small-one x h (suc i) = omega arith

all-small : (x y : ℕ) (ms : List ℕ) → x < 256 → y < 256 → ((i : ℕ) → slice_index ms i < 256) → (i : ℕ) → slice_index (x ∷ (ms ++ y ∷ [])) i < 256
all-small x y ms x_small y_small small zero = x_small
all-small x y [] x_small y_small small (suc i) = all-small-one y y_small i
all-small x y (m ∷ ms) x_small y_small small (suc i) = all-small m y ms (small 0) y_small (λ k. small (suc k)) i

middle-small : (octets : List ℕ) (from n : ℕ) → ((i : ℕ) → slice_index octets i < 256) → (i : ℕ) → slice_index (take n (drop from octets)) i < 256
middle-small [] zero zero small i = omega arith
middle-small [] zero (suc n) small i = omega arith
middle-small [] (suc from) zero small i = omega arith
middle-small [] (suc from) (suc n) small i = omega arith
middle-small (x ∷ xs) (suc from) n small i = middle-small xs from n (λ k. small (suc k)) i
middle-small (x ∷ xs) zero zero small i = omega arith
middle-small (x ∷ xs) zero (suc n) small zero = small 0
middle-small (x ∷ xs) zero (suc n) small (suc i) = middle-small xs zero n (λ k. small (suc k)) i

-- bits from one octet to a later one
pub several-octets : (octets : List ℕ) (from to x y : ℕ) → from < to → to ≤ 8 * length octets → from / 8 < (to - 1) / 8 → x < 256 → y < 256
    → ((i : ℕ) → slice_index octets i < 256)
    → field x 8 ≡ zeros (from % 8) ++ drop (from % 8) (field (slice_index octets (from / 8)) 8)
    → field y 8 ≡ take (8 - (8 - to % 8) % 8) (field (slice_index octets ((to - 1) / 8)) 8) ++ zeros ((8 - to % 8) % 8)
    → x ∷ (take ((to - 1) / 8 - (from / 8 + 1)) (drop (from / 8 + 1) octets) ++ y ∷ [])
    ≡ bits_packed (zeros (from % 8) ++ (take (to - from) (drop from (bits octets)) ++ zeros ((8 - to % 8) % 8)))
unfolding cut_of
several-octets octets from to x y some inside far x_small y_small small x_is y_is =
    let first = from / 8 in
    let last = (to - 1) / 8 in
    let s = from % 8 in
    let e = (8 - to % 8) % 8 in
    let c = cut_of octets first last far (omega (arith, some, inside)) in
    let a = slice_index octets first in
    let b = slice_index octets last in
    let P = bits (take first octets) in
    let F = field a 8 in
    let M = bits c.middle in
    let Y = field b 8 in
    let Q = bits c.behind in
    let all : bits octets ≡ P ++ (F ++ (M ++ (Y ++ Q))) =
    ap bits c.is ∙ bits-append (take first octets) (a ∷ (c.middle ++ (b ∷ c.behind))) ∙ ap (λ t. P ++ (F ++ t)) (bits-append c.middle (b ∷ c.behind)) in
    let from_is : length P + s ≡ from = omega (arith, length-bits (take first octets), c.front) in
    let size_is : length F - s + (length M + (length Y - e)) ≡ to - from =
    omega (arith, length-field a 8, length-field b 8, length-bits c.middle, c.long, some, far) in
    let piece : zeros s ++ (take (to - from) (drop from (bits octets)) ++ zeros e) ≡ (zeros s ++ drop s F) ++ (M ++ (take (length Y - e) Y ++ zeros e)) =
    ap₂ (λ (n : ℕ) (t : List Bool). zeros s ++ (take n t ++ zeros e)) (sym size_is) (ap₂ (λ (n : ℕ) (t : List Bool). drop n t) (sym from_is) all)
    ∙ several P F M Y Q s e (omega (arith, length-field a 8)) (omega (arith, length-field b 8)) in
    let written : bits (x ∷ (c.middle ++ y ∷ [])) ≡ field x 8 ++ (M ++ (field y 8 ++ [])) = ap (λ t. field x 8 ++ t) (bits-append c.middle (y ∷ [])) in
    let last_is : field y 8 ++ [] ≡ take (length Y - e) Y ++ zeros e =
    append-nil (field y 8) ∙ y_is ∙ ap (λ k. take (k - e) Y ++ zeros e) (sym (length-field b 8)) in
    let same : bits (x ∷ (c.middle ++ y ∷ [])) ≡ zeros s ++ (take (to - from) (drop from (bits octets)) ++ zeros e) =
    written ∙ ap₂ (λ (t : List Bool) (u : List Bool). t ++ (M ++ u)) x_is last_is ∙ sym piece in
    sym (packed-bits (x ∷ (c.middle ++ y ∷ [])) (all-small x y c.middle x_small y_small (middle-small octets (first + 1) (last - (first + 1)) small))) ∙ ap bits_packed same

-- bits within one octet
pub single-octet : (octets : List ℕ) (from to x : ℕ) → from < to → to ≤ 8 * length octets → from / 8 ≡ (to - 1) / 8 → x < 256
    → (head : List Bool) → head ≡ zeros (from % 8) ++ drop (from % 8) (field (slice_index octets (from / 8)) 8)
    → field x 8 ≡ take (8 - (8 - to % 8) % 8) head ++ zeros ((8 - to % 8) % 8)
    → x ∷ [] ≡ bits_packed (zeros (from % 8) ++ (take (to - from) (drop from (bits octets)) ++ zeros ((8 - to % 8) % 8)))
single-octet octets from to x some inside same x_small head head_is x_is =
    let first = from / 8 in
    let s = from % 8 in
    let e = (8 - to % 8) % 8 in
    let a = slice_index octets first in
    let P = bits (take first octets) in
    let F = field a 8 in
    let Q = bits (drop (first + 1) octets) in
    let front : length (take first octets) ≡ first = length-take-le first octets (omega (arith, some, inside)) in
    let cut : octets ≡ take first octets ++ (a ∷ drop (first + 1) octets) =
    sym (take-append-drop first octets) ∙ ap (λ t. take first octets ++ t) (drop_more octets first 0 (omega (arith, some, inside))) in
    let all : bits octets ≡ P ++ (F ++ Q) = ap bits cut ∙ bits-append (take first octets) (a ∷ drop (first + 1) octets) in
    let from_is : length P + s ≡ from = omega (arith, length-bits (take first octets), front) in
    let size_is : length F - s - e ≡ to - from = omega (arith, length-field a 8, some, same) in
    let piece : zeros s ++ (take (to - from) (drop from (bits octets)) ++ zeros e) ≡ take (length F - e) (zeros s ++ drop s F) ++ zeros e =
    ap₂ (λ (n : ℕ) (t : List Bool). zeros s ++ (take n t ++ zeros e)) (sym size_is) (ap₂ (λ (n : ℕ) (t : List Bool). drop n t) (sym from_is) all)
    ∙ single P F Q s e (omega (arith, length-field a 8, some, same)) in
    let written : bits (x ∷ []) ≡ take (length F - e) (zeros s ++ drop s F) ++ zeros e =
    append-nil (field x 8) ∙ x_is ∙ ap₂ (λ (k : ℕ) (t : List Bool). take (k - e) t ++ zeros e) (sym (length-field a 8)) head_is in
    sym (packed-bits (x ∷ []) (all-small-one x x_small)) ∙ ap bits_packed (written ∙ sym piece)
