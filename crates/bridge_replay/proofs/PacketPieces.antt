-- A written packet brings the piece of the text that was put into it.
use Rattle.std.proofs.Common.{◌≡◌, ℕ, zero, suc, ◌+◌, ◌-◌, ◌*◌, ◌%◌, ◌^◌, ◌<◌, ◌≤◌, ◌==◌, nat_le, ◌&&◌, if◌then◌else◌, Bool, false, true, List, [], ◌∷◌, ◌++◌, length, take, drop, Some, None, Ok, refl, ◌∙◌, ap, ap₂, arith, length-append, length-take-le, append-nil}
use Rattle.std.proofs.lemmas.List.{length-drop, length-replicate, take_at, drop_at}
use Rattle.std.proofs.lemmas.Bool.Decides.{nat_tests}
use Rattle.cif_pack.specs.declared.atoms.Context.{Context}
use Rattle.cif_pack.specs.declared.packer.Settings.{Settings}
use Rattle.cif_pack.specs.Cuts.{octets_between}
use Rattle.cif_pack.specs.Packets.{packet_between, sequence_after}
use Rattle.cif_pack.specs.Payload.{bits_packed, payload_header, payload_between}
use Rattle.cif_pack.proofs.Frames.{length-packed, length-part-octets}
use Rattle.pel_bits.specs.Bits.{bits, field, number}
use Rattle.pel_bits.specs.Reading.{zeros}
use Rattle.pel_bits.proofs.Fields.{field-number, number-fits}
use Rattle.pel_bits.proofs.OctetBits.{bits-append}
use Rattle.rtp_h261.specs.Packets.{sbit, ebit, carried, is_usable, piece_of, piece_of_read, piece_of_fields}
use Rattle.rtp_h261.specs.Units.{Piece}
use Rattle.rtp_wire.specs.Rtp.{Fields, octets_of, plain, packet_of, LawOfPlainPackets}

-- bits in octets are read as these bits
bits-packed : (n : ℕ) (bs : List Bool) → length bs ≡ 8 * n → bits (bits_packed bs) ≡ bs
unfolding bits_packed
bits-packed zero [] is = refl
bits-packed (suc n) (a ∷ b ∷ c ∷ d ∷ e ∷ f ∷ g ∷ h ∷ bs) is =
    ap₂ (λ (xs ys : List Bool). xs ++ ys) (field-number (a ∷ b ∷ c ∷ d ∷ e ∷ f ∷ g ∷ h ∷ [])) (bits-packed n bs (omega (arith, is)))
bits-packed zero (a ∷ bs) is = absurd (omega (arith, is))
bits-packed (suc n) [] is = absurd (omega (arith, is))
bits-packed (suc n) (a ∷ []) is = absurd (omega (arith, is))
bits-packed (suc n) (a ∷ b ∷ []) is = absurd (omega (arith, is))
bits-packed (suc n) (a ∷ b ∷ c ∷ []) is = absurd (omega (arith, is))
bits-packed (suc n) (a ∷ b ∷ c ∷ d ∷ []) is = absurd (omega (arith, is))
bits-packed (suc n) (a ∷ b ∷ c ∷ d ∷ e ∷ []) is = absurd (omega (arith, is))
bits-packed (suc n) (a ∷ b ∷ c ∷ d ∷ e ∷ f ∷ []) is = absurd (omega (arith, is))
bits-packed (suc n) (a ∷ b ∷ c ∷ d ∷ e ∷ f ∷ g ∷ []) is = absurd (omega (arith, is))

length-header : (s e : ℕ) (c : Context) → length (payload_header s e false true c) ≡ 32
unfolding field
length-header s e c = refl

-- ---- a payload of so many octets behind its header

abbrev made : (s e : ℕ) → Context → List Bool → List ℕ
made s e c bs = bits_packed (payload_header s e false true c) ++ bits_packed bs

bits-made : (n s e : ℕ) (c : Context) (bs : List Bool) → length bs ≡ 8 * n → bits (made s e c bs) ≡ payload_header s e false true c ++ bs
bits-made n s e c bs long =
    bits-append (bits_packed (payload_header s e false true c)) (bits_packed bs)
    ∙ ap₂ (λ (xs ys : List Bool). xs ++ ys) (bits-packed 4 (payload_header s e false true c) (length-header s e c)) (bits-packed n bs long)

sbit-made : (n s e : ℕ) (c : Context) (bs : List Bool) → length bs ≡ 8 * n → s < 8 → sbit (made s e c bs) ≡ s
unfolding field
sbit-made n s e c bs long small = ap (λ (t : List Bool). number (take 3 t)) (bits-made n s e c bs long) ∙ number-fits s 3 small

ebit-made : (n s e : ℕ) (c : Context) (bs : List Bool) → length bs ≡ 8 * n → e < 8 → ebit (made s e c bs) ≡ e
unfolding field
ebit-made n s e c bs long small = ap (λ (t : List Bool). number (take 3 (drop 3 t))) (bits-made n s e c bs long) ∙ number-fits e 3 small

length-made : (n s e : ℕ) (c : Context) (bs : List Bool) → length bs ≡ 8 * n → length (made s e c bs) ≡ 4 + n
length-made n s e c bs long =
    omega (arith, length-append (bits_packed (payload_header s e false true c)) (bits_packed bs), length-packed 4 (payload_header s e false true c) (length-header s e c), length-packed n bs long)

behind-made : (n s e : ℕ) (c : Context) (bs : List Bool) → length bs ≡ 8 * n → bits (drop 4 (made s e c bs)) ≡ bs
behind-made n s e c bs long =
    ap bits (drop_at (bits_packed (payload_header s e false true c)) (bits_packed bs) 4 (length-packed 4 (payload_header s e false true c) (length-header s e c)))
    ∙ bits-packed n bs long

abbrev between : (s e : ℕ) → List Bool → List Bool
between s e part = zeros s ++ (part ++ zeros e)

length-between : (s e : ℕ) (part : List Bool) → length (between s e part) ≡ s + (length part + e)
length-between s e part =
    omega (arith, length-append (zeros s) (part ++ zeros e), length-append part (zeros e), length-replicate s false, length-replicate e false)

carried-made : (n s e : ℕ) (c : Context) (part : List Bool) → s + (length part + e) ≡ 8 * n → s < 8 → e < 8 → carried (made s e c (between s e part)) ≡ part
carried-made n s e c part long small small' =
    let bs = between s e part in
    let whole : length bs ≡ 8 * n = length-between s e part ∙ long in
    let count : 8 * (length (made s e c bs) - 4) - (sbit (made s e c bs) + ebit (made s e c bs)) ≡ length part =
    omega (arith, long, length-made n s e c bs whole, sbit-made n s e c bs whole small, ebit-made n s e c bs whole small') in
    ap₂ (λ (k : ℕ) (t : List Bool). take k t) count
    (ap₂ (λ (k : ℕ) (t : List Bool). drop k t) (sbit-made n s e c bs whole small) (behind-made n s e c bs whole)
    ∙ drop_at (zeros s) (part ++ zeros e) s (length-replicate s false))
    ∙ take_at part (zeros e) (length part) refl

usable-made : (n s e : ℕ) (c : Context) (part : List Bool) → s + (length part + e) ≡ 8 * n → s < 8 → e < 8 → is_usable (made s e c (between s e part)) ≡ true
usable-made n s e c part long small small' =
    let bs = between s e part in
    let whole : length bs ≡ 8 * n = length-between s e part ∙ long in
    le₂ 4 (length (made s e c bs)) (sbit (made s e c bs) + ebit (made s e c bs)) (8 * (length (made s e c bs) - 4))
    (omega (arith, length-made n s e c bs whole))
    (omega (arith, long, length-made n s e c bs whole, sbit-made n s e c bs whole small, ebit-made n s e c bs whole small'))
  where
    le₂ : (a b c d : ℕ) → a ≤ b → c ≤ d → (nat_le a b && nat_le c d) ≡ true
    le₂ a b c d h k =
        let x : nat_le a b ≡ true = grind (arith, nat_tests, h) in
        let y : nat_le c d ≡ true = grind (arith, nat_tests, k) in
        ap₂ (λ (p q : Bool). p && q) x y

-- ---- a packet

-- what the packet brings that ends at `to`
abbrev pub piece : Settings → (stamp before : ℕ) → (text : List Bool) → (from to : ℕ) → Piece
piece s stamp before text from to = record {
  number = sequence_after s before;
  stamp = stamp;
  marker = to == length text;
  bits = take (to - from) (drop from text);
}

piece-read : (octets : List ℕ) (f : Fields) (part : List Bool) → packet_of octets ≡ Ok f → is_usable f.payload ≡ true → carried f.payload ≡ part
    → piece_of octets ≡ Some (record { number = f.seq; stamp = f.stamp; marker = f.marker; bits = part })
unfolding piece_of
piece-read octets f part read usable brings =
    ap piece_of_read read
    ∙ ap (λ (b : Bool). if b then Some (piece_of_fields f) else None) usable
    ∙ ap (λ (t : List Bool). Some (record { number = f.seq; stamp = f.stamp; marker = f.marker; bits = t })) brings

abbrev fields_of : Settings → (stamp before : ℕ) → (marker : Bool) → List ℕ → Fields
fields_of s stamp before marker octets = record { marker = marker; kind = 31; seq = sequence_after s before; stamp = stamp; ssrc = s.ssrc; payload = octets }

-- the octets of the headers, and the payload behind them
header-and-payload : (s : Settings) (stamp before : ℕ) (marker : Bool) (octets : List ℕ)
    → octets_of (plain (fields_of s stamp before marker octets)) ≡ octets_of (plain (fields_of s stamp before marker [])) ++ octets
header-and-payload s stamp before marker octets = ap (λ (t : List ℕ). octets_of (plain (fields_of s stamp before marker [])) ++ t) (append-nil octets)

length-octets : (s : Settings) (stamp before : ℕ) (marker : Bool) (octets : List ℕ) → length (octets_of (plain (fields_of s stamp before marker octets))) ≡ 12 + length octets
length-octets s stamp before marker octets =
    ap length (header-and-payload s stamp before marker octets) ∙ omega (arith, length-append (octets_of (plain (fields_of s stamp before marker []))) octets)

-- a packet has the octets of its headers and of its bits
pub length-packet : (s : Settings) (stamp before : ℕ) (text : List Bool) (from to : ℕ) (c : Context) → from < to → to ≤ length text
    → length (packet_between s stamp before text from to c) ≡ 16 + octets_between from to
length-packet s stamp before text from to c some within =
    omega (
      arith,
      length-octets s stamp before (to == length text) (payload_between text from to c),
      length-append (bits_packed (payload_header (from % 8) ((8 - to % 8) % 8) false true c)) (bits_packed (zeros (from % 8) ++ (take (to - from) (drop from text) ++ zeros ((8 - to % 8) % 8)))),
      length-packed 4 (payload_header (from % 8) ((8 - to % 8) % 8) false true c) (length-header (from % 8) ((8 - to % 8) % 8) c),
      length-part-octets text from to some within,
    )

pub packet-is-read : LawOfPlainPackets → (s : Settings) (stamp before : ℕ) (text : List Bool) (from to : ℕ) (c : Context) → s.ssrc < 2 ^ 32 → stamp < 2 ^ 32
    → from < to → to ≤ length text → piece_of (packet_between s stamp before text from to c) ≡ Some (piece s stamp before text from to)
packet-is-read law s stamp before text from to c name small some within =
    let part = take (to - from) (drop from text) in
    let long : length part ≡ to - from = length-take-le (to - from) (drop from text) (omega (arith, within, length-drop from text)) in
    let sum : from % 8 + (length part + (8 - to % 8) % 8) ≡ 8 * octets_between from to = omega (arith, some, long) in
    let marker = to == length text in
    let octets = payload_between text from to c in
    let f : Fields = fields_of s stamp before marker octets in
    piece-read (octets_of (plain f)) f part
    (ap packet_of (header-and-payload s stamp before marker octets) ∙ law f (record { kind = omega arith; seq = omega arith; stamp = small; ssrc = name }))
    (usable-made (octets_between from to) (from % 8) ((8 - to % 8) % 8) c part sum (omega arith) (omega arith))
    (carried-made (octets_between from to) (from % 8) ((8 - to % 8) % 8) c part sum (omega arith) (omega arith))
