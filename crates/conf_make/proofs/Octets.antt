-- The octets of an entry, piece by piece.
use Rattle.std.proofs.Common.{◌≡◌, ℕ, suc, ◌+◌, ◌-◌, ◌*◌, ◌%◌, ◌^◌, ◌<◌, Bool, true, List, [], ◌∷◌, ◌++◌, length, slice_index, refl, sym, ◌∙◌, ap, ap₂, arith, append_assoc, append-nil, length-append}
use Rattle.std.proofs.lemmas.List.{length-replicate}
use Rattle.byteorder.specs.Endian.{big_bytes}
use Rattle.pel_bits.specs.Bits.{bits, field}
use Rattle.pel_bits.specs.Buffer.{whole, filled_up}
use Rattle.pel_bits.specs.Reading.{zeros}
use Rattle.pel_bits.proofs.Fields.{number-fits}
use Rattle.pel_bits.proofs.OctetBits.{length-bits}
use Rattle.rtp_wire.specs.Rtp.{Fields, octets_of, plain}
use Rattle.conf_file.specs.Entries.{Packet, P}
use Rattle.conf_make.specs.Made.{entry_of}
use Rattle.conf_make.specs.Packets.{packed_octets, made_payload, made_packet}

-- octets are what their bits are packed into
packed-bits : (octets : List ℕ) → ((i : ℕ) → slice_index octets i < 256) → packed_octets (bits octets) ≡ octets
unfolding field packed_octets
packed-bits [] small = refl
packed-bits (x ∷ xs) small = ap₂ (λ (n : ℕ) (ns : List ℕ). n ∷ ns) (number-fits x 8 (small 0)) (packed-bits xs (λ i. small (suc i)))

abbrev fields_of : (tick lane : ℕ) → List ℕ → Fields
fields_of tick lane payload = record {
  marker = true;
  kind = 31;
  seq = (tick - 1) % 2 ^ 16;
  stamp = 9009 * tick % 2 ^ 32;
  ssrc = lane;
  payload = payload;
}

-- a packet is its fixed header, its payload header and its octets
packet-is : (tick lane : ℕ) (text : List Bool) (fixed head octets : List ℕ)
    → fixed ≡ octets_of (plain (fields_of tick lane []))
    → head ≡ (4 * (whole (length text) - length text) + 1) ∷ 0 ∷ 0 ∷ 0 ∷ []
    → octets ≡ packed_octets (filled_up text)
    → fixed ++ (head ++ octets) ≡ made_packet tick lane text
unfolding made_packet
packet-is tick lane text fixed head octets fixed_is head_is octets_are =
    ap₂ (λ (f : List ℕ) (p : List ℕ). f ++ p) fixed_is (ap₂ (λ (h : List ℕ) (o : List ℕ). h ++ o) head_is octets_are)
    ∙ ap (λ (t : List ℕ). octets_of (plain (fields_of tick lane [])) ++ t) (sym (append-nil (made_payload text)))

-- how many octets bits need
pub octets-long : (text : List Bool) (octets : List ℕ) → bits octets ≡ filled_up text → 8 * length octets ≡ whole (length text)
octets-long text octets are =
    sym (length-bits octets) ∙ ap length are ∙ length-append text (zeros (whole (length text) - length text))
    ∙ omega (arith, length-replicate {A = Bool} (whole (length text) - length text))

pub entry-is : (tick lane n : ℕ) (text : List Bool) (size fixed head octets : List ℕ)
    → ((i : ℕ) → slice_index octets i < 256) → bits octets ≡ filled_up text
    → fixed ≡ octets_of (plain (fields_of tick lane []))
    → head ≡ (4 * (whole (length text) - length text) + 1) ∷ 0 ∷ 0 ∷ 0 ∷ []
    → n ≡ 16 + length octets → size ≡ big_bytes 2 n
    → (P ∷ lane ∷ []) ++ (size ++ (fixed ++ (head ++ octets))) ≡ entry_of (Packet lane (made_packet tick lane text))
entry-is tick lane n text size fixed head octets small are fixed_is head_is count size_is =
    let whole_packet = packet-is tick lane text fixed head octets fixed_is head_is (sym (packed-bits octets small) ∙ ap packed_octets are) in
    let long : n ≡ length (made_packet tick lane text) =
    omega (arith, count, ap length whole_packet, length-append fixed (head ++ octets), length-append head octets, ap length fixed_is, ap length head_is) in
    ap₂ (λ (s : List ℕ) (p : List ℕ). P ∷ lane ∷ (s ++ p)) (size_is ∙ ap (big_bytes 2) long) whole_packet

-- pieces appended one after another
pub joined-five : (e0 e1 e2 e3 e4 e5 a b c d e : List ℕ) → e0 ≡ [] → e1 ≡ e0 ++ a → e2 ≡ e1 ++ b → e3 ≡ e2 ++ c → e4 ≡ e3 ++ d → e5 ≡ e4 ++ e
    → e5 ≡ a ++ (b ++ (c ++ (d ++ e)))
joined-five e0 e1 e2 e3 e4 e5 a b c d e i0 i1 i2 i3 i4 i5 =
    i5 ∙ ap (λ (t : List ℕ). t ++ e) (i4 ∙ ap (λ (t : List ℕ). t ++ d) (i3 ∙ ap (λ (t : List ℕ). t ++ c) (i2 ∙ ap (λ (t : List ℕ). t ++ b) (i1 ∙ ap (λ (t : List ℕ). t ++ a) i0))))
    ∙ simp append_assoc

pub long-four : (e0 e1 e2 e3 e4 a b c d : List ℕ) → e0 ≡ [] → e1 ≡ e0 ++ a → e2 ≡ e1 ++ b → e3 ≡ e2 ++ c → e4 ≡ e3 ++ d
    → length e4 ≡ length a + length b + length c + length d
long-four e0 e1 e2 e3 e4 a b c d i0 i1 i2 i3 i4 =
    omega (arith, ap length i0, ap length i1, ap length i2, ap length i3, ap length i4, length-append e0 a, length-append e1 b, length-append e2 c, length-append e3 d)
