-- The octets of a packet are read as its fields.
use Rattle.std.proofs.Common.{◌≡◌, ℕ, ◌+◌, ◌-◌, ◌*◌, ◌/◌, ◌%◌, ◌^◌, ◌<◌, ◌≤◌, ◌==◌, nat_lt, IfSome, Bool, true, false, List, [], ◌∷◌, ◌++◌, Option, None, Some, Ok, length, take, drop, slice_index, refl, sym, ap, subst, ◌∙◌, arith, length-append, drop_at, drop-drop, append-nil}
use Rattle.std.proofs.lemmas.Bool.{eq-eqb}
use Rattle.std.proofs.lemmas.Bool.Decides.{nat_tests}
use Rattle.std.proofs.lemmas.List.{get_or-append_right}
use Rattle.std.proofs.Math.Seq.{take-append_seam}
use Rattle.byteorder.specs.Endian.{big_bytes, big_number}
use Rattle.rtp_wire.specs.Rtp.{Fields, Extension, Parts, AreWholeWords, IsPadding, IsPacket, flag, is_there, is_not_empty, first_octet, second_octet, extension_octets, octets_of, has_padding, sources_end, extension_end, extension_is_cut, body, last_octet, is_bad_padding, unpadded, fields_of, packet_of}
use Rattle.rtp_wire.proofs.ReadingLemmas.{read_whole}

-- the bits of a first octet
first_bits : (padded extended : Bool) (n : ℕ) → n < 16 → let o = 2 * 64 + flag padded 32 + flag extended 16 + n in
    (o / 64 ≡ 2) × ((o / 32 % 2 == 1) ≡ padded) × ((o / 16 % 2 == 1) ≡ extended) × (o % 16 ≡ n)
first_bits true true n h = (omega arith, eq-eqb _ _ (omega arith), eq-eqb _ _ (omega arith), omega arith)
first_bits true false n h = (omega arith, eq-eqb _ _ (omega arith), grind (arith, nat_tests), omega arith)
first_bits false true n h = (omega arith, grind (arith, nat_tests), eq-eqb _ _ (omega arith), omega arith)
first_bits false false n h = (omega arith, grind (arith, nat_tests), grind (arith, nat_tests), omega arith)

-- the fixed header with this first octet
abbrev cells : ℕ → Fields → List ℕ
cells o f = o ∷ second_octet f ∷ (big_bytes 2 f.seq ++ (big_bytes 4 f.stamp ++ big_bytes 4 f.ssrc))

-- the headers are all there, and what stands behind them is found
abbrev PassesHeaders : List ℕ → List ℕ → Type 0
PassesHeaders octets behind = (sources_end octets ≤ length octets) × (extension_is_cut octets ≡ false) × (body octets ≡ behind)

headers_pass : (o n : ℕ) (f : Fields) (sources : List ℕ) (e : Option Extension) (behind : List ℕ) → o % 16 ≡ n → (o / 16 % 2 == 1) ≡ is_there e
    → length sources ≡ 4 * n → IfSome e (λ x. (x.profile < 2 ^ 16) × AreWholeWords x.words (2 ^ 16))
    → PassesHeaders (cells o f ++ (sources ++ (extension_octets e ++ behind))) behind
headers_pass o n f sources None behind count has long fits =
    let octets = cells o f ++ (sources ++ behind) in
    let far : length (cells o f ++ sources) ≡ 12 + 4 * (o % 16) = omega (arith, length-append (cells o f) sources) in (
      omega (arith, length-append sources behind),
      rw has refl,
      rw has (drop_at (cells o f ++ sources) behind (12 + 4 * (o % 16)) far),
    )
headers_pass o n f sources (Some e) behind count has long fits =
    let rest = extension_octets (Some e) ++ behind in
    let octets = cells o f ++ (sources ++ rest) in
    let start = 12 + 4 * (o % 16) in
    let m = fits.1.0 in
    let words : length e.words ≡ 4 * m = fits.1.2 in
    let far : length (cells o f ++ sources) ≡ start = omega (arith, length-append (cells o f) sources) in
    let all : length octets ≡ start + 4 + 4 * m + length behind = omega (arith, length-append sources rest, length-append e.words behind) in
    let begins : drop start octets ≡ rest = drop_at (cells o f ++ sources) rest start far in
    let length_at : drop (start + 2) octets ≡ drop 2 rest = sym (drop-drop 2 start octets) ∙ ap (drop 2) begins in
    let size : big_number 2 (drop 2 rest) ≡ m = omega arith in
    let ends : extension_end octets ≡ start + (4 + 4 * m) = omega (arith, ap (big_number 2) length_at) in
    let behind_it : drop (start + (4 + 4 * m)) octets ≡ behind =
    sym (drop-drop (4 + 4 * m) start octets) ∙ ap (drop (4 + 4 * m)) begins ∙ drop_at (extension_octets (Some e)) behind (4 + 4 * m) (omega arith) in
    let head : nat_lt (length octets) (start + 4) ≡ false = grind (arith, nat_tests) in
    let tail : nat_lt (length octets) (extension_end octets) ≡ false = grind (arith, nat_tests) in
    (omega arith, rw (has, head, tail) refl, rw has (ap (λ k. drop k octets) ends ∙ behind_it))

-- the padding is what it should be, and the payload stands before it
padding_passes : (payload padding : List ℕ) → IsPadding padding → let behind = payload ++ padding in
    (is_bad_padding (is_not_empty padding) behind ≡ false) × (unpadded (is_not_empty padding) behind ≡ payload)
padding_passes payload [] h = (refl, append-nil payload)
padding_passes payload (x ∷ xs) h =
    let padding = x ∷ xs in
    let behind = payload ++ padding in
    let last : last_octet behind ≡ length padding =
    ap (slice_index behind) (omega (arith, length-append payload padding))
    ∙ get_or-append_right payload padding (length payload) (length payload + length xs) 0 refl (omega arith)
    ∙ ap (slice_index padding) (omega arith) ∙ h in
    let some : (last_octet behind == 0) ≡ false = grind (arith, nat_tests) in
    let fits : nat_lt (length behind) (last_octet behind) ≡ false = grind (arith, nat_tests, length-append payload padding) in
    let front : length behind - last_octet behind ≡ length payload = omega (arith, length-append payload padding) in
    (rw (some, fits) refl, ap (λ k. take k behind) front ∙ take-append_seam payload padding)

-- the bits of a second octet
second_bits : (marker : Bool) (kind : ℕ) → kind < 2 ^ 7 → let o = flag marker 128 + kind in ((o / 128 == 1) ≡ marker) × (o % 128 ≡ kind)
second_bits true kind h = (eq-eqb _ _ (omega arith), omega arith)
second_bits false kind h = (grind (arith, nat_tests), omega arith)

-- fields are the same where each of them is
same_fields : (f : Fields) (marker : Bool) (kind seq stamp ssrc : ℕ) → marker ≡ f.marker → kind ≡ f.kind → seq ≡ f.seq → stamp ≡ f.stamp → ssrc ≡ f.ssrc
    → f ≡ record { marker = marker; kind = kind; seq = seq; stamp = stamp; ssrc = ssrc; payload = f.payload }
same_fields f marker kind seq stamp ssrc a b c d e = rw (a, b, c, d, e) refl

-- the octets of a packet are read as its fields
pub reads_octets_of : (p : Parts) → IsPacket p → packet_of (octets_of p) ≡ Ok p.fields
unfolding fields_of
reads_octets_of p h =
    let f = p.fields in
    let n = h.sources.0 in
    let o = first_octet p in
    let behind = f.payload ++ p.padding in
    let count : length p.sources / 4 ≡ n = omega (arith, h.sources.2) in
    let bits = subst (λ k. let b = 2 * 64 + flag (is_not_empty p.padding) 32 + flag (is_there p.extension) 16 + k in
    (b / 64 ≡ 2) × ((b / 32 % 2 == 1) ≡ is_not_empty p.padding) × ((b / 16 % 2 == 1) ≡ is_there p.extension) × (b % 16 ≡ n)) (sym count)
    (first_bits (is_not_empty p.padding) (is_there p.extension) n h.sources.1) in
    let headers : PassesHeaders (octets_of p) behind = headers_pass o n f p.sources p.extension behind bits.3 bits.2 h.sources.2 h.extension in
    let inside = padding_passes f.payload p.padding h.padding in
    let octets = octets_of p in
    let sources : nat_lt (length octets) (sources_end octets) ≡ false = grind (arith, nat_tests, headers.0) in
    let padding : is_bad_padding (has_padding octets) behind ≡ false = rw bits.1 inside.0 in
    let content : unpadded (has_padding octets) behind ≡ f.payload = rw bits.1 inside.1 in
    let second = second_bits f.marker f.kind h.fields.kind in
    read_whole octets behind f.payload f (grind (arith, nat_tests)) (eq-eqb _ _ bits.0) sources headers.1 (sym headers.2) padding (sym content)
    (same_fields f _ _ _ _ _ second.0 second.1 (omega (arith, h.fields.seq)) (omega (arith, h.fields.stamp)) (omega (arith, h.fields.ssrc)))
