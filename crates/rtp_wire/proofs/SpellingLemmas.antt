-- Octets that are read are those of a packet with the fields that they are read as.
use Rattle.std.proofs.Common.{◌≡◌, ℕ, ◌+◌, ◌-◌, ◌*◌, ◌/◌, ◌%◌, ◌^◌, ◌<◌, ◌≤◌, ◌==◌, nat_lt, IfSome, if◌then◌else◌, suc, Bool, true, false, not, ◌&&◌, ◌||◌, List, [], ◌∷◌, ◌++◌, Option, None, Some, Ok, length, take, drop, slice_index, refl, sym, ap, ap₂, subst, ◌∙◌, arith, length-take-le, drop-drop, append-nil, get_or-drop}
use Rattle.std.proofs.lemmas.Bool.{eqb-true, ltb-false}
use Rattle.std.proofs.lemmas.Bool.Decides.{nat_tests}
use Rattle.std.proofs.lemmas.List.{take-append-drop, length-drop}
use Rattle.std.proofs.Math.Seq.{drop-append-add}
use Rattle.byteorder.specs.Endian.{big_bytes, big_number}
use Rattle.rtp_wire.specs.declared.header.PacketFault.TheVariants.{Short, Version, BadCsrc, BadExtension, BadPadding}
use Rattle.rtp_wire.specs.Rtp.{Fields, Extension, Parts, AreWholeWords, IsPadding, IsPacketOf, AreOctets, LawOfPackets, LawOfPlainPackets, flag, is_there, is_not_empty, first_octet, extension_octets, octets_of, plain, version, has_padding, has_extension, sources_end, extension_end, extension_is_cut, body, last_octet, is_bad_padding, unpadded, refusal, fields_of, read_unless, packet_of}
use Rattle.rtp_wire.proofs.PacketLemmas.{reads_octets_of}

-- an answer that is no refusal passed each test
chain : (a b c d e : Bool) (g f : Fields)
    → read_unless (if a then Some Short else if not b then Some Version else if c then Some BadCsrc else if d then Some BadExtension else if e then Some BadPadding else None) g ≡ Ok f
    → (a ≡ false) × (b ≡ true) × (c ≡ false) × (d ≡ false) × (e ≡ false) × (g ≡ f)
chain true b c d e g f h = absurd (cc)
chain false false c d e g f h = absurd (cc)
chain false true true d e g f h = absurd (cc)
chain false true false true e g f h = absurd (cc)
chain false true false false true g f h = absurd (cc)
chain false true false false false g f h = (refl, refl, refl, refl, refl, cc)

-- octets that are read passed each test
passed : (octets : List ℕ) (f : Fields) → packet_of octets ≡ Ok f
    → (nat_lt (length octets) 12 ≡ false) × ((version octets == 2) ≡ true) × (nat_lt (length octets) (sources_end octets) ≡ false) × (extension_is_cut octets ≡ false)
    × (is_bad_padding (has_padding octets) (body octets) ≡ false) × (fields_of octets ≡ f)
unfolding packet_of refusal
passed octets f h = chain _ _ _ _ _ _ _ h

-- a first octet is made of its bits
first_back : (b : ℕ) → b / 64 ≡ 2 → b ≡ 2 * 64 + flag (b / 32 % 2 == 1) 32 + flag (b / 16 % 2 == 1) 16 + b % 16
first_back b h = grind (arith, nat_tests)

-- and so is a second one
second_back : (b : ℕ) → b < 256 → b ≡ flag (b / 128 == 1) 128 + b % 128
second_back b h = grind (arith, nat_tests)

-- the extension in front of these octets, if there is one
extension_spelled : (extended : Bool) (after : List ℕ) → AreOctets after → (extended ≡ true → 4 + 4 * big_number 2 (drop 2 after) ≤ length after)
    → (e : Option Extension) × (is_there e ≡ extended) × IfSome e (λ x. (x.profile < 2 ^ 16) × AreWholeWords x.words (2 ^ 16))
    × (after ≡ extension_octets e ++ drop (if extended then 4 + 4 * big_number 2 (drop 2 after) else 0) after)
extension_spelled false after octets there = (None, refl, tt, refl)
extension_spelled true [] octets there = absurd (omega (arith, there refl))
extension_spelled true (a ∷ []) octets there = absurd (omega (arith, there refl))
extension_spelled true (a ∷ b ∷ []) octets there = absurd (omega (arith, there refl))
extension_spelled true (a ∷ b ∷ c ∷ []) octets there = absurd (omega (arith, there refl))
extension_spelled true (a ∷ b ∷ c ∷ d ∷ rest) octets there =
    let m = big_number 2 (c ∷ d ∷ rest) in
    let all = there refl in
    let long : length (take (4 * m) rest) ≡ 4 * m = length-take-le (4 * m) rest (omega arith) in
    let e : Extension = record { profile = big_number 2 (a ∷ b ∷ c ∷ d ∷ rest); words = take (4 * m) rest } in
    let behind : drop (4 + 4 * m) (a ∷ b ∷ c ∷ d ∷ rest) ≡ drop (4 * m) rest = drop-append-add (a ∷ b ∷ c ∷ d ∷ []) rest (4 * m) in
    let high : a ≡ e.profile / 256 % 256 = omega (arith, octets 0, octets 1) in
    let low : b ≡ e.profile % 256 = omega (arith, octets 0, octets 1) in
    let high' : c ≡ length e.words / 4 / 256 % 256 = omega (arith, octets 2, octets 3) in
    let low' : d ≡ length e.words / 4 % 256 = omega (arith, octets 2, octets 3) in
    let words : rest ≡ e.words ++ drop (4 + 4 * m) (a ∷ b ∷ c ∷ d ∷ rest) = sym (take-append-drop (4 * m) rest) ∙ ap (λ x. e.words ++ x) (sym behind) in (
      Some e,
      refl,
      (omega (arith, octets 0, octets 1), (m, omega (arith, octets 2, octets 3), long)),
      ap₂ ◌∷◌ high (ap₂ ◌∷◌ low (ap₂ ◌∷◌ high' (ap₂ ◌∷◌ low' words))),
    )

-- the padding behind these octets, if there is some
is_padding : (octets : List ℕ) → 0 < length octets → slice_index octets (length octets - 1) ≡ length octets → (is_not_empty octets ≡ true) × IsPadding octets
is_padding [] some h = absurd (omega arith)
is_padding (x ∷ xs) some h = (refl, ap (slice_index (x ∷ xs)) (omega arith) ∙ h)

padding_spelled : (padded : Bool) (behind : List ℕ) → is_bad_padding padded behind ≡ false
    → (padding : List ℕ) × (is_not_empty padding ≡ padded) × IsPadding padding × (behind ≡ unpadded padded behind ++ padding)
padding_spelled false behind h = ([], refl, tt, sym (append-nil behind))
padding_spelled true behind h =
    let k = last_octet behind in
    let some : 0 < k = grind (arith, nat_tests) in
    let fits : k ≤ length behind = grind (arith, nat_tests) in
    let padding = drop (length behind - k) behind in
    let long : length padding ≡ k = omega (arith, length-drop (length behind - k) behind) in
    let last : slice_index padding (length padding - 1) ≡ length padding =
    get_or-drop (length behind - k) behind (length padding - 1) 0 ∙ ap (slice_index behind) (omega arith) ∙ sym long in
    let both = is_padding padding (omega arith) last in
    (padding, both.0, both.1, sym (take-append-drop (length behind - k) behind))

-- the three numbers of the fixed header have their octets
numbers_back : (b2 b3 b4 b5 b6 b7 b8 b9 b10 b11 : ℕ) (rest tail : List ℕ)
    → AreOctets (b2 ∷ b3 ∷ b4 ∷ b5 ∷ b6 ∷ b7 ∷ b8 ∷ b9 ∷ b10 ∷ b11 ∷ rest) → rest ≡ tail → b2 ∷ b3 ∷ b4 ∷ b5 ∷ b6 ∷ b7 ∷ b8 ∷ b9 ∷ b10 ∷ b11 ∷ rest
    ≡ big_bytes 2 (big_number 2 (b2 ∷ b3 ∷ [])) ++ (big_bytes 4 (big_number 4 (b4 ∷ b5 ∷ b6 ∷ b7 ∷ [])) ++ (big_bytes 4 (big_number 4 (b8 ∷ b9 ∷ b10 ∷ b11 ∷ [])) ++ tail))
numbers_back b2 b3 b4 b5 b6 b7 b8 b9 b10 b11 rest tail small same =
    ap₂ ◌∷◌ (omega (arith, small 0, small 1))
    (ap₂ ◌∷◌ (omega (arith, small 0, small 1))
    (ap₂ ◌∷◌ (omega (arith, small 2, small 3, small 4, small 5))
    (ap₂ ◌∷◌ (omega (arith, small 2, small 3, small 4, small 5))
    (ap₂ ◌∷◌ (omega (arith, small 2, small 3, small 4, small 5))
    (ap₂ ◌∷◌ (omega (arith, small 2, small 3, small 4, small 5))
    (ap₂ ◌∷◌ (omega (arith, small 6, small 7, small 8, small 9))
    (ap₂ ◌∷◌ (omega (arith, small 6, small 7, small 8, small 9))
    (ap₂ ◌∷◌ (omega (arith, small 6, small 7, small 8, small 9))
    (ap₂ ◌∷◌ (omega (arith, small 6, small 7, small 8, small 9)) same)))))))))

-- the last of three tests failed
last_test : (a b c : Bool) → a ≡ true → (a && (b || c)) ≡ false → c ≡ false
last_test true true c h t = absurd (cc)
last_test true false c h t = t
last_test false b c h t = absurd (cc)

-- what stands behind the headers, counted from the end of the sources
body_at : (extended : Bool) (start more : ℕ) (octets after : List ℕ) → drop start octets ≡ after
    → drop (if extended then start + more else start) octets ≡ drop (if extended then more else 0) after
body_at true start more octets after h = sym (drop-drop more start octets) ∙ ap (drop more) h
body_at false start more octets after h = h

-- octets that are read, of which these are the first twelve
spelled : (b0 b1 b2 b3 b4 b5 b6 b7 b8 b9 b10 b11 : ℕ) (rest : List ℕ) (f : Fields) → let octets = b0 ∷ b1 ∷ b2 ∷ b3 ∷ b4 ∷ b5 ∷ b6 ∷ b7 ∷ b8 ∷ b9 ∷ b10 ∷ b11 ∷ rest in
    AreOctets octets → packet_of octets ≡ Ok f → IsPacketOf octets (fields_of octets)
unfolding fields_of
spelled b0 b1 b2 b3 b4 b5 b6 b7 b8 b9 b10 b11 rest f small read =
    let octets = b0 ∷ b1 ∷ b2 ∷ b3 ∷ b4 ∷ b5 ∷ b6 ∷ b7 ∷ b8 ∷ b9 ∷ b10 ∷ b11 ∷ rest in
    let fixed = b0 ∷ b1 ∷ b2 ∷ b3 ∷ b4 ∷ b5 ∷ b6 ∷ b7 ∷ b8 ∷ b9 ∷ b10 ∷ b11 ∷ [] in
    let tests = passed octets f read in
    let n = b0 % 16 in
    let m = big_number 2 (drop (12 + 4 * n + 2) octets) in
    let after = drop (4 * n) rest in
    let sources = take (4 * n) rest in
    let enough : 12 + 4 * n ≤ length octets = ltb-false _ _ tests.2 in
    let long : length sources ≡ 4 * n = length-take-le (4 * n) rest (omega arith) in
    let starts : drop (12 + 4 * n) octets ≡ after = drop-append-add fixed rest (4 * n) in
    let size_at : drop (12 + 4 * n + 2) octets ≡ drop 2 after = sym (drop-drop 2 (12 + 4 * n) octets) ∙ ap (drop 2) starts in
    let size : m ≡ big_number 2 (drop 2 after) = ap (big_number 2) size_at in
    let small_after : AreOctets after =
    λ i. subst (λ xs. slice_index xs i < 256) starts (subst (λ k. k < 256) (sym (get_or-drop (12 + 4 * n) octets i 0)) (small (12 + 4 * n + i))) in
    let whole : has_extension octets ≡ true → 4 + 4 * big_number 2 (drop 2 after) ≤ length after =
    λ has. let ends : extension_end octets ≤ length octets =
    ltb-false _ _ (last_test (has_extension octets) (nat_lt (length octets) (sources_end octets + 4)) (nat_lt (length octets) (extension_end octets)) has tests.3) in
    omega (arith, length-drop (4 * n) rest) in
    let extension = extension_spelled (has_extension octets) after small_after whole in
    let behind : body octets ≡ drop (if has_extension octets then 4 + 4 * big_number 2 (drop 2 after) else 0) after =
    ap (λ e. drop (if has_extension octets then e else 12 + 4 * n) octets) (omega arith)
    ∙ body_at (has_extension octets) (12 + 4 * n) (4 + 4 * big_number 2 (drop 2 after)) octets after starts in
    let padding = padding_spelled (has_padding octets) (body octets) tests.4 in
    let p : Parts = record { fields = fields_of octets; sources = sources; extension = extension.0; padding = padding.0 } in
    let count : length sources / 4 ≡ n = omega (arith, long) in
    let first : b0 ≡ first_octet p = rw (padding.1, extension.1, count) (first_back b0 (eqb-true _ _ tests.1)) in
    let tail : rest ≡ sources ++ (extension_octets extension.0 ++ (unpadded (has_padding octets) (body octets) ++ padding.0)) =
    sym (take-append-drop (4 * n) rest)
    ∙ ap (λ x. sources ++ x) (extension.3 ∙ ap (λ x. extension_octets extension.0 ++ x) (sym behind ∙ padding.3)) in (
      p,
      record {
        fields = record {
          kind = omega arith;
          seq = omega (arith, small 2, small 3);
          stamp = omega (arith, small 4, small 5, small 6, small 7);
          ssrc = omega (arith, small 8, small 9, small 10, small 11);
        };
        sources = (n, omega arith, long);
        extension = extension.2;
        padding = padding.2;
      },
      refl,
      ap₂ ◌∷◌ first (ap₂ ◌∷◌ (second_back b1 (small 1)) (numbers_back b2 b3 b4 b5 b6 b7 b8 b9 b10 b11 rest _ (λ i. small (suc (suc i))) tail)),
    )

-- whatever their first twelve are
read_spelled : (octets : List ℕ) (f : Fields) → 12 ≤ length octets → AreOctets octets → packet_of octets ≡ Ok f → IsPacketOf octets (fields_of octets)
read_spelled [] f long small read = absurd (omega arith)
read_spelled (b0 ∷ []) f long small read = absurd (omega arith)
read_spelled (b0 ∷ b1 ∷ []) f long small read = absurd (omega arith)
read_spelled (b0 ∷ b1 ∷ b2 ∷ []) f long small read = absurd (omega arith)
read_spelled (b0 ∷ b1 ∷ b2 ∷ b3 ∷ []) f long small read = absurd (omega arith)
read_spelled (b0 ∷ b1 ∷ b2 ∷ b3 ∷ b4 ∷ []) f long small read = absurd (omega arith)
read_spelled (b0 ∷ b1 ∷ b2 ∷ b3 ∷ b4 ∷ b5 ∷ []) f long small read = absurd (omega arith)
read_spelled (b0 ∷ b1 ∷ b2 ∷ b3 ∷ b4 ∷ b5 ∷ b6 ∷ []) f long small read = absurd (omega arith)
read_spelled (b0 ∷ b1 ∷ b2 ∷ b3 ∷ b4 ∷ b5 ∷ b6 ∷ b7 ∷ []) f long small read = absurd (omega arith)
read_spelled (b0 ∷ b1 ∷ b2 ∷ b3 ∷ b4 ∷ b5 ∷ b6 ∷ b7 ∷ b8 ∷ []) f long small read = absurd (omega arith)
read_spelled (b0 ∷ b1 ∷ b2 ∷ b3 ∷ b4 ∷ b5 ∷ b6 ∷ b7 ∷ b8 ∷ b9 ∷ []) f long small read = absurd (omega arith)
read_spelled (b0 ∷ b1 ∷ b2 ∷ b3 ∷ b4 ∷ b5 ∷ b6 ∷ b7 ∷ b8 ∷ b9 ∷ b10 ∷ []) f long small read = absurd (omega arith)
read_spelled (b0 ∷ b1 ∷ b2 ∷ b3 ∷ b4 ∷ b5 ∷ b6 ∷ b7 ∷ b8 ∷ b9 ∷ b10 ∷ b11 ∷ rest) f long small read = spelled b0 b1 b2 b3 b4 b5 b6 b7 b8 b9 b10 b11 rest f small read

pub packets_are_read : LawOfPackets
packets_are_read octets fields small = (
  λ read. subst (IsPacketOf octets) (passed octets fields read).5
      (read_spelled octets fields (ltb-false _ _ (passed octets fields read).0) small read),
  λ spelt. ap packet_of spelt.3 ∙ reads_octets_of spelt.0 spelt.1 ∙ ap (λ (f : Fields). Ok f) spelt.2,
)

pub plain_packets_are_read : LawOfPlainPackets
plain_packets_are_read f fits =
    let header = octets_of (plain (record f { payload = [] })) in
    ap (λ x. packet_of (header ++ x)) (sym (append-nil f.payload))
    ∙ reads_octets_of (plain f) (record { fields = fits; sources = (0, omega arith, refl); extension = tt; padding = tt })
