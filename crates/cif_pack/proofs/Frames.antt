-- A packet in its frame, piece by piece.
use Rattle.std.proofs.Common.{◌≡◌, ℕ, zero, suc, ◌+◌, ◌-◌, ◌*◌, ◌%◌, ◌<◌, ◌≤◌, ◌==◌, Bool, false, true, List, [], ◌∷◌, ◌++◌, length, take, drop, refl, sym, ◌∙◌, ap, ap₂, arith, append_assoc, append-nil, length-append, length-take-le}
use Rattle.std.proofs.lemmas.List.{length-drop, length-replicate, take-append-le, take-append-drop, drop-append-le}
use Rattle.byteorder.specs.Endian.{big_bytes}
use Rattle.pel_bits.specs.Bits.{bits, field}
use Rattle.pel_bits.specs.Reading.{zeros}
use Rattle.pel_bits.proofs.OctetBits.{length-bits}
use Rattle.rtp_wire.specs.Frames.{frame}
use Rattle.rtp_wire.specs.Rtp.{Fields, octets_of, plain}
use Rattle.cif_pack.specs.declared.atoms.Context.{Context}
use Rattle.cif_pack.specs.declared.packer.Settings.{Settings}
use Rattle.cif_pack.specs.Cuts.{octets_between}
use Rattle.cif_pack.specs.Packets.{packet_between, sequence_after}
use Rattle.cif_pack.specs.Payload.{bits_packed, payload_header, payload_between, sbit_of, ebit_of}
use Rattle.cif_pack.proofs.Octets.{packed-word}

-- a part of bits before a place is that of the bits up to it
pub part-before : (bs : List Bool) (len from to : ℕ) → from ≤ to → to ≤ len → len ≤ length bs → take (to - from) (drop from (take len bs)) ≡ take (to - from) (drop from bs)
part-before bs len from to up within inside =
    let front = take len bs in
    let long : length front ≡ len = length-take-le len bs inside in
    sym (ap (λ t. take (to - from) (drop from t)) (sym (take-append-drop len bs))
    ∙ ap (take (to - from)) (drop-append-le from front (drop len bs) (omega (arith, long, up, within)))
    ∙ take-append-le (to - from) (drop from front) (drop len bs) (omega (arith, long, up, within, length-drop from front)))

pub length-packed : (n : ℕ) (bs : List Bool) → length bs ≡ 8 * n → length (bits_packed bs) ≡ n
unfolding bits_packed
length-packed zero [] is = refl
length-packed (suc n) (a ∷ b ∷ c ∷ d ∷ e ∷ f ∷ g ∷ h ∷ bs) is = ap suc (length-packed n bs (omega (arith, is)))
length-packed zero (a ∷ bs) is = absurd (omega (arith, is))
length-packed (suc n) [] is = absurd (omega (arith, is))
length-packed (suc n) (a ∷ []) is = absurd (omega (arith, is))
length-packed (suc n) (a ∷ b ∷ []) is = absurd (omega (arith, is))
length-packed (suc n) (a ∷ b ∷ c ∷ []) is = absurd (omega (arith, is))
length-packed (suc n) (a ∷ b ∷ c ∷ d ∷ []) is = absurd (omega (arith, is))
length-packed (suc n) (a ∷ b ∷ c ∷ d ∷ e ∷ []) is = absurd (omega (arith, is))
length-packed (suc n) (a ∷ b ∷ c ∷ d ∷ e ∷ f ∷ []) is = absurd (omega (arith, is))
length-packed (suc n) (a ∷ b ∷ c ∷ d ∷ e ∷ f ∷ g ∷ []) is = absurd (omega (arith, is))

-- how many octets a part of a text stands in
pub length-part-octets : (text : List Bool) (from to : ℕ) → from < to → to ≤ length text
    → length (bits_packed (zeros (from % 8) ++ (take (to - from) (drop from text) ++ zeros ((8 - to % 8) % 8)))) ≡ octets_between from to
length-part-octets text from to some within =
    let s = from % 8 in
    let e = (8 - to % 8) % 8 in
    let part = take (to - from) (drop from text) in
    let long : length part ≡ to - from = length-take-le (to - from) (drop from text) (omega (arith, within, length-drop from text)) in
    length-packed (octets_between from to) (zeros s ++ (part ++ zeros e))
    (omega (arith, some, long, length-append (zeros s) (part ++ zeros e), length-append part (zeros e), length-replicate s false, length-replicate e false))

pub header-and-payload : (f : Fields) (octets : List ℕ) → octets_of (plain (record f { payload = octets })) ≡ octets_of (plain (record f { payload = [] })) ++ octets
header-and-payload f octets = ap (λ (t : List ℕ). octets_of (plain (record f { payload = [] })) ++ t) (append-nil octets)

-- the pieces of a framed packet: its length, its fixed header, its payload header, and the octets of its part
pub frame-pieces : (f : Fields) (word n : ℕ) (from to : ℕ) (context : Context) (part : List ℕ)
    → field word 32 ≡ payload_header (sbit_of from) (ebit_of to) false true context → n ≡ 16 + length part
    → big_bytes 2 n ++ (octets_of (plain (record f { payload = [] })) ++ (big_bytes 4 word ++ part))
    ≡ frame (octets_of (plain (record f { payload = bits_packed (payload_header (sbit_of from) (ebit_of to) false true context) ++ part })))
frame-pieces f word n from to context part word_is n_is =
    let fixed = octets_of (plain (record f { payload = [] })) in
    let head : big_bytes 4 word ≡ bits_packed (payload_header (sbit_of from) (ebit_of to) false true context) = sym (packed-word word) ∙ ap bits_packed word_is in
    let whole : fixed ++ (big_bytes 4 word ++ part) ≡ octets_of (plain (record f { payload = bits_packed (payload_header (sbit_of from) (ebit_of to) false true context) ++ part })) =
    ap (λ (t : List ℕ). fixed ++ (t ++ part)) head ∙ sym (header-and-payload f (bits_packed (payload_header (sbit_of from) (ebit_of to) false true context) ++ part)) in
    let long : length (fixed ++ (big_bytes 4 word ++ part)) ≡ n =
    omega (arith, n_is, length-append fixed (big_bytes 4 word ++ part), length-append (big_bytes 4 word) part) in
    ap (λ (k : ℕ). big_bytes 2 k ++ (fixed ++ (big_bytes 4 word ++ part))) (sym long) ∙ ap frame whole

abbrev header_fields : Settings → (marker : Bool) (stamp : ℕ) → Fields
header_fields s marker stamp = record { marker = marker; kind = 31; seq = s.seq; stamp = stamp; ssrc = s.ssrc; payload = [] }

-- the octets in which a part of bits stands
abbrev pub part_octets : List Bool → (from to : ℕ) → List ℕ
part_octets bs from to = bits_packed (zeros (sbit_of from) ++ (take (to - from) (drop from bs) ++ zeros (ebit_of to)))

-- a buffer to which these pieces were added one by one
pub record IsBuilt (s : Settings) (stamp len from to n word : ℕ) (context : Context) (octets : List ℕ) (empty one two three four : List ℕ) : Type 0 where
  pub empty_is : empty ≡ []
  pub n_is : n ≡ octets_between from to + 16
  pub one_is : one ≡ empty ++ big_bytes 2 n
  pub two_is : two ≡ one ++ octets_of (plain (header_fields s (to == len) stamp))
  pub word_is : field word 32 ≡ payload_header (sbit_of from) (ebit_of to) false true context
  pub three_is : three ≡ two ++ big_bytes 4 word
  pub four_is : four ≡ three ++ part_octets (bits octets) from to

built-pieces : (a b c d : List ℕ) (empty one two three four : List ℕ) → empty ≡ [] → one ≡ empty ++ a → two ≡ one ++ b → three ≡ two ++ c → four ≡ three ++ d
    → four ≡ a ++ (b ++ (c ++ d))
built-pieces a b c d empty one two three four e0 e1 e2 e3 e4 =
    let first : one ≡ a = e1 ∙ ap (λ t. t ++ a) e0 in
    let third : three ≡ a ++ (b ++ c) = e3 ∙ ap (λ t. t ++ c) (e2 ∙ ap (λ t. t ++ b) first) ∙ append_assoc a b c in
    e4 ∙ ap (λ t. t ++ d) third ∙ append_assoc a (b ++ c) d ∙ ap (λ t. a ++ t) (append_assoc b c d)

pub length-built : (s : Settings) (stamp len from to n word : ℕ) (context : Context) (octets : List ℕ) (empty one two three four : List ℕ)
    → from < to → to ≤ len → len ≤ 8 * length octets
    → IsBuilt s stamp len from to n word context octets empty one two three four → length four ≡ octets_between from to + 18
length-built s stamp len from to n word context octets empty one two three four some within inside b =
    let fixed = octets_of (plain (header_fields s (to == len) stamp)) in
    let part = part_octets (bits octets) from to in
    let long : length part ≡ octets_between from to = length-part-octets (bits octets) from to some (omega (arith, within, inside, length-bits octets)) in
    let all = built-pieces (big_bytes 2 n) fixed (big_bytes 4 word) part empty one two three four b.empty_is b.one_is b.two_is b.three_is b.four_is in
    omega (arith, ap length all, long, length-append (big_bytes 2 n) (fixed ++ (big_bytes 4 word ++ part)), length-append fixed (big_bytes 4 word ++ part), length-append (big_bytes 4 word) part)

pub frame-built : (s : Settings) (stamp len from to n word : ℕ) (context : Context) (octets : List ℕ) (empty one two three four : List ℕ)
    → from < to → to ≤ len → len ≤ 8 * length octets → s.seq < 65536
    → IsBuilt s stamp len from to n word context octets empty one two three four → four ≡ frame (packet_between s stamp 0 (take len (bits octets)) from to context)
frame-built s stamp len from to n word context octets empty one two three four some within inside small b =
    let fixed = octets_of (plain (header_fields s (to == len) stamp)) in
    let part = part_octets (bits octets) from to in
    let text = take len (bits octets) in
    let full : len ≤ length (bits octets) = omega (arith, inside, length-bits octets) in
    let text_long : length text ≡ len = length-take-le len (bits octets) full in
    let long : length part ≡ octets_between from to = length-part-octets (bits octets) from to some (omega (arith, within, full)) in
    let same : part ≡ part_octets text from to =
    ap (λ t. bits_packed (zeros (sbit_of from) ++ (t ++ zeros (ebit_of to)))) (sym (part-before (bits octets) len from to (omega (arith, some)) within full)) in
    let all = built-pieces (big_bytes 2 n) fixed (big_bytes 4 word) part empty one two three four b.empty_is b.one_is b.two_is b.three_is b.four_is in
    let framed = frame-pieces (header_fields s (to == len) stamp) word n from to context part b.word_is (omega (arith, b.n_is, long)) in
    let number : s.seq ≡ sequence_after s 0 = omega (arith, small) in
    all ∙ framed
    ∙ ap₂ (λ (k : ℕ) (p : List ℕ). frame (octets_of (plain (record {
      marker = to == k;
      kind = 31;
      seq = s.seq;
      stamp = stamp;
      ssrc = s.ssrc;
      payload = bits_packed (payload_header (sbit_of from) (ebit_of to) false true context) ++ p;
    })))) (sym text_long) same
    ∙ ap (λ (k : ℕ). frame (octets_of (plain (record {
      marker = to == length text;
      kind = 31;
      seq = k;
      stamp = stamp;
      ssrc = s.ssrc;
      payload = payload_between text from to context;
    })))) number
