-- The packets of a picture: their lengths, their marker bits, and the bits of their payloads.
use Rattle.std.proofs.Common.{◌≡◌, ℕ, zero, suc, ◌+◌, ◌-◌, ◌*◌, ◌%◌, ◌<◌, ◌≤◌, ◌==◌, Bool, true, false, List, [], ◌∷◌, ◌++◌, length, take, drop, map, replicate, refl, ◌∙◌, ap, ap₂, arith, length-append, length-take-le}
use Rattle.std.proofs.lemmas.Bool.{leb-true}
use Rattle.std.proofs.lemmas.Bool.Decides.{nat_tests}
use Rattle.std.proofs.lemmas.List.{length-drop, length-replicate}
use Rattle.std.proofs.lemmas.List.Elements.{All-cons, All-nil, All-contains}
use Rattle.std.specs.Prelude.{All}
use Rattle.cif_pack.specs.declared.atoms.AtomEnd.{AtomEnd}
use Rattle.cif_pack.specs.declared.atoms.Context.{Context}
use Rattle.cif_pack.specs.declared.packer.Settings.{Settings}
use Rattle.cif_pack.specs.Atoms.{atom_ends}
use Rattle.cif_pack.specs.Cuts.{octets_between, AreCuts, cuts}
use Rattle.cif_pack.specs.Packets.{packet_between, packets_to, packets, stamp_at, sequence_after}
use Rattle.cif_pack.specs.Payload.{bits_packed, payload_header, payload_between, sbit_of, ebit_of, no_context}
use Rattle.cif_pack.proofs.AtomsRise.{atoms-rise}
use Rattle.cif_pack.proofs.CutLaws.{within, cuts-are-furthest}
use Rattle.cif_pack.proofs.Frames.{length-packed, length-part-octets, header-and-payload}
use Rattle.h261_pic.proofs.Texts.{length-text}
use Rattle.pel_bits.specs.Bits.{bits, field}
use Rattle.pel_bits.specs.Reading.{zeros}
use Rattle.pel_bits.proofs.Fields.{field-number}
use Rattle.pel_bits.proofs.OctetBits.{bits-append}
use Rattle.pel_model.specs.declared.Format.TheVariants.{Cif}
use Rattle.pel_model.specs.Records.{Picture}
use Rattle.pel_model.specs.Text.{text}
use Rattle.pel_model.specs.Valid.{IsValid}
use Rattle.rtp_wire.specs.Rtp.{Fields, octets_of, plain, fields_of}

length-header : (s e : ℕ) (c : Context) → length (payload_header s e false true c) ≡ 32
unfolding field
length-header s e c = refl

-- ---- lengths

length-plain : (f : Fields) (octets : List ℕ) → length (octets_of (plain (record f { payload = octets }))) ≡ 12 + length octets
length-plain f octets =
    ap length (header-and-payload f octets) ∙ length-append (octets_of (plain (record f { payload = [] }))) octets

pub length-payload : (text : List Bool) (from to : ℕ) (c : Context) → from < to → to ≤ length text → length (payload_between text from to c) ≡ 4 + octets_between from to
length-payload text from to c some inside =
    let head = bits_packed (payload_header (sbit_of from) (ebit_of to) false true c) in
    let part = bits_packed (zeros (sbit_of from) ++ (take (to - from) (drop from text) ++ zeros (ebit_of to))) in
    omega (arith, length-append head part, length-packed 4 (payload_header (sbit_of from) (ebit_of to) false true c) (length-header (sbit_of from) (ebit_of to) c), length-part-octets text from to some inside)

pub length-packet : (s : Settings) (stamp before : ℕ) (text : List Bool) (from to : ℕ) (c : Context) → from < to → to ≤ length text
    → length (packet_between s stamp before text from to c) ≡ octets_between from to + 16
length-packet s stamp before text from to c some inside =
    let f : Fields = record { marker = to == length text; kind = 31; seq = sequence_after s before; stamp = stamp; ssrc = s.ssrc; payload = [] } in
    omega (arith, length-plain f (payload_between text from to c), length-payload text from to c some inside)

fit-by : (s : Settings) (stamp before from : ℕ) (text : List Bool) (c : Context) (ends cs : List AtomEnd) → 16 ≤ s.mtu → All (λ (e : AtomEnd). e.at ≤ length text) ends
    → AreCuts s.mtu ends (length text) from cs → All (λ (p : List ℕ). length p ≤ s.mtu) (packets_to s stamp before text from c cs)
fit-by s stamp before from text c ends [] room inside cut = All-nil (λ (p : List ℕ). length p ≤ s.mtu)
fit-by s stamp before from text c ends (e ∷ cs) room inside cut =
    let h = All-contains (λ (x : AtomEnd). x.at ≤ length text) ends e inside cut.0.there in
    let fit = leb-true (octets_between from e.at) (s.mtu - 16) cut.0.within in
    All-cons (λ (p : List ℕ). length p ≤ s.mtu) (packet_between s stamp before text from e.at c) (packets_to s stamp (suc before) text e.at e.context cs)
    (omega (arith, room, fit, length-packet s stamp before text from e.at c cut.0.behind h))
    (fit-by s stamp (suc before) e.at text e.context ends cs room inside cut.1)

pub packets-fit : (s : Settings) (total before : ℕ) (p : Picture) → 1000 ≤ s.mtu → IsValid Cif p → All (λ (packet : List ℕ). length packet ≤ s.mtu) (packets s total before p)
packets-fit s total before p least valid =
    fit-by s (stamp_at s total) before 0 (text Cif p) no_context (atom_ends p) (cuts s.mtu 0 (atom_ends p)) (omega (arith, least))
    (within s.mtu (length (text Cif p)) 0 (atom_ends p) (atoms-rise s.mtu p least valid)) (cuts-are-furthest s.mtu p least valid)

-- ---- marker bits

abbrev marker_of : List ℕ → Bool
marker_of octets = (fields_of octets).marker

marker-plain : (b : Bool) (f : Fields) → marker_of (octets_of (plain (record f { marker = b; kind = 31 }))) ≡ b
unfolding fields_of
marker-plain true f = refl
marker-plain false f = refl

marker-packet : (s : Settings) (stamp before : ℕ) (text : List Bool) (from to : ℕ) (c : Context) → marker_of (packet_between s stamp before text from to c) ≡ (to == length text)
marker-packet s stamp before text from to c =
    marker-plain (to == length text) (record { marker = false; kind = 31; seq = sequence_after s before; stamp = stamp; ssrc = s.ssrc; payload = payload_between text from to c })

is-end : (m n : ℕ) → m ≡ n → (m == n) ≡ true
is-end m n h = grind (arith, nat_tests)

no-end : (m n : ℕ) → m < n → (m == n) ≡ false
no-end m n h = grind (arith, nat_tests)

markers-by : (s : Settings) (stamp before from : ℕ) (text : List Bool) (c : Context) (ends : List AtomEnd) (e : AtomEnd) (cs : List AtomEnd) → All (λ (e : AtomEnd). e.at ≤ length text) ends
    → AreCuts s.mtu ends (length text) from (e ∷ cs)
    → map marker_of (packets_to s stamp before text from c (e ∷ cs)) ≡ replicate (length (packets_to s stamp before text from c (e ∷ cs)) - 1) false ++ true ∷ []
markers-by s stamp before from text c ends e [] inside cut =
    ap (λ (b : Bool). b ∷ []) (marker-packet s stamp before text from e.at c ∙ is-end e.at (length text) cut.1)
markers-by s stamp before from text c ends e (f ∷ cs) inside cut =
    let h = All-contains (λ (x : AtomEnd). x.at ≤ length text) ends f inside cut.1.0.there in
    let n = length (packets_to s stamp (suc before) text e.at e.context (f ∷ cs)) in
    ap₂ (λ (b : Bool) (bs : List Bool). b ∷ bs) (marker-packet s stamp before text from e.at c ∙ no-end e.at (length text) (omega (arith, h, cut.1.0.behind)))
    (markers-by s stamp (suc before) e.at text e.context ends f cs inside cut.1)
    ∙ ap (λ (k : ℕ). replicate k false ++ true ∷ []) (one-less (length (packets_to s stamp (suc (suc before)) text f.at f.context cs)))
  where
    one-less : (k : ℕ) → suc (suc k - 1) ≡ suc (suc k) - 1
    one-less k = omega arith

text-some : (p : Picture) → 0 < length (text Cif p)
text-some p = omega (arith, length-text Cif p)

some-cut : (s : Settings) (stamp before : ℕ) (text : List Bool) (c : Context) (ends cs : List AtomEnd) → 0 < length text → All (λ (e : AtomEnd). e.at ≤ length text) ends
    → AreCuts s.mtu ends (length text) 0 cs
    → map marker_of (packets_to s stamp before text 0 c cs) ≡ replicate (length (packets_to s stamp before text 0 c cs) - 1) false ++ true ∷ []
some-cut s stamp before text c ends [] some inside cut = absurd (omega (arith, some, cut))
some-cut s stamp before text c ends (e ∷ cs) some inside cut = markers-by s stamp before 0 text c ends e cs inside cut

pub marker-on-the-last : (s : Settings) (total before : ℕ) (p : Picture) → 1000 ≤ s.mtu → IsValid Cif p
    → map marker_of (packets s total before p) ≡ replicate (length (packets s total before p) - 1) false ++ true ∷ []
marker-on-the-last s total before p least valid =
    some-cut s (stamp_at s total) before (text Cif p) no_context (atom_ends p) (cuts s.mtu 0 (atom_ends p)) (text-some p)
    (within s.mtu (length (text Cif p)) 0 (atom_ends p) (atoms-rise s.mtu p least valid)) (cuts-are-furthest s.mtu p least valid)

-- ---- bits

pub bits-packed : (n : ℕ) (bs : List Bool) → length bs ≡ 8 * n → bits (bits_packed bs) ≡ bs
unfolding bits_packed
bits-packed zero [] is = refl
bits-packed (suc n) (a ∷ b ∷ c ∷ d ∷ e ∷ f ∷ g ∷ h ∷ bs) is =
    ap₂ (λ (xs ys : List Bool). xs ++ ys) (field-number (a ∷ b ∷ c ∷ d ∷ e ∷ f ∷ g ∷ h ∷ [])) (bits-packed n bs (omega (arith, is)))
bits-packed zero (a ∷ bs) is = absurd (omega (arith, is))
bits-packed (suc n) [] is = absurd (omega (arith, is))
bits-packed (suc n) (a ∷ []) is = absurd (omega (arith, is))
bits-packed (suc n) (a ∷ b ∷ []) is = absurd (omega (arith, is))
bits-packed (suc n) (a ∷ b ∷ c ∷ []) is = absurd (omega (arith, is))
bits-packed (suc n) (a ∷ b ∷ c ∷ d ∷ []) is = absurd (omega (arith, is))
bits-packed (suc n) (a ∷ b ∷ c ∷ d ∷ e ∷ []) is = absurd (omega (arith, is))
bits-packed (suc n) (a ∷ b ∷ c ∷ d ∷ e ∷ f ∷ []) is = absurd (omega (arith, is))
bits-packed (suc n) (a ∷ b ∷ c ∷ d ∷ e ∷ f ∷ g ∷ []) is = absurd (omega (arith, is))

pub bits-of-payload : (text : List Bool) (from to : ℕ) (c : Context) → from < to → to ≤ length text
    → bits (payload_between text from to c) ≡ payload_header (sbit_of from) (ebit_of to) false true c ++ (zeros (sbit_of from) ++ (take (to - from) (drop from text) ++ zeros (ebit_of to)))
bits-of-payload text from to c some inside =
    let head = payload_header (sbit_of from) (ebit_of to) false true c in
    let bs = take (to - from) (drop from text) in
    let part = zeros (sbit_of from) ++ (bs ++ zeros (ebit_of to)) in
    let long : length bs ≡ to - from = length-take-le (to - from) (drop from text) (omega (arith, inside, length-drop from text)) in
    bits-append (bits_packed head) (bits_packed part)
    ∙ ap₂ (λ (xs ys : List Bool). xs ++ ys) (bits-packed 4 head (length-header (sbit_of from) (ebit_of to) c))
    (bits-packed (octets_between from to) part
    (omega (arith, some, long, length-append (zeros (from % 8)) (bs ++ zeros ((8 - to % 8) % 8)), length-append bs (zeros ((8 - to % 8) % 8)), length-replicate (from % 8) false, length-replicate ((8 - to % 8) % 8) false)))
