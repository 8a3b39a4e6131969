-- The stream of pictures is read as these pictures.
use Rattle.std.proofs.Common.{◌≡◌, ℕ, ◌+◌, ◌-◌, ◌*◌, ◌/◌, ◌<◌, Bool, true, false, List, [], ◌∷◌, ◌++◌, length, take, drop, map, replicate, refl, sym, ◌∙◌, ap, ap₂, subst, arith, append_assoc, append-nil, length-append}
use Rattle.std.specs.List.{AllByRecursion}
use Rattle.std.proofs.Math.Seq.{take-append_seam}
use Rattle.std.proofs.lemmas.List.{length-replicate, drop_at}
use Rattle.bare_stream.specs.Packed.{octets_spelled, left_over}
use Rattle.bare_stream.specs.Streams.{EndsAtStart, IsCutInto, AtEnd, StreamEndsWith, IsBareStream, IsSendable, texts, LawOfBareReadBack}
use Rattle.pel_bits.specs.Buffer.{filled_up}
use Rattle.pel_bits.specs.Bits.{bits}
use Rattle.pel_bits.specs.Reading.{zeros}
use Rattle.pel_bits.proofs.Fields.{field-number}
use Rattle.pel_model.specs.declared.Format.{Format}
use Rattle.pel_model.specs.Accepts.{Accepts, left_out}
use Rattle.pel_model.specs.Codes.{picture_start_code, is_prefix}
use Rattle.pel_model.specs.Headers.{picture_header_text}
use Rattle.pel_model.specs.Records.{Picture, Group}
use Rattle.pel_model.specs.Spelling.{strict_form, strict_group}
use Rattle.pel_model.specs.Text.{text}
use Rattle.picture_laws.proofs.Strict.{strict-spelling, text_strict}
use Rattle.bare_stream.proofs.Nexts.{none-in-whole, is-next}
use Rattle.bare_stream.proofs.PackedLemmas.{spelled-length, left-short}

-- ---- octets and bits

-- whole octets are spelled by the bits that they spell
bits-spelled : (bs : List Bool) → length (left_over bs) ≡ 0 → bits (octets_spelled bs) ≡ bs
unfolding octets_spelled left_over
bits-spelled [] none = refl
bits-spelled (a ∷ []) none = absurd (omega (arith, none))
bits-spelled (a ∷ b ∷ []) none = absurd (omega (arith, none))
bits-spelled (a ∷ b ∷ c ∷ []) none = absurd (omega (arith, none))
bits-spelled (a ∷ b ∷ c ∷ d ∷ []) none = absurd (omega (arith, none))
bits-spelled (a ∷ b ∷ c ∷ d ∷ e ∷ []) none = absurd (omega (arith, none))
bits-spelled (a ∷ b ∷ c ∷ d ∷ e ∷ f ∷ []) none = absurd (omega (arith, none))
bits-spelled (a ∷ b ∷ c ∷ d ∷ e ∷ f ∷ g ∷ []) none = absurd (omega (arith, none))
bits-spelled (a ∷ b ∷ c ∷ d ∷ e ∷ f ∷ g ∷ h ∷ bs) none =
    ap₂ (λ (xs ys : List Bool). xs ++ ys) (field-number (a ∷ b ∷ c ∷ d ∷ e ∷ f ∷ g ∷ h ∷ [])) (bits-spelled bs none)

-- the zeros that fill bits up
abbrev filling : List Bool → ℕ
filling bs = 8 * ((length bs + 7) / 8) - length bs

filled-bits : (bs : List Bool) → bits (octets_spelled (filled_up bs)) ≡ bs ++ replicate (filling bs) false
filled-bits bs =
    bits-spelled (filled_up bs) (omega (arith, spelled-length (filled_up bs), length-append bs (zeros (filling bs)), length-replicate (filling bs) false, left-short (filled_up bs)))

-- ---- a picture and zeros

none-left-out : (gs : List Group) → left_out (map (λ (g : Group). strict_group) gs) ≡ 0
none-left-out [] = refl
none-left-out (g ∷ gs) = none-left-out gs

spaced : (format : Format) (p : Picture) (z : ℕ) → IsSendable format p → z < 8 → Accepts format (text format p ++ replicate z false) p
spaced format p z can few = (
  record (strict_form p) { zeros = z },
  record {
    spelling = record {
      fits = (strict-spelling format p).fits;
      zeros = few;
      text = ap (λ (t : List Bool). t ++ replicate z false) (sym (text_strict format p));
    };
    valid = can.valid;
    short = omega (arith, can.short, none-left-out p.groups, ap length (text_strict format p));
  },
)

accepted-text : (format : Format) (p : Picture) → IsSendable format p → Accepts format (text format p) p
accepted-text format p can = subst (λ (t : List Bool). Accepts format t p) (append-nil (text format p)) (spaced format p 0 can (omega arith))

starts-text : (format : Format) (p : Picture) (more : List Bool) → is_prefix picture_start_code (text format p ++ more) ≡ true
unfolding picture_header_text
starts-text format p more = ap (λ (t : List Bool). is_prefix picture_start_code (t ++ more)) (sym (text_strict format p)) ∙ refl

-- ---- pictures

ends-anywhere : (format : Format) (at other : ℕ) (rest : List Bool) (last : List Picture) → StreamEndsWith format at rest last AtEnd → StreamEndsWith format other rest last AtEnd
ends-anywhere format at other rest [] h = h
ends-anywhere format at other rest (p ∷ []) h = h
ends-anywhere format at other rest (p ∷ q ∷ ps) h = h

one-more : (format : Format) (p : Picture) (ps : List Picture) (behind : List Bool) → IsSendable format p → is_prefix picture_start_code behind ≡ true → 0 < length (text format p)
    → IsBareStream format behind ps AtEnd → IsBareStream format (text format p ++ behind) (p ∷ ps) AtEnd
one-more format p ps behind can starts some stream =
    let e = length (text format p) in
    let front : take e (text format p ++ behind) ≡ text format p = take-append_seam (text format p) behind in
    let back : drop e (text format p ++ behind) ≡ behind = drop_at (text format p) behind e refl in
    let accepted : Accepts format (take e (text format p ++ behind)) p = subst (λ (t : List Bool). Accepts format t p) (sym front) (accepted-text format p can) in
    let here : EndsAtStart format (text format p ++ behind) e = record {
      above = some;
      starts = subst (λ (t : List Bool). is_prefix picture_start_code t ≡ true) (sym back) starts;
      picture = p;
      accepted = accepted;
    } in
    record {
      former = p ∷ stream.former;
      last = stream.last;
      rest = stream.rest;
      order = ap (λ (qs : List Picture). p ∷ qs) stream.order;
      cuts = (e, is-next format (text format p ++ behind) e here, accepted, subst (λ (t : List Bool). IsCutInto format t stream.former stream.rest) (sym back) stream.cuts);
      ends = ends-anywhere format (length behind - length stream.rest) (length (text format p ++ behind) - length stream.rest) stream.rest stream.last stream.ends;
    }

text-some : (format : Format) (p : Picture) → 0 < length (text format p)
text-some format p = some (text format p) (starts-text format p [])
  where
    some : (t : List Bool) → is_prefix picture_start_code (t ++ []) ≡ true → 0 < length t
    some [] h = absurd cc
    some (b ∷ t) h = omega arith

stream-of : (format : Format) (ps : List Picture) (z : ℕ) → z < 8 → AllByRecursion (IsSendable format) ps → ((ps ≡ []) → z ≡ 0)
    → IsBareStream format (texts format ps ++ replicate z false) ps AtEnd
stream-of format [] z few can none = record {
  former = [];
  last = [];
  rest = replicate z false;
  order = refl;
  cuts = refl;
  ends = ap (λ (k : ℕ). replicate k false) (none refl);
}
stream-of format (p ∷ []) z few can none =
    let is : (text format p ++ []) ++ replicate z false ≡ text format p ++ replicate z false = ap (λ (t : List Bool). t ++ replicate z false) (append-nil (text format p)) in
    let accepted = spaced format p z can.0 few in
    subst (λ (t : List Bool). IsBareStream format t (p ∷ []) AtEnd) (sym is) (record {
      former = [];
      last = p ∷ [];
      rest = text format p ++ replicate z false;
      order = refl;
      cuts = refl;
      ends = (none-in-whole format (text format p ++ replicate z false) p accepted, accepted);
    })
stream-of format (p ∷ q ∷ ps) z few can none =
    let behind = texts format (q ∷ ps) ++ replicate z false in
    let starts : is_prefix picture_start_code behind ≡ true =
    ap (is_prefix picture_start_code) (append_assoc (text format q) (texts format ps) (replicate z false)) ∙ starts-text format q (texts format ps ++ replicate z false) in
    subst (λ (t : List Bool). IsBareStream format t (p ∷ q ∷ ps) AtEnd) (sym (append_assoc (text format p) (texts format (q ∷ ps)) (replicate z false)))
    (one-more format p (q ∷ ps) behind can.0 starts (text-some format p) (stream-of format (q ∷ ps) z few can.1 (λ h. absurd cc)))

pub bare-read-back : LawOfBareReadBack
bare-read-back format ps can =
    let bs = texts format ps in
    subst (λ (t : List Bool). IsBareStream format t ps AtEnd) (sym (filled-bits bs))
    (stream-of format ps (filling bs) (omega arith) can (λ h. ap (λ (qs : List Picture). filling (texts format qs)) h))
