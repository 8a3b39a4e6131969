-- How bits are cut into pictures: what more bits change, and that it is done in one way.
use Rattle.std.proofs.Common.{◌≡◌, ℕ, ◌+◌, ◌-◌, ◌<◌, ◌≤◌, Bool, true, false, List, [], ◌∷◌, ◌++◌, length, take, drop, replicate, refl, sym, ◌∙◌, ap, ap₂, subst, append_assoc, inl, inr, arith}
use Rattle.std.proofs.lemmas.List.{length-append, length-replicate, length-drop, take-append-drop, drop-append-le, take-append-le}
use Rattle.bare_stream.specs.Streams.{StartsAt, EndsAtStart, IsNext, HasNoNext, IsCutInto, StreamStop, AtEnd, BadAt, StreamEndsWith, LawOfOneBareStream}
use Rattle.pel_model.specs.declared.Format.{Format}
use Rattle.pel_model.specs.declared.Why.{Why}
use Rattle.pel_model.specs.Accepts.{Accepts}
use Rattle.pel_model.specs.Codes.{is_prefix, picture_start_code}
use Rattle.pel_model.specs.Grammar.{next_within_limit}
use Rattle.pel_model.specs.Bits.{field}
use Rattle.pel_model.specs.Headers.{FreeBits, type_text, spare_text, picture_header_text}
use Rattle.pel_model.specs.Records.{Picture}
use Rattle.pel_model.specs.Spelling.{sent_text, sent_groups_text}
use Rattle.pel_model.specs.Valid.{limit}
use Rattle.pel_model.specs.Walk.{FirstFault}
use Rattle.picture_laws.specs.Laws.{kept_length}
use Rattle.picture_laws.proofs.Answers.{never-both, one-fault, one-record}
use Rattle.picture_laws.proofs.Kept.{kept-length}
use Rattle.vlc_codes.proofs.FoundRows.{is_prefix-front}
use Rattle.vlc_codes.proofs.WordLaws.{is_prefix_self, is_prefix_length}
use Rattle.bare_stream.proofs.Nexts.{near-fault, one-end, is-next, fault-within}
use Rattle.bare_stream.specs.Tries.{IsTried}

-- ---- PSC in longer bits

pub starts-inside : (bits : List Bool) (e : ℕ) → StartsAt e bits → e + 20 ≤ length bits
starts-inside bits e h = omega (arith, is_prefix_length picture_start_code (drop e bits) h, length-drop e bits)

starts-prefix : (xs more : List Bool) → is_prefix picture_start_code xs ≡ true → is_prefix picture_start_code (xs ++ more) ≡ true
starts-prefix xs more h =
    ap (λ (t : List Bool). is_prefix picture_start_code t) (ap (λ (t : List Bool). t ++ more) (is_prefix-front picture_start_code xs h) ∙ append_assoc picture_start_code (drop 20 xs) more)
    ∙ is_prefix_self picture_start_code (drop 20 xs ++ more)

pub ends-longer : (format : Format) (bits more : List Bool) (e : ℕ) → EndsAtStart format bits e → EndsAtStart format (bits ++ more) e
ends-longer format bits more e h =
    let inside = starts-inside bits e h.starts in
    record {
      above = h.above;
      starts = subst (λ (t : List Bool). is_prefix picture_start_code t ≡ true) (sym (drop-append-le e bits more (omega (arith, inside)))) (starts-prefix (drop e bits) more h.starts);
      picture = h.picture;
      accepted = subst (λ (t : List Bool). Accepts format t h.picture) (sym (take-append-le e bits more (omega (arith, inside)))) h.accepted;
    }

pub next-longer : (format : Format) (bits more : List Bool) (e : ℕ) → IsNext format bits e → IsNext format (bits ++ more) e
next-longer format bits more e h = is-next format (bits ++ more) e (ends-longer format bits more e h.place)

-- a place is one in the bits that reach behind its PSC
ends-shorter : (format : Format) (bits more : List Bool) (e : ℕ) → e + 20 ≤ length bits → EndsAtStart format (bits ++ more) e → EndsAtStart format bits e
ends-shorter format bits more e inside h = record {
  above = h.above;
  starts = shorter (drop e bits) more (omega (arith, inside, length-drop e bits)) (subst (λ (t : List Bool). is_prefix picture_start_code t ≡ true) (drop-append-le e bits more (omega (arith, inside))) h.starts);
  picture = h.picture;
  accepted = subst (λ (t : List Bool). Accepts format t h.picture) (take-append-le e bits more (omega (arith, inside))) h.accepted;
}
  where
    same_front : (xs more : List Bool) → 20 ≤ length xs → take 20 (xs ++ more) ≡ take 20 xs
    same_front xs more long = take-append-le 20 xs more long

    by_front : (xs : List Bool) → is_prefix picture_start_code xs ≡ true → take 20 xs ≡ picture_start_code
    by_front xs h = ap (take 20) (is_prefix-front picture_start_code xs h)

    shorter : (xs more : List Bool) → 20 ≤ length xs → is_prefix picture_start_code (xs ++ more) ≡ true → is_prefix picture_start_code xs ≡ true
    shorter xs more long h =
        let front : take 20 xs ≡ picture_start_code = sym (same_front xs more long) ∙ by_front (xs ++ more) h in
        ap (λ (t : List Bool). is_prefix picture_start_code t) (sym (take-append-drop 20 xs) ∙ ap (λ (t : List Bool). t ++ drop 20 xs) front) ∙ is_prefix_self picture_start_code (drop 20 xs)

-- ---- what so many bits decide

-- a fault, and that no picture ends at a PSC
pub fault-longer : (format : Format) (bits more : List Bool) (place : ℕ) (why : Why) → kept_length format ≤ length bits
    → FirstFault (next_within_limit format) bits place why → FirstFault (next_within_limit format) (bits ++ more) place why
fault-longer format bits more place why long h =
    let first = (kept-length format bits).2 place why h in
    (kept-length format (bits ++ more)).3 place why
    (subst (λ (t : List Bool). FirstFault (next_within_limit format) t place why) (sym (take-append-le (kept_length format) bits more long)) first)

pub none-longer : (format : Format) (bits more : List Bool) (place : ℕ) (why : Why) → kept_length format ≤ length bits
    → FirstFault (next_within_limit format) bits place why → HasNoNext format bits → HasNoNext format (bits ++ more)
none-longer format bits more place why long fault none e here =
    let tried = near-fault format (bits ++ more) place why e (fault-longer format bits more place why long fault) here in
    let within = fault-within format bits place why fault in
    none e (ends-shorter format bits more e (trans (near_end place e tried (limit format) within) long) here)
  where
    trans : {a b c : ℕ} → a ≤ b → b ≤ c → a ≤ c
    trans p q = omega (arith, p, q)

    near_end : (place e : ℕ) → IsTried place e → (most : ℕ) → place ≤ most → e + 20 ≤ most + 64
    near_end place e tried most within = elim tried [
      | inl before ↦ omega (arith, before, within)
      | inr behind ↦ omega (arith, behind.1, within)
    ]

-- ---- accepted bits are some, and not many

header-length : (format : Format) (free : FreeBits) (spares : List ℕ) (tr : ℕ) → 20 ≤ length (picture_header_text format free spares tr)
unfolding picture_header_text
header-length format free spares tr = omega (arith, length-append picture_start_code (field tr 5 ++ (type_text format free ++ spare_text spares)))

pub accepted-some : (format : Format) (bits : List Bool) (p : Picture) → Accepts format bits p → 0 < length bits
accepted-some format bits p h =
    let header = picture_header_text format h.0.free h.0.spares p.tr in
    let groups = sent_groups_text h.0.groups p.groups in
    omega (arith, ap length h.1.spelling.text, length-append (header ++ groups) (replicate h.0.zeros false), length-append header groups, header-length format h.0.free h.0.spares p.tr)

pub accepted-short : (format : Format) (bits : List Bool) (p : Picture) → Accepts format bits p → length bits < kept_length format
accepted-short format bits p h =
    let form = h.0 in
    let is = h.1 in
    let long : length bits ≡ length (sent_text format form p) + form.zeros = ap length is.spelling.text ∙ (length-append (sent_text format form p) (replicate form.zeros false) ∙ ap (λ (n : ℕ). length (sent_text format form p) + n) (length-replicate form.zeros false)) in
    omega (arith, long, is.spelling.zeros, is.short)

-- ---- bits are one stream

one-picture : (format : Format) (bits : List Bool) (p q : Picture) → Accepts format bits p → Accepts format bits q → p ≡ q
one-picture format bits p q a b = one-record format bits p q a b

-- the last pictures and the end of a rest
one-ending : (format : Format) (at : ℕ) (rest : List Bool) (last other : List Picture) (stop end : StreamStop) → StreamEndsWith format at rest last stop → StreamEndsWith format at rest other end
    → (last ≡ other) × (stop ≡ end)
one-ending format at rest [] [] AtEnd AtEnd a b = (refl, refl)
one-ending format at rest [] [] AtEnd (BadAt m w) a b = absurd (omega (arith, ap length a, b.0))
one-ending format at rest [] [] (BadAt n v) AtEnd a b = absurd (omega (arith, ap length b, a.0))
one-ending format at rest [] [] (BadAt n v) (BadAt m w) a b =
    let same = one-fault format rest a.2.0 b.2.0 v w a.2.1 b.2.1 in
    (refl, ap₂ (λ (k : ℕ) (y : Why). BadAt k y) (omega (arith, a.2.2, b.2.2, same.0)) same.1)
one-ending format at rest [] (q ∷ []) AtEnd AtEnd a b = absurd (omega (arith, ap length a, accepted-some format rest q b.1))
one-ending format at rest [] (q ∷ []) AtEnd (BadAt m w) a b = absurd b
one-ending format at rest [] (q ∷ []) (BadAt n v) AtEnd a b = absurd (never-both format rest q a.2.0 v b.1 a.2.1)
one-ending format at rest [] (q ∷ []) (BadAt n v) (BadAt m w) a b = absurd b
one-ending format at rest [] (q ∷ r ∷ qs) stop AtEnd a b = absurd b
one-ending format at rest [] (q ∷ r ∷ qs) stop (BadAt m w) a b = absurd b
one-ending format at rest (p ∷ []) [] AtEnd AtEnd a b = absurd (omega (arith, ap length b, accepted-some format rest p a.1))
one-ending format at rest (p ∷ []) [] AtEnd (BadAt m w) a b = absurd (never-both format rest p b.2.0 w a.1 b.2.1)
one-ending format at rest (p ∷ []) [] (BadAt n v) end a b = absurd a
one-ending format at rest (p ∷ []) (q ∷ []) AtEnd AtEnd a b = (ap (λ (x : Picture). x ∷ []) (one-record format rest p q a.1 b.1), refl)
one-ending format at rest (p ∷ []) (q ∷ []) AtEnd (BadAt m w) a b = absurd b
one-ending format at rest (p ∷ []) (q ∷ []) (BadAt n v) end a b = absurd a
one-ending format at rest (p ∷ []) (q ∷ r ∷ qs) stop AtEnd a b = absurd b
one-ending format at rest (p ∷ []) (q ∷ r ∷ qs) stop (BadAt m w) a b = absurd b
one-ending format at rest (p ∷ o ∷ ps) other AtEnd end a b = absurd a
one-ending format at rest (p ∷ o ∷ ps) other (BadAt n v) end a b = absurd a

-- a rest with an end has no next
ending-none : (format : Format) (at : ℕ) (rest : List Bool) (last : List Picture) (stop : StreamStop) → StreamEndsWith format at rest last stop → HasNoNext format rest
ending-none format at rest [] AtEnd h e here = absurd (omega (arith, ap length h, starts-inside rest e here.starts))
ending-none format at rest [] (BadAt n v) h e here = h.1 e here
ending-none format at rest (p ∷ []) AtEnd h e here = h.0 e here
ending-none format at rest (p ∷ []) (BadAt n v) h e here = absurd h
ending-none format at rest (p ∷ q ∷ ps) AtEnd h e here = absurd h
ending-none format at rest (p ∷ q ∷ ps) (BadAt n v) h e here = absurd h

-- cuts to rests that have no next are the same
pub one-cutting : (format : Format) (bits : List Bool) (ps qs : List Picture) (rest other : List Bool) → IsCutInto format bits ps rest → HasNoNext format rest
    → IsCutInto format bits qs other → HasNoNext format other → (ps ≡ qs) × (rest ≡ other)
one-cutting format bits [] [] rest other a na b nb = (refl, a ∙ sym b)
one-cutting format bits [] (q ∷ qs) rest other a na b nb = absurd (subst (λ (t : List Bool). HasNoNext format t) a na b.0 b.1.place)
one-cutting format bits (p ∷ ps) [] rest other a na b nb = absurd (subst (λ (t : List Bool). HasNoNext format t) b nb a.0 a.1.place)
one-cutting format bits (p ∷ ps) (q ∷ qs) rest other a na b nb =
    let same : b.0 ≡ a.0 = one-end format bits b.0 a.0 b.1.place a.1.place in
    let here : Accepts format (take a.0 bits) q = subst (λ (e : ℕ). Accepts format (take e bits) q) same b.2 in
    let more : IsCutInto format (drop a.0 bits) qs other = subst (λ (e : ℕ). IsCutInto format (drop e bits) qs other) same b.3 in
    let left = one-cutting format (drop a.0 bits) ps qs rest other a.3 na more nb in
    (ap₂ (λ (x : Picture) (xs : List Picture). x ∷ xs) (one-record format (take a.0 bits) p q a.2 here) left.0, left.1)

pub one-bare-stream : LawOfOneBareStream
one-bare-stream format bits ps qs stop other a b =
    let cut = one-cutting format bits a.former b.former a.rest b.rest a.cuts (ending-none format _ a.rest a.last stop a.ends) b.cuts (ending-none format _ b.rest b.last other b.ends) in
    let ends : StreamEndsWith format (length bits - length a.rest) a.rest b.last other = subst (λ (t : List Bool). StreamEndsWith format (length bits - length t) t b.last other) (sym cut.1) b.ends in
    let end = one-ending format (length bits - length a.rest) a.rest a.last b.last stop other a.ends ends in
    (a.order ∙ (ap₂ (λ (xs ys : List Picture). xs ++ ys) cut.0 end.0 ∙ sym b.order), end.1)

-- ---- cuts one after the other

pub cuts-longer : (format : Format) (bits more : List Bool) (ps : List Picture) (rest : List Bool) → IsCutInto format bits ps rest → IsCutInto format (bits ++ more) ps (rest ++ more)
cuts-longer format bits more [] rest h = ap (λ (t : List Bool). t ++ more) h
cuts-longer format bits more (p ∷ ps) rest h =
    let inside = starts-inside bits h.0 h.1.place.starts in (
      h.0,
      next-longer format bits more h.0 h.1,
      subst (λ (t : List Bool). Accepts format t p) (sym (take-append-le h.0 bits more (omega (arith, inside)))) h.2,
      subst (λ (t : List Bool). IsCutInto format t ps (rest ++ more)) (sym (drop-append-le h.0 bits more (omega (arith, inside)))) (cuts-longer format (drop h.0 bits) more ps rest h.3),
    )

-- one picture more is cut off
pub cuts-on : (format : Format) (bits : List Bool) (ps : List Picture) (rest : List Bool) (p : Picture) (e : ℕ) → IsCutInto format bits ps rest → IsNext format rest e
    → Accepts format (take e rest) p → IsCutInto format bits (ps ++ p ∷ []) (drop e rest)
cuts-on format bits [] rest p e h next accepted =
    (e, subst (λ (t : List Bool). IsNext format t e) h next, subst (λ (t : List Bool). Accepts format (take e t) p) h accepted, ap (drop e) h)
cuts-on format bits (q ∷ ps) rest p e h next accepted = (h.0, h.1, h.2, cuts-on format (drop h.0 bits) ps rest p e h.3 next accepted)

-- what is left is a part
pub cuts-length : (format : Format) (bits : List Bool) (ps : List Picture) (rest : List Bool) → IsCutInto format bits ps rest → length rest ≤ length bits
cuts-length format bits [] rest h = omega (arith, ap length h)
cuts-length format bits (p ∷ ps) rest h = omega (arith, cuts-length format (drop h.0 bits) ps rest h.3, length-drop h.0 bits)
