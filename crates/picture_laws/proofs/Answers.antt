-- Bits have one answer: they are read to the lawful end, or have a first fault.
use Rattle.std.proofs.Common.{◌≡◌, ℕ, zero, suc, ◌+◌, ◌<◌, Bool, List, [], ◌∷◌, length, drop, refl, sym, ap, inl, inr, ◌⊎◌, arith}
use Rattle.std.proofs.lemmas.List.{length-append}
use Rattle.pel_model.specs.declared.Format.{Format}
use Rattle.pel_model.specs.declared.Why.{Why}
use Rattle.pel_model.specs.Walk.{Standing, Good, Stop, Bad, skipped, start, after, Goes}
use Rattle.pel_model.specs.Grammar.{Element, slot, next_within_limit, next}
use Rattle.pel_model.proofs.Walks.{one_fault, not_both, one_reading}
use Rattle.picture_laws.specs.Laws.{HasRecordOrFault, NeverBoth, OneSpelling, OneRecord, OneFault}
use Rattle.picture_laws.specs.PictureElements.{elements_of_picture}
use Rattle.picture_laws.proofs.Told.{told-one}
use Rattle.picture_laws.proofs.Slots.{word_at}
use Rattle.picture_laws.proofs.Chains.{next-is}
use Rattle.picture_laws.proofs.Limits.{picture-next}
use Rattle.picture_laws.proofs.Longs.{word-some}
use Rattle.picture_laws.proofs.Pictures.{spelled-read, accepted-read}
use Rattle.picture_laws.proofs.ReadPictures.{walk-record}

pub never-both : NeverBoth
never-both format bits pic place why accepted fault =
    let read = accepted-read format bits pic accepted in
    not_both (next_within_limit format) bits read.0 place why read.1 fault

pub one-fault : OneFault
one-fault format bits p q why other a b = one_fault (next_within_limit format) bits p q why other a b

-- ---- there is an answer

abbrev IsOver : Format → List Element → List Bool × ℕ → Type 0
IsOver format before r = (next_within_limit format before r ≡ Stop) ⊎ ((why : Why) × (next_within_limit format before r ≡ Bad why))

record Ends (format : Format) (before : List Element) (r : List Bool × ℕ) : Type 0 where
  pub es : List Element
  pub end : List Bool × ℕ
  pub walk : Goes (next_within_limit format) before r es end
  pub over : IsOver format (after before es) end

one_further : (format : Format) (before : List Element) (r : List Bool × ℕ) (e : Element) (n : ℕ) → next_within_limit format before r ≡ Good e n → Ends format (e ∷ before) (skipped n r) → Ends format before r
one_further format before r e n h rest = record { es = e ∷ rest.es; end = rest.end; walk = (n, h, rest.walk); over = rest.over }

-- an element takes bits
takes_bits : (format : Format) (before : List Element) (r : List Bool × ℕ) (e : Element) (n : ℕ) → next_within_limit format before r ≡ Good e n → (0 < n) × (length (drop n r.0) + n ≡ length r.0)
takes_bits format before r e n h =
    let s = next-is format before r e n (picture-next format before r e n h).0 in
    let some = word-some (slot before) e s.0.takes in
    (omega (arith, some, s.1.size), omega (arith, s.1.size, ap length s.1.front, length-append (word_at (slot before) e) (drop n r.0)))

ends_at : (format : Format) (before : List Element) (r : List Bool × ℕ) → ((e : Element) (n : ℕ) → next_within_limit format before r ≡ Good e n → Ends format (e ∷ before) (skipped n r)) → (s : Standing Element) → next_within_limit format before r ≡ s → Ends format before r
ends_at format before r further (Good e n) h = one_further format before r e n h (further e n h)
ends_at format before r further Stop h = record { es = []; end = r; walk = refl; over = inl h }
ends_at format before r further (Bad why) h = record { es = []; end = r; walk = refl; over = inr (why, h) }

fewer : (format : Format) (before : List Element) (r : List Bool × ℕ) (e : Element) (n fuel : ℕ) → next_within_limit format before r ≡ Good e n → length r.0 < suc fuel → length (drop n r.0) < fuel
fewer format before r e n fuel h few = let t = takes_bits format before r e n h in omega (arith, t, few)

ends : (fuel : ℕ) (format : Format) (before : List Element) (r : List Bool × ℕ) → length r.0 < fuel → Ends format before r
ends zero format before r few = absurd (omega (arith, few))
ends (suc fuel) format before r few =
    ends_at format before r (λ e n h. ends fuel format (e ∷ before) (skipped n r) (fewer format before r e n fuel h few)) (next_within_limit format before r) refl

pub record-or-fault : HasRecordOrFault
record-or-fault format bits =
    let e = ends (suc (length bits)) format [] (start bits) (omega arith) in
    elim e.over [
      | inl stop ↦ let w = walk-record format bits e.es (record { end = e.end; walk = e.walk; stop = stop }) in inl (w.0, w.2)
      | inr bad ↦ inr (e.end.1, bad.0, record { elements = e.es; end = e.end; walk = e.walk; bad = bad.1; place_is = refl })
    ]

-- two pictures of the same bits are one
pub one-spelling : OneSpelling
one-spelling format bits p q a valid b valid' =
    let x = spelled-read format bits a.0 p a.1 valid in
    let y = spelled-read format bits b.0 q b.1 valid' in
    let same : elements_of_picture format a.0 p ≡ elements_of_picture format b.0 q = one_reading (next format) bits (elements_of_picture format a.0 p) (elements_of_picture format b.0 q) (record { end = _; walk = x.0; stop = x.1 }) (record { end = _; walk = y.0; stop = y.1 }) in
    told-one format (elements_of_picture format b.0 q) p q (a.0, a.1.fits, sym same) valid (b.0, b.1.fits, refl) valid'

pub one-record : OneRecord
one-record format bits p q a b = one-spelling format bits p q (a.0, a.1.spelling) a.1.valid (b.0, b.1.spelling) b.1.valid
