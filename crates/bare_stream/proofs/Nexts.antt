-- Where a picture ends and the start code of another follows, the bits have their first fault near that place.
use Rattle.std.proofs.Common.{◌≡◌, ◌⊎◌, ℕ, zero, suc, ◌+◌, ◌-◌, ◌<◌, ◌≤◌, ◌&&◌, not, Bool, true, false, cond, List, [], ◌∷◌, ◌++◌, length, take, drop, replicate, Some, nat_lt, refl, sym, ◌∙◌, ap, subst, inl, inr, append_assoc, append-nil, ap₂, ◌==◌, eqb-true, arith}
use Rattle.std.specs.List.{list_any}
use Rattle.std.proofs.lemmas.Bool.{ltb-true, ltb-false, cases_Bool, and_parts, not-true, le-ltb, false≢true}
use Rattle.std.proofs.lemmas.List.{length-append, length-take-le, length-drop, take-append-drop, drop-append-le, drop-drop}
use Rattle.bare_stream.specs.Streams.{EndsAtStart, IsNext, HasNoNext}
use Rattle.bare_stream.specs.Tries.{IsTried}
use Rattle.pel_model.specs.declared.Format.{Format}
use Rattle.pel_model.specs.declared.Format.TheVariants.{Qcif, Cif}
use Rattle.pel_model.specs.declared.Why.{Why}
use Rattle.pel_model.specs.declared.Why.TheVariants.{NoStart, WrongFormat, StillImage, NoCode, BadGroup, BadQuant, TooLong, Cut, BadAddress, BadVector, VectorOutside, BadDc, BadLevel, TooMany}
use Rattle.pel_model.specs.Accepts.{Accepts}
use Rattle.pel_bits.specs.Bits.{number, field}
use Rattle.pel_model.specs.Bits.{number as number_spelled}
use Rattle.pel_bits.proofs.Fields.{field-number}
use Rattle.pel_model.specs.Codes.{is_prefix, picture_start_code, mba_table}
use Rattle.pel_model.specs.Valid.{limit}
use Rattle.pel_model.specs.Walk.{Good, Stop, Bad, skipped, start, after, Goes, FirstFault, read, judged, verdict}
use Rattle.pel_model.specs.Grammar.{Element, Gbsc, Gn, Slot, AtPsc, AtTr, AtPtype, AtPei, AtPspare, AtGroup, AtGn, AtGquant, AtGei, AtGspare, AtMacroblock, AtMtype, AtMquant, AtMvd, AtCbp, AtDc, AtFirst, AtCoefficient, slot, rows, mba_rows, gbsc_row, faults, first_why, may_end, is_end, at_slot, next, next_within_limit, counted}
use Rattle.pel_model.specs.Records.{Picture}
use Rattle.picture_laws.proofs.Answers.{never-both, one-fault}
use Rattle.picture_laws.proofs.Chains.{word_in, next-is, next-good}
use Rattle.picture_laws.proofs.Limits.{picture-next, picture-good, picture-bad, picture-long, picture-stop, goes-within}
use Rattle.picture_laws.proofs.Slots.{Takes}
use Rattle.picture_laws.proofs.Pictures.{accepted-read}
use Rattle.picture_laws.proofs.ReadPictures.{stopped}
use Rattle.vlc_codes.proofs.FoundRows.{is_prefix-front}
use Rattle.vlc_codes.proofs.WordLaws.{is_prefix-cut, is_prefix_longer}

-- ---- longer bits

good-longer : (format : Format) (before : List Element) (xs more : List Bool) (p : ℕ) (e : Element) (n : ℕ) → next format before (xs, p) ≡ Good e n
    → (next format before (xs ++ more, p) ≡ Good e n) × (n ≤ length xs)
good-longer format before xs more p e n h =
    let s = next-is format before (xs, p) e n h in (
      ap (λ (t : List Bool). next format before (t, p)) (ap (λ (t : List Bool). t ++ more) s.1.front ∙ append_assoc (word_in before e) (drop n xs) more)
          ∙ next-good format before e (drop n xs ++ more) p s.0 ∙ ap (Good e) (sym s.1.size),
      omega (arith, s.1.size, ap length s.1.front, length-append (word_in before e) (drop n xs)),
    )

-- good elements stay good behind more bits
pub walk-longer : (format : Format) (before : List Element) (xs more : List Bool) (p : ℕ) (es : List Element) (end : List Bool × ℕ)
    → Goes (next_within_limit format) before (xs, p) es end → Goes (next_within_limit format) before (xs ++ more, p) es (end.0 ++ more, end.1)
walk-longer format before xs more p [] end h = ap (λ (x : List Bool × ℕ). (x.0 ++ more, x.1)) h
walk-longer format before xs more p (e ∷ es) end h =
    let here = picture-next format before (xs, p) e h.0 h.1 in
    let longer = good-longer format before xs more p e h.0 here.0 in (
      h.0,
      picture-good format before (xs ++ more, p) e h.0 longer.0 here.1,
      subst (λ (t : List Bool). Goes (next_within_limit format) (e ∷ before) (t, p + h.0) es (end.0 ++ more, end.1)) (sym (drop-append-le h.0 xs more longer.1))
          (walk-longer format (e ∷ before) (drop h.0 xs) more (p + h.0) es end h.2),
    )

-- what is left is as long as what was not read
pub walk-length : (format : Format) (before : List Element) (r : List Bool × ℕ) (es : List Element) (end : List Bool × ℕ)
    → Goes (next_within_limit format) before r es end → end.1 + length end.0 ≡ r.1 + length r.0
walk-length format before r [] end h = ap (λ (x : List Bool × ℕ). x.1 + length x.0) h
walk-length format before r (e ∷ es) end h =
    let here = picture-next format before r e h.0 h.1 in
    let longer = good-longer format before r.0 [] r.1 e h.0 here.0 in
    omega (arith, walk-length format (e ∷ before) (skipped h.0 r) es end h.2, longer.1, length-drop h.0 r.0)

-- ---- a start code behind a picture

at-macroblock : (left : List Bool) → is_end left ≡ false → at_slot AtMacroblock left ≡ read (mba_rows ++ gbsc_row ∷ []) left
unfolding rows
at-macroblock left is = ap (λ (b : Bool). cond b Stop (read (mba_rows ++ gbsc_row ∷ []) left)) is

at-group : (left : List Bool) → is_end left ≡ false → at_slot AtGroup left ≡ read (gbsc_row ∷ []) left
unfolding rows
at-group left is = ap (λ (b : Bool). cond b Stop (read (gbsc_row ∷ []) left)) is

all_false : (bits : List Bool) → list_any (λ b. b) bits ≡ false → bits ≡ replicate (length bits) false
all_false [] h = refl
all_false (true ∷ bits) h = absurd cc
all_false (false ∷ bits) h = ap (λ t. false ∷ t) (all_false bits h)

end_zeros : (bits : List Bool) → is_end bits ≡ true → (length bits < 8) × (bits ≡ replicate (length bits) false)
end_zeros bits h =
    let both = and_parts (nat_lt (length bits) 8) (not (list_any (λ b. b) bits)) h in
    (ltb-true (length bits) 8 both.0, all_false bits (not-true (list_any (λ b. b) bits) both.1))

long_no_end : (bits : List Bool) → 8 ≤ length bits → is_end bits ≡ false
long_no_end bits h = ap (λ b. b && not (list_any (λ b. b) bits)) (le-ltb (length bits) 8 h)

-- the slots in which a picture may end
ending : (s : Slot) → may_end s ≡ true → (s ≡ AtGroup) ⊎ (s ≡ AtMacroblock)
ending AtPsc h = absurd cc
ending AtTr h = absurd cc
ending AtPtype h = absurd cc
ending AtPei h = absurd cc
ending AtPspare h = absurd cc
ending AtGroup h = inl refl
ending AtGn h = absurd cc
ending AtGquant h = absurd cc
ending AtGei h = absurd cc
ending AtGspare h = absurd cc
ending AtMacroblock h = inr refl
ending AtMtype h = absurd cc
ending AtMquant h = absurd cc
ending (AtMvd axis) h = absurd cc
ending AtCbp h = absurd cc
ending AtDc h = absurd cc
ending AtFirst h = absurd cc
ending AtCoefficient h = absurd cc

group-unread : (z : ℕ) (tail : List Bool) → 0 < z → z < 8 → read (gbsc_row ∷ []) (replicate z false ++ (picture_start_code ++ tail)) ≡ Bad NoCode
group-unread zero tail h k = absurd (omega (arith, h))
group-unread (suc zero) tail h k = refl
group-unread (suc (suc zero)) tail h k = refl
group-unread (suc (suc (suc zero))) tail h k = refl
group-unread (suc (suc (suc (suc zero)))) tail h k = refl
group-unread (suc (suc (suc (suc (suc zero))))) tail h k = refl
group-unread (suc (suc (suc (suc (suc (suc zero)))))) tail h k = refl
group-unread (suc (suc (suc (suc (suc (suc (suc zero))))))) tail h k = refl
group-unread (suc (suc (suc (suc (suc (suc (suc (suc z)))))))) tail h k = absurd (omega (arith, k))

macroblock-unread : (z : ℕ) (tail : List Bool) → 0 < z → z < 8 → read (mba_rows ++ gbsc_row ∷ []) (replicate z false ++ (picture_start_code ++ tail)) ≡ Bad NoCode
unfolding mba_table
macroblock-unread zero tail h k = absurd (omega (arith, h))
macroblock-unread (suc zero) tail h k = refl
macroblock-unread (suc (suc zero)) tail h k = refl
macroblock-unread (suc (suc (suc zero))) tail h k = refl
macroblock-unread (suc (suc (suc (suc zero)))) tail h k = refl
macroblock-unread (suc (suc (suc (suc (suc zero))))) tail h k = refl
macroblock-unread (suc (suc (suc (suc (suc (suc zero)))))) tail h k = refl
macroblock-unread (suc (suc (suc (suc (suc (suc (suc zero))))))) tail h k = refl
macroblock-unread (suc (suc (suc (suc (suc (suc (suc (suc z)))))))) tail h k = absurd (omega (arith, k))

slot-unread : (s : Slot) (z : ℕ) (tail : List Bool) → may_end s ≡ true → 0 < z → z < 8 → at_slot s (replicate z false ++ (picture_start_code ++ tail)) ≡ Bad NoCode
slot-unread s z tail may h k =
    let left = replicate z false ++ (picture_start_code ++ tail) in
    let on = long_no_end left (omega (arith, length-append (replicate z false) (picture_start_code ++ tail), length-append picture_start_code tail)) in
    elim (ending s may) [
      | inl is ↦ ap (λ (t : Slot). at_slot t left) is ∙ at-group left on ∙ group-unread z tail h k
      | inr is ↦ ap (λ (t : Slot). at_slot t left) is ∙ at-macroblock left on ∙ macroblock-unread z tail h k
    ]

-- behind zeros nothing begins there
zeros-unread : (format : Format) (before : List Element) (place z : ℕ) (tail : List Bool) → may_end (slot before) ≡ true → 0 < z → z < 8
    → next format before (replicate z false ++ (picture_start_code ++ tail), place) ≡ Bad NoCode
unfolding next
zeros-unread format before place z tail may h k = ap (judged (λ e n. first_why (faults format before e))) (slot-unread (slot before) z tail may h k)

-- else the start code of a group is read, of the bits with which PSC begins
group-read : (format : Format) (before : List Element) (place : ℕ) (tail : List Bool) → may_end (slot before) ≡ true
    → next format before (picture_start_code ++ tail, place) ≡ Good Gbsc 16
group-read format before place tail may = elim (ending (slot before) may) [
  | inl is ↦ next-good format before Gbsc (false ∷ false ∷ false ∷ false ∷ tail) place (record { takes = subst (λ (s : Slot). Takes s Gbsc) (sym is) refl; good = refl })
  | inr is ↦ next-good format before Gbsc (false ∷ false ∷ false ∷ false ∷ tail) place (record { takes = subst (λ (s : Slot). Takes s Gbsc) (sym is) (inr (inr refl)); good = refl })
]

-- and behind it no group has the number 0
zero-read : (tail : List Bool) → read (rows AtGn) (false ∷ false ∷ false ∷ false ∷ tail) ≡ Good (Gn 0) 4
unfolding rows number_spelled
zero-read tail =
    ap (λ (b : Bool). cond b (Bad Cut) (Good (Gn 0) 4)) (le-ltb (length (false ∷ false ∷ false ∷ false ∷ tail)) 4 (omega arith))

zero-refused : (format : Format) (before : List Element) → first_why (faults format before (Gn 0)) ≡ Some BadGroup
zero-refused Qcif before = refl
zero-refused Cif before = refl

group-refused : (format : Format) (before : List Element) (place : ℕ) (tail : List Bool)
    → next format (Gbsc ∷ before) (false ∷ false ∷ false ∷ false ∷ tail, place) ≡ Bad BadGroup
unfolding next
group-refused format before place tail =
    ap (judged (λ e n. first_why (faults format (Gbsc ∷ before) e))) (zero-read tail)
    ∙ ap (verdict (Gn 0) 4) (zero-refused format (Gbsc ∷ before))

-- ---- the first fault

-- what stands behind the elements of a picture that ends at `e`, where PSC begins: zeros, and PSC
pub record StartBehind (bits : List Bool) (e : ℕ) : Type 0 where
  pub place : ℕ
  pub zeros : ℕ
  pub tail : List Bool
  pub few : zeros < 8
  pub sum : place + zeros ≡ e
  pub left : drop place bits ≡ replicate zeros false ++ (picture_start_code ++ tail)

-- why that is at fault, and where: the zeros are no word; or PSC is read as the start code of a group, which is too long, or
-- which a number follows that no group has
abbrev pub IsNearBy : (place : ℕ) → Why → (begin some : ℕ) → Type 0
IsNearBy place NoCode begin some = (place ≡ begin) × (0 < some)
IsNearBy place TooLong begin some = (place ≡ begin) × (some ≡ 0)
IsNearBy place BadGroup begin some = (place ≡ begin + 16) × (some ≡ 0)
IsNearBy place _ begin some = ⊥

-- bits have their first fault near where a picture ends
pub record FaultNear (format : Format) (bits : List Bool) (e : ℕ) : Type 0 where
  pub behind : StartBehind bits e
  pub place : ℕ
  pub why : Why
  pub fault : FirstFault (next_within_limit format) bits place why
  pub near : IsNearBy place why behind.place behind.zeros

-- what is read of a picture, and what stands behind it
record PictureBefore (format : Format) (bits : List Bool) (e : ℕ) : Type 0 where
  behind : StartBehind bits e
  elements : List Element
  may : may_end (slot (after [] elements)) ≡ true
  walk : Goes (next_within_limit format) [] (start bits) elements (replicate behind.zeros false ++ (picture_start_code ++ behind.tail), behind.place)

-- what a walk leaves stands from its place on
walk-left : (format : Format) (before : List Element) (r : List Bool × ℕ) (es : List Element) (end : List Bool × ℕ)
    → Goes (next_within_limit format) before r es end → (k : ℕ) × (end.1 ≡ r.1 + k) × (end.0 ≡ drop k r.0)
walk-left format before r [] end h = (0, omega (arith, ap (λ (x : List Bool × ℕ). x.1) h), ap (λ (x : List Bool × ℕ). x.0) h)
walk-left format before r (e ∷ es) end h =
    let t = walk-left format (e ∷ before) (skipped h.0 r) es end h.2 in
    (h.0 + t.0, omega (arith, t.1), t.2 ∙ (drop-drop t.0 h.0 r.0))

walk-behind : (format : Format) (bits : List Bool) (es : List Element) (end : List Bool × ℕ) → Goes (next_within_limit format) [] (start bits) es end → end.0 ≡ drop end.1 bits
walk-behind format bits es end h =
    let t = walk-left format [] (start bits) es end h in
    t.2 ∙ ap (λ (k : ℕ). drop k bits) (omega (arith, t.1))

picture-before : (format : Format) (bits : List Bool) (e : ℕ) → EndsAtStart format bits e → PictureBefore format bits e
picture-before format bits e here =
    let read_ = accepted-read format (take e bits) here.picture here.accepted in
    let end = read_.1.end in
    let ends = stopped format (after [] read_.0) end (picture-stop format (after [] read_.0) end read_.1.stop) in
    let zs = end_zeros end.0 ends.1 in
    let split = is_prefix-front picture_start_code (drop e bits) here.starts in
    let tail = drop (length picture_start_code) (drop e bits) in
    let inside : e ≤ length bits = omega (arith, ap length split, length-append picture_start_code tail, length-drop e bits) in
    let longer = walk-longer format [] (take e bits) (drop e bits) 0 read_.0 end read_.1.walk in
    let left : end.0 ++ drop e bits ≡ replicate (length end.0) false ++ (picture_start_code ++ tail) =
    ap (λ (t : List Bool). t ++ drop e bits) zs.1 ∙ ap (λ (t : List Bool). replicate (length end.0) false ++ t) split in
    let walk : Goes (next_within_limit format) [] (start bits) read_.0 (replicate (length end.0) false ++ (picture_start_code ++ tail), end.1) =
    subst (λ (t : List Bool). Goes (next_within_limit format) [] (start bits) read_.0 (t, end.1)) left
    (subst (λ (t : List Bool). Goes (next_within_limit format) [] (start t) read_.0 (end.0 ++ drop e bits, end.1)) (take-append-drop e bits) longer) in
    record {
      behind = record {
        place = end.1;
        zeros = length end.0;
        tail = tail;
        few = zs.0;
        sum = omega (arith, walk-length format [] (start (take e bits)) read_.0 end read_.1.walk, length-take-le e bits inside);
        left = sym (walk-behind format bits read_.0 (replicate (length end.0) false ++ (picture_start_code ++ tail), end.1) walk);
      };
      elements = read_.0;
      may = ends.0;
      walk = walk;
    }

goes-on : (format : Format) (before : List Element) (r mid end : List Bool × ℕ) (es : List Element) (e : Element) (n : ℕ) → Goes (next_within_limit format) before r es mid
    → next_within_limit format (after before es) mid ≡ Good e n → end ≡ skipped n mid → Goes (next_within_limit format) before r (es ++ e ∷ []) end
goes-on format before r mid end [] e n h good is = (n, subst (λ (x : List Bool × ℕ). next_within_limit format before x ≡ Good e n) h good, is ∙ ap (skipped n) h)
goes-on format before r mid end (x ∷ es) e n h good is = (h.0, h.1, goes-on format (x ∷ before) (skipped h.0 r) mid end es e n h.2 good is)

after-snoc : (before es : List Element) (e : Element) → after before (es ++ e ∷ []) ≡ e ∷ after before es
after-snoc before [] e = refl
after-snoc before (x ∷ es) e = after-snoc (x ∷ before) es e

-- PSC right behind the picture: the start code of a group is too long there, or a group has the number 0
near-start : (format : Format) (bits : List Bool) (e : ℕ) (behind : StartBehind bits e) (elements : List Element) → behind.zeros ≡ 0 → may_end (slot (after [] elements)) ≡ true
    → Goes (next_within_limit format) [] (start bits) elements (picture_start_code ++ behind.tail, behind.place) → FaultNear format bits e
near-start format bits e behind elements none may walk =
    let place = behind.place in
    let tail = behind.tail in
    elim (cases_Bool (nat_lt (limit format) (counted format (Gbsc ∷ after [] elements) (place + 16)))) [
      | inl long ↦ record {
        behind = behind;
        place = place;
        why = TooLong;
        fault = record {
          elements = elements;
          end = (picture_start_code ++ tail, place);
          walk = walk;
          bad = picture-long format (after [] elements) (picture_start_code ++ tail, place) Gbsc 16 (group-read format (after [] elements) place tail may)
              (ltb-true (limit format) (counted format (Gbsc ∷ after [] elements) (place + 16)) long);
          place_is = refl;
        };
        near = (refl, none);
      }
      | inr fits ↦ record {
        behind = behind;
        place = place + 16;
        why = BadGroup;
        fault = record {
          elements = elements ++ Gbsc ∷ [];
          end = (false ∷ false ∷ false ∷ false ∷ tail, place + 16);
          walk =
              goes-on format [] (start bits) (picture_start_code ++ tail, place) (false ∷ false ∷ false ∷ false ∷ tail, place + 16) elements Gbsc 16 walk
              (picture-good format (after [] elements) (picture_start_code ++ tail, place) Gbsc 16 (group-read format (after [] elements) place tail may)
              (ltb-false (limit format) (counted format (Gbsc ∷ after [] elements) (place + 16)) fits)) refl;
          bad =
              picture-bad format (after [] (elements ++ Gbsc ∷ [])) (false ∷ false ∷ false ∷ false ∷ tail, place + 16) BadGroup
              (ap (λ (before : List Element). next format before (false ∷ false ∷ false ∷ false ∷ tail, place + 16)) (after-snoc [] elements Gbsc)
              ∙ group-refused format (after [] elements) (place + 16) tail);
          place_is = refl;
        };
        near = (refl, none);
      }
    ]

near-by : (format : Format) (bits : List Bool) (e : ℕ) (p : PictureBefore format bits e) (z : ℕ) → p.behind.zeros ≡ z → FaultNear format bits e
near-by format bits e p (suc z) is =
    let b = p.behind in
    record {
      behind = b;
      place = b.place;
      why = NoCode;
      fault = record {
        elements = p.elements;
        end = (replicate b.zeros false ++ (picture_start_code ++ b.tail), b.place);
        walk = p.walk;
        bad =
            picture-bad format (after [] p.elements) (replicate b.zeros false ++ (picture_start_code ++ b.tail), b.place) NoCode
            (zeros-unread format (after [] p.elements) b.place b.zeros b.tail p.may (omega (arith, is)) b.few);
        place_is = refl;
      };
      near = (refl, omega (arith, is));
    }
near-by format bits e p zero is =
    near-start format bits e p.behind p.elements is p.may
    (subst (λ (z : ℕ). Goes (next_within_limit format) [] (start bits) p.elements (replicate z false ++ (picture_start_code ++ p.behind.tail), p.behind.place)) is p.walk)

-- where a picture ends and another begins, there is the first fault, or near it
pub fault-near : (format : Format) (bits : List Bool) (e : ℕ) → EndsAtStart format bits e → FaultNear format bits e
fault-near format bits e here = let p = picture-before format bits e here in near-by format bits e p p.behind.zeros refl

tried-near : (place : ℕ) (why : Why) (begin some e : ℕ) → IsNearBy place why begin some → begin + some ≡ e → some < 8 → IsTried place e
tried-near place NoCode begin some e near sum few = inr (omega (arith, near.0, sum), omega (arith, near.0, sum, few))
tried-near place TooLong begin some e near sum few = inr (omega (arith, near.0, near.1, sum), omega (arith, near.0, near.1, sum))
tried-near place BadGroup begin some e near sum few = inl (omega (arith, near.0, near.1, sum))
tried-near place NoStart begin some e near sum few = absurd near
tried-near place WrongFormat begin some e near sum few = absurd near
tried-near place StillImage begin some e near sum few = absurd near
tried-near place BadQuant begin some e near sum few = absurd near
tried-near place Cut begin some e near sum few = absurd near
tried-near place BadAddress begin some e near sum few = absurd near
tried-near place BadVector begin some e near sum few = absurd near
tried-near place VectorOutside begin some e near sum few = absurd near
tried-near place BadDc begin some e near sum few = absurd near
tried-near place BadLevel begin some e near sum few = absurd near
tried-near place TooMany begin some e near sum few = absurd near

-- a place at which a picture ends is one of those that are tried at the first fault
pub near-fault : (format : Format) (bits : List Bool) (place : ℕ) (why : Why) (e : ℕ) → FirstFault (next_within_limit format) bits place why → EndsAtStart format bits e → IsTried place e
near-fault format bits place why e fault here =
    let n = fault-near format bits e here in
    subst (λ (p : ℕ). IsTried p e) (one-fault format bits n.place place n.why why n.fault fault).0
    (tried-near n.place n.why n.behind.place n.behind.zeros e n.near n.behind.sum n.behind.few)

-- accepted bits go on with no other picture
pub none-in-whole : (format : Format) (bits : List Bool) (p : Picture) → Accepts format bits p → HasNoNext format bits
none-in-whole format bits p accepted e here =
    let n = fault-near format bits e here in never-both format bits p n.place n.why accepted n.fault

-- ---- there is one such place at most

leading : List Bool → ℕ
leading (false ∷ bits) = suc (leading bits)
leading _ = 0

leading-zeros : (z : ℕ) (bits : List Bool) → leading (replicate z false ++ bits) ≡ z + leading bits
unfolding leading
leading-zeros zero bits = omega arith
leading-zeros (suc z) bits = omega (arith, leading-zeros z bits)

same-zeros : (z y : ℕ) (t u : List Bool) → replicate z false ++ (picture_start_code ++ t) ≡ replicate y false ++ (picture_start_code ++ u) → z ≡ y
unfolding leading
same-zeros z y t u is =
    let a : leading (replicate z false ++ (picture_start_code ++ t)) ≡ z + 15 = leading-zeros z (picture_start_code ++ t) in
    let b : leading (replicate y false ++ (picture_start_code ++ u)) ≡ y + 15 = leading-zeros y (picture_start_code ++ u) in
    omega (arith, a, b, ap leading is)

same-begin : (place : ℕ) (why : Why) (a y b z : ℕ) → IsNearBy place why a y → IsNearBy place why b z → a ≡ b
same-begin place NoCode a y b z f g = omega (arith, f.0, g.0)
same-begin place TooLong a y b z f g = omega (arith, f.0, g.0)
same-begin place BadGroup a y b z f g = omega (arith, f.0, g.0)
same-begin place NoStart a y b z f g = absurd f
same-begin place WrongFormat a y b z f g = absurd f
same-begin place StillImage a y b z f g = absurd f
same-begin place BadQuant a y b z f g = absurd f
same-begin place Cut a y b z f g = absurd f
same-begin place BadAddress a y b z f g = absurd f
same-begin place BadVector a y b z f g = absurd f
same-begin place VectorOutside a y b z f g = absurd f
same-begin place BadDc a y b z f g = absurd f
same-begin place BadLevel a y b z f g = absurd f
same-begin place TooMany a y b z f g = absurd f

-- bits have one place at most at which a picture ends and another begins
pub one-end : (format : Format) (bits : List Bool) (e f : ℕ) → EndsAtStart format bits e → EndsAtStart format bits f → e ≡ f
one-end format bits e f he hf =
    let n = fault-near format bits e he in
    let m = fault-near format bits f hf in
    let same = one-fault format bits n.place m.place n.why m.why n.fault m.fault in
    let near : IsNearBy m.place m.why n.behind.place n.behind.zeros =
    subst (λ (w : Why). IsNearBy m.place w n.behind.place n.behind.zeros) same.1
    (subst (λ (p : ℕ). IsNearBy p n.why n.behind.place n.behind.zeros) same.0 n.near) in
    let begin : n.behind.place ≡ m.behind.place = same-begin m.place m.why n.behind.place n.behind.zeros m.behind.place m.behind.zeros near m.near in
    let zeros : n.behind.zeros ≡ m.behind.zeros =
    same-zeros n.behind.zeros m.behind.zeros n.behind.tail m.behind.tail (sym n.behind.left ∙ (ap (λ (p : ℕ). drop p bits) begin ∙ m.behind.left)) in
    omega (arith, n.behind.sum, m.behind.sum, begin, zeros)

-- so it is the least one
pub is-next : (format : Format) (bits : List Bool) (e : ℕ) → EndsAtStart format bits e → IsNext format bits e
is-next format bits e here = record { place = here; least = λ f other. omega (arith, one-end format bits e f here other) }

-- a first fault stands within the limit
pub fault-within : (format : Format) (bits : List Bool) (place : ℕ) (why : Why) → FirstFault (next_within_limit format) bits place why → place ≤ limit format
fault-within format bits place why f =
    let c = goes-within format [] (start bits) f.elements f.end f.walk (headers_fit format) in
    omega (arith, c, f.place_is)
  where
    headers_fit : (format : Format) → counted format [] 0 ≤ limit format
    headers_fit Qcif = omega arith
    headers_fit Cif = omega arith

-- ---- PSC by its number

is-start : (xs : List Bool) → length xs ≡ 20 → number xs ≡ 16 → xs ≡ picture_start_code
unfolding field
is-start xs long h = sym (field-number xs) ∙ ap₂ (λ (n : ℕ) (w : ℕ). field n w) h long

start-number : number picture_start_code ≡ 16
unfolding number
start-number = refl

prefix-of : (xs : List Bool) → 20 ≤ length xs → is_prefix picture_start_code xs ≡ is_prefix picture_start_code (take 20 xs)
prefix-of xs long = sym (ap (λ (t : List Bool). is_prefix picture_start_code (take 20 t)) (sym (append-nil xs)) ∙ is_prefix-cut picture_start_code xs [] 20 (omega arith) (omega (arith, long)))

starts-of : (xs : List Bool) → length xs ≡ 20 → (number xs == 16) ≡ is_prefix picture_start_code xs
starts-of xs long = elim (cases_Bool (is_prefix picture_start_code xs)) [
  | inl yes_ ↦
      let split = is_prefix-front picture_start_code xs yes_ in
      let nothing_more : drop 20 xs ≡ [] = no_more (drop 20 xs) (omega (arith, length-drop 20 xs, long)) in
      let is : xs ≡ picture_start_code = split ∙ ap (λ (t : List Bool). picture_start_code ++ t) nothing_more ∙ append-nil picture_start_code in
      ap (λ (t : List Bool). number t == 16) is ∙ ap (λ (n : ℕ). n == 16) start-number ∙ sym yes_
  | inr no_ ↦ elim (cases_Bool (number xs == 16)) [
    | inl is ↦ absurd (false≢true (sym no_ ∙ ap (is_prefix picture_start_code) (is-start xs long (eqb-true (number xs) 16 is)) ∙ refl))
    | inr not_ ↦ not_ ∙ sym no_
  ]
]
  where
    no_more : (ys : List Bool) → length ys ≡ 0 → ys ≡ []
    no_more [] h = refl
    no_more (y ∷ ys) h = absurd (omega (arith, h))

pub start-is : (bits : List Bool) (e n : ℕ) → e + 20 ≤ length bits → n ≡ number (take 20 (drop e bits)) → (n == 16) ≡ is_prefix picture_start_code (drop e bits)
start-is bits e n inside is =
    let long : 20 ≤ length (drop e bits) = omega (arith, inside, length-drop e bits) in
    ap (λ (k : ℕ). k == 16) is ∙ starts-of (take 20 (drop e bits)) (length-take-le 20 (drop e bits) long) ∙ sym (prefix-of (drop e bits) long)

pub no-start : (bits : List Bool) (e : ℕ) → length bits - e < 20 → false ≡ is_prefix picture_start_code (drop e bits)
no-start bits e short = sym (is_prefix_longer picture_start_code (drop e bits) (omega (arith, short, length-drop e bits)))
