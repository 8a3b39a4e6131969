-- What happens at packets is told in one way.
use Rattle.std.proofs.Common.{◌≡◌, ◌++◌, Bool, List, [], ◌∷◌, Option, Some, None, refl, sym, ◌∙◌, ap, ap₂, map, append-nil, append_assoc}
use Rattle.pel_model.specs.declared.Format.{Format}
use Rattle.picture_laws.specs.Laws.{OneRecord, OneFault, NeverBoth}
use Rattle.rtp_h261.specs.Packets.{piece_of}
use Rattle.rtp_h261.specs.Units.{Given, all_given}
use Rattle.rtp_h261.specs.Events.{Event, Lost, Shown, Refused, IsEvent, AreUnitEvents, lost_events, Happens, HappenAt, LawOfOneTelling}

one_unit : OneRecord → OneFault → NeverBoth → (format : Format) (bits : List Bool) (x y : Event) → IsEvent format bits x → IsEvent format bits y → x ≡ y
one_unit record_ fault never format bits Lost y h k = absurd h
one_unit record_ fault never format bits (Shown p) Lost h k = absurd k
one_unit record_ fault never format bits (Shown p) (Shown q) h k = ap Shown (record_ format bits p q h k)
one_unit record_ fault never format bits (Shown p) (Refused place why) h k = absurd (never format bits p place why h k)
one_unit record_ fault never format bits (Refused place why) Lost h k = absurd k
one_unit record_ fault never format bits (Refused place why) (Shown q) h k = absurd (never format bits q place why k h)
one_unit record_ fault never format bits (Refused place why) (Refused at reason) h k =
    let same = fault format bits place at why reason h k in ap₂ Refused same.0 same.1

one_unit_of : OneRecord → OneFault → NeverBoth → (format : Format) (unit : Option (List Bool)) (es fs : List Event)
    → AreUnitEvents format unit es → AreUnitEvents format unit fs → es ≡ fs
one_unit_of record_ fault never format None es fs h k = h ∙ sym k
one_unit_of record_ fault never format (Some bits) es fs h k =
    h.1 ∙ ap (λ (e : Event). e ∷ []) (one_unit record_ fault never format bits h.0 k.0 h.2 k.2) ∙ sym k.1

one_list : OneRecord → OneFault → NeverBoth → (format : Format) (given : List Given) (es fs : List Event)
    → HappenAt format given es → HappenAt format given fs → es ≡ fs
one_list record_ fault never format [] es fs h k = h ∙ sym k
one_list record_ fault never format (g ∷ gs) es fs h k =
    let first : h.0 ≡ k.0 =
    h.2.order ∙ ap (λ (us : List Event). lost_events g.lost ++ us) (one_unit_of record_ fault never format g.unit h.2.unit k.2.unit h.2.is_unit k.2.is_unit)
    ∙ sym k.2.order in
    h.4 ∙ ap₂ (λ (xs : List Event) (ys : List Event). xs ++ ys) first (one_list record_ fault never format gs h.1 k.1 h.3 k.3) ∙ sym k.4

pub one_telling : OneRecord → OneFault → NeverBoth → LawOfOneTelling
one_telling record_ fault never format packets es fs h k =
    one_list record_ fault never format (all_given (map piece_of packets)) es fs h k

-- what happens at one packet more
pub one_more : (format : Format) (gs : List Given) (g : Given) (es fs : List Event) → HappenAt format gs es → Happens format g fs
    → HappenAt format (gs ++ g ∷ []) (es ++ fs)
one_more format [] g es fs h k = (fs, [], k, refl, ap (λ (xs : List Event). xs ++ fs) h ∙ sym (append-nil fs))
one_more format (x ∷ gs) g es fs h k =
    (h.0, h.1 ++ fs, h.2, one_more format gs g h.1 fs h.3 k, ap (λ (xs : List Event). xs ++ fs) h.4 ∙ append_assoc h.0 h.1 fs)
