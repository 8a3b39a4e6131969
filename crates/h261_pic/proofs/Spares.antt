-- Spare bytes as far as they were passed.
use Rattle.std.proofs.Common.{◌≡◌, ℕ, Bool, true, false, List, [], ◌∷◌, ◌++◌, refl, sym, ◌∙◌, ap, subst, append_assoc}
use Rattle.std.proofs.lemmas.Grind.{flat_map-append}
use Rattle.pel_model.specs.declared.Fault.{Fault}
use Rattle.pel_model.specs.Walk.{Standing, Good, Bad, skipped, after, Goes, FailsBehind}
use Rattle.pel_model.specs.Grammar.{Element, slot}
use Rattle.pel_model.proofs.Walks.{after-append, goes-append, goes_more}
use Rattle.h261_pic.specs.HeaderElements.{Layer, OfPicture, OfGroup, flag_of, spare_of, flag_slot, spare_slot, spares_so_far, spares_of, AreSparesSoFar}

-- flags with their bytes were passed, and a flag is due
pub record SparesSoFar (next : List Element → List Bool × ℕ → Standing Element) (before : List Element) (layer : Layer) (old new : List Bool × ℕ) : Type 0 where
  pub octets : List ℕ
  pub walk : Goes next before old (spares_so_far layer octets) new
  pub due : slot (after before (spares_so_far layer octets)) ≡ flag_slot layer

-- a spare byte is due behind a flag of 1, and a flag behind it
pub slot-flag : (layer : Layer) (before : List Element) → slot (flag_of layer true ∷ before) ≡ spare_slot layer
slot-flag OfPicture before = refl
slot-flag OfGroup before = refl

slot-spare : (layer : Layer) (octet : ℕ) (before : List Element) → slot (spare_of layer octet ∷ before) ≡ flag_slot layer
slot-spare OfPicture octet before = refl
slot-spare OfGroup octet before = refl

one_more : (layer : Layer) (octets : List ℕ) (octet : ℕ) → spares_so_far layer (octets ++ octet ∷ []) ≡ spares_so_far layer octets ++ flag_of layer true ∷ spare_of layer octet ∷ []
one_more layer octets octet = flat_map-append (λ (o : ℕ). flag_of layer true ∷ spare_of layer o ∷ []) octets (octet ∷ [])

module _ (next : List Element → List Bool × ℕ → Standing Element) (before : List Element) (layer : Layer) where
  pub none_yet : (old : List Bool × ℕ) → slot before ≡ flag_slot layer → SparesSoFar next before layer old old
  none_yet old due = record { octets = []; walk = refl; due = due }

  module _ (old mid : List Bool × ℕ) (so_far : SparesSoFar next before layer old mid) where
    abbrev pub had : List Element
    had = spares_so_far layer so_far.octets

    -- the flag is cut
    pub cut_flag : (new : List Bool × ℕ) (f : Fault) → next (after before had) mid ≡ Bad f.why → f.place ≡ mid.1 → new ≡ mid → FailsBehind next before (AreSparesSoFar layer) f old new
    cut_flag new f bad at stayed =
        subst (FailsBehind next before (AreSparesSoFar layer) f old) (sym stayed) record { elements = had; walk = so_far.walk; part = (so_far.octets, flag_of layer false, [], refl); bad = bad; place = at }

    -- the flag is 0
    pub all_passed : (new : List Bool × ℕ) (m : ℕ) → next (after before had) mid ≡ Good (flag_of layer false) m → new ≡ skipped m mid → Goes next before old (spares_of layer so_far.octets) new
    all_passed new m step moved =
        subst (λ (end : List Bool × ℕ). Goes next before old (spares_of layer so_far.octets) end) (sym moved) (goes_more next before old mid had (flag_of layer false) m so_far.walk step)

    module _ (flag : List Bool × ℕ) (m : ℕ) (step : next (after before had) mid ≡ Good (flag_of layer true) m) (moved : flag ≡ skipped m mid) where
      to_flag : Goes next before old (had ++ flag_of layer true ∷ []) flag
      to_flag =
          subst (λ (end : List Bool × ℕ). Goes next before old (had ++ flag_of layer true ∷ []) end) (sym moved) (goes_more next before old mid had (flag_of layer true) m so_far.walk step)

      behind_flag : after before (had ++ flag_of layer true ∷ []) ≡ flag_of layer true ∷ after before had
      behind_flag = after-append before had (flag_of layer true ∷ [])

      -- a byte is due, and is cut
      goes_on : (had ++ flag_of layer true ∷ []) ++ spare_of layer 0 ∷ flag_of layer false ∷ [] ≡ spares_of layer (so_far.octets ++ 0 ∷ [])
      goes_on =
          append_assoc had (flag_of layer true ∷ []) (spare_of layer 0 ∷ flag_of layer false ∷ [])
          ∙ (sym (append_assoc had (flag_of layer true ∷ spare_of layer 0 ∷ []) (flag_of layer false ∷ []))
          ∙ ap (λ (es : List Element). es ++ flag_of layer false ∷ []) (sym (one_more layer so_far.octets 0)))

      pub cut_spare : (new : List Bool × ℕ) (f : Fault) → next (flag_of layer true ∷ after before had) flag ≡ Bad f.why → f.place ≡ flag.1 → new ≡ flag → FailsBehind next before (AreSparesSoFar layer) f old new
      cut_spare new f bad at stayed =
          let behind : next (after before (had ++ flag_of layer true ∷ [])) flag ≡ Bad f.why = ap (λ (es : List Element). next es flag) behind_flag ∙ bad in
          subst (FailsBehind next before (AreSparesSoFar layer) f old) (sym stayed) record { elements = had ++ flag_of layer true ∷ []; walk = to_flag; part = (so_far.octets ++ 0 ∷ [], spare_of layer 0, flag_of layer false ∷ [], goes_on); bad = behind; place = at }

      -- a byte was passed
      pub one_passed : (new : List Bool × ℕ) (octet n : ℕ) → next (flag_of layer true ∷ after before had) flag ≡ Good (spare_of layer octet) n → new ≡ skipped n flag → SparesSoFar next before layer old new
      one_passed new octet n there on =
          let both : List Element = flag_of layer true ∷ spare_of layer octet ∷ [] in
          let from : next (flag_of layer true ∷ after before had) (skipped m mid) ≡ Good (spare_of layer octet) n = ap (λ (r : List Bool × ℕ). next (flag_of layer true ∷ after before had) r) (sym moved) ∙ there in
          let end : new ≡ skipped n (skipped m mid) = on ∙ ap (skipped n) moved in
          let walk : Goes next before old (had ++ both) new = goes-append next before old mid new had both so_far.walk (m, step, (n, from, end)) in
          record {
            octets = so_far.octets ++ octet ∷ [];
            walk = subst (λ (es : List Element). Goes next before old es new) (sym (one_more layer so_far.octets octet)) walk;
            due =
                ap (λ (es : List Element). slot (after before es)) (one_more layer so_far.octets octet)
                ∙ (ap slot (after-append before had both) ∙ slot-spare layer octet (flag_of layer true ∷ after before had));
          }
