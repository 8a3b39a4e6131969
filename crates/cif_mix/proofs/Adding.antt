-- A CIF picture that gets a group more: one of a picture that is shown, or one that sends nothing.
use Rattle.std.proofs.Common.{◌≡◌, ℕ, zero, suc, ◌+◌, ◌<◌, Bool, List, [], ◌++◌, length, drop, Option, None, Some, true, false, refl, sym, ◌∙◌, ap, arith, length-append}
use Rattle.std.proofs.lemmas.List.{length-take}
use Rattle.h261_pic.proofs.Texts.{length-group_header}
use Rattle.h261_pic.specs.Coded.{Coding, coding, grown, next_number, view_of, group_in, macroblock_bits, marks_in}
use Rattle.pel_model.specs.declared.Format.{Format}
use Rattle.pel_model.specs.declared.Format.TheVariants.{Qcif, Cif}
use Rattle.pel_model.specs.declared.Mark.{Mark}
use Rattle.pel_model.specs.Composed.{or_blank}
use Rattle.pel_model.specs.Records.{Group, Picture, with_group}
use Rattle.pel_model.specs.Regions.{blank, renumbered, empty_group}
use Rattle.pel_model.specs.Text.{group_header}
use Rattle.cif_mix.specs.Rows.{CanGrow, CanGive, IsAdded}
use Rattle.cif_mix.specs.Shows.{Shows}

bits-grown : (old : Coding) (quant : ℕ) (bits : List Bool) (marks : List Mark) → length (grown old quant bits marks).bits ≡ length old.bits + 26 + length bits
bits-grown old quant bits marks =
    omega (
      arith,
      length-append (old.bits ++ group_header (next_number old) quant) bits,
      length-append old.bits (group_header (next_number old) quant),
      length-group_header (next_number old) quant,
    )

groups-grown : (old : Coding) (quant : ℕ) (bits : List Bool) (marks : List Mark) → length (grown old quant bits marks).groups ≡ length old.groups + 1
groups-grown old quant bits marks = length-append old.groups _

-- ---- a group that is copied

abbrev Copies : (picture old new : Coding) (i : ℕ) → Type 0
Copies picture old new i =
    (p q : Picture) → old ≡ coding old.format p → picture ≡ coding picture.format q
    → new ≡ coding old.format (with_group p (renumbered (next_number old) (group_in q i)))

copied-is : (picture old new : Coding) (i : ℕ) → old.format ≡ Cif → picture.format ≡ Qcif → Copies picture old new i
    → (p : Option Picture) (whole : Picture) → Shows true picture p → old ≡ coding Cif whole
    → new ≡ coding Cif (with_group whole (renumbered (next_number old) (group_in (or_blank p) i)))
copied-is picture old new i cif qcif copies None whole shows old_is = absurd shows
copied-is picture old new i cif qcif copies (Some q) whole shows old_is =
    copies whole q (old_is ∙ ap (λ (f : Format). coding f whole) (sym cif)) (shows.0 ∙ ap (λ (f : Format). coding f q) (sym qcif))
    ∙ ap (λ (f : Format). coding f (with_group whole (renumbered (next_number old) (group_in q i)))) cif

pub add-copied : (picture old new : Coding) (i : ℕ) → CanGrow old → CanGive picture i old
    → new ≡ grown old (view_of picture i).quant (macroblock_bits picture i) (marks_in picture i) → Copies picture old new i → IsAdded true picture i old new
add-copied picture old new i grows may grown_is copies =
    let view = view_of picture i in
    let long : length new.bits ≡ length old.bits + 26 + length (macroblock_bits picture i) =
    ap (λ (c : Coding). length c.bits) grown_is ∙ bits-grown old view.quant (macroblock_bits picture i) (marks_in picture i) in
    record {
      cif = ap (λ (c : Coding). c.format) grown_is ∙ grows.cif;
      begun = omega (arith, grows.next.begun, long);
      more = ap (λ (c : Coding). length c.groups) grown_is ∙ groups-grown old view.quant (macroblock_bits picture i) (marks_in picture i);
      long = omega (arith, long, length-take view.len (drop view.from picture.bits));
      is = copied-is picture old new i grows.cif may.qcif copies;
    }

-- ---- a group that sends nothing

empty-is : (i n : ℕ) → i < 3 → empty_group n ≡ renumbered n (group_in blank i)
empty-is zero n less = refl
empty-is (suc zero) n less = refl
empty-is (suc (suc zero)) n less = refl
empty-is (suc (suc (suc i))) n less = absurd (omega arith)

abbrev Empties : (old new : Coding) → Type 0
Empties old new =
    (p : Picture) → old ≡ coding old.format p → new ≡ coding old.format (with_group p (empty_group (next_number old)))

emptied-is : (picture old new : Coding) (i : ℕ) → i < 3 → old.format ≡ Cif → Empties old new
    → (p : Option Picture) (whole : Picture) → Shows false picture p → old ≡ coding Cif whole
    → new ≡ coding Cif (with_group whole (renumbered (next_number old) (group_in (or_blank p) i)))
emptied-is picture old new i less cif empties None whole shows old_is =
    empties whole (old_is ∙ ap (λ (f : Format). coding f whole) (sym cif))
    ∙ ap (λ (f : Format). coding f (with_group whole (empty_group (next_number old)))) cif
    ∙ ap (λ (g : Group). coding Cif (with_group whole g)) (empty-is i (next_number old) less)
emptied-is picture old new i less cif empties (Some q) whole shows old_is = absurd (some-none q shows)
  where
    some-none : (q : Picture) → Some q ≡ None → Prim.⊥
    some-none q e = cc

pub add-empty : (picture old new : Coding) (i : ℕ) → i < 3 → CanGrow old → new ≡ grown old 1 [] [] → Empties old new → IsAdded false picture i old new
add-empty picture old new i less grows grown_is empties =
    let long : length new.bits ≡ length old.bits + 26 + 0 = ap (λ (c : Coding). length c.bits) grown_is ∙ bits-grown old 1 [] [] in
    record {
      cif = ap (λ (c : Coding). c.format) grown_is ∙ grows.cif;
      begun = omega (arith, grows.next.begun, long);
      more = ap (λ (c : Coding). length c.groups) grown_is ∙ groups-grown old 1 [] [];
      long = omega (arith, long);
      is = emptied-is picture old new i less grows.cif empties;
    }
