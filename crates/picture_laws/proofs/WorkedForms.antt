-- Worked elements of input forms: those that another implementation reads from the bits.
use Rattle.std.specs.Prelude.{◌≡◌, ◌++◌, true, false, [], ◌∷◌, pos, refl}
use Rattle.pel_model.specs.declared.Format.TheVariants.{Qcif, Cif}
use Rattle.pel_model.specs.declared.MbKind.TheVariants.{Inter}
use Rattle.pel_model.specs.Bits.{field, number}
use Rattle.pel_model.specs.Codes.{mba_table, mtype_table, mvd_table, cbp_table, tcoeff_table}
use Rattle.pel_model.specs.Grammar.{Psc, Tr, Ptype, Pei, Pspare, Gbsc, Gn, Gquant, Gei, Gspare, Stuffing, Mba, Mtype, Cbp, Tcoeff, Eob}
use Rattle.pel_model.specs.Spelling.{strict_form}
use Rattle.pel_model.specs.Text.{coefficient_word}
use Rattle.pel_model.proofs.WorkedForms.{dressed, dressed_bits, one_block}
use Rattle.pel_model.proofs.WorkedRecords.{pair, kinds, kinds_elements, vectors, vectors_elements, wide, wide_elements}
use Rattle.picture_laws.specs.PictureElements.{elements_of_picture}
use Rattle.picture_laws.proofs.Chains.{words}

-- ---- strict forms

elements_of_kinds : elements_of_picture Qcif (strict_form kinds) kinds ≡ kinds_elements
unfolding number mvd_table
elements_of_kinds = refl

elements_of_vectors : elements_of_picture Qcif (strict_form vectors) vectors ≡ vectors_elements
unfolding number mvd_table
elements_of_vectors = refl

elements_of_wide : elements_of_picture Cif (strict_form wide) wide ≡ wide_elements
unfolding number mvd_table
elements_of_wide = refl

-- ---- a form with all that a sender may add
elements_of_dressed : elements_of_picture Qcif dressed one_block ≡
    Psc ∷ Tr 1 ∷ Ptype 42 ∷ Pei true ∷ Pspare 0 ∷ Pei true ∷ Pspare 255 ∷ Pei false
    ∷ Gbsc ∷ Gn 1 ∷ Gquant 8 ∷ Gei true ∷ Gspare 69 ∷ Gei false ∷ Stuffing ∷ Stuffing
    ∷ Mba 1 ∷ Mtype Inter ∷ Cbp 32 ∷ Tcoeff (pair 0 (pos 1)) ∷ Eob ∷ Stuffing
    ∷ Gbsc ∷ Gn 5 ∷ Gquant 10 ∷ Gei false ∷ []
unfolding number mvd_table
elements_of_dressed = refl

-- the words of its elements are its text, up to the zeros
dressed_words : words [] (elements_of_picture Qcif dressed one_block) ++ false ∷ false ∷ false ∷ false ∷ false ∷ [] ≡ dressed_bits
unfolding coefficient_word field number mba_table mtype_table mvd_table cbp_table tcoeff_table
dressed_words = refl
