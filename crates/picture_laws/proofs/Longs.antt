-- How long the words of elements are: 1 to 20 bits.
use Rattle.std.proofs.Common.{◌≡◌, ℕ, ◌<◌, Bool, true, false, List, [], ◌∷◌, ◌++◌, length, nat_lt, refl, sym, ap, subst, inl, inr, ℤ, nat_abs, arith}
use Rattle.std.specs.List.{list_all}
use Rattle.std.proofs.lemmas.Bool.{ltb-true}
use Rattle.std.proofs.lemmas.List.{length-append}
use Rattle.pel_model.specs.declared.MbKind.{MbKind}
use Rattle.pel_model.specs.declared.MbKind.TheVariants.{Intra, IntraQuant, Inter, InterQuant, Mc, McCoded, McQuant, McFil, McFilCoded, McFilQuant}
use Rattle.pel_model.specs.Codes.{mba_table, mtype_table, mvd_table, cbp_table, escape_word, first_one_word, later_one_word}
use Rattle.pel_model.specs.Bits.{field}
use Rattle.pel_model.specs.Text.{word_of, coefficient_word, mtype_word, pair_word, is_negative, twos_complement}
use Rattle.pel_model.specs.Grammar.{Element, Slot, AtPsc, AtTr, AtPtype, AtPei, AtPspare, AtGroup, AtGn, AtGquant, AtGei, AtGspare, AtMacroblock, AtMtype, AtMquant, AtMvd, AtCbp, AtDc, AtFirst, AtCoefficient}
use Rattle.vlc_codes.proofs.FoundRows.{among-all}
use Rattle.picture_laws.proofs.Slots.{word_at, Takes, same_pair, same_bits-true, mvd_words}
use Rattle.picture_laws.proofs.Words.{length-field}
use Rattle.picture_laws.proofs.Written.{found_step, found_pattern}

some_at : (s : Slot) (e x : Element) → e ≡ x → 0 < length (word_at s x) → 0 < length (word_at s e)
some_at s e x is h = subst (λ y. 0 < length (word_at s y)) (sym is) h

mba_some : list_all (λ row. nat_lt 0 (length row.0)) mba_table ≡ true
unfolding mba_table
mba_some = refl

mvd_some : list_all (λ row. nat_lt 0 (length row.0)) mvd_table ≡ true
unfolding mvd_table
mvd_some = refl

cbp_some : list_all (λ row. nat_lt 0 (length row.0)) cbp_table ≡ true
unfolding cbp_table
cbp_some = refl

kind_some : (k : MbKind) → nat_lt 0 (length (mtype_word k)) ≡ true
unfolding mtype_table
kind_some Intra = refl
kind_some IntraQuant = refl
kind_some Inter = refl
kind_some InterQuant = refl
kind_some Mc = refl
kind_some McCoded = refl
kind_some McQuant = refl
kind_some McFil = refl
kind_some McFilCoded = refl
kind_some McFilQuant = refl

parts_some : (one : List Bool) (run : ℕ) (level : ℤ) (long : Bool) → 0 < length (coefficient_word one (record { run = run; level = level; long = long }))
unfolding coefficient_word
parts_some one run level true = omega (arith, length-append (escape_word ++ field run 6) (field (twos_complement level) 8), length-field (twos_complement level) 8)
parts_some one run level false = omega (arith, length-append (pair_word one run (nat_abs level)) (is_negative level ∷ []))

-- each element has bits
pub word-some : (s : Slot) (e : Element) → Takes s e → 0 < length (word_at s e)
word-some AtPsc e t = some_at AtPsc e _ t (omega arith)
word-some AtTr e t = some_at AtTr e _ t.2 (omega (arith, length-field t.0 5))
word-some AtPtype e t = some_at AtPtype e _ t.2 (omega (arith, length-field t.0 6))
word-some AtPei e t = some_at AtPei e _ t.1 (omega arith)
word-some AtPspare e t = some_at AtPspare e _ t.2 (omega (arith, length-field t.0 8))
word-some AtGroup e t = some_at AtGroup e _ t (omega arith)
word-some AtGn e t = some_at AtGn e _ t.2 (omega (arith, length-field t.0 4))
word-some AtGquant e t = some_at AtGquant e _ t.2 (omega (arith, length-field t.0 5))
word-some AtGei e t = some_at AtGei e _ t.1 (omega arith)
word-some AtGspare e t = some_at AtGspare e _ t.2 (omega (arith, length-field t.0 8))
word-some AtMacroblock e t = elim t [
  | inl a ↦ let f = found_step a.0 a.1 in some_at AtMacroblock e _ a.2 (omega (arith, ap length f.2, ltb-true 0 (length f.0.0) (among-all (λ row. nat_lt 0 (length row.0)) f.0 mba_table mba_some f.1)))
  | inr a ↦ elim a [ inl b ↦ some_at AtMacroblock e _ b (omega arith) | inr b ↦ some_at AtMacroblock e _ b (omega arith) ]
]
word-some AtMtype e t = some_at AtMtype e _ t.1 (ltb-true 0 (length (mtype_word t.0)) (kind_some t.0))
word-some AtMquant e t = some_at AtMquant e _ t.2 (omega (arith, length-field t.0 5))
word-some (AtMvd axis) e t =
    let w : word_of (λ w. same_pair w t.0.1) mvd_table ≡ t.0.0 = same_bits-true _ _ (among-all _ t.0 mvd_table mvd_words t.1) in
    some_at (AtMvd axis) e _ t.2 (omega (arith, ap length w, ltb-true 0 (length t.0.0) (among-all (λ row. nat_lt 0 (length row.0)) t.0 mvd_table mvd_some t.1)))
word-some AtCbp e t = let f = found_pattern t.0 t.1 in some_at AtCbp e _ t.2 (omega (arith, ap length f.2, ltb-true 0 (length f.0.0) (among-all (λ row. nat_lt 0 (length row.0)) f.0 cbp_table cbp_some f.1)))
word-some AtDc e t = some_at AtDc e _ t.2 (omega (arith, length-field t.0 8))
word-some AtFirst e t = some_at AtFirst e _ t.2 (parts_some first_one_word t.0.run t.0.level t.0.long)
word-some AtCoefficient e t = elim t [
  | inl a ↦ some_at AtCoefficient e _ a.2 (parts_some later_one_word a.0.run a.0.level a.0.long)
  | inr b ↦ some_at AtCoefficient e _ b (omega arith)
]
