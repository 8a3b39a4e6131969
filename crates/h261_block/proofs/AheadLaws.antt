-- Words of TCOEFF that stand one after another, whatever follows them.
use Rattle.std.proofs.Common.{◌≡◌, ℕ, ◌+◌, ◌≤◌, ◌==◌, ◌&&◌, Bool, true, false, cond, List, [], ◌∷◌, ◌++◌, length, map, drop, Option, Some, None, Result, Ok, Err, nat_lt, refl, sym, ◌∙◌, ap, subst, arith, append_assoc}
use Rattle.std.specs.List.{find}
use Rattle.std.proofs.lemmas.Bool.{ne_eqb, cond-false, le-ltb}
use Rattle.std.proofs.lemmas.List.{drop-drop, drop-append-le}
use Rattle.pel_model.specs.declared.Fault.{Fault}
use Rattle.pel_model.specs.declared.Format.{Format}
use Rattle.pel_model.specs.declared.Why.TheVariants.{BadLevel, TooMany}
use Rattle.pel_model.specs.Codes.{is_prefix, is_prefix_free, end_of_block_word}
use Rattle.pel_model.specs.Records.{Coefficient}
use Rattle.pel_model.specs.Walk.{Standing, Good, Bad, Row, read, word_at, skipped, after, Goes, IsFault, FailsBehind, Walked}
use Rattle.pel_model.specs.Grammar.{Element, Tcoeff, Eob, slot, AtFirst, AtCoefficient, filled, rows, first_rows, later_rows, coefficient_rows, word_row, faults, first_why, is_forbidden_level, next}
use Rattle.pel_model.proofs.Walks.{goes-append, after-append}
use Rattle.vlc_codes.specs.Lookup.{codes_of_rows}
use Rattle.vlc_codes.proofs.Computed.{slots_free}
use Rattle.vlc_codes.proofs.FoundRows.{read-more}
use Rattle.h261_block.specs.Ahead.{filling, elements, AreWanted, AreElements, AreWords, MayStand}
use Rattle.h261_block.proofs.BlockSteps.{coefficient-good}

-- ---- coefficients behind others

pub filling-append : (cs ds : List Coefficient) → filling (cs ++ ds) ≡ filling cs + filling ds
filling-append [] ds = omega arith
filling-append (c ∷ cs) ds = omega (arith, filling-append cs ds)

pub elements-append : (cs ds : List Coefficient) (ends : Bool) → elements cs false ++ elements ds ends ≡ elements (cs ++ ds) ends
elements-append [] ds ends = refl
elements-append (c ∷ cs) ds ends = ap (λ t. Tcoeff c ∷ t) (elements-append cs ds ends)

pub elements-map : (cs : List Coefficient) → elements cs false ≡ map Tcoeff cs
elements-map [] = refl
elements-map (c ∷ cs) = ap (λ t. Tcoeff c ∷ t) (elements-map cs)

pub elements-filled : (es : List Element) (cs : List Coefficient) → filled (after es (elements cs false)) ≡ filled es + filling cs
elements-filled es [] = omega arith
elements-filled es (c ∷ cs) = elements-filled (Tcoeff c ∷ es) cs ∙ omega arith

none_before : (a b : ℕ) → (a + b + 1 == 0) ≡ false
none_before a b = ne_eqb (a + b + 1) 0 (λ h. omega arith)

pub elements-slot : (es : List Element) (cs : List Coefficient) (before : ℕ) → slot es ≡ cond (before == 0) AtFirst AtCoefficient → slot (after es (elements cs false)) ≡ cond (before + filling cs == 0) AtFirst AtCoefficient
elements-slot es [] before due = due ∙ ap (λ n. cond (n == 0) AtFirst AtCoefficient) (omega arith)
elements-slot es (c ∷ cs) before due =
    elements-slot (Tcoeff c ∷ es) cs (before + c.run + 1) (ap (λ b. cond b AtFirst AtCoefficient) (sym (none_before before c.run)))
    ∙ ap (λ n. cond (n == 0) AtFirst AtCoefficient) (omega arith)

-- ---- words that go

same_place : (bits : List Bool) (place : ℕ) → ◌≡◌ {A = List Bool × ℕ} (bits, place + 0) (bits, place)
same_place bits place = ap (λ (k : ℕ). (bits, k)) (omega arith)

pub no-words : (bits : List Bool) (n : ℕ) → AreWords bits 0 n n false
no-words bits n = record { coefficients = []; count = omega arith; go = λ format es more place due full. same_place (bits ++ more) place }

pub more-words : (bits : List Bool) (u v a b c : ℕ) (ends : Bool) → AreWords bits u a b false → AreWords (drop u bits) v b c ends → AreWords bits (u + v) a c ends
more-words bits u v a b c ends first second = record {
  coefficients = first.coefficients ++ second.coefficients;
  count = omega (arith, first.count, second.count, filling-append first.coefficients second.coefficients);
  go = λ format es more place due full.
      let behind : List Element = after es (elements first.coefficients false) in
      let due_behind : slot behind ≡ cond (b == 0) AtFirst AtCoefficient =
      elements-slot es first.coefficients a due ∙ ap (λ n. cond (n == 0) AtFirst AtCoefficient) (sym first.count) in
      let full_behind : filled behind ≡ b = elements-filled es first.coefficients ∙ omega (arith, full, first.count) in
      let here = first.go format es more place due full in
      let there = second.go format behind more (place + u) due_behind full_behind in
      let end : List Bool × ℕ = (drop v (drop u bits) ++ more, place + u + v) in
      let end_is : ◌≡◌ {A = List Bool × ℕ} end (drop (u + v) bits ++ more, place + (u + v)) =
      ap (λ (t : List Bool). (t ++ more, place + u + v)) (drop-drop v u bits) ∙ ap (λ (n : ℕ). (drop (u + v) bits ++ more, n)) (omega arith) in
      let all = goes-append (next format) es (bits ++ more, place) (drop u bits ++ more, place + u) end (elements first.coefficients false) (elements second.coefficients ends) here there in
      subst (λ (xs : List Element). Goes (next format) es (bits ++ more, place) xs (drop (u + v) bits ++ more, place + (u + v))) (elements-append first.coefficients second.coefficients ends)
      (subst (λ (r : List Bool × ℕ). Goes (next format) es (bits ++ more, place) (elements first.coefficients false ++ elements second.coefficients ends) r) end_is all);
}

pub words-before : (bits behind : List Bool) (u a b : ℕ) (ends : Bool) → u ≤ length bits → AreWords bits u a b ends → AreWords (bits ++ behind) u a b ends
words-before bits behind u a b ends inside words = record {
  coefficients = words.coefficients;
  count = words.count;
  go = λ format es more place due full.
      let from : ◌≡◌ {A = List Bool × ℕ} (bits ++ (behind ++ more), place) ((bits ++ behind) ++ more, place) = ap (λ (t : List Bool). (t, place)) (sym (append_assoc bits behind more)) in
      let to : ◌≡◌ {A = List Bool × ℕ} (drop u bits ++ (behind ++ more), place + u) (drop u (bits ++ behind) ++ more, place + u) =
      ap (λ (t : List Bool). (t, place + u)) (sym (append_assoc (drop u bits) behind more) ∙ ap (λ (t : List Bool). t ++ more) (sym (drop-append-le u bits behind inside))) in
      subst (λ (r : List Bool × ℕ). Goes (next format) es r (elements words.coefficients ends) (drop u (bits ++ behind) ++ more, place + u)) from
      (subst (λ (r : List Bool × ℕ). Goes (next format) es (bits ++ (behind ++ more), place) (elements words.coefficients ends) r) to (words.go format es (behind ++ more) place due full));
}

-- ---- a word, by the rows of the place where it stands

pub later_free : is_prefix_free (codes_of_rows later_rows) ≡ true
unfolding rows
later_free = slots_free AtCoefficient

find-none-last : {A : Type 0} (test : A → Bool) (xs : List A) (y : A) → test y ≡ false → find test (xs ++ y ∷ []) ≡ find test xs
find-none-last test [] y other = cond-false (test y) (Some y) None other
find-none-last test (x ∷ xs) y other = ap (λ t. cond (test x) (Some x) t) (find-none-last test xs y other)

-- a word that begins with 0 is one of the rows that both have
zero_read : (bits : List Bool) (e : Element) (n : ℕ) (row : Option (Row Element)) → find (λ row. is_prefix row.code (false ∷ bits)) coefficient_rows ≡ row → word_at later_rows (false ∷ bits) row ≡ Good e n → word_at first_rows (false ∷ bits) row ≡ Good e n
zero_read bits e n (Some row) found is = is
zero_read bits e n None found is = absurd cc

zero_later : (bits : List Bool) → find (λ row. is_prefix row.code (false ∷ bits)) later_rows ≡ find (λ row. is_prefix row.code (false ∷ bits)) coefficient_rows
zero_later bits = find-none-last (λ row. is_prefix row.code (false ∷ bits)) coefficient_rows (word_row end_of_block_word Eob) refl

read-zero : (bits : List Bool) (e : Element) (n : ℕ) → read later_rows (false ∷ bits) ≡ Good e n → read first_rows (false ∷ bits) ≡ Good e n
read-zero bits e n is =
    zero_read bits e n (find (λ row. is_prefix row.code (false ∷ bits)) coefficient_rows) refl (ap (λ row. word_at later_rows (false ∷ bits) row) (sym (zero_later bits)) ∙ is)

-- a later word where it may stand, whatever follows the bits
pub read-at : (first : Bool) (bits more : List Bool) (e : Element) (n : ℕ) → MayStand first bits → read later_rows bits ≡ Good e n → read (cond first first_rows later_rows) (bits ++ more) ≡ Good e n
read-at false bits more e n may is = read-more later_rows bits more e n later_free is
read-at true [] more e n may is = absurd may
read-at true (true ∷ bits) more e n may is = absurd may
read-at true (false ∷ bits) more e n may is = read-zero (bits ++ more) e n (read-more later_rows (false ∷ bits) more e n later_free is)

-- ---- one word

-- a coefficient is good where it is no forbidden level and has its place
pub coefficient_fine : (format : Format) (es : List Element) (c : Coefficient) → (c.long && is_forbidden_level c.level) ≡ false → filled es + c.run + 1 ≤ 64 → first_why (faults format es (Tcoeff c)) ≡ None
coefficient_fine format es c allowed room =
    cond-false (c.long && is_forbidden_level c.level) (Some BadLevel) (cond (nat_lt 64 (filled es + c.run + 1)) (Some TooMany) None) allowed
    ∙ cond-false (nat_lt 64 (filled es + c.run + 1)) (Some TooMany) None (le-ltb 64 (filled es + c.run + 1) room)

pub one-coefficient : (bits : List Bool) (c : Coefficient) (n before : ℕ) → ((more : List Bool) → read (cond (before == 0) first_rows later_rows) (bits ++ more) ≡ Good (Tcoeff c) n) → n ≤ length bits → (c.long && is_forbidden_level c.level) ≡ false → before + c.run + 1 ≤ 64 → AreWords bits n before (before + (c.run + 1)) false
one-coefficient bits c n before is inside allowed room = record {
  coefficients = c ∷ [];
  count = omega arith;
  go = λ format es more place due full.
      (n, coefficient-good format es (bits ++ more, place) (before == 0) (Tcoeff c) n due (is more) (coefficient_fine format es c allowed (omega (arith, full))), ap (λ (t : List Bool). (t, place + n)) (sym (drop-append-le n bits more inside)));
}

pub one-end : (bits : List Bool) (n before : ℕ) → ((more : List Bool) → read (cond (before == 0) first_rows later_rows) (bits ++ more) ≡ Good Eob n) → n ≤ length bits → AreWords bits n before before true
one-end bits n before is inside = record {
  coefficients = [];
  count = omega arith;
  go = λ format es more place due full.
      (n, coefficient-good format es (bits ++ more, place) (before == 0) Eob n due (is more) refl, ap (λ (t : List Bool). (t, place + n)) (sym (drop-append-le n bits more inside)));
}

-- ---- what a reader of words answers

-- words, and what was answered behind them
pub taken-behind : (next : List Element → List Bool × ℕ → Standing Element) (es : List Element) (before behind : ℕ) (old mid new : List Bool × ℕ) (cs : List Coefficient) (result : Result (Option ℕ) Fault) → Goes next es old (elements cs false) mid → behind ≡ before + filling cs → Walked next (after es (elements cs false)) (λ n es _. AreWanted behind n es) (AreElements false) result mid new → Walked next es (λ n es _. AreWanted before n es) (AreElements false) result old new
taken-behind next es before behind old mid new cs (Ok (Some n)) here count took = record {
  elements = elements cs false ++ took.elements;
  walk = goes-append next es old mid new (elements cs false) took.elements here took.walk;
  wanted = record {
    coefficients = cs ++ took.wanted.coefficients;
    are = ap (λ t. elements cs false ++ t) took.wanted.are ∙ elements-append cs took.wanted.coefficients false;
    count = omega (arith, took.wanted.count, count, filling-append cs took.wanted.coefficients);
  };
}
taken-behind next es before behind old mid new cs (Ok None) here count took = record {
  elements = elements cs false ++ took.elements;
  walk = goes-append next es old mid new (elements cs false) took.elements here took.walk;
  wanted = record {
    coefficients = cs ++ took.wanted.coefficients;
    are = ap (λ t. elements cs false ++ t) took.wanted.are ∙ elements-append cs took.wanted.coefficients true;
  };
}
taken-behind next es before behind old mid new cs (Err f) here count took = record {
  elements = elements cs false ++ took.elements;
  walk = goes-append next es old mid new (elements cs false) took.elements here took.walk;
  part = record {
    coefficients = cs ++ took.part.coefficients;
    are = ap (λ t. elements cs false ++ t) took.part.are ∙ elements-append cs took.part.coefficients false;
  };
  bad = subst (λ (b : List Element). next b new ≡ Bad f.why) (sym (after-append es (elements cs false) took.elements)) took.bad;
  place = took.place;
}

-- one coefficient
pub one-taken : (next : List Element → List Bool × ℕ → Standing Element) (es : List Element) (before : ℕ) (old new : List Bool × ℕ) (c : Coefficient) (n behind : ℕ) → next es old ≡ Good (Tcoeff c) n → new ≡ skipped n old → behind ≡ before + c.run + 1 → Walked next es (λ n es _. AreWanted before n es) (AreElements false) (Ok (Some behind)) old new
one-taken next es before old new c n behind good moved count = record {
  elements = Tcoeff c ∷ [];
  walk = (n, good, moved);
  wanted = record { coefficients = c ∷ []; are = refl; count = omega (arith, count) };
}

-- the end of the block
pub end-taken : (next : List Element → List Bool × ℕ → Standing Element) (es : List Element) (before : ℕ) (old new : List Bool × ℕ) (n : ℕ) → next es old ≡ Good Eob n → new ≡ skipped n old → Walked next es (λ n es _. AreWanted before n es) (AreElements false) (Ok None) old new
end-taken next es before old new n good moved = record {
  elements = Eob ∷ [];
  walk = (n, good, moved);
  wanted = record { coefficients = []; are = refl };
}

-- a fault
pub none-taken : (next : List Element → List Bool × ℕ → Standing Element) (es : List Element) (before : ℕ) (f : Fault) (old new : List Bool × ℕ) → IsFault (next es old) f old new → Walked {X = Option ℕ} next es (λ n es _. AreWanted before n es) (AreElements false) (Err f) old new
none-taken next es before f old new fault = subst (λ (r : List Bool × ℕ). FailsBehind next es (AreElements false) f old r) (sym fault.kept) (record {
  elements = [];
  walk = refl;
  part = record { coefficients = []; are = refl };
  bad = fault.bad;
  place = fault.place;
})
