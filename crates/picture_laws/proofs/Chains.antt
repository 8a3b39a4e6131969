-- Elements that may stand one behind another, and their words: walks without their bits.
use Rattle.std.proofs.Common.{◌≡◌, ℕ, ◌+◌, ◌==◌, ◌&&◌, not, Bool, true, false, List, [], ◌∷◌, ◌++◌, length, drop, Option, Some, None, nat_lt, refl, sym, ◌∙◌, ap, inl, inr, append_assoc, arith}
use Rattle.std.proofs.lemmas.Bool.{cases_Bool, cond-false, cond-true}
use Rattle.std.specs.List.{list_any, list_all}
use Rattle.std.proofs.lemmas.List.{length-append, drop_at}
use Rattle.pel_model.specs.declared.Format.{Format}
use Rattle.pel_model.specs.declared.Why.{Why}
use Rattle.pel_model.specs.declared.Why.TheVariants.{NoCode}
use Rattle.pel_model.specs.Codes.{mba_table}
use Rattle.pel_model.specs.Text.{word_of}
use Rattle.pel_model.specs.Walk.{Standing, Good, Stop, Bad, skipped, after, Goes, read, judged, verdict}
use Rattle.pel_model.specs.Grammar.{Element, Slot, AtPsc, AtGroup, AtMacroblock, slot, rows, faults, first_why, may_end, is_end, or_no_start, at_slot, next}
use Rattle.vlc_codes.proofs.FoundRows.{among-all}
use Rattle.picture_laws.proofs.Slots.{word_at, Takes, IsStep}
use Rattle.picture_laws.proofs.Words.{IsWord, read-slot}
use Rattle.picture_laws.proofs.Written.{write-slot, found_step}

-- an element may stand behind these, and is good there
pub record Stands (format : Format) (before : List Element) (e : Element) : Type 0 where
  pub takes : Takes (slot before) e
  pub good : first_why (faults format before e) ≡ None

-- elements each of which stands behind those before it
abbrev pub Chain : Format → List Element → List Element → Type 0
Chain format before [] = Unit {0}
Chain format before (e ∷ es) = Stands format before e × Chain format (e ∷ before) es

abbrev pub word_in : List Element → Element → List Bool
word_in before e = word_at (slot before) e

abbrev pub words : List Element → List Element → List Bool
words before [] = []
words before (e ∷ es) = word_in before e ++ words (e ∷ before) es

-- ---- parts

pub chain-append : (format : Format) (before xs ys : List Element) → Chain format before xs → Chain format (after before xs) ys → Chain format before (xs ++ ys)
chain-append format before [] ys p q = q
chain-append format before (x ∷ xs) ys p q = (p.0, chain-append format (x ∷ before) xs ys p.1 q)

pub chain-left : (format : Format) (before xs ys : List Element) → Chain format before (xs ++ ys) → Chain format before xs
chain-left format before [] ys p = tt
chain-left format before (x ∷ xs) ys p = (p.0, chain-left format (x ∷ before) xs ys p.1)

pub chain-right : (format : Format) (before xs ys : List Element) → Chain format before (xs ++ ys) → Chain format (after before xs) ys
chain-right format before [] ys p = p
chain-right format before (x ∷ xs) ys p = chain-right format (x ∷ before) xs ys p.1

pub words-append : (before xs ys : List Element) → words before (xs ++ ys) ≡ words before xs ++ words (after before xs) ys
words-append before [] ys = refl
words-append before (x ∷ xs) ys = ap (λ t. word_in before x ++ t) (words-append (x ∷ before) xs ys) ∙ sym (append_assoc (word_in before x) (words (x ∷ before) xs) (words (after (x ∷ before) xs) ys))

-- ---- one step

verdict_good : {E : Type 0} (x e : E) (m n : ℕ) (o : Option Why) → verdict x m o ≡ Good e n → (o ≡ None) × (Good x m ≡ Good e n)
verdict_good x e m n None h = (refl, h)
verdict_good x e m n (Some why) h = absurd cc

judge_same : {E : Type 0} (judge : E → ℕ → Option Why) (x e : E) (m n : ℕ) → Good x m ≡ Good e n → judge x m ≡ None → judge e n ≡ None
judge_same judge x e m n same h =
    let a : x ≡ e = cc in
    let b : m ≡ n = cc in
    ap (λ k. judge e k) (sym b) ∙ (ap (λ y. judge y m) (sym a) ∙ h)

pub judged_good : {E : Type 0} (judge : E → ℕ → Option Why) (s : Standing E) (e : E) (n : ℕ) → judged judge s ≡ Good e n → (s ≡ Good e n) × (judge e n ≡ None)
judged_good judge (Good x m) e n h = let v = verdict_good x e m n (judge x m) h in (v.1, judge_same judge x e m n v.1 v.0)
judged_good judge Stop e n h = absurd cc
judged_good judge (Bad why) e n h = absurd cc

pub judged_here : {E : Type 0} (judge : E → ℕ → Option Why) (s : Standing E) (e : E) (n : ℕ) → s ≡ Good e n → judge e n ≡ None → judged judge s ≡ Good e n
judged_here judge s e n is ok = ap (judged judge) is ∙ ap (verdict e n) ok

or_good : (s : Slot) (step : Standing Element) (e : Element) (n : ℕ) → or_no_start s step ≡ Good e n → step ≡ Good e n
or_good AtPsc (Bad NoCode) e n h = absurd cc
or_good _ found e n h = h

or_here : (s : Slot) (step : Standing Element) (e : Element) (n : ℕ) → step ≡ Good e n → or_no_start s step ≡ Good e n
or_here AtPsc (Bad NoCode) e n h = absurd cc
or_here _ found e n h = h

stop_good : {E : Type 0} (e : E) (n : ℕ) → Stop ≡ Good e n → ⊥
stop_good e n h = cc

pub slot_good : (s : Slot) (left : List Bool) (e : Element) (n : ℕ) → at_slot s left ≡ Good e n → (read (rows s) left ≡ Good e n) × ((may_end s && is_end left) ≡ false)
slot_good s left e n h = elim (cases_Bool (may_end s && is_end left)) [
  | inl end ↦ absurd (stop_good e n (sym (cond-true (may_end s && is_end left) Stop (or_no_start s (read (rows s) left)) end) ∙ h))
  | inr on ↦ (or_good s (read (rows s) left) e n (sym (cond-false (may_end s && is_end left) Stop (or_no_start s (read (rows s) left)) on) ∙ h), on)
]

pub next-is : (format : Format) (before : List Element) (r : List Bool × ℕ) (e : Element) (n : ℕ) → next format before r ≡ Good e n → Stands format before e × IsWord (slot before) r.0 e n
unfolding next
next-is format before r e n h =
    let j = judged_good (λ e n. first_why (faults format before e)) (at_slot (slot before) r.0) e n h in
    let s = slot_good (slot before) r.0 e n j.0 in
    let w = read-slot (slot before) r.0 e n s.0 in
    (record { takes = w.0; good = j.1 }, w.1)

-- ---- a word is no lawful end

any_left : (xs ys : List Bool) → list_any (λ b. b) xs ≡ true → list_any (λ b. b) (xs ++ ys) ≡ true
any_left [] ys h = absurd cc
any_left (true ∷ xs) ys h = refl
any_left (false ∷ xs) ys h = any_left xs ys h

and_not : (a b c : Bool) → c ≡ true → (a && (b && not c)) ≡ false
and_not true true true h = refl
and_not true false true h = refl
and_not false b true h = refl
and_not a b false h = absurd cc

end_not : (a : Bool) (left : List Bool) → list_any (λ b. b) left ≡ true → (a && is_end left) ≡ false
end_not a left h = and_not a (nat_lt (length left) 8) (list_any (λ b. b) left) h

not_false_and : (b : Bool) → (false && b) ≡ false
not_false_and b = refl

mba_ones : list_all (λ row. list_any (λ b. b) row.0) mba_table ≡ true
unfolding mba_table
mba_ones = refl

step_ones : (n : ℕ) → IsStep n → list_any (λ b. b) (word_of (λ k. k == n) mba_table) ≡ true
step_ones n is = let f = found_step n is in ap (list_any (λ b. b)) f.2 ∙ among-all (λ row. list_any (λ b. b) row.0) f.0 mba_table mba_ones f.1

has_one : (s : Slot) (e : Element) → Takes s e → may_end s ≡ true → list_any (λ b. b) (word_at s e) ≡ true
has_one AtGroup e t h = ap (λ x. list_any (λ b. b) (word_at AtGroup x)) t
has_one AtMacroblock e t h = elim t [
  | inl a ↦ ap (λ x. list_any (λ b. b) (word_at AtMacroblock x)) a.2 ∙ step_ones a.0 a.1
  | inr a ↦ elim a [
    | inl b ↦ ap (λ x. list_any (λ b. b) (word_at AtMacroblock x)) b
    | inr b ↦ ap (λ x. list_any (λ b. b) (word_at AtMacroblock x)) b
  ]
]
has_one _ e t h = absurd cc

pub no-end : (s : Slot) (e : Element) (rest : List Bool) → Takes s e → (may_end s && is_end (word_at s e ++ rest)) ≡ false
no-end s e rest t = elim (cases_Bool (may_end s)) [
  | inl may ↦ end_not (may_end s) (word_at s e ++ rest) (any_left (word_at s e) rest (has_one s e t may))
  | inr no_ ↦ ap (λ b. b && is_end (word_at s e ++ rest)) no_
]

pub next-good : (format : Format) (before : List Element) (e : Element) (rest : List Bool) (place : ℕ) → Stands format before e → next format before (word_in before e ++ rest, place) ≡ Good e (length (word_in before e))
unfolding next
next-good format before e rest place s =
    let w = write-slot (slot before) e rest s.takes in
    let at : at_slot (slot before) (word_in before e ++ rest) ≡ Good e (length (word_in before e)) =
    cond-false (may_end (slot before) && is_end (word_in before e ++ rest)) Stop (or_no_start (slot before) (read (rows (slot before)) (word_in before e ++ rest))) (no-end (slot before) e rest s.takes)
    ∙ or_here (slot before) (read (rows (slot before)) (word_in before e ++ rest)) e (length (word_in before e)) w in
    judged_here (λ e n. first_why (faults format before e)) (at_slot (slot before) (word_in before e ++ rest)) e (length (word_in before e)) at s.good

-- ---- walks

pub record IsWalk (format : Format) (before : List Element) (r : List Bool × ℕ) (es : List Element) (end : List Bool × ℕ) : Type 0 where
  pub chain : Chain format before es
  pub bits : r.0 ≡ words before es ++ end.0
  pub place : end.1 ≡ r.1 + length (words before es)

pub goes-walk : (format : Format) (before : List Element) (r : List Bool × ℕ) (es : List Element) (end : List Bool × ℕ) → Goes (next format) before r es end → IsWalk format before r es end
goes-walk format before r [] end h = record { chain = tt; bits = ap (λ (x : List Bool × ℕ). x.0) (sym h); place = ap (λ (x : List Bool × ℕ). x.1) h ∙ omega arith }
goes-walk format before r (e ∷ es) end h =
    let s = next-is format before r e h.0 h.1 in
    let w = goes-walk format (e ∷ before) (skipped h.0 r) es end h.2 in
    record {
      chain = (s.0, w.chain);
      bits = s.1.front ∙ (ap (λ t. word_in before e ++ t) w.bits ∙ sym (append_assoc (word_in before e) (words (e ∷ before) es) end.0));
      place = w.place ∙ omega (arith, s.1.size, length-append (word_in before e) (words (e ∷ before) es));
    }

pair_same : (a b : List Bool × ℕ) → a.0 ≡ b.0 → a.1 ≡ b.1 → a ≡ b
pair_same a b p q = ap (λ (x : List Bool). (x, a.1)) p ∙ ap (λ (k : ℕ). (b.0, k)) q

pub walk-goes : (format : Format) (before : List Element) (r : List Bool × ℕ) (es : List Element) (end : List Bool × ℕ) → IsWalk format before r es end → Goes (next format) before r es end
walk-goes format before r [] end w = pair_same end r (sym w.bits) (w.place ∙ omega arith)
walk-goes format before r (e ∷ es) end w =
    let bits : r.0 ≡ word_in before e ++ (words (e ∷ before) es ++ end.0) = w.bits ∙ append_assoc (word_in before e) (words (e ∷ before) es) end.0 in (
      length (word_in before e),
      ap (λ (t : List Bool). next format before (t, r.1)) bits ∙ next-good format before e (words (e ∷ before) es ++ end.0) r.1 w.chain.0,
      walk-goes format (e ∷ before) (skipped (length (word_in before e)) r) es end (record {
        chain = w.chain.1;
        bits = ap (drop (length (word_in before e))) bits ∙ drop_at (word_in before e) (words (e ∷ before) es ++ end.0) (length (word_in before e)) refl;
        place = w.place ∙ omega (arith, length-append (word_in before e) (words (e ∷ before) es));
      }),
    )
