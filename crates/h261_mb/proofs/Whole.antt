-- What was read whole in some bits stands there whatever follows them.
use Rattle.std.proofs.Common.{◌≡◌, ℕ, ◌+◌, ◌<◌, ◌≤◌, ◌&&◌, not, Bool, true, false, List, [], ◌∷◌, ◌++◌, length, take, drop, Option, Some, None, nat_lt, inl, inr, refl, sym, ◌∙◌, ap, subst, arith, add_assoc, length-append}
use Rattle.std.specs.List.{list_any}
use Rattle.std.proofs.lemmas.Bool.{cases_Bool, cond-false, cond-true, ltb-true, lt-ltb}
use Rattle.std.proofs.lemmas.List.{drop-drop, drop-append-le, take-append-drop, length-drop}
use Rattle.pel_model.specs.declared.Format.{Format}
use Rattle.pel_model.specs.declared.Why.{Why}
use Rattle.pel_model.specs.declared.Why.TheVariants.{NoCode}
use Rattle.pel_model.specs.Codes.{is_prefix_free}
use Rattle.pel_model.specs.Walk.{Reading, Standing, Good, Stop, Bad, skipped, read, verdict, judged, Goes, AreTaken}
use Rattle.pel_model.specs.Grammar.{Element, Mba, Stuffing, Slot, AtPsc, slot, rows, mba_rows, may_end, is_end, or_no_start, at_slot, next}
use Rattle.pel_model.proofs.Steps.{judge}
use Rattle.pel_model.proofs.Walks.{skipped-skipped}
use Rattle.vlc_codes.specs.declared.lookup.Table.TheVariants as table
use Rattle.vlc_codes.proofs.Computed.{words_free, mba_codes, slots_free}
use Rattle.vlc_codes.proofs.FoundRows.{read-inside, read-more}
use Rattle.h261_mb.specs.declared.header.Header.{Header}
use Rattle.h261_mb.specs.Parts.{BeginsWithMba}
use Rattle.h261_mb.specs.State.{IsHeader}

-- ---- one element

verdict_good : (x e : Element) (m n : ℕ) (why : Option Why) → verdict x m why ≡ Good e n → Good x m ≡ Good e n
verdict_good x e m n None h = h
verdict_good x e m n (Some why) h = absurd cc

judged_good : (judge : Element → ℕ → Option Why) (here : Standing Element) (e : Element) (n : ℕ) → judged judge here ≡ Good e n → here ≡ Good e n
judged_good judge (Good x m) e n h = verdict_good x e m n (judge x m) h
judged_good judge Stop e n h = absurd cc
judged_good judge (Bad why) e n h = absurd cc

or_good : (s : Slot) (here : Standing Element) (e : Element) (n : ℕ) → or_no_start s here ≡ Good e n → here ≡ Good e n
or_good AtPsc (Bad NoCode) e n h = absurd cc
or_good _ here e n h = h

or_here : (s : Slot) (here : Standing Element) (e : Element) (n : ℕ) → here ≡ Good e n → or_no_start s here ≡ Good e n
or_here AtPsc (Bad NoCode) e n h = absurd cc
or_here _ here e n h = h

stop_good : (e : Element) (n : ℕ) → Stop ≡ Good e n → ⊥
stop_good e n h = cc

any_more : (bits more : List Bool) → list_any (λ b. b) bits ≡ true → list_any (λ b. b) (bits ++ more) ≡ true
any_more [] more h = absurd cc
any_more (true ∷ bits) more h = refl
any_more (false ∷ bits) more h = any_more bits more h

not_none : (short any : Bool) → short ≡ true → (short && not any) ≡ false → any ≡ true
not_none true true is h = refl
not_none true false is h = absurd cc
not_none false any is h = absurd cc

no_end : (short any : Bool) → any ≡ true → (short && not any) ≡ false
no_end true true h = refl
no_end false true h = refl
no_end short false h = absurd cc

-- bits that are no lawful end are none with more behind them
end-more : (may : Bool) (bits more : List Bool) → (may && is_end bits) ≡ false → (may && is_end (bits ++ more)) ≡ false
end-more false bits more h = refl
end-more true bits more h = elim (cases_Bool (nat_lt (length (bits ++ more)) 8)) [
  | inl short ↦
      let few : length bits < 8 = omega (arith, ltb-true (length (bits ++ more)) 8 short, length-append bits more) in
      no_end (nat_lt (length (bits ++ more)) 8) (list_any (λ b. b) (bits ++ more)) (any_more bits more (not_none (nat_lt (length bits) 8) (list_any (λ b. b) bits) (lt-ltb (length bits) 8 few) h))
  | inr long ↦ ap (λ (b : Bool). b && not (list_any (λ b. b) (bits ++ more))) long
]

slot-more : (s : Slot) (bits more : List Bool) (e : Element) (n : ℕ) → at_slot s bits ≡ Good e n → (at_slot s (bits ++ more) ≡ Good e n) × (n ≤ length bits)
slot-more s bits more e n h =
    let here : Standing Element = or_no_start s (read (rows s) bits) in
    elim (cases_Bool (may_end s && is_end bits)) [
      | inl end ↦ absurd (stop_good e n (sym (cond-true (may_end s && is_end bits) Stop here end) ∙ h))
      | inr on ↦
          let word = or_good s (read (rows s) bits) e n (sym (cond-false (may_end s && is_end bits) Stop here on) ∙ h) in (
            cond-false (may_end s && is_end (bits ++ more)) Stop (or_no_start s (read (rows s) (bits ++ more))) (end-more (may_end s) bits more on)
                ∙ or_here s (read (rows s) (bits ++ more)) e n (read-more (rows s) bits more e n (slots_free s) word),
            read-inside (rows s) bits e n word,
          )
    ]

next-more : (format : Format) (before : List Element) (bits more : List Bool) (place other : ℕ) (e : Element) (n : ℕ) → next format before (bits, place) ≡ Good e n → (next format before (bits ++ more, other) ≡ Good e n) × (n ≤ length bits)
unfolding next
next-more format before bits more place other e n h =
    let here = judged_good (judge format before) (at_slot (slot before) bits) e n h in
    let both = slot-more (slot before) bits more e n here in
    (ap (judged (judge format before)) (both.0 ∙ sym here) ∙ h, both.1)

-- ---- a walk

record IsInside (format : Format) (before : List Element) (bits : List Bool) (place : ℕ) (es : List Element) (end : Reading) : Type 0 where
  pub len : ℕ
  pub inside : len ≤ length bits
  pub end_is : end ≡ skipped len (bits, place)
  pub go : (more : List Bool) (other : ℕ) → Goes (next format) before (bits ++ more, other) es (drop len bits ++ more, other + len)

goes-inside : (format : Format) (es before : List Element) (bits : List Bool) (place : ℕ) (end : Reading) → Goes (next format) before (bits, place) es end → IsInside format before bits place es end
goes-inside format [] before bits place end walk = record {
  len = 0;
  inside = omega arith;
  end_is = walk ∙ ap (λ (k : ℕ). (bits, k)) (omega arith);
  go = λ more other. ap (λ (k : ℕ). (bits ++ more, k)) (omega arith);
}
goes-inside format (e ∷ es) before bits place end walk =
    let n : ℕ = walk.0 in
    let there = goes-inside format es (e ∷ before) (drop n bits) (place + n) end walk.2 in
    let m : ℕ = there.len in
    let fits : n ≤ length bits = (next-more format before bits [] place place e n walk.1).1 in record {
      len = n + m;
      inside = omega (arith, fits, there.inside, length-drop n bits);
      end_is = there.end_is ∙ skipped-skipped m n (bits, place);
      go = λ more other.
          let from : ◌≡◌ {A = Reading} (drop n bits ++ more, other + n) (skipped n (bits ++ more, other)) = ap (λ (t : List Bool). (t, other + n)) (sym (drop-append-le n bits more fits)) in
          let to : ◌≡◌ {A = Reading} (drop m (drop n bits) ++ more, other + n + m) (drop (n + m) bits ++ more, other + (n + m)) =
          ap (λ (t : List Bool). (t ++ more, other + n + m)) (drop-drop m n bits) ∙ ap (λ (k : ℕ). (drop (n + m) bits ++ more, k)) (add_assoc other n m) in (
            n,
            (next-more format before bits more place other e n walk.1).0,
            subst (λ (r : Reading). Goes (next format) (e ∷ before) r es (drop (n + m) bits ++ more, other + (n + m))) from
                (subst (λ (r : Reading). Goes (next format) (e ∷ before) (drop n bits ++ more, other + n) es r) to (there.go more (other + n))),
          );
    }

-- ---- a header

-- one that was taken from the next bits of a reader is taken from the reader
pub header-whole : (format : Format) (before : List Element) (number : ℕ) (header : Header) (r end new : Reading) (used : ℕ) → used ≡ end.1 → new ≡ skipped used r → AreTaken (next format) before (IsHeader number before header) (take 56 r.0, 0) end → AreTaken (next format) before (IsHeader number before header) r new
header-whole format before number header r end new used used_is moved taken =
    let bits : List Bool = take 56 r.0 in
    let more : List Bool = drop 56 r.0 in
    let walk = goes-inside format taken.elements before bits 0 end taken.walk in
    let len : used ≡ walk.len = omega (arith, used_is, ap (λ (r : Reading). r.1) walk.end_is) in
    let whole : bits ++ more ≡ r.0 = take-append-drop 56 r.0 in
    let behind : drop walk.len bits ++ more ≡ drop walk.len r.0 = sym (drop-append-le walk.len bits more walk.inside) ∙ ap (drop walk.len) whole in
    let from : ◌≡◌ {A = Reading} (bits ++ more, r.1) r = ap (λ (t : List Bool). (t, r.1)) whole in
    let to : ◌≡◌ {A = Reading} (drop walk.len bits ++ more, r.1 + walk.len) new = ap (λ (t : List Bool). (t, r.1 + walk.len)) behind ∙ (ap (λ (k : ℕ). skipped k r) (sym len) ∙ sym moved) in
    let w = taken.wanted in record {
      elements = taken.elements;
      walk = subst (λ (s : Reading). Goes (next format) before s taken.elements new) from
          (subst (λ (s : Reading). Goes (next format) before (bits ++ more, r.1) taken.elements s) to (walk.go more r.1));
      wanted = record { difference = w.difference; mquant = w.mquant; across = w.across; down = w.down; elements = w.elements; pattern = w.pattern; due = w.due; kind_is = w.kind_is; to_come = w.to_come; say = w.say };
    }

bad_good : (why : Why) (d n : ℕ) → Bad why ≡ Good (Mba d) n → ⊥
bad_good why d n h = cc

stuffing_mba : (m d n : ℕ) → Good Stuffing m ≡ Good (Mba d) n → ⊥
stuffing_mba m d n h = cc

module _ (bits : List Bool) (begins : BeginsWithMba (take 56 bits)) where
  mba_whole : read mba_rows bits ≡ Good (Mba begins.0) begins.1
  mba_whole =
      ap (read mba_rows) (sym (take-append-drop 56 bits))
      ∙ read-more mba_rows (take 56 bits) (drop 56 bits) (Mba begins.0) begins.1 (ap is_prefix_free mba_codes ∙ words_free table.Mba) begins.2

  -- then there is a word, and it is not stuffing
  pub no-bad : (why : Why) → read mba_rows bits ≡ Bad why → ⊥
  no-bad why is = bad_good why begins.0 begins.1 (sym is ∙ mba_whole)

  pub no-stuffing : (n : ℕ) → read mba_rows bits ≡ Good Stuffing n → ⊥
  no-stuffing n is = stuffing_mba n begins.0 begins.1 (sym is ∙ mba_whole)
