-- The rule for lines: a line has one answer.
use Rattle.std.proofs.Common.{◌≡◌, ◌≢◌, inl, inr, ℕ, true, false, cond, Option, Some, None, Result, Ok, Err, List, [], ◌∷◌, ◌++◌, map, length, codes, nat_eq, refl, sym, ap, ap₂, ◌∙◌, subst}
use Rattle.std.specs.Str.{bytes_eq}
use Rattle.std.specs.Result.{IsErrAnd, MatchResult}
use Rattle.std.proofs.lemmas.Bool.{false≢true}
use Rattle.std.proofs.lemmas.Slice.Eq.{bytes_eq-Decides}
use Rattle.std.proofs.lemmas.List.{append-nil}
use Rattle.pel_model.specs.declared.Quad.{Quad}
use Rattle.pel_model.specs.declared.Quad.TheVariants.{One, Two, Three, Four}
use Rattle.pel_model.specs.declared.chair.Command.{Command}
use Rattle.pel_model.specs.declared.chair.Command.TheVariants.{Place, Clear, Swap, Speaker, Pin, Unpin}
use Rattle.chair_words.specs.declared.reader.LineFault.{LineFault}
use Rattle.chair_words.specs.declared.reader.LineWhy.{LineWhy}
use Rattle.chair_words.specs.declared.reader.LineWhy.TheVariants.{Unknown, Missing, BadNumber, Extra}
use Rattle.chair_words.specs.Words.{Word, words_in}
use Rattle.chair_words.specs.Line.{Range, a_place, a_lane, command_name, numbers_of, asked_by, number_spelt, is_good, AreGood, Says, BeginsCommand, Fails, HasFaultAt}
use Rattle.chair_words.specs.Reading.{AnswersLine}
use Rattle.chair_words.specs.Taking.{TakesNumber, LacksNumber, TakesNumbers}

-- what a name asks, if it is a command's
abbrev pub asked_in : List ℕ → Option (List Range)
asked_in name =
    cond (bytes_eq name (codes "place")) (Some (a_place ∷ a_lane ∷ []))
    (cond (bytes_eq name (codes "clear")) (Some (a_place ∷ []))
    (cond (bytes_eq name (codes "swap")) (Some (a_place ∷ a_place ∷ []))
    (cond (bytes_eq name (codes "speaker")) (Some (a_lane ∷ []))
    (cond (bytes_eq name (codes "pin")) (Some (a_place ∷ []))
    (cond (bytes_eq name (codes "unpin")) (Some (a_place ∷ [])) None)))))

pub asked_in-name_of : (c : Command) → asked_in (command_name c) ≡ Some (asked_by c)
asked_in-name_of (Place q c) = refl
asked_in-name_of (Clear q) = refl
asked_in-name_of (Swap p q) = refl
asked_in-name_of (Speaker c) = refl
asked_in-name_of (Pin q) = refl
asked_in-name_of (Unpin q) = refl

no_match : (name text : List ℕ) → name ≢ text → bytes_eq name text ≡ false
no_match name text differ =
    elim (bytes_eq name text) as (λ b. (b ≡ true → name ≡ text) → b ≡ false) [
      | true ↦ λ h. absurd (differ (h refl))
      | false ↦ λ h. refl
    ] (bytes_eq-Decides name text).0

pub asked_in-unknown : (name : List ℕ) → ((c : Command) → name ≢ command_name c) → asked_in name ≡ None
asked_in-unknown name none =
    rw (
      no_match name (codes "place") (none (Place One 0)),
      no_match name (codes "clear") (none (Clear One)),
      no_match name (codes "swap") (none (Swap One One)),
      no_match name (codes "speaker") (none (Speaker 0)),
      no_match name (codes "pin") (none (Pin One)),
      no_match name (codes "unpin") (none (Unpin One)),
    ) refl

-- the first fault of the numbers, where these ranges are asked
abbrev pub fault_of : List Range → List Word → ℕ → Option (ℕ × LineWhy)
fault_of [] [] len = None
fault_of [] (w ∷ ws) len = Some (w.start, Extra)
fault_of (r ∷ rs) [] len = Some (len, Missing)
fault_of (r ∷ rs) (w ∷ ws) len = cond (is_good r w) (fault_of rs ws len) (Some (w.start, BadNumber))

abbrev fault_behind : Word → Option (List Range) → List Word → ℕ → Option (ℕ × LineWhy)
fault_behind name None ws len = Some (name.start, Unknown)
fault_behind name (Some asked) ws len = fault_of asked ws len

-- the first fault of the words
abbrev pub fault_in : List Word → ℕ → Option (ℕ × LineWhy)
fault_in [] len = Some (len, Missing)
fault_in (w ∷ ws) len = fault_behind w (asked_in w.text) ws len

fault_of-good : (had wanted : List Range) (numbers rest : List Word) (len : ℕ) → AreGood had numbers → fault_of (had ++ wanted) (numbers ++ rest) len ≡ fault_of wanted rest len
fault_of-good [] wanted [] rest len good = refl
fault_of-good [] wanted (w ∷ ws) rest len good = absurd good
fault_of-good (r ∷ rs) wanted [] rest len good = absurd good
fault_of-good (r ∷ rs) wanted (w ∷ ws) rest len good = rw (good.0) (fault_of-good rs wanted ws rest len good.1)

fault_in-begins : (ws : List Word) (wanted : List Range) (rest : List Word) (len : ℕ) → BeginsCommand ws wanted rest → fault_in ws len ≡ fault_of wanted rest len
fault_in-begins ws wanted rest len b =
    let asked : asked_in b.name.text ≡ Some (b.had ++ wanted) =
    ap asked_in b.named ∙ asked_in-name_of b.command ∙ ap Some b.asked in
    ap (λ v. fault_in v len) b.whole
    ∙ ap (λ o. fault_behind b.name o (b.numbers ++ rest) len) asked
    ∙ fault_of-good b.had wanted b.numbers rest len b.good

pub fault_in-fails : (ws : List Word) (len place : ℕ) (why : LineWhy) → Fails ws len place why → fault_in ws len ≡ Some (place, why)
fault_in-fails ws len place Unknown (name, rest, whole, unknown, here) =
    ap (λ v. fault_in v len) whole
    ∙ ap (λ o. fault_behind name o rest len) (asked_in-unknown name.text unknown)
    ∙ ap (λ p. Some (p, Unknown)) (sym here)
fault_in-fails ws len place BadNumber (range, wanted, word, rest, begins, bad, here) =
    fault_in-begins ws (range ∷ wanted) (word ∷ rest) len begins
    ∙ ap (λ b. cond b (fault_of wanted rest len) (Some (word.start, BadNumber))) bad
    ∙ ap (λ p. Some (p, BadNumber)) (sym here)
fault_in-fails ws len place Missing (inl none, here) =
    ap (λ v. fault_in v len) none ∙ ap (λ p. Some (p, Missing)) (sym here)
fault_in-fails ws len place Missing (inr (range, wanted, begins), here) =
    fault_in-begins ws (range ∷ wanted) [] len begins ∙ ap (λ p. Some (p, Missing)) (sym here)
fault_in-fails ws len place Extra (word, rest, begins, here) =
    fault_in-begins ws [] (word ∷ rest) len begins ∙ ap (λ p. Some (p, Extra)) (sym here)

-- a line that says a command has no fault
pub fault_in-says : (line : List ℕ) (c : Command) (len : ℕ) → Says line c → fault_in (words_in line) len ≡ None
fault_in-says line c len s =
    fault_in-begins (words_in line) [] [] len (record {
      name = s.name;
      numbers = s.numbers;
      whole = s.whole ∙ ap (λ v. s.name ∷ v) (sym (append-nil s.numbers));
      command = c;
      named = s.named;
      had = asked_by c;
      asked = sym (append-nil (asked_by c));
      good = s.good;
    })

-- the place of a number
abbrev place_of : ℕ → Quad
place_of n = cond (nat_eq n 1) One (cond (nat_eq n 2) Two (cond (nat_eq n 3) Three Four))

-- the command of a name and numbers
abbrev said_by : List ℕ → List ℕ → Option Command
said_by name [] = None
said_by name (n ∷ []) =
    cond (bytes_eq name (codes "clear")) (Some (Clear (place_of n)))
    (cond (bytes_eq name (codes "speaker")) (Some (Speaker n))
    (cond (bytes_eq name (codes "pin")) (Some (Pin (place_of n)))
    (cond (bytes_eq name (codes "unpin")) (Some (Unpin (place_of n))) None)))
said_by name (n ∷ m ∷ ns) =
    cond (bytes_eq name (codes "place")) (Some (Place (place_of n) m)) (Some (Swap (place_of n) (place_of m)))

said_by-command : (c : Command) → said_by (command_name c) (numbers_of c) ≡ Some c
said_by-command (Place One c) = refl
said_by-command (Place Two c) = refl
said_by-command (Place Three c) = refl
said_by-command (Place Four c) = refl
said_by-command (Clear One) = refl
said_by-command (Clear Two) = refl
said_by-command (Clear Three) = refl
said_by-command (Clear Four) = refl
said_by-command (Swap One One) = refl
said_by-command (Swap One Two) = refl
said_by-command (Swap One Three) = refl
said_by-command (Swap One Four) = refl
said_by-command (Swap Two One) = refl
said_by-command (Swap Two Two) = refl
said_by-command (Swap Two Three) = refl
said_by-command (Swap Two Four) = refl
said_by-command (Swap Three One) = refl
said_by-command (Swap Three Two) = refl
said_by-command (Swap Three Three) = refl
said_by-command (Swap Three Four) = refl
said_by-command (Swap Four One) = refl
said_by-command (Swap Four Two) = refl
said_by-command (Swap Four Three) = refl
said_by-command (Swap Four Four) = refl
said_by-command (Speaker c) = refl
said_by-command (Pin One) = refl
said_by-command (Pin Two) = refl
said_by-command (Pin Three) = refl
said_by-command (Pin Four) = refl
said_by-command (Unpin One) = refl
said_by-command (Unpin Two) = refl
said_by-command (Unpin Three) = refl
said_by-command (Unpin Four) = refl

somes_same : (ms ns : List ℕ) → map Some ms ≡ map Some ns → ms ≡ ns
somes_same [] [] e = refl
somes_same [] (n ∷ ns) e = cc
somes_same (m ∷ ms) [] e = cc
somes_same (m ∷ ms) (n ∷ ns) e =
    let heads : m ≡ n = cc in
    let tails : map Some ms ≡ map Some ns = cc in
    let rest : ms ≡ ns = somes_same ms ns tails in
    cc

-- the words of a line are those of one command
pub one_command : (line : List ℕ) (c d : Command) → Says line c → Says line d → c ≡ d
one_command line c d s t =
    let same : s.name ∷ s.numbers ≡ t.name ∷ t.numbers = sym s.whole ∙ t.whole in
    let heads : s.name ≡ t.name = cc in
    let tails : s.numbers ≡ t.numbers = cc in
    let names : command_name c ≡ command_name d = sym s.named ∙ ap (λ (w : Word). w.text) heads ∙ t.named in
    let numbers : numbers_of c ≡ numbers_of d =
    somes_same _ _ (sym s.values ∙ ap (map (λ (w : Word). number_spelt w.text)) tails ∙ t.values) in
    let somes : Some c ≡ Some d =
    sym (said_by-command c) ∙ ap (λ n. said_by n (numbers_of c)) names
    ∙ ap (said_by (command_name d)) numbers ∙ said_by-command d in
    cc

pub one_fault : (line : List ℕ) (p q : ℕ) (v w : LineWhy) → HasFaultAt line p v → HasFaultAt line q w → (p ≡ q) × (v ≡ w)
one_fault line p q v w f g =
    let same : ◌≡◌ {A = Option (ℕ × LineWhy)} (Some (p, v)) (Some (q, w)) = sym (fault_in-fails (words_in line) (length line) p v f) ∙ fault_in-fails (words_in line) (length line) q w g in
    let pair : (p, v) ≡ (q, w) = cc in
    (ap (λ (x : ℕ × LineWhy). x.0) pair, ap (λ (x : ℕ × LineWhy). x.1) pair)

pub not_both : (line : List ℕ) (c : Command) (p : ℕ) (w : LineWhy) → Says line c → HasFaultAt line p w → ⊥
not_both line c p w s f =
    let same : ◌≡◌ {A = Option (ℕ × LineWhy)} None (Some (p, w)) =
    sym (fault_in-says line c (length line) s) ∙ fault_in-fails (words_in line) (length line) p w f in
    let apart : false ≡ true = cc in
    false≢true apart

-- what is read where a number is asked is the line's fault, if it is none
pub Fails-number : (name : Word) (numbers rest : List Word) (c : Command) (had : List Range) (range : Range) (wanted : List Range) (len place : ℕ) (why : LineWhy) →
    name.text ≡ command_name c → asked_by c ≡ had ++ (range ∷ wanted) → AreGood had numbers → LacksNumber range rest len place why →
    Fails (name ∷ (numbers ++ rest)) len place why
Fails-number name numbers [] c had range wanted len place why named asked good (here, missing) =
    subst (Fails (name ∷ (numbers ++ [])) len place) (sym missing) (
      inr (
        range,
        wanted,
        record {
          name = name;
          numbers = numbers;
          whole = refl;
          command = c;
          named = named;
          had = had;
          asked = asked;
          good = good;
        },
      ),
      here,
    )
Fails-number name numbers (w ∷ rest) c had range wanted len place why named asked good (bad, here, because) =
    subst (Fails (name ∷ (numbers ++ (w ∷ rest))) len place) (sym because) (
      range,
      wanted,
      w,
      rest,
      record {
        name = name;
        numbers = numbers;
        whole = refl;
        command = c;
        named = named;
        had = had;
        asked = asked;
        good = good;
      },
      bad,
      here,
    )

-- an answer that the line has is the line's answer
pub accepted : (line : List ℕ) (r : Result Command LineFault) → AnswersLine line r → (c : Command) → Says line c → r ≡ Ok c
accepted line (Ok d) a c s = ap Ok (one_command line d c a s)
accepted line (Err e) a c s = absurd (not_both line c e.place e.why s a)

pub refused : (line : List ℕ) (r : Result Command LineFault) → AnswersLine line r → (place : ℕ) (why : LineWhy) → HasFaultAt line place why →
    r ≡ Err (record { place = place; why = why })
refused line (Ok d) a place why f = absurd (not_both line d place why a f)
refused line (Err e) a place why f =
    let same = one_fault line e.place place e.why why a f in
    ap₂ (λ (p : ℕ) (w : LineWhy). Err (record { place = p; why = w })) same.0 same.1

-- what the reader answers where a number is wanting, and where none is
pub first_wanting : (r : Result Command LineFault) (e : LineFault) (name : Word) (old new : List Word) (len : ℕ) (c : Command) (range : Range) (wanted : List Range) →
    IsErrAnd r (λ y. y ≡ e) → name.text ≡ command_name c → asked_by c ≡ range ∷ wanted → LacksNumber range old len e.place e.why →
    MatchResult r (λ d. TakesNumbers name.text old new d) (λ f. Fails (name ∷ old) len f.place f.why)
first_wanting (Ok d) e name old new len c range wanted failed named asked lacks = absurd failed
first_wanting (Err f) e name old new len c range wanted failed named asked lacks =
    subst (λ (g : LineFault). Fails (name ∷ old) len g.place g.why) (sym failed)
    (Fails-number name [] old c [] range wanted len e.place e.why named asked tt lacks)

pub second_wanting : (r : Result Command LineFault) (e : LineFault) (name : Word) (old mid new : List Word) (len len' : ℕ) (c : Command) (first range : Range) (wanted : List Range) (n : ℕ) →
    IsErrAnd r (λ y. y ≡ e) → name.text ≡ command_name c → asked_by c ≡ first ∷ range ∷ wanted → TakesNumber first old mid n → len' ≡ len →
    LacksNumber range mid len' e.place e.why →
    MatchResult r (λ d. TakesNumbers name.text old new d) (λ f. Fails (name ∷ old) len f.place f.why)
second_wanting (Ok d) e name old mid new len len' c first range wanted n failed named asked takes same lacks = absurd failed
second_wanting (Err f) e name old mid new len len' c first range wanted n failed named asked takes same lacks =
    subst (λ (g : LineFault). Fails (name ∷ old) len g.place g.why) (sym failed)
    (subst (λ ws. Fails (name ∷ ws) len e.place e.why) (sym takes.taken)
    (Fails-number name (takes.word ∷ []) mid c (first ∷ []) range wanted len e.place e.why named asked (takes.good, tt)
    (subst (λ l. LacksNumber range mid l e.place e.why) same lacks)))

pub one_taken : (name : List ℕ) (old new : List Word) (c : Command) (range : Range) (n : ℕ) →
    name ≡ command_name c → asked_by c ≡ range ∷ [] → numbers_of c ≡ n ∷ [] → TakesNumber range old new n → TakesNumbers name old new c
one_taken name old new c range n named asked numbers takes = record {
  numbers = takes.word ∷ [];
  taken = takes.taken;
  named = named;
  good = subst (λ rs. AreGood rs (takes.word ∷ [])) (sym asked) (takes.good, tt);
  values = ap (λ (v : Option ℕ). v ∷ []) takes.value ∙ ap (map Some) (sym numbers);
}

pub two_taken : (name : List ℕ) (old mid new : List Word) (c : Command) (first range : Range) (n m : ℕ) →
    name ≡ command_name c → asked_by c ≡ first ∷ range ∷ [] → numbers_of c ≡ n ∷ m ∷ [] →
    TakesNumber first old mid n → TakesNumber range mid new m → TakesNumbers name old new c
two_taken name old mid new c first range n m named asked numbers takes again = record {
  numbers = takes.word ∷ again.word ∷ [];
  taken = takes.taken ∙ ap (λ ws. takes.word ∷ ws) again.taken;
  named = named;
  good = subst (λ rs. AreGood rs (takes.word ∷ again.word ∷ [])) (sym asked) (takes.good, (again.good, tt));
  values = ap₂ (λ (v w : Option ℕ). v ∷ w ∷ []) takes.value again.value ∙ ap (map Some) (sym numbers);
}

-- the whole line
pub Says-taken : (line : List ℕ) (name : Word) (rest : List Word) (c : Command) → words_in line ≡ name ∷ rest → TakesNumbers name.text rest [] c → Says line c
Says-taken line name rest c whole t = record {
  name = name;
  numbers = t.numbers;
  whole = whole ∙ ap (λ ws. name ∷ ws) (t.taken ∙ append-nil t.numbers);
  named = t.named;
  good = t.good;
  values = t.values;
}
