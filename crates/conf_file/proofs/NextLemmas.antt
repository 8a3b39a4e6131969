-- What the octets that are left fix of the next answer.
use Rattle.std.proofs.Common.{◌≡◌, ◌⊎◌, ℕ, ◌+◌, ◌-◌, List, [], ◌++◌, Some, Result, Ok, Err, inl, inr, length, take, drop, refl, sym, ap, ap₂, subst, ◌∙◌, arith, length-append, append-nil}
use Rattle.std.specs.Io.KnownBytes.{IsAtEnd}
use Rattle.std.proofs.Math.Seq.{take-append_seam, take-append-add}
use Rattle.std.proofs.lemmas.List.{take-append-drop}
use Rattle.io_edge.specs.Outside.{Input}
use Rattle.io_edge.specs.Allowance.{AllowanceState}
use Rattle.io_edge.proofs.AllowanceLemmas.{rest-of}
use Rattle.conf_file.specs.declared.answers.EntryWhy.{EntryWhy}
use Rattle.conf_file.specs.declared.answers.EntryEnd.{EntryEnd}
use Rattle.conf_file.specs.declared.answers.EntryEnd.TheVariants.{Bad, Cut, Fault, Limit}
use Rattle.conf_file.specs.Entries.{Content, IsWrong, IsPartEntry}
use Rattle.conf_file.specs.Reading.{ReaderState, ReadsEntry}
use Rattle.conf_file.specs.File.{IsNextAnswer, LawOfNextAnswers}
use Rattle.conf_file.proofs.FrontLemmas.{Owns, Blames, front_of, one_entry, not_wrong, one_reason, entry_in_front, fault_in_front, part_in_front}
use Rattle.conf_file.proofs.FileLemmas.{wrong_more}

-- what a call that met no fault answers is what the octets say
told_so : (lanes : ℕ) (left ys : List ℕ) (before after : Input) (old new : ReaderState) (result : Result Content EntryEnd)
    → (h : ReadsEntry lanes before after old new result) → after.left ≡ Some ys → left ≡ h.takes.took ++ ys
    → (result ≡ Err Fault) ⊎ IsNextAnswer lanes left old.allowance result
told_so lanes left ys before after old new (Ok content) h now cut =
    inr (h.takes.took, ys, cut, h.takes.answer.0, omega (arith, h.takes.takes.taken, h.takes.takes.within, h.takes.takes.budget))
told_so lanes left ys before after old new (Err (Bad place why)) h now cut =
    let took = h.takes.took in
    let wrong = h.takes.answer.1 in
    let room = old.allowance.budget - old.allowance.taken in
    let k = room - length took in
    let size : room ≡ length took + k = omega (arith, h.takes.takes.taken, h.takes.takes.within, h.takes.takes.budget) in
    let front : take room left ≡ took ++ take k ys = ap₂ take size cut ∙ take-append-add took ys k in
    inr (
      h.takes.answer.0,
      (wrong.0 ++ take k ys, subst (λ xs. IsWrong lanes why xs (wrong.0 ++ take k ys)) (sym front) (wrong_more lanes why took wrong.0 (take k ys) wrong.1)),
    )
told_so lanes left ys before after old new (Err (Cut place)) h now cut =
    let took = h.takes.took in
    let none : ys ≡ [] = subst IsAtEnd now h.takes.answer.1.1.0 in
    let all : left ≡ took = cut ∙ ap (λ xs. took ++ xs) none ∙ append-nil took in
    inr (
      omega (arith, h.takes.answer.1.0, h.takes.takes.taken, ap length all),
      omega (arith, h.takes.answer.1.1.1, h.takes.takes.taken, h.takes.takes.budget, ap length all),
      subst (IsPartEntry lanes) (sym all) h.takes.answer.0,
    )
told_so lanes left ys before after old new (Err Limit) h now cut =
    let took = h.takes.took in
    let size : old.allowance.budget - old.allowance.taken ≡ length took = omega (arith, h.takes.takes.taken, h.takes.takes.budget, h.takes.answer.1.0) in
    let front : take (old.allowance.budget - old.allowance.taken) left ≡ took = ap₂ take size cut ∙ take-append_seam took ys in
    inr (
      omega (arith, h.takes.takes.taken, h.takes.takes.budget, h.takes.answer.1.0, ap length cut, length-append took ys),
      subst (IsPartEntry lanes) (sym front) h.takes.answer.0,
    )
told_so lanes left ys before after old new (Err Fault) h now cut = inl refl

told : (lanes : ℕ) (left : List ℕ) (before after : Input) (old new : ReaderState) (result : Result Content EntryEnd) → before.left ≡ Some left
    → ReadsEntry lanes before after old new result → (result ≡ Err Fault) ⊎ IsNextAnswer lanes left old.allowance result
told lanes left before after old new result tells h =
    let left_over = rest-of before after old.allowance new.allowance h.takes.took left tells h.takes.takes in
    told_so lanes left left_over.0 before after old new result h left_over.1 left_over.2

-- an entry that is there whole
owned : (lanes : ℕ) (left : List ℕ) (a : AllowanceState) (content : Content) (h : IsNextAnswer lanes left a (Ok content)) → Owns (front_of lanes left) content h.0
owned lanes left a content h =
    subst (λ xs. Owns (front_of lanes xs) content h.0) (sym h.2) (entry_in_front lanes content h.0 h.1 h.3)

owned_within : (lanes : ℕ) (left : List ℕ) (a : AllowanceState) (content : Content) (h : IsNextAnswer lanes left a (Ok content))
    → Owns (front_of lanes (take (a.budget - a.taken) left)) content h.0
owned_within lanes left a content h =
    let k = a.budget - a.taken - length h.0 in
    let size : a.budget - a.taken ≡ length h.0 + k = omega (arith, h.4) in
    let front : take (a.budget - a.taken) left ≡ h.0 ++ take k h.1 = ap₂ take size h.2 ∙ take-append-add h.0 h.1 k in
    subst (λ xs. Owns (front_of lanes xs) content h.0) (sym front) (entry_in_front lanes content h.0 (take k h.1) h.3)

-- octets that begin none
blamed_within : (lanes : ℕ) (left : List ℕ) (a : AllowanceState) (place : ℕ) (why : EntryWhy) → IsNextAnswer lanes left a (Err (Bad place why))
    → Blames (front_of lanes (take (a.budget - a.taken) left)) why
blamed_within lanes left a place why h = fault_in_front lanes why (take (a.budget - a.taken) left) h.1.0 h.1.1

blamed : (lanes : ℕ) (left : List ℕ) (a : AllowanceState) (place : ℕ) (why : EntryWhy) → IsNextAnswer lanes left a (Err (Bad place why)) → Blames (front_of lanes left) why
blamed lanes left a place why h =
    let n = a.budget - a.taken in
    let more = drop n left in
    fault_in_front lanes why left (h.1.0 ++ more) (subst (λ xs. IsWrong lanes why xs (h.1.0 ++ more)) (take-append-drop n left) (wrong_more lanes why (take n left) h.1.0 more h.1.1))

not_short : (lanes : ℕ) (octets : List ℕ) (content : Content) (entry : List ℕ) → Owns (front_of lanes octets) content entry → IsPartEntry lanes octets → ⊥
not_short lanes octets content entry owns part = subst (λ f. Owns f content entry) (part_in_front lanes octets part) owns

not_short_wrong : (lanes : ℕ) (octets : List ℕ) (why : EntryWhy) → Blames (front_of lanes octets) why → IsPartEntry lanes octets → ⊥
not_short_wrong lanes octets why blames part = subst (λ f. Blames f why) (part_in_front lanes octets part) blames

one : (lanes : ℕ) (left : List ℕ) (a : AllowanceState) (x y : Result Content EntryEnd) → IsNextAnswer lanes left a x → IsNextAnswer lanes left a y → x ≡ y
one lanes left a (Ok c) (Ok d) h k =
    ap Ok (one_entry (front_of lanes left) c d h.0 k.0 (owned lanes left a c h) (owned lanes left a d k)).0
one lanes left a (Ok c) (Err (Bad q w)) h k =
    absurd (not_wrong (front_of lanes left) c h.0 w (owned lanes left a c h) (blamed lanes left a q w k))
one lanes left a (Ok c) (Err (Cut q)) h k = absurd (not_short lanes left c h.0 (owned lanes left a c h) k.2)
one lanes left a (Ok c) (Err Limit) h k = absurd (not_short lanes _ c h.0 (owned_within lanes left a c h) k.1)
one lanes left a (Ok c) (Err Fault) h k = absurd k
one lanes left a (Err (Bad p v)) (Ok d) h k =
    absurd (not_wrong (front_of lanes left) d k.0 v (owned lanes left a d k) (blamed lanes left a p v h))
one lanes left a (Err (Bad p v)) (Err (Bad q w)) h k =
    ap₂ (λ at why. Err (Bad at why)) (h.0 ∙ sym k.0)
    (one_reason (front_of lanes left) v w (blamed lanes left a p v h) (blamed lanes left a q w k))
one lanes left a (Err (Bad p v)) (Err (Cut q)) h k = absurd (not_short_wrong lanes left v (blamed lanes left a p v h) k.2)
one lanes left a (Err (Bad p v)) (Err Limit) h k = absurd (not_short_wrong lanes _ v (blamed_within lanes left a p v h) k.1)
one lanes left a (Err (Bad p v)) (Err Fault) h k = absurd k
one lanes left a (Err (Cut p)) (Ok d) h k = absurd (not_short lanes left d k.0 (owned lanes left a d k) h.2)
one lanes left a (Err (Cut p)) (Err (Bad q w)) h k = absurd (not_short_wrong lanes left w (blamed lanes left a q w k) h.2)
one lanes left a (Err (Cut p)) (Err (Cut q)) h k = ap (λ at. Err (Cut at)) (h.0 ∙ sym k.0)
one lanes left a (Err (Cut p)) (Err Limit) h k = absurd (omega (arith, h.1, k.0))
one lanes left a (Err (Cut p)) (Err Fault) h k = absurd k
one lanes left a (Err Limit) (Ok d) h k = absurd (not_short lanes _ d k.0 (owned_within lanes left a d k) h.1)
one lanes left a (Err Limit) (Err (Bad q w)) h k = absurd (not_short_wrong lanes _ w (blamed_within lanes left a q w k) h.1)
one lanes left a (Err Limit) (Err (Cut q)) h k = absurd (omega (arith, k.1, h.0))
one lanes left a (Err Limit) (Err Limit) h k = refl
one lanes left a (Err Limit) (Err Fault) h k = absurd k
one lanes left a (Err Fault) y h k = absurd h

pub answers_are_told : LawOfNextAnswers
answers_are_told = record { told = told; one_answer = one }
