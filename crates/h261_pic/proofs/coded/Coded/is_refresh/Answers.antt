use Rattle.std.proofs.Common.{◌≡◌, ℕ, ◌<◌, List, Bool, true, false, All, length, sym, ◌∙◌, ap, subst, rules, tests, eqb}
use Rattle.std.proofs.lemmas.Bool.{eqb-true, false≢true}
use Rattle.std.proofs.lemmas.Iterator.{cases_from_all, YieldsList-from_slice}
use Rattle.std.proofs.lemmas.Iterator.Search.{true_from_All}
use Rattle.std.proofs.lemmas.List.Elements.{All-from_all_within}
use Rattle.std.specs.Bool.{MatchBool}
use Rattle.std.specs.List.{AllWithin, HoldsAt}
use denote.Enum.Bare.{same_true, sameb}
use Rattle.pel_model.specs.contracts.Format.{the_type}
use Rattle.pel_model.specs.declared.Format.{Format}
use Rattle.pel_model.specs.declared.Format.TheVariants.{Qcif}
use Rattle.pel_model.specs.declared.Mark.{Mark}
use Rattle.h261_pic.specs.Coded.{Coding}
use Rattle.h261_pic.specs.Sound.{written}
use Rattle.h261_pic.proofs.Refreshes.{HasRefreshMarks, IsIntraMark, refresh_from_marks, marks_from_refresh}
use Rattle.h261_pic.proofs.coded.Coded.is_refresh.Goals as goal
use Rattle.h261_pic.proofs.coded.Coded.is_refresh.Goals.{then-eq, else-eq}

is_qcif : (format : Format) → sameb the_type format Qcif ≡ true → format ≡ Qcif
is_qcif format same = same_true the_type (search rules) _ _ same

same_qcif : (format : Format) → format ≡ Qcif → sameb the_type format Qcif ≡ true
same_qcif format is = ap (λ (f : Format). sameb the_type f Qcif) is

true_by_count : (n : ℕ) → n ≡ 99 → eqb n 99 ≡ true
true_by_count n is = ap (λ (k : ℕ). eqb k 99) is

abbrev IsOtherMark : Mark → Type 0
IsOtherMark m = m.intra ≡ false

-- whether all marks are intra
marks-tell : (c : goal.After-all) → MatchBool c.all.result (AllWithin IsIntraMark c.self.inside.marks.items 0 (length c.self.inside.marks.items))
    ((k : ℕ) × (k < length c.self.inside.marks.items) × HoldsAt IsOtherMark c.self.inside.marks.items k)
marks-tell c =
    cases_from_all _ _ _ IsIntraMark IsOtherMark c.all.ensures.ran (YieldsList-from_slice c.self.inside.marks.items (c.iter.ensures.rest ∙ c.deref.ensures.0))
    (λ x q k. search (rules, tests)) (λ x q k. search (rules, tests))

all_intra : (r : Bool) (ms : List Mark) → MatchBool r (AllWithin IsIntraMark ms 0 (length ms)) ((k : ℕ) × (k < length ms) × HoldsAt IsOtherMark ms k) → r ≡ true → All IsIntraMark ms
all_intra true ms tell is = All-from_all_within IsIntraMark ms tell
all_intra false ms tell is = absurd (false≢true is)

pub returns-then-len-eq99-clause-refresh : goal.returns-then-len-eq99-clause-refresh
returns-then-len-eq99-clause-refresh c = λ picture is.
    let front : (c.self.inside.format ≡ Qcif) × (length c.self.inside.marks.items ≡ 99) =
    elim c.if-eq.branch [
      | then-eq w ↦ (is_qcif c.self.inside.format (sym c.eq.ensures ∙ w.if-eq.true), sym w.len.ensures.value ∙ eqb-true w.len.result 99 (sym w.value-is ∙ c.if-len-eq99.true))
      | else-eq w ↦ absurd (false≢true (sym w.if-eq.false ∙ sym w.value-is ∙ c.if-len-eq99.true))
    ] in (
      (λ t. refresh_from_marks c.args.self.now picture is
          (subst HasRefreshMarks c.self.view_is (record { qcif = front.0; count = front.1; intra = all_intra c.all.result c.self.inside.marks.items (marks-tell c) t }))),
      (λ r. true_from_All IsIntraMark IsOtherMark c.all.result c.self.inside.marks.items (λ m yes no. false≢true (sym no ∙ yes)) (marks-tell c)
          (subst (λ (k : Coding). All IsIntraMark k.marks) (sym c.self.view_is) (marks_from_refresh c.args.self.now picture is r).intra)),
    )

pub returns-else-len-eq99-clause-refresh : goal.returns-else-len-eq99-clause-refresh
returns-else-len-eq99-clause-refresh c = λ picture is. (
  (λ t. absurd (false≢true (sym c.if-len-eq99.false ∙ t))),
  (λ r.
      let has : HasRefreshMarks (written c.self.inside) = subst HasRefreshMarks (sym c.self.view_is) (marks_from_refresh c.args.self.now picture is r) in
      elim c.if-eq.branch [
        | then-eq w ↦ w.value-is ∙ true_by_count w.len.result (w.len.ensures.value ∙ has.count)
        | else-eq w ↦ w.value-is ∙ c.eq.ensures ∙ same_qcif c.self.inside.format has.qcif
      ]),
)
