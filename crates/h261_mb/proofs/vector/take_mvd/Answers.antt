use Rattle.std.proofs.Common.{◌≡◌, ◌∷◌, [], refl, sym, ◌∙◌, ap, ℕ, List, Bool, ℤ, Option, Some, IfSome, subst, w8, rules, arith}
use Rattle.std.proofs.lemmas.Int.{to_z-of_z}
use Rattle.pel_model.specs.Codes.{mvd_table}
use Rattle.pel_model.specs.Records.{Across}
use Rattle.pel_model.specs.Walk.{read}
use Rattle.pel_model.specs.Valid.{stays_within}
use Rattle.pel_model.specs.Grammar.{Mvd, AtMvd, may_end, table_rows}
use Rattle.h261_mb.specs.State.{IsNear}
use Rattle.h261_mb.proofs.Slots.{no_word, at-mvd}
use Rattle.h261_mb.proofs.Vectors.{is_chosen, is_none, mvd-good, mvd-outside, mvd-bad}
use Rattle.h261_mb.proofs.vector.take_mvd.Goals as goal

near_of : (found : Option ℤ) (z told : ℤ) → found ≡ Some z → told ≡ z → IfSome found IsNear → IsNear told
near_of found z told is same near = subst IsNear (sym same) (subst (λ (o : Option ℤ). IfSome o IsNear) is near)

pub returns-then-not-stays_within : goal.returns-then-not-stays_within
returns-then-not-stays_within c = record {
  near = tt;
  onward = tt;
  walk = λ format before axis is.
      let word = rw c.copy-ahead.ensures at c.in-Ok.ensures.word axis in
      let told = is_chosen c.args.last _ c.in-Ok.values c.in-Some.component (to_z-of_z w8 c.args.last c.ranges.last) (sym c.in-Some.is ∙ c.component.ensures.value) in
      let component_is = told.1 ∙ sym (to_z-of_z w8 c.in-Some.component (search rules)) in
      let outside = ap (stays_within c.args.side c.args.first) component_is ∙ (sym c.stays_within.ensures ∙ c.if-not-stays_within.true) in
      record { elements = []; walk = refl; part = (tt, ap may_end is.due); bad = mvd-outside format before c.args.r.now axis c.args.last c.args.first c.args.side c.in-Ok.values word.len is.due is.vector_is is.side_is is.corner_is word.good told.0 outside; place = c.place-place.ensures };
}

pub returns-else-not-stays_within : goal.returns-else-not-stays_within
returns-else-not-stays_within c =
    let first = rw c.copy-ahead.ensures at c.in-Ok.ensures.word Across in
    record {
      near = near_of c.component.result c.in-Some.component _ c.in-Some.is (to_z-of_z w8 c.in-Some.component (search rules)) c.component.ensures.near;
      onward = omega (arith, ap (λ (q : List Bool × ℕ). q.1) first.behind);
      walk = λ format before axis is.
          let word = rw c.copy-ahead.ensures at c.in-Ok.ensures.word axis in
          let told = is_chosen c.args.last _ c.in-Ok.values c.in-Some.component (to_z-of_z w8 c.args.last c.ranges.last) (sym c.in-Some.is ∙ c.component.ensures.value) in
          let component_is = told.1 ∙ sym (to_z-of_z w8 c.in-Some.component (search rules)) in
          let inside = ap (stays_within c.args.side c.args.first) component_is ∙ (sym c.stays_within.ensures ∙ c.if-not-stays_within.false) in
          let good = mvd-good format before c.args.r.now axis c.args.last c.args.first c.args.side c.in-Ok.values word.len is.due is.vector_is is.side_is is.corner_is word.good told.0 inside in
          record { elements = Mvd axis c.in-Ok.values ∷ []; walk = (word.len, good, word.behind); wanted = record { values = c.in-Ok.values; elements = refl; component_is = component_is } };
    }

pub returns-in-None : goal.returns-in-None
returns-in-None c = record {
  near = tt;
  onward = tt;
  walk = λ format before axis is.
      let word = rw c.copy-ahead.ensures at c.in-Ok.ensures.word axis in
      let far = is_none c.args.last _ c.in-Ok.values (to_z-of_z w8 c.args.last c.ranges.last) (sym c.in-None.is ∙ c.component.ensures.value) in
      record { elements = []; walk = refl; part = (tt, ap may_end is.due); bad = mvd-bad format before c.args.r.now axis c.args.last c.args.first c.args.side c.in-Ok.values word.len is.due is.vector_is is.side_is is.corner_is word.good far; place = c.place-place.ensures };
}

pub returns-in-Err : goal.returns-in-Err
returns-in-Err c = record {
  near = tt;
  onward = tt;
  walk = λ format before axis is.
      let word = rw c.copy-ahead.ensures at c.in-Err.ensures.word axis in
      record { elements = []; walk = refl; part = (tt, ap may_end is.due); bad = no_word format before c.args.r.now (AtMvd axis) (read (table_rows mvd_table (Mvd axis)) c.args.r.now.0) is.due (at-mvd axis c.args.r.now.0) c.in-Err.why word.bad; place = c.place-place.ensures };
}
