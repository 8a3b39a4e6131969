use Rattle.pel_model.specs.declared.Fault.{Fault}
use Rattle.std.proofs.Common.{Option, Some, None, ◌≡◌, ◌+◌, ℕ, Ok, Err, Result, sym, ◌∙◌, ap, arith}
use Rattle.std.proofs.lemmas.Result.{err_from_is_err_and}
use Rattle.pel_model.specs.Walk.{Good}
use Rattle.pel_model.specs.Grammar.{Element, next}
use Rattle.h261_block.proofs.SoFar.{row-end, row-coefficient, row-filled}
use Rattle.h261_block.proofs.AheadLaws.{one-taken, end-taken, none-taken}
use Rattle.h261_block.proofs.ahead.one_word.Goals as goal

no_answer : (f : Fault) (n : ℕ) → ◌≡◌ {A = Result (Option ℕ) Fault} (Err f) (Ok (Some n)) → ⊥
no_answer f n is = cc

none_more : (n : ℕ) → ◌≡◌ {A = Result (Option ℕ) Fault} (Ok None) (Ok (Some n)) → ⊥
none_more n is = cc

some_more : (m n : ℕ) → ◌≡◌ {A = Result (Option ℕ) Fault} (Ok (Some m)) (Ok (Some n)) → m ≡ n
some_more m n is = cc

pub returns-in_err-row : goal.returns-in_err-row
returns-in_err-row c =
    let p = err_from_is_err_and c.from_residual.result c.from_residual.ensures.1 in
    rw (p.1, p.2) (record { more = λ n is. absurd (no_answer _ n is); taken = λ format before due full. none-taken (next format) before c.args.count _ c.args.r.now c.tcoeff.new.r (c.in_err-row.ensures.taken format before due full) })

pub returns-in-Some : goal.returns-in-Some
returns-in-Some c = record {
  more = λ n is.
      let same = some_more (c.args.count + c.from.result + 1) n is in
      let full = row-filled c.args.count c.in_ok-row.row c.in-Some.run' c.in-Some.field-0-1 (sym c.run_and_level.ensures ∙ c.in-Some.is) in
      (omega (arith, same), omega (arith, same, c.from.ensures, c.in_ok-row.ensures.within, full));
  taken = λ format before due full.
      let took = c.in_ok-row.ensures.taken format before due full in
      let row = c.in_ok-row.row in
      let sent = row-coefficient row c.in-Some.run' c.in-Some.field-0-1 (sym c.run_and_level.ensures ∙ c.in-Some.is) in
      one-taken (next format) before c.args.count c.args.r.now c.tcoeff.new.r (record { run = c.in-Some.run'; level = c.in-Some.field-0-1; long = sent.0 }) took.len _ (took.good ∙ ap (λ (e : Element). Good e took.len) sent.1) took.behind (omega (arith, c.from.ensures));
}

pub returns-in-None : goal.returns-in-None
returns-in-None c = record {
  more = λ n is. absurd (none_more n is);
  taken = λ format before due full.
      let took = c.in_ok-row.ensures.taken format before due full in
      end-taken (next format) before c.args.count c.args.r.now c.tcoeff.new.r took.len (took.good ∙ ap (λ (e : Element). Good e took.len) (row-end c.in_ok-row.row (sym c.run_and_level.ensures ∙ c.in-None.is))) took.behind;
}
