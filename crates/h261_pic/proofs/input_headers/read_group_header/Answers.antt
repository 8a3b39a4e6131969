use Rattle.std.proofs.Common.{List, [], ◌∷◌, false, refl, ap}
use Rattle.std.proofs.lemmas.Result.{err_from_is_err_and}
use Rattle.pel_model.specs.Grammar.{Element, Gn, Gquant, Gei, next}
use Rattle.h261_pic.specs.HeaderElements.{OfGroup, IsGroupHeaderSoFar}
use Rattle.h261_mb.proofs.Steps.{goes_first, fails_here}
use Rattle.h261_pic.proofs.input_headers.read_group_header.Goals as goal

pub returns-in_err-number-clause-walk : goal.returns-in_err-number-clause-walk
returns-in_err-number-clause-walk c = λ before due last.
    let p = err_from_is_err_and c.from_residual.result c.from_residual.ensures.1 in
    let took = c.in_err-number.ensures.taken before due last in
    rw (p.1, p.2) (fails_here (next c.args.format) before IsGroupHeaderSoFar c.args.r.now c.args.r.now c.take_gn.new.r [] _ refl (0, 0, [], Gn 0, Gquant 0 ∷ Gei false ∷ [], refl) took.bad took.place took.kept)

pub returns-in_err-quant-clause-walk : goal.returns-in_err-quant-clause-walk
returns-in_err-quant-clause-walk c = λ before due last.
    let p = err_from_is_err_and c.from_residual-in_err-quant.result c.from_residual-in_err-quant.ensures.1 in
    let number = c.in_ok-number.number in
    let first = c.in_ok-number.ensures.taken before due last in
    let took = c.in_err-quant.ensures.taken c.args.format (Gn number ∷ before) refl in
    let walk = goes_first (next c.args.format) before c.args.r.now c.take_gn.new.r c.take_gn.new.r (Gn number) first.len [] first.good first.behind refl in
    rw (p.1, p.2) (fails_here (next c.args.format) before IsGroupHeaderSoFar c.args.r.now c.take_gn.new.r c.take_gquant.new.r (Gn number ∷ []) _ walk (number, 0, [], Gquant 0, Gei false ∷ [], refl) took.bad took.place took.kept)

pub returns-in_err-pass_spares-clause-walk : goal.returns-in_err-pass_spares-clause-walk
returns-in_err-pass_spares-clause-walk c = λ before due last.
    let p = err_from_is_err_and c.from_residual-in_err-pass_spares.result c.from_residual-in_err-pass_spares.ensures.1 in
    let number = c.in_ok-number.number in
    let quant = c.in_ok-quant.quant in
    let first = c.in_ok-number.ensures.taken before due last in
    let second = c.in_ok-quant.ensures.taken c.args.format (Gn number ∷ before) refl in
    let rest = c.in_err-pass_spares.ensures.walk c.args.format (Gquant quant ∷ Gn number ∷ before) OfGroup refl in
    let more = goes_first (next c.args.format) (Gn number ∷ before) c.take_gn.new.r c.take_gquant.new.r c.pass_spares.new.r (Gquant quant) second.len rest.elements second.good second.behind rest.walk in
    let walk = goes_first (next c.args.format) before c.args.r.now c.take_gn.new.r c.pass_spares.new.r (Gn number) first.len (Gquant quant ∷ rest.elements) first.good first.behind more in
    let part = rest.part in
    rw (p.1, p.2) record { elements = Gn number ∷ Gquant quant ∷ rest.elements; walk = walk; part = (number, quant, part.0, part.1, part.2, ap (λ (es : List Element). Gn number ∷ Gquant quant ∷ es) part.3); bad = rest.bad; place = rest.place }

pub returns-clause-walk : goal.returns-clause-walk
returns-clause-walk c = λ before due last.
    let number = c.in_ok-number.number in
    let quant = c.in_ok-quant.quant in
    let first = c.in_ok-number.ensures.taken before due last in
    let second = c.in_ok-quant.ensures.taken c.args.format (Gn number ∷ before) refl in
    let rest = c.in_ok-pass_spares.ensures.walk c.args.format (Gquant quant ∷ Gn number ∷ before) OfGroup refl in
    let more = goes_first (next c.args.format) (Gn number ∷ before) c.take_gn.new.r c.take_gquant.new.r c.pass_spares.new.r (Gquant quant) second.len rest.elements second.good second.behind rest.walk in
    record { elements = Gn number ∷ Gquant quant ∷ rest.elements; walk = goes_first (next c.args.format) before c.args.r.now c.take_gn.new.r c.pass_spares.new.r (Gn number) first.len (Gquant quant ∷ rest.elements) first.good first.behind more; wanted = record { spares = rest.wanted.octets; elements = ap (λ (es : List Element). Gn number ∷ Gquant quant ∷ es) rest.wanted.elements } }
