use Rattle.std.proofs.Common.{List, [], ◌∷◌, false, refl, ap}
use Rattle.std.proofs.lemmas.Result.{err_from_is_err_and}
use Rattle.pel_model.specs.Grammar.{Element, Psc, Tr, Ptype, Pei, AtTr, next}
use Rattle.h261_pic.specs.HeaderElements.{OfPicture, IsPictureHeaderSoFar}
use Rattle.h261_pic.proofs.HeaderSteps.{at-tr}
use Rattle.h261_mb.proofs.Steps.{goes_first, fails_here}
use Rattle.h261_pic.proofs.input_headers.read_picture_header.Goals as goal

pub returns-in_err-take_psc-clause-walk : goal.returns-in_err-take_psc-clause-walk
returns-in_err-take_psc-clause-walk c = λ before due.
    let p = err_from_is_err_and c.from_residual.result c.from_residual.ensures.1 in
    let took = c.in_err-take_psc.ensures c.args.format before due in
    rw (p.1, p.2) (fails_here (next c.args.format) before IsPictureHeaderSoFar c.args.r.now c.args.r.now c.take_psc.new.r [] _ refl (0, 0, [], Psc, Tr 0 ∷ Ptype 0 ∷ Pei false ∷ [], refl) took.bad took.place took.kept)

pub returns-in_err-tr-clause-walk : goal.returns-in_err-tr-clause-walk
returns-in_err-tr-clause-walk c = λ before due.
    let p = err_from_is_err_and c.from_residual-in_err-tr.result c.from_residual-in_err-tr.ensures.1 in
    let first = c.in_ok-take_psc.ensures c.args.format before due in
    let took = c.in_err-tr.ensures.taken c.args.format (Psc ∷ before) AtTr Tr refl at-tr in
    let walk = goes_first (next c.args.format) before c.args.r.now c.take_psc.new.r c.take_psc.new.r Psc first.len [] first.good first.behind refl in
    rw (p.1, p.2) (fails_here (next c.args.format) before IsPictureHeaderSoFar c.args.r.now c.take_psc.new.r c.take_field.new.r (Psc ∷ []) _ walk (0, 0, [], Tr 0, Ptype 0 ∷ Pei false ∷ [], refl) took.bad took.place took.kept)

pub returns-in_err-take_ptype-clause-walk : goal.returns-in_err-take_ptype-clause-walk
returns-in_err-take_ptype-clause-walk c = λ before due.
    let p = err_from_is_err_and c.from_residual-in_err-take_ptype.result c.from_residual-in_err-take_ptype.ensures.1 in
    let tr = c.in_ok-tr.tr in
    let first = c.in_ok-take_psc.ensures c.args.format before due in
    let second = c.in_ok-tr.ensures.taken c.args.format (Psc ∷ before) AtTr Tr refl at-tr in
    let took = c.in_err-take_ptype.ensures.taken (Tr tr ∷ Psc ∷ before) refl in
    let more = goes_first (next c.args.format) (Psc ∷ before) c.take_psc.new.r c.take_field.new.r c.take_field.new.r (Tr tr) second.len [] second.good second.behind refl in
    let walk = goes_first (next c.args.format) before c.args.r.now c.take_psc.new.r c.take_field.new.r Psc first.len (Tr tr ∷ []) first.good first.behind more in
    rw (p.1, p.2) (fails_here (next c.args.format) before IsPictureHeaderSoFar c.args.r.now c.take_field.new.r c.take_ptype.new.r (Psc ∷ Tr tr ∷ []) _ walk (tr, 0, [], Ptype 0, Pei false ∷ [], refl) took.bad took.place took.kept)

pub returns-in_err-pass_spares-clause-walk : goal.returns-in_err-pass_spares-clause-walk
returns-in_err-pass_spares-clause-walk c = λ before due.
    let p = err_from_is_err_and c.from_residual-in_err-pass_spares.result c.from_residual-in_err-pass_spares.ensures.1 in
    let tr = c.in_ok-tr.tr in
    let ptype = c.in_ok-take_ptype.field-0 in
    let first = c.in_ok-take_psc.ensures c.args.format before due in
    let second = c.in_ok-tr.ensures.taken c.args.format (Psc ∷ before) AtTr Tr refl at-tr in
    let third = c.in_ok-take_ptype.ensures.taken (Tr tr ∷ Psc ∷ before) refl in
    let rest = c.in_err-pass_spares.ensures.walk c.args.format (Ptype ptype ∷ Tr tr ∷ Psc ∷ before) OfPicture refl in
    let last = goes_first (next c.args.format) (Tr tr ∷ Psc ∷ before) c.take_field.new.r c.take_ptype.new.r c.pass_spares.new.r (Ptype ptype) third.len rest.elements third.good third.behind rest.walk in
    let more = goes_first (next c.args.format) (Psc ∷ before) c.take_psc.new.r c.take_field.new.r c.pass_spares.new.r (Tr tr) second.len (Ptype ptype ∷ rest.elements) second.good second.behind last in
    let walk = goes_first (next c.args.format) before c.args.r.now c.take_psc.new.r c.pass_spares.new.r Psc first.len (Tr tr ∷ Ptype ptype ∷ rest.elements) first.good first.behind more in
    let part = rest.part in
    rw (p.1, p.2) record { elements = Psc ∷ Tr tr ∷ Ptype ptype ∷ rest.elements; walk = walk; part = (tr, ptype, part.0, part.1, part.2, ap (λ (es : List Element). Psc ∷ Tr tr ∷ Ptype ptype ∷ es) part.3); bad = rest.bad; place = rest.place }

pub returns-clause-walk : goal.returns-clause-walk
returns-clause-walk c = λ before due.
    let tr = c.in_ok-tr.tr in
    let ptype = c.in_ok-take_ptype.field-0 in
    let first = c.in_ok-take_psc.ensures c.args.format before due in
    let second = c.in_ok-tr.ensures.taken c.args.format (Psc ∷ before) AtTr Tr refl at-tr in
    let third = c.in_ok-take_ptype.ensures.taken (Tr tr ∷ Psc ∷ before) refl in
    let rest = c.in_ok-pass_spares.ensures.walk c.args.format (Ptype ptype ∷ Tr tr ∷ Psc ∷ before) OfPicture refl in
    let last = goes_first (next c.args.format) (Tr tr ∷ Psc ∷ before) c.take_field.new.r c.take_ptype.new.r c.pass_spares.new.r (Ptype ptype) third.len rest.elements third.good third.behind rest.walk in
    let more = goes_first (next c.args.format) (Psc ∷ before) c.take_psc.new.r c.take_field.new.r c.pass_spares.new.r (Tr tr) second.len (Ptype ptype ∷ rest.elements) second.good second.behind last in
    let walk = goes_first (next c.args.format) before c.args.r.now c.take_psc.new.r c.pass_spares.new.r Psc first.len (Tr tr ∷ Ptype ptype ∷ rest.elements) first.good first.behind more in
    record { elements = Psc ∷ Tr tr ∷ Ptype ptype ∷ rest.elements; walk = walk; wanted = record { ptype = ptype; spares = rest.wanted.octets; elements = ap (λ (es : List Element). Psc ∷ Tr tr ∷ Ptype ptype ∷ es) rest.wanted.elements } }
