use Rattle.std.proofs.Common.{◌-◌, ◌∷◌, [], inl, inr, refl, sym, ◌∙◌, subst, w8, rules, arith}
use Rattle.std.proofs.lemmas.Int.{to_z-of_z}
use Rattle.std.proofs.lemmas.Result.{err_from_is_err_and}
use Rattle.pel_model.specs.Grammar.{Mba, Mtype, next}
use Rattle.h261_mb.specs.State.{IsNear}
use Rattle.pel_model.specs.declared.Why.TheVariants.{NoCode}
use Rattle.h261_mb.specs.Inside.{IsMacroblockSoFar}
use Rattle.h261_mb.proofs.Steps.{goes_first, fails_here, not_there, still_fails}
use Rattle.h261_mb.proofs.Taken.{front-taken}
use Rattle.h261_mb.proofs.front.read_front.Goals as goal

pub returns-in_err-address : goal.returns-in_err-address
returns-in_err-address c =
    let p = err_from_is_err_and c.from_residual.result c.from_residual.ensures.1 in
    rw (p.1, p.2) (record {
      within = tt;
      onward = tt;
      no_word = λ why is. still_fails why _ _ _ (c.in_err-address.ensures.no_word why is);
      stuffing = λ n is. still_fails NoCode _ _ _ (c.in_err-address.ensures.stuffing n is);
      walk = λ format before number d n stands is.
          let took = c.in_err-address.ensures.taken format before d n stands.due stands.say.address_is is in
          fails_here (next format) before (IsMacroblockSoFar before) c.args.r.now c.args.r.now c.take_mba.new.r [] _ refl (tt, inl refl) took.bad took.place took.kept;
    })

pub returns-in_err-kind : goal.returns-in_err-kind
returns-in_err-kind c =
    let p = err_from_is_err_and c.from_residual-in_err-kind.result c.from_residual-in_err-kind.ensures.1 in
    rw (p.1, p.2) (record {
      within = tt;
      onward = tt;
      no_word = λ why is. absurd (not_there _ _ (c.in_ok-address.ensures.no_word why is).0);
      stuffing = λ n is. absurd (not_there _ _ (c.in_ok-address.ensures.stuffing n is).0);
      walk = λ format before number d n stands is.
          let took = c.in_ok-address.ensures.taken format before d n stands.due stands.say.address_is is in
          let mba = Mba (c.in_ok-address.address - c.args.state.now.address) in
          let bad = c.in_err-kind.ensures.taken format (mba ∷ before) refl in
          fails_here (next format) before (IsMacroblockSoFar before) c.args.r.now c.take_mba.new.r c.take_mtype.new.r (mba ∷ []) _ (took.len, took.good, took.behind) (tt, inr refl) bad.bad bad.place bad.kept;
    })

pub returns-in_err-quant : goal.returns-in_err-quant
returns-in_err-quant c =
    let p = err_from_is_err_and c.from_residual-in_err-quant.result c.from_residual-in_err-quant.ensures.1 in
    rw (p.1, p.2) (record {
      within = tt;
      onward = tt;
      no_word = λ why is. absurd (not_there _ _ (c.in_ok-address.ensures.no_word why is).0);
      stuffing = λ n is. absurd (not_there _ _ (c.in_ok-address.ensures.stuffing n is).0);
      walk = λ format before number d n stands is.
          let took = c.in_ok-address.ensures.taken format before d n stands.due stands.say.address_is is in
          let mba = Mba (c.in_ok-address.address - c.args.state.now.address) in
          let kind = c.in_ok-kind.ensures.taken format (mba ∷ before) refl in
          let later = c.in_err-quant.ensures.walk format (mba ∷ before) in
          let mtype = Mtype c.in_ok-kind.kind in
          record { elements = mba ∷ mtype ∷ later.elements; walk = goes_first (next format) before c.args.r.now c.take_mba.new.r c.read_mquant.new.r mba took.len (mtype ∷ later.elements) took.good took.behind (goes_first (next format) (mba ∷ before) c.take_mba.new.r c.take_mtype.new.r c.read_mquant.new.r mtype kind.len later.elements kind.good kind.behind later.walk); part = (later.part.0, inr later.part.1); bad = later.bad; place = later.place };
    })

pub returns : goal.returns
returns c =
    let state = c.args.state.now in
    let at = c.in_ok-address.address in
    let mba = Mba (at - state.address) in
    let h_is = to_z-of_z w8 c.predictor-h.result.0 (search rules) in
    let v_is = to_z-of_z w8 c.predictor-h.result.1 (search rules) in
    record {
      within = record { some = omega (arith, c.in_ok-address.ensures.within.0); within = c.in_ok-address.ensures.within.1; across = subst IsNear (sym h_is) c.predictor-h.ensures.near.0; down = subst IsNear (sym v_is) c.predictor-h.ensures.near.1 };
      onward = omega (arith, c.in_ok-address.ensures.onward, c.in_ok-kind.ensures.onward, c.in_ok-quant.ensures.onward);
      no_word = λ why is. absurd (not_there _ _ (c.in_ok-address.ensures.no_word why is).0);
      stuffing = λ n is. absurd (not_there _ _ (c.in_ok-address.ensures.stuffing n is).0);
      walk = λ format before number d n stands is.
          let took = c.in_ok-address.ensures.taken format before d n stands.due stands.say.address_is is in
          front-taken format before number state at c.in_ok-quant.quant c.in_ok-kind.kind _ _ c.args.r.now c.take_mba.new.r c.take_mtype.new.r c.read_mquant.new.r stands c.in_ok-address.ensures.within.0 (sym c.predictor-h.ensures.across ∙ sym h_is) (sym c.predictor-h.ensures.down ∙ sym v_is) took (c.in_ok-kind.ensures.taken format (mba ∷ before) refl) (c.in_ok-quant.ensures.walk format (mba ∷ before));
    }
