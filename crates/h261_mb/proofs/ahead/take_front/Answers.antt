use Rattle.std.proofs.Common.{◌<◌, ◌+◌, ◌-◌, ◌∷◌, refl, sym, ◌∙◌, subst, w8, rules, arith}
use Rattle.std.proofs.lemmas.Int.{to_z-of_z}
use Rattle.pel_model.specs.Grammar.{Mba}
use Rattle.h261_mb.specs.State.{IsNear}
use Rattle.h261_mb.proofs.Slots.{mba-good}
use Rattle.h261_mb.proofs.Words.{mba_above}
use Rattle.h261_mb.proofs.Taken.{mtype-taken, front-taken}
use Rattle.h261_mb.proofs.ahead.take_front.Goals as goal

pub returns-clause-walk : goal.returns-clause-walk
returns-clause-walk c = λ format before number stands.
    let state = c.args.state.now in
    let d = c.in_ok-difference.difference in
    let k = c.in_ok-kind.kind in
    let word = c.in_ok-difference.ensures in
    let above : 0 < d = mba_above c.args.w.now.0 d word.len word.good in
    let good = mba-good format before c.args.w.now state.address d word.len stands.due stands.say.address_is word.good (omega arith) in
    let mba = Mba (state.address + d - state.address) in
    let h_is = to_z-of_z w8 c.predictor-h.result.0 (search rules) in
    let v_is = to_z-of_z w8 c.predictor-h.result.1 (search rules) in
    front-taken format before number state (state.address + d) c.in_ok-quant.quant k _ _ c.args.w.now c.mba.new.self c.mtype.new.self c.take_mquant.new.w stands (omega (arith, above)) (sym c.predictor-h.ensures.across ∙ sym h_is) (sym c.predictor-h.ensures.down ∙ sym v_is) (record { len = word.len; good = good; behind = word.behind }) (mtype-taken format (mba ∷ before) k c.mba.new.self c.mtype.new.self refl c.in_ok-kind.ensures) (c.in_ok-quant.ensures format (mba ∷ before))

pub returns-clause-within : goal.returns-clause-within
returns-clause-within c =
    let word = c.in_ok-difference.ensures in
    let above : 0 < c.in_ok-difference.difference = mba_above c.args.w.now.0 c.in_ok-difference.difference word.len word.good in
    let h_is = to_z-of_z w8 c.predictor-h.result.0 (search rules) in
    let v_is = to_z-of_z w8 c.predictor-h.result.1 (search rules) in
    record { some = omega (arith, above); within = omega arith; across = subst IsNear (sym h_is) c.predictor-h.ensures.near.0; down = subst IsNear (sym v_is) c.predictor-h.ensures.near.1 }
