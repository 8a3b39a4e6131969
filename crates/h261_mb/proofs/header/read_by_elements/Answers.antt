use Rattle.std.proofs.Common.{◌≡◌, ℕ, ◌≤◌, ◌∷◌, length, Option, arith, List, sym, ap, subst, w8, rules}
use Rattle.std.proofs.lemmas.Int.{to_z-of_z}
use Rattle.std.proofs.lemmas.Result.{err_from_is_err_and}
use Rattle.pel_model.specs.declared.MbKind.{MbKind}
use Rattle.pel_model.specs.Walk.{after}
use Rattle.pel_model.specs.Grammar.{Element, Mba, Mtype, next}
use Rattle.pel_model.specs.Elements.{mquant_elements}
use Rattle.h261_mb.specs.State.{IsNear}
use Rattle.pel_model.specs.declared.Why.TheVariants.{NoCode}
use Rattle.h261_mb.specs.Inside.{StaysInside, IsMacroblockSoFar}
use Rattle.h261_mb.proofs.InsideLaws.{inside-front, inside-read_vector, stays_later, so_far_later}
use Rattle.h261_mb.proofs.Steps.{fails_later, not_there, still_fails}
use Rattle.h261_mb.proofs.Taken.{header-taken}
use Rattle.h261_mb.proofs.header.read_by_elements.Goals as goal

-- a front has elements
begins : (es : List Element) (d : ℕ) (k : MbKind) (mquant : Option ℕ) → es ≡ Mba d ∷ Mtype k ∷ mquant_elements mquant → 1 ≤ length es
begins es d k mquant is = omega (arith, ap length is)

pub returns-in_err-front : goal.returns-in_err-front
returns-in_err-front c =
    let p = err_from_is_err_and c.from_residual.result c.from_residual.ensures.1 in
    rw (p.1, p.2) (record { ready = tt; onward = tt; no_word = λ why is. still_fails why _ _ _ (c.in_err-front.ensures.no_word why is); stuffing = λ n is. still_fails NoCode _ _ _ (c.in_err-front.ensures.stuffing n is); walk = λ before d n stands is. c.in_err-front.ensures.walk c.args.format before c.args.group d n stands is })

pub returns-in_err-h : goal.returns-in_err-h
returns-in_err-h c =
    let p = err_from_is_err_and c.from_residual-in_err-h.result c.from_residual-in_err-h.ensures.1 in
    rw (p.1, p.2) (record {
      ready = tt;
      onward = tt;
      no_word = λ why is. absurd (not_there _ _ (c.in_ok-front.ensures.no_word why is).0);
      stuffing = λ n is. absurd (not_there _ _ (c.in_ok-front.ensures.stuffing n is).0);
      walk = λ before d n stands is.
          let next = next c.args.format in
          let front = c.in_ok-front.ensures.walk c.args.format before c.args.group d n stands is in
          let bad = c.in_err-h.ensures.walk (after before front.elements) front.wanted.begun in
          fails_later next before (IsMacroblockSoFar before) c.args.r.now c.read_front.new.r c.read_vector.new.r front.elements _ front.walk bad (so_far_later before front.elements bad.elements (begins front.elements _ _ _ front.wanted.elements) (inside-front front.elements _ _ _ front.wanted.elements) bad.part);
    })

pub returns-in_err-pattern : goal.returns-in_err-pattern
returns-in_err-pattern c =
    let p = err_from_is_err_and c.from_residual-in_err-pattern.result c.from_residual-in_err-pattern.ensures.1 in
    rw (p.1, p.2) (record {
      ready = tt;
      onward = tt;
      no_word = λ why is. absurd (not_there _ _ (c.in_ok-front.ensures.no_word why is).0);
      stuffing = λ n is. absurd (not_there _ _ (c.in_ok-front.ensures.stuffing n is).0);
      walk = λ before d n stands is.
          let next = next c.args.format in
          let front = c.in_ok-front.ensures.walk c.args.format before c.args.group d n stands is in
          let began = after before front.elements in
          let vector = c.in_ok-h.ensures.walk began front.wanted.begun in
          let moved = vector.wanted.moved in
          let bad = c.in_err-pattern.ensures.walk c.args.format (after began vector.elements) (record { due = moved.due; kind_is = moved.kind_is; to_come = moved.blocks_are }) in
          let later = fails_later next began (StaysInside began) c.read_front.new.r c.read_vector.new.r c.read_pattern.new.r vector.elements _ vector.walk bad (stays_later began vector.elements bad.elements (inside-read_vector vector.elements _ _ _ vector.wanted.elements) bad.part) in
          fails_later next before (IsMacroblockSoFar before) c.args.r.now c.read_front.new.r c.read_pattern.new.r front.elements _ front.walk later (so_far_later before front.elements later.elements (begins front.elements _ _ _ front.wanted.elements) (inside-front front.elements _ _ _ front.wanted.elements) later.part);
    })

pub returns : goal.returns
returns c =
    let h_is = to_z-of_z w8 c.in_ok-h.h (search rules) in
    let v_is = to_z-of_z w8 c.in_ok-h.v (search rules) in
    record {
      ready = record { address = c.in_ok-front.ensures.within.within; across = subst IsNear (sym h_is) c.in_ok-h.ensures.near.0; down = subst IsNear (sym v_is) c.in_ok-h.ensures.near.1 };
      onward = omega (arith, c.in_ok-front.ensures.onward, c.in_ok-h.ensures.onward, c.in_ok-pattern.ensures.onward);
      no_word = λ why is. absurd (not_there _ _ (c.in_ok-front.ensures.no_word why is).0);
      stuffing = λ n is. absurd (not_there _ _ (c.in_ok-front.ensures.stuffing n is).0);
      walk = λ before d n stands is.
          let first = c.in_ok-front.ensures.walk c.args.format before c.args.group d n stands is in
          let began = after before first.elements in
          let vector = c.in_ok-h.ensures.walk began first.wanted.begun in
          let moved = vector.wanted.moved in
          let cbp = c.in_ok-pattern.ensures.walk c.args.format (after began vector.elements) (record { due = moved.due; kind_is = moved.kind_is; to_come = moved.blocks_are }) in
          header-taken c.args.format before c.args.group c.args.state.now.address c.in_ok-front.front c.in_ok-h.h c.in_ok-h.v _ _ c.in_ok-pattern.pattern c.args.r.now c.read_front.new.r c.read_vector.new.r c.read_pattern.new.r (sym (to_z-of_z w8 c.in_ok-h.h (search rules))) (sym (to_z-of_z w8 c.in_ok-h.v (search rules))) first vector cbp;
    }
