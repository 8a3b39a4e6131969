use Rattle.std.proofs.Common.{◌<◌, pos, length, sym, subst, arith}
use Rattle.std.proofs.lemmas.Result.{err_from_is_err_and}
use Rattle.h261_mb.specs.State.{Stands}
use Rattle.h261_pic.proofs.GroupReading.{ready-first}
use Rattle.ref_decode.specs.Drawing.{ComesNext, MacroblockDrawn}
use Rattle.ref_decode.proofs.Grouping.{GroupSoFar, none_so_far, one, next_one, text_here, rest_of, one_further, all_done}
use Rattle.ref_decode.proofs.picture.draw_group.Goals as goal

pub loop-i-init : goal.loop-i-init
loop-i-init c = record {
  ready = ready-first c.args.view.quant;
  long = c.requires.planes.next;
  so_far = λ g rest valid number quant marks bits.
      subst (λ q. GroupSoFar c.args.format g rest 0 (record { address = 0; quant = q; h = pos 0; v = pos 0 }) c.args.r.now c.args.shown.now c.args.next.now c.args.next.now) (sym quant)
      (none_so_far c.args.format g rest c.args.r.now c.args.shown.now c.args.next.now valid bits);
}

pub draw_macroblock-requires-clause-ready : goal.draw_macroblock-requires-clause-ready
draw_macroblock-requires-clause-ready c = c.loop-i.invariant.ready

pub returns-in_err-draw_macroblock-clause-drawn : goal.returns-in_err-draw_macroblock-clause-drawn
returns-in_err-draw_macroblock-clause-drawn c =
    let q = err_from_is_err_and c.from_residual.result c.from_residual.ensures.1 in
    rw q.1 (λ g rest valid number quant marks bits.
    let s = c.loop-i.invariant.so_far g rest valid number quant marks bits in
    let few : c.loop-i.i < length g.macroblocks = omega (arith, marks) in
    let m = one c.args.format g rest c.loop-i.i c.loop-i.state c.loop-i.r c.args.shown.now c.args.next.now c.loop-i.next s few in
    c.in_err-draw_macroblock.ensures.drawn s.before s.last m.0 (rest_of c.args.format g rest c.loop-i.i c.loop-i.state c.loop-i.r c.args.shown.now c.args.next.now c.loop-i.next s few)
    (subst (λ n. ComesNext c.args.format n s.last m.0 s.before) number (next_one c.args.format g rest c.loop-i.i c.loop-i.state c.loop-i.r c.args.shown.now c.args.next.now c.loop-i.next s few))
    (subst (λ n. Stands n c.loop-i.state s.before) number s.stands)
    (text_here c.args.format g rest c.loop-i.i c.loop-i.state c.loop-i.r c.args.shown.now c.args.next.now c.loop-i.next s few))

pub loop-i-preserved : goal.loop-i-preserved
loop-i-preserved c = record {
  ready = c.in_ok-draw_macroblock.ensures.ready;
  long = c.draw_macroblock.ensures.long;
  so_far = λ g rest valid number quant marks bits.
      let s = c.loop-i.invariant.so_far g rest valid number quant marks bits in
      let few : c.loop-i.i < length g.macroblocks = omega (arith, marks) in
      let m = one c.args.format g rest c.loop-i.i c.loop-i.state c.loop-i.r c.args.shown.now c.args.next.now c.loop-i.next s few in
      let ok = c.in_ok-draw_macroblock.ensures.drawn s.before s.last m.0 (rest_of c.args.format g rest c.loop-i.i c.loop-i.state c.loop-i.r c.args.shown.now c.args.next.now c.loop-i.next s few)
      (subst (λ n. ComesNext c.args.format n s.last m.0 s.before) number (next_one c.args.format g rest c.loop-i.i c.loop-i.state c.loop-i.r c.args.shown.now c.args.next.now c.loop-i.next s few))
      (subst (λ n. Stands n c.loop-i.state s.before) number s.stands)
      (text_here c.args.format g rest c.loop-i.i c.loop-i.state c.loop-i.r c.args.shown.now c.args.next.now c.loop-i.next s few) in
      one_further c.args.format g rest c.loop-i.i c.loop-i.state c.loop-i.r c.args.shown.now c.args.next.now c.loop-i.next s few c.draw_macroblock.new.state c.draw_macroblock.new.r c.draw_macroblock.new.next
      (subst (λ n. MacroblockDrawn c.args.format n s.before s.last m.0 (rest_of c.args.format g rest c.loop-i.i c.loop-i.state c.loop-i.r c.args.shown.now c.args.next.now c.loop-i.next s few) c.args.shown.now c.loop-i.next c.draw_macroblock.new.next c.loop-i.state c.draw_macroblock.new.state c.draw_macroblock.new.r) (sym number) ok);
}

pub returns-clause-drawn : goal.returns-clause-drawn
returns-clause-drawn c = λ g rest valid number quant marks bits.
    all_done c.args.format g rest c.loop-i.i c.loop-i.state c.loop-i.r c.args.shown.now c.args.next.now c.loop-i.next (c.loop-i.invariant.so_far g rest valid number quant marks bits) (omega (arith, marks))
