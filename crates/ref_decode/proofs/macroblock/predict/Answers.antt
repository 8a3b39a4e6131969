use Rattle.std.proofs.Common.{◌≡◌, ℕ, ◌+◌, ◌-◌, ◌*◌, ◌≤◌, min, sym, ◌∙◌, ap, ap₂, arith, rules, w8, to_z, of_z}
use Rattle.std.specs.Prelude.{slice_index}
use Rattle.std.proofs.Math.Nat.{mul-le-mul}
use Rattle.std.proofs.lemmas.Bool.{cond-true, cond-false}
use Rattle.std.proofs.lemmas.Int.{to_z-of_z}
use Rattle.pel_model.specs.Prediction.{moved_by}
use Rattle.ref_decode.specs.Blocks.{filtered_if}
use Rattle.ref_decode.specs.Drawing.{reference_left, reference_top, reference_at}
use Rattle.ref_decode.proofs.Rowing.{zeros_at}
use Rattle.ref_decode.proofs.macroblock.predict.Goals as goal

pub returns-then-is_intra : goal.returns-then-is_intra
returns-then-is_intra c = λ x y hx hy.
    zeros_at 64 (8 * y + x) ∙ sym (cond-true _ _ _ (sym c.is_intra.ensures ∙ c.if-is_intra.true))

pub predicted-requires-clause-small : goal.predicted-requires-clause-small
predicted-requires-clause-small c =
    let a : c.args.spot.now.width ≤ 512 = omega arith in
    let b : c.moved-top.result ≤ 512 = omega (arith, c.moved-top.ensures) in
    let p : c.args.spot.now.width * c.moved-top.result ≤ 512 * 512 = mul-le-mul a b in
    (omega (arith, p, c.moved-left.ensures), omega arith)

pub returns : goal.returns
returns c = λ x y hx hy.
    let h : to_z w8 (of_z w8 c.args.header.now.h) ≡ c.args.header.now.h = to_z-of_z w8 c.args.header.now.h (search rules) in
    let v : to_z w8 (of_z w8 c.args.header.now.v) ≡ c.args.header.now.v = to_z-of_z w8 c.args.header.now.v (search rules) in
    let left : c.moved-left.result ≡ reference_left c.args.spot.now c.args.header.now = c.moved-left.ensures ∙ ap (λ z. min (moved_by c.args.spot.now.ratio z c.args.spot.now.left) (c.args.spot.now.width - 8)) h in
    let top : c.moved-top.result ≡ reference_top c.args.spot.now c.args.header.now = c.moved-top.ensures ∙ ap (λ z. min (moved_by c.args.spot.now.ratio z c.args.spot.now.top) (c.args.spot.now.height - 8)) v in
    c.predicted.ensures x y hx hy
    ∙ (ap₂ (λ (l t : ℕ). filtered_if c.has_filter.result (λ a b. slice_index c.args.shown.now (c.args.spot.now.start + c.args.spot.now.width * t + l + c.args.spot.now.width * b + a)) x y) left top
    ∙ (ap (λ f. filtered_if f (reference_at c.args.shown.now c.args.spot.now c.args.header.now) x y) c.has_filter.ensures
    ∙ sym (cond-false _ _ _ (sym c.is_intra.ensures ∙ c.if-is_intra.false))))
