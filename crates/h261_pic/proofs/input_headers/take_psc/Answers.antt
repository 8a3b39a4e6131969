use Rattle.std.proofs.Common.{◌≡◌, refl, arith}
use Rattle.pel_model.specs.Codes.{picture_start_code}
use Rattle.h261_pic.proofs.HeaderSteps.{start-good, start-cut, other-number, is_front, code-field, peeked}
use Rattle.h261_pic.proofs.input_headers.take_psc.Goals as goal

pub returns-then-peek-width : goal.returns-then-peek-width
returns-then-peek-width c = λ format before due.
    let k = c.min-width.result in
    let left = c.args.r.now.0 in
    record { bad = other-number format before c.args.r.now due c.peek.result k (omega arith) (peeked left c.peek.result k (omega arith) c.peek.ensures) c.if-peek-width.true; place = c.place-place.ensures; kept = refl }

pub returns-then-width-lt20 : goal.returns-then-width-lt20
returns-then-width-lt20 c = λ format before due.
    let k = c.min-width.result in
    let left = c.args.r.now.0 in
    record { bad = start-cut format before c.args.r.now due k (omega arith) (omega arith) (is_front picture_start_code 16 20 code-field (omega arith) left c.peek.result k (omega arith) (peeked left c.peek.result k (omega arith) c.peek.ensures) (omega arith) c.if-peek-width.false); place = c.place-place.ensures; kept = refl }

pub returns : goal.returns
returns c = λ format before due.
    let k = c.min-width.result in
    let left = c.args.r.now.0 in
    let same = is_front picture_start_code 16 20 code-field (omega arith) left c.peek.result k (omega arith) (peeked left c.peek.result k (omega arith) c.peek.ensures) (omega arith) c.if-peek-width.false in
    let k_is : k ≡ 20 = omega arith in
    record { len = 20; good = start-good format before c.args.r.now due (omega arith) (rw k_is at same); behind = c.skip.ensures }
