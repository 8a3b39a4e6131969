use Rattle.std.proofs.Common.{◌≡◌, [], refl, sym, ap, arith}
use Rattle.pel_model.specs.Codes.{group_start_code}
use Rattle.pel_model.specs.Walk.{Bad}
use Rattle.pel_model.specs.Grammar.{AtGroup, AtMacroblock, mba_rows}
use Rattle.h261_pic.proofs.HeaderSteps.{is_front, peeked}
use Rattle.h261_pic.proofs.Comings.{group-field, group-comes, group-is-cut, nothing-comes, at-macroblock, at-group, no_tails}
use Rattle.h261_pic.proofs.coming.take_gbsc.Goals as goal

pub returns-then-peek-width-clause-behind_a_group : goal.returns-then-peek-width-clause-behind_a_group
returns-then-peek-width-clause-behind_a_group c = λ format before due goes_on is.
    let k = c.min-width.result in
    let left = c.args.r.now.0 in
    record { bad = nothing-comes format before c.args.r.now AtMacroblock mba_rows no_tails due (at-macroblock c.args.r.now.0 goes_on) c.args.why is c.peek.result k (omega arith) (peeked left c.peek.result k (omega arith) c.peek.ensures) c.if-peek-width.true; place = c.place-place.ensures; kept = refl }

pub returns-then-peek-width-clause-behind_a_header : goal.returns-then-peek-width-clause-behind_a_header
returns-then-peek-width-clause-behind_a_header c = λ format before due goes_on is.
    let k = c.min-width.result in
    let left = c.args.r.now.0 in
    record { bad = nothing-comes format before c.args.r.now AtGroup [] refl due (at-group c.args.r.now.0 goes_on) c.args.why (ap Bad (sym is)) c.peek.result k (omega arith) (peeked left c.peek.result k (omega arith) c.peek.ensures) c.if-peek-width.true; place = c.place-place.ensures; kept = refl }

pub returns-then-width-lt16-clause-behind_a_group : goal.returns-then-width-lt16-clause-behind_a_group
returns-then-width-lt16-clause-behind_a_group c = λ format before due goes_on is.
    let k = c.min-width.result in
    let left = c.args.r.now.0 in
    let same = is_front group_start_code 1 16 group-field (omega arith) left c.peek.result k (omega arith) (peeked left c.peek.result k (omega arith) c.peek.ensures) (omega arith) c.if-peek-width.false in
    record { bad = group-is-cut format before c.args.r.now AtMacroblock mba_rows no_tails due (at-macroblock c.args.r.now.0 goes_on) c.args.why is k (omega arith) (omega arith) same; place = c.place-place.ensures; kept = refl }

pub returns-then-width-lt16-clause-behind_a_header : goal.returns-then-width-lt16-clause-behind_a_header
returns-then-width-lt16-clause-behind_a_header c = λ format before due goes_on is.
    let k = c.min-width.result in
    let left = c.args.r.now.0 in
    let same = is_front group_start_code 1 16 group-field (omega arith) left c.peek.result k (omega arith) (peeked left c.peek.result k (omega arith) c.peek.ensures) (omega arith) c.if-peek-width.false in
    record { bad = group-is-cut format before c.args.r.now AtGroup [] refl due (at-group c.args.r.now.0 goes_on) c.args.why (ap Bad (sym is)) k (omega arith) (omega arith) same; place = c.place-place.ensures; kept = refl }

pub returns-clause-behind_a_group : goal.returns-clause-behind_a_group
returns-clause-behind_a_group c = λ format before due goes_on is.
    let k = c.min-width.result in
    let left = c.args.r.now.0 in
    let same = is_front group_start_code 1 16 group-field (omega arith) left c.peek.result k (omega arith) (peeked left c.peek.result k (omega arith) c.peek.ensures) (omega arith) c.if-peek-width.false in
    let k_is : k ≡ 16 = omega arith in
    record { len = 16; good = group-comes format before c.args.r.now AtMacroblock mba_rows no_tails due (at-macroblock c.args.r.now.0 goes_on) c.args.why is (omega arith) (rw k_is at same); behind = c.skip.ensures }

pub returns-clause-behind_a_header : goal.returns-clause-behind_a_header
returns-clause-behind_a_header c = λ format before due goes_on is.
    let k = c.min-width.result in
    let left = c.args.r.now.0 in
    let same = is_front group_start_code 1 16 group-field (omega arith) left c.peek.result k (omega arith) (peeked left c.peek.result k (omega arith) c.peek.ensures) (omega arith) c.if-peek-width.false in
    let k_is : k ≡ 16 = omega arith in
    record { len = 16; good = group-comes format before c.args.r.now AtGroup [] refl due (at-group c.args.r.now.0 goes_on) c.args.why (ap Bad (sym is)) (omega arith) (rw k_is at same); behind = c.skip.ensures }
