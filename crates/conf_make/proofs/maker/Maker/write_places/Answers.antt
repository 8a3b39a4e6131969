-- Place by place.
use Rattle.std.proofs.Common.{ℕ, ◌++◌, ◌∙◌, ap, arith}
use Rattle.pel_model.specs.declared.Quad.TheVariants.{One, Two, Three, Four}
use Rattle.conf_make.specs.Writing.{place_entry}
use Rattle.conf_make.proofs.Filing.{placed-is}
use Rattle.conf_make.proofs.Making.{none-made, more-made, failed-made, last-made, same-made}
use Rattle.conf_make.proofs.maker.Maker.write_places.Goals as goal

pub returns-in_err-place : goal.returns-in_err-place
returns-in_err-place g c =
    let before = g.K.Sink.tells c.args.sink.now in
    let lanes = c.args.self.now.lanes in
    let one = place_entry lanes One 0 in
    let rest = place_entry lanes Two 1 ++ (place_entry lanes Three 2 ++ place_entry lanes Four 3) in
    same-made 4 _ _ _ _ _ _ _ c.from_residual.result (placed-is lanes)
    (failed-made 4 0 1 (one ++ rest) one rest _ _ before _ _ c.args.self.now _ _ c.from_residual.result _ c.from_residual.ensures.0 (omega arith)
    (none-made (one ++ rest) before c.args.self.now) c.in_err-place.ensures)

pub returns-in_err-place-2 : goal.returns-in_err-place-2
returns-in_err-place-2 g c =
    let before = g.K.Sink.tells c.args.sink.now in
    let lanes = c.args.self.now.lanes in
    let one = place_entry lanes One 0 in
    let two = place_entry lanes Two 1 in
    let rest = place_entry lanes Three 2 ++ place_entry lanes Four 3 in
    let all = one ++ (two ++ rest) in
    let first = more-made 1 0 1 all one (two ++ rest) _ before _ _ c.args.self.now _ _ _ (omega arith) (none-made all before c.args.self.now) c.in_ok-place.ensures in
    let second = same-made 1 _ two _ _ _ _ _ _ (ap (λ (n : ℕ). place_entry n Two 1) c.in_ok-place.ensures.lanes) c.in_err-place-2.ensures in
    same-made 4 _ _ _ _ _ _ _ c.from_residual-in_err-place-2.result (placed-is lanes)
    (failed-made 4 1 1 all two rest _ _ before _ _ c.args.self.now _ _ c.from_residual-in_err-place-2.result _ c.from_residual-in_err-place-2.ensures.0 (omega arith) first second)

pub returns-in_err-place-3 : goal.returns-in_err-place-3
returns-in_err-place-3 g c =
    let before = g.K.Sink.tells c.args.sink.now in
    let lanes = c.args.self.now.lanes in
    let one = place_entry lanes One 0 in
    let two = place_entry lanes Two 1 in
    let three = place_entry lanes Three 2 in
    let rest = place_entry lanes Four 3 in
    let all = one ++ (two ++ (three ++ rest)) in
    let first = more-made 1 0 1 all one (two ++ (three ++ rest)) _ before _ _ c.args.self.now _ _ _ (omega arith) (none-made all before c.args.self.now) c.in_ok-place.ensures in
    let second = more-made 2 1 1 all two (three ++ rest) _ before _ _ c.args.self.now _ _ _ (omega arith) first
    (same-made 1 _ two _ _ _ _ _ _ (ap (λ (n : ℕ). place_entry n Two 1) c.in_ok-place.ensures.lanes) c.in_ok-place-2.ensures) in
    let third = same-made 1 _ three _ _ _ _ _ _ (ap (λ (n : ℕ). place_entry n Three 2) second.lanes) c.in_err-place-3.ensures in
    same-made 4 _ _ _ _ _ _ _ c.from_residual-in_err-place-3.result (placed-is lanes)
    (failed-made 4 2 1 all three rest _ _ before _ _ c.args.self.now _ _ c.from_residual-in_err-place-3.result _ c.from_residual-in_err-place-3.ensures.0 (omega arith) second third)

pub returns : goal.returns
returns g c =
    let before = g.K.Sink.tells c.args.sink.now in
    let lanes = c.args.self.now.lanes in
    let one = place_entry lanes One 0 in
    let two = place_entry lanes Two 1 in
    let three = place_entry lanes Three 2 in
    let four = place_entry lanes Four 3 in
    let all = one ++ (two ++ (three ++ four)) in
    let first = more-made 1 0 1 all one (two ++ (three ++ four)) _ before _ _ c.args.self.now _ _ _ (omega arith) (none-made all before c.args.self.now) c.in_ok-place.ensures in
    let second = more-made 2 1 1 all two (three ++ four) _ before _ _ c.args.self.now _ _ _ (omega arith) first
    (same-made 1 _ two _ _ _ _ _ _ (ap (λ (n : ℕ). place_entry n Two 1) c.in_ok-place.ensures.lanes) c.in_ok-place-2.ensures) in
    let third = more-made 3 2 1 all three four _ before _ _ c.args.self.now _ _ _ (omega arith) second
    (same-made 1 _ three _ _ _ _ _ _ (ap (λ (n : ℕ). place_entry n Three 2) second.lanes) c.in_ok-place-3.ensures) in
    let fourth = same-made 1 _ four _ _ _ _ _ _ (ap (λ (n : ℕ). place_entry n Four 3) third.lanes) c.place-4.ensures in
    let state = c.in_ok-place-3.ensures.state ∙ (c.in_ok-place-2.ensures.state ∙ c.in_ok-place.ensures.state) in
    same-made 4 _ _ _ _ _ _ _ c.place-4.result (placed-is lanes)
    (last-made 4 3 1 all four _ c.args.self.now.state before _ _ c.args.self.now _ _ c.place-4.result (omega arith) state third fourth)
