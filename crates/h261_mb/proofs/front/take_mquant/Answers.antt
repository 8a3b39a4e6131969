use Rattle.std.proofs.Common.{◌≤◌, ◌++◌, ℕ, Bool, List, ap, length, take, refl, arith, length-take}
use Rattle.std.proofs.lemmas.Bool.{eq-eqb, ne_eqb}
use Rattle.pel_bits.specs.Reading.{zeros}
use Rattle.pel_bits.proofs.RunBits.{number-fits_in}
use Rattle.h261_mb.proofs.Slots.{mquant-cut, mquant-good, mquant-bad}
use Rattle.h261_mb.proofs.front.take_mquant.Goals as goal

pub returns-then-left-lt5 : goal.returns-then-left-lt5
returns-then-left-lt5 c = record {
  onward = tt;
  taken = λ format before due.
      record { bad = mquant-cut format before c.args.r.now due (omega arith); place = c.place-place.ensures; kept = refl };
}

pub overflow_cast-quant : goal.overflow_cast-quant
overflow_cast-quant c =
    let seen = take 5 (c.args.r.now.0 ++ zeros 5) in
    let short : length seen ≤ 5 = omega (arith, length-take 5 (c.args.r.now.0 ++ zeros 5)) in
    omega (arith, c.peek-quant.ensures, number-fits_in seen 5 short)

pub returns-then-quant-eq0 : goal.returns-then-quant-eq0
returns-then-quant-eq0 c = record {
  onward = tt;
  taken = λ format before due.
      record { bad = mquant-bad format before c.args.r.now due c.peek-quant.result (omega arith) c.peek-quant.ensures (eq-eqb c.peek-quant.result 0 c.if-quant-eq0.true); place = c.place-place.ensures; kept = refl };
}

pub returns : goal.returns
returns c = record {
  onward = omega (arith, ap (λ (q : List Bool × ℕ). q.1) c.skip.ensures);
  taken = λ format before due.
      record { len = 5; good = mquant-good format before c.args.r.now due c.peek-quant.result (omega arith) c.peek-quant.ensures (ne_eqb c.peek-quant.result 0 c.if-quant-eq0.false); behind = c.skip.ensures };
}
