use Rattle.std.proofs.Common.{◌≡◌, ◌≤◌, ◌++◌, true, false, length, take, refl, arith, length-take}
use Rattle.pel_bits.specs.Reading.{zeros}
use Rattle.pel_bits.proofs.RunBits.{number-fits_in}
use Rattle.h261_block.proofs.Passing.{none_passed, passes, ends}
use Rattle.h261_block.proofs.octets.pass_blocks.Goals as goal

pub cell_at-cell-requires : goal.cell_at-cell-requires
cell_at-cell-requires c =
    let seen = take 8 (c.loop-left.ahead.0 ++ zeros 8) in
    let short : length seen ≤ 8 = omega (arith, length-take 8 (c.loop-left.ahead.0 ++ zeros 8)) in
    (c.loop-left.invariant.passing.within, omega (arith, c.peek.ensures, number-fits_in seen 8 short))

pub loop-left-init : goal.loop-left-init
loop-left-init c = record {
  kept = refl;
  passing = none_passed c.args.intra c.args.count c.first_state-state.result c.args.r.now c.copy-ahead.result c.copy-ahead.ensures c.first_state-state.ensures c.requires;
}

not_both : true ≡ false → ⊥
not_both h = cc

pub returns-then-cell-left : goal.returns-then-cell-left
returns-then-cell-left c =
    let l = c.loop-left in
    record {
      kept = λ no. absurd (not_both no);
      passed = λ _. ends c.args.intra c.args.count c.args.r.now l.ahead l.state l.filled l.left l.invariant.passing
          c.peek.result c.peek.ensures c.cell_at-cell.result c.cell_at-cell.ensures c.skip.new.self
          c.last_end-end.result (omega arith) (omega arith) (omega arith) c.skip.ensures c.last_end-end.ensures;
    }

pub loop-left-preserved : goal.loop-left-preserved
loop-left-preserved c =
    let l = c.loop-left in
    record {
      kept = l.invariant.kept;
      passing = passes c.args.intra c.args.count c.args.r.now l.ahead l.state l.filled l.left l.invariant.passing
          c.peek.result c.peek.ensures c.cell_at-cell.result c.cell_at-cell.ensures c.skip-in-loop-left.new.self
          _ _ (omega arith) (omega arith) (omega arith) c.skip-in-loop-left.ensures c.filled_behind-filled.ensures (omega arith);
    }
