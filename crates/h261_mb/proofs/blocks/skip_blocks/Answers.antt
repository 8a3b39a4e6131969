use Rattle.std.proofs.Common.{◌≡◌, ◌-◌, [], flat_map, refl, sym, ◌∙◌, ap, arith}
use Rattle.pel_model.specs.Elements.{block_elements}
use Rattle.pel_model.specs.Grammar.{block_slot, next}
use Rattle.h261_mb.proofs.SentBlocks.{all_read, blocks_onward}
use Rattle.h261_mb.proofs.blocks.skip_blocks.Goals as goal

pub returns-then-count-eq0 : goal.returns-then-count-eq0
returns-then-count-eq0 c = record {
  onward = omega arith;
  walk = λ format before k is.
      let none : c.args.count ≡ 0 = omega arith in
      record { elements = []; walk = refl; wanted = record { sent = []; many = sym none; elements = refl; due = is.due ∙ ap (block_slot k) none } };
}

pub returns-then-pass_blocks : goal.returns-then-pass_blocks
returns-then-pass_blocks c =
    let stand = c.pass_blocks.ensures.passed c.if-pass_blocks.true in
    record {
      onward = blocks_onward c.args.intra c.args.count c.args.r.now c.pass_blocks.new.r stand;
      walk = λ format before k is.
          let all = all_read format before k is.kind_is c.args.intra is.intra_is c.args.count is.due is.to_come c.args.count (omega arith) c.args.r.now c.pass_blocks.new.r stand in
          let none_left : c.args.count - c.args.count ≡ 0 = omega arith in
          record { elements = flat_map block_elements all.read; walk = all.walk; wanted = record { sent = all.read; many = all.many; elements = refl; due = all.due ∙ ap (block_slot k) none_left } };
    }

pub returns : goal.returns
returns c = rw (c.pass_blocks.ensures.kept c.if-pass_blocks.false) at c.scan_blocks.ensures
