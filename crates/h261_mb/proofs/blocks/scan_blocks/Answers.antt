use Rattle.std.proofs.Common.{List, ◌≡◌, ◌-◌, flat_map, refl, sym, ◌∙◌, ap, subst, arith}
use Rattle.std.proofs.lemmas.Result.{err_from_is_err_and}
use Rattle.pel_model.specs.Elements.{block_elements}
use Rattle.pel_model.specs.Walk.{after}
use Rattle.pel_model.specs.Grammar.{Element, block_slot, may_end, next}
use Rattle.h261_mb.specs.Inside.{StaysInside}
use Rattle.h261_mb.proofs.InsideLaws.{inside-blocks, stays-in-block, stays_later}
use Rattle.h261_mb.proofs.SentBlocks.{block_is_inside, none_read, one_more, first_slot, block_onward}
use Rattle.h261_mb.proofs.Steps.{fails_later}
use Rattle.h261_mb.proofs.blocks.scan_blocks.Goals as goal

pub loop-block-init : goal.loop-block-init
loop-block-init c = record {
  onward = omega arith;
  so_far = λ format before k kind_is intra due to_come.
      none_read (next format) before k kind_is c.args.r.now c.args.count due to_come;
}

pub returns-in_err-scan_block : goal.returns-in_err-scan_block
returns-in_err-scan_block c =
    let p = err_from_is_err_and c.from_residual.result c.from_residual.ensures.1 in
    rw (p.1, p.2) (record {
      onward = tt;
      walk = λ format before k is.
          let intra = is.intra_is in
          let so_far = c.loop-block.invariant.so_far format before k is.kind_is intra is.due is.to_come in
          let es = flat_map block_elements so_far.read in
          let first = so_far.due ∙ first_slot k (c.args.count - c.loop-block._block) c.args.intra (omega arith) intra in
          let later = c.in_err-scan_block.ensures format (after before es) first in
          let there = after before es in
          let part = stays-in-block there later.part.0 (ap may_end first ∙ block_is_inside c.args.intra) in
          let here = subst (λ (es : List Element). StaysInside there es) (sym later.part.1) part in
          fails_later (next format) before (StaysInside before) c.args.r.now c.loop-block.r c.scan_block.new.r es _ so_far.walk later (stays_later before es later.elements (inside-blocks so_far.read) here);
    })

pub loop-block-preserved : goal.loop-block-preserved
loop-block-preserved c = record {
  onward = omega (arith, block_onward c.args.intra c.loop-block.r c.scan_block.new.r c.in_ok-scan_block.ensures);
  so_far = λ format before k kind_is intra due to_come.
      let so_far = c.loop-block.invariant.so_far format before k kind_is intra due to_come in
      let es = flat_map block_elements so_far.read in
      let first = so_far.due ∙ first_slot k (c.args.count - c.loop-block._block) c.args.intra (omega arith) intra in
      let later = c.in_ok-scan_block.ensures format (after before es) first in
      one_more (next format) before k kind_is c.args.r.now c.loop-block.r c.scan_block.new.r c.args.count c.loop-block._block so_far later.wanted.0 later.elements later.walk later.wanted.1;
}

pub returns : goal.returns
returns c = record {
  onward = omega arith;
  walk = λ format before k is.
      let so_far = c.loop-block.invariant.so_far format before k is.kind_is is.intra_is is.due is.to_come in
      let none_left : c.args.count - c.loop-block._block ≡ 0 = omega arith in
      record { elements = flat_map block_elements so_far.read; walk = so_far.walk; wanted = record { sent = so_far.read; many = omega (arith, so_far.many); elements = refl; due = so_far.due ∙ ap (block_slot k) none_left } };
}
