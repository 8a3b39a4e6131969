use Rattle.std.proofs.Common.{rules, ◌≡◌, ℕ, ◌+◌, ◌-◌, ◌++◌, Bool, List, None, drop, append_assoc, ◌∙◌, ap, subst, arith}
use Rattle.std.specs.Prelude.{slice_index_or}
use Rattle.std.specs.List.{flat_map}
use Rattle.std.proofs.lemmas.Result.{err_from_is_err_and}
use Rattle.pel_model.specs.Codes.{is_intra}
use Rattle.pel_model.specs.Records.{quantiser_after}
use Rattle.pel_model.specs.Text.{address_of, sent_block_text}
use Rattle.ref_decode.specs.Drawing.{BlocksDrawn}
use Rattle.ref_decode.proofs.HeaderReading.{has_parts, first_word, header_same, header_is, header_meets_no_fault, blocks_follow, sends_blocks, sent_as, block_split, stands_behind, no_more_blocks}
use Rattle.ref_decode.proofs.Looking.{no_blocks, block_more}
use Rattle.ref_decode.proofs.macroblock.draw_macroblock.Goals as goal

pub returns-in_err-header-clause-drawn : goal.returns-in_err-header-clause-drawn
returns-in_err-header-clause-drawn c =
    let p = err_from_is_err_and c.from_residual.result c.from_residual.ensures.1 in
    rw p.1 (λ before last m rest is stands bits.
    let parts = has_parts c.args.format c.args.group last m before rest c.args.r.now is bits in
    let word = first_word c.args.format last m before c.args.r.now parts.mid is.rises is.most parts.header in
    let bad = c.in_err-header.ensures.walk before (m.address - address_of last) word.0 stands word.1 in
    header_meets_no_fault c.args.format c.args.group last m before bad.elements rest c.args.r.now c.read_header.new.r _ is parts bad.walk bad.part bad.bad)

pub loop-block-init : goal.loop-block-init
loop-block-init c = record {
  long = c.requires.planes.next;
  so_far = λ before last m rest is stands bits.
      let parts = has_parts c.args.format c.args.group last m before rest c.args.r.now is bits in
      let word = first_word c.args.format last m before c.args.r.now parts.mid is.rises is.most parts.header in
      let ok = c.in_ok-header.ensures.walk before (m.address - address_of last) word.0 stands word.1 in
      let same = header_same c.args.format c.args.group last m before ok.elements c.in_ok-header.header c.args.r.now parts.mid c.read_header.new.r is parts.header ok.walk ok.wanted in (
        header_is c.args.format c.args.group last m before ok.elements c.args.state.now c.in_ok-header.header c.read_header.new.r is stands ok.wanted same.0,
        ap (λ (r : List Bool × ℕ). r.0) same.1 ∙ blocks_follow c.args.format c.args.group last m before rest c.args.r.now is parts,
        no_blocks c.args.format c.args.group (record { macroblock = m; quant = quantiser_after c.args.state.now.quant m.mquant }) c.args.shown.now c.args.next.now,
      );
}

pub draw_block-requires-clause-place : goal.draw_block-requires-clause-place
draw_block-requires-clause-place c = record { group = c.requires.group; address = c.in_ok-header.ensures.ready.address; block = search rules }

pub returns-in_err-draw_block-clause-drawn : goal.returns-in_err-draw_block-clause-drawn
returns-in_err-draw_block-clause-drawn c =
    let p = err_from_is_err_and c.from_residual-in_err-draw_block.result c.from_residual-in_err-draw_block.ensures.1 in
    rw p.1 (λ before last m rest is stands bits.
    let s = c.loop-block.invariant.so_far before last m rest is stands bits in
    let k : ℕ = c.loop-block.block in
    let text = s.1 ∙ (ap (λ t. t ++ rest) (block_split m.blocks c.loop-block.block (omega (arith, is.valid.six))) ∙ append_assoc (sent_block_text (slice_index_or m.blocks c.loop-block.block None)) (flat_map sent_block_text (drop (c.loop-block.block + 1) m.blocks)) rest) in
    c.in_err-draw_block.ensures.drawn m (quantiser_after c.args.state.now.quant m.mquant) (flat_map sent_block_text (drop (c.loop-block.block + 1) m.blocks) ++ rest) s.0 is.valid (omega (arith, is.rises)) (sent_as (is_intra m.kind) m.blocks c.loop-block.block (sends_blocks m is.valid.blocks).blocks_of) text)

pub loop-block-preserved : goal.loop-block-preserved
loop-block-preserved c = record {
  long = c.draw_block.ensures.long;
  so_far = λ before last m rest is stands bits.
      let s = c.loop-block.invariant.so_far before last m rest is stands bits in
      let text = s.1 ∙ (ap (λ t. t ++ rest) (block_split m.blocks c.loop-block.block (omega (arith, is.valid.six))) ∙ append_assoc (sent_block_text (slice_index_or m.blocks c.loop-block.block None)) (flat_map sent_block_text (drop (c.loop-block.block + 1) m.blocks)) rest) in
      let ok = c.in_ok-draw_block.ensures.drawn m (quantiser_after c.args.state.now.quant m.mquant) (flat_map sent_block_text (drop (c.loop-block.block + 1) m.blocks) ++ rest) s.0 is.valid (omega (arith, is.rises)) (sent_as (is_intra m.kind) m.blocks c.loop-block.block (sends_blocks m is.valid.blocks).blocks_of) text in
      (s.0, ok.0, block_more c.args.format c.args.group (record { macroblock = m; quant = quantiser_after c.args.state.now.quant m.mquant }) c.loop-block.block c.args.shown.now c.args.next.now c.loop-block.next c.draw_block.new.next s.2 ok.1);
}

pub returns-clause-drawn : goal.returns-clause-drawn
returns-clause-drawn c = λ before last m rest is stands bits.
    let s = c.loop-block.invariant.so_far before last m rest is stands bits in
    let end : c.loop-block.block ≡ 6 = omega arith in
    rw c.state_behind.ensures
    (record {
      rest_is = s.1 ∙ ap (λ t. t ++ rest) (ap (λ n. flat_map sent_block_text (drop n m.blocks)) end ∙ no_more_blocks m.blocks is.valid.six);
      stands = stands_behind c.args.format c.args.group last m before c.args.state.now c.in_ok-header.header is stands s.0;
      quant_is = s.0.quant_is;
      drawn = subst (λ n. BlocksDrawn c.args.format c.args.group (record { macroblock = m; quant = quantiser_after c.args.state.now.quant m.mquant }) n c.args.shown.now c.args.next.now c.loop-block.next) end s.2;
    })
