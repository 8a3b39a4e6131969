use Rattle.std.proofs.Common.{◌≡◌, ◌≤◌, List}
use Rattle.pel_model.specs.declared.Format.{Format}
use Rattle.pel_model.specs.declared.MbKind.{MbKind}
use Rattle.pel_model.specs.Codes.{is_intra}
use Rattle.pel_model.specs.Grammar.{Element, slot, block_slot, kind, blocks, next}
use Rattle.h261_mb.proofs.SentBlocks.{SomeRead}
use Rattle.h261_mb.proofs.blocks.scan_blocks.Given as goal

abbrev pub invariant-loop-block : goal.invariant-loop-block
invariant-loop-block l = record {
  onward : l.fn.r.1 ≤ l.r.1;
  so_far : (format : Format) (before : List Element) (k : MbKind) → kind before ≡ k → is_intra k ≡ l.intra → slot before ≡ block_slot k l.count → blocks before ≡ l.count → SomeRead (next format) before k l.fn.r l.r l.count l._block;
}
