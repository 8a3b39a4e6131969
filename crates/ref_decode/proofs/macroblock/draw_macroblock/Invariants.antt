use Rattle.std.proofs.Common.{◌≡◌, ◌++◌, Bool, List, Option, length, drop}
use Rattle.std.specs.List.{flat_map}
use Rattle.pel_model.specs.Grammar.{Element}
use Rattle.pel_model.specs.Records.{Macroblock, quantiser_after}
use Rattle.pel_model.specs.Text.{macroblock_text, sent_block_text}
use Rattle.h261_mb.specs.State.{Stands}
use Rattle.ref_decode.specs.Drawing.{ComesNext, IsHeaderOf, BlocksDrawn}
use Rattle.ref_decode.specs.Shown.{sample_count}
use Rattle.ref_decode.proofs.macroblock.draw_macroblock.Given as goal

abbrev pub invariant-loop-block : goal.invariant-loop-block
invariant-loop-block l = record {
  long : length l.next ≡ sample_count l.format;
  so_far : (before : List Element) (last : Option Macroblock) (m : Macroblock) (rest : List Bool) → ComesNext l.format l.group last m before → Stands l.group l.fn.state before → l.fn.r.0 ≡ macroblock_text last m ++ rest
      → IsHeaderOf m (quantiser_after l.fn.state.quant m.mquant) l.header
      × (l.r.0 ≡ flat_map sent_block_text (drop l.block m.blocks) ++ rest)
      × BlocksDrawn l.format l.group (record { macroblock = m; quant = quantiser_after l.fn.state.quant m.mquant }) l.block l.shown l.fn.next l.next;
}
