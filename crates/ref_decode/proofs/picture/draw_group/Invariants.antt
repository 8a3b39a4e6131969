use Rattle.std.proofs.Common.{◌≡◌, ◌++◌, Bool, List, None, length}
use Rattle.pel_model.specs.Records.{Group}
use Rattle.pel_model.specs.Text.{macroblocks_text}
use Rattle.pel_model.specs.Valid.{IsValidGroup}
use Rattle.h261_mb.specs.State.{IsReady}
use Rattle.ref_decode.specs.Shown.{sample_count}
use Rattle.ref_decode.proofs.Grouping.{GroupSoFar}
use Rattle.ref_decode.proofs.picture.draw_group.Given as goal

abbrev pub invariant-loop-i : goal.invariant-loop-i
invariant-loop-i l = record {
  ready : IsReady l.state;
  long : length l.next ≡ sample_count l.format;
  so_far : (g : Group) (rest : List Bool) → IsValidGroup l.format g → g.number ≡ l.number → l.fn.view.quant ≡ g.quant → l.fn.view.marks ≡ length g.macroblocks → l.fn.r.0 ≡ macroblocks_text None g.macroblocks ++ rest
      → GroupSoFar l.format g rest l.i l.state l.r l.shown l.fn.next l.next;
}
