use Rattle.std.proofs.Common.{◌≡◌, length}
use Rattle.pel_model.specs.Records.{Picture}
use Rattle.pel_model.specs.Valid.{IsValid}
use Rattle.h261_pic.specs.Coded.{coding}
use Rattle.ref_decode.specs.Shown.{sample_count}
use Rattle.ref_decode.proofs.Picturing.{PictureSoFar}
use Rattle.ref_decode.proofs.picture.draw_picture.Given as goal

abbrev pub invariant-loop-i : goal.invariant-loop-i
invariant-loop-i l = record {
  long : length l.next ≡ sample_count l.format;
  so_far : (p : Picture) → IsValid l.format p → l.picture ≡ coding l.format p → PictureSoFar l.format p l.i l.r l.shown l.fn.next l.next;
}
