-- Its marks are those of the picture's macroblocks.
use Rattle.std.proofs.Common.{◌∙◌, length, ap}
use Rattle.pic_report.proofs.Counts.{counted-line}
use Rattle.pic_report.proofs.lines.picture_line.Goals as goal

pub returns : goal.returns
returns c format p h =
    c.numbers_line.ensures
    ∙ counted-line c.args.number _ _ _ _ c.args.picture.now format p c.tr.ensures (c.len.ensures ∙ ap length c.bits.ensures.bits)
    (ap length c.marks.ensures) c.intra_macroblocks.ensures h
