use Rattle.std.proofs.Common.{take}
use Rattle.h261_pic.proofs.PlacedMarks.{IsAppended}
use Rattle.h261_pic.proofs.coded.append_macroblocks.Given as goal

abbrev pub invariant-loop-mark : goal.invariant-loop-mark
invariant-loop-mark l =
    IsAppended l.source l.initial.text l.text l.initial.marks.items l.marks.items l.group l.from l.len (take l.mark-index l.found)
