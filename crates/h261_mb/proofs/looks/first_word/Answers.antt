use Rattle.std.proofs.Common.{◌∙◌, arith}
use Rattle.h261_mb.proofs.DirectWords.{mba-word, mtype-word, mvd-word, cbp-word}
use Rattle.h261_mb.proofs.looks.first_word.Goals as goal

pub returns-in-Mba : goal.returns-in-Mba
returns-in-Mba c = rw c.in-Mba.is (c.stored_word.ensures ∙ mba-word c.args.rest (omega arith))

pub returns-in-Mtype : goal.returns-in-Mtype
returns-in-Mtype c = rw c.in-Mtype.is (c.stored_word-in-Mtype.ensures ∙ mtype-word c.args.rest (omega arith))

pub returns-in-Mvd : goal.returns-in-Mvd
returns-in-Mvd c = rw c.in-Mvd.is (c.stored_word-in-Mvd.ensures ∙ mvd-word c.args.rest (omega arith))

pub returns-in-Cbp : goal.returns-in-Cbp
returns-in-Cbp c = rw c.in-Cbp.is (c.stored_word-in-Cbp.ensures ∙ cbp-word c.args.rest (omega arith))
