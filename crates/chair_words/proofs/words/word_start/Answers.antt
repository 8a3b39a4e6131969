use Rattle.std.proofs.Common.{sym, ◌∙◌, arith}
use Rattle.chair_words.proofs.WordLemmas.{words_from-pass, begins_at-blank, outside-blank}
use Rattle.chair_words.proofs.words.word_start.Goals as goal

pub loop-at-preserved : goal.loop-at-preserved
loop-at-preserved c =
    let line = c.args.line.now in
    let blank = sym c.is_blank.ensures ∙ c.if-is_blank.true in (
      omega arith,
      outside-blank line c.loop-at.at blank,
      c.loop-at.invariant.2 ∙ words_from-pass line c.loop-at.at (omega arith) (begins_at-blank line c.loop-at.at blank),
    )
