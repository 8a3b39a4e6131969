use Rattle.std.proofs.Common.{length, ◌-◌, ◌≡◌, ◌≤◌, IsTrue}
use Rattle.chair_words.specs.Words.{words_from}
use Rattle.chair_words.specs.Reading.{is_between_words}
use Rattle.chair_words.proofs.words.word_start.Given as goal

abbrev pub invariant-loop-at : goal.invariant-loop-at
invariant-loop-at l =
    (l.at ≤ length l.line) × IsTrue (is_between_words l.line l.at) × (words_from l.line l.from ≡ words_from l.line l.at)

abbrev pub decreases-loop-at : goal.decreases-loop-at
decreases-loop-at l = length l.line - l.at
