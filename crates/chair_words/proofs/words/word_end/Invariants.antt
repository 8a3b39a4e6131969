use Rattle.std.proofs.Common.{length, ◌-◌, ◌+◌, ◌≡◌, ◌≤◌, ◌<◌, false, not, slice_index, drop}
use Rattle.std.specs.List.{prefix_len}
use Rattle.chair_words.specs.Words.{is_blank, words_from}
use Rattle.chair_words.proofs.words.word_end.Given as goal

abbrev pub invariant-loop-end : goal.invariant-loop-end
invariant-loop-end l =
    (l.start < l.end)
    × (l.end ≤ length l.line)
    × (is_blank (slice_index l.line (l.end - 1)) ≡ false)
    × (words_from l.line (l.start + 1) ≡ words_from l.line l.end)
    × (prefix_len (λ b. not (is_blank b)) (drop l.start l.line)
    ≡ (l.end - l.start) + prefix_len (λ b. not (is_blank b)) (drop l.end l.line))

abbrev pub decreases-loop-end : goal.decreases-loop-end
decreases-loop-end l = length l.line - l.end
