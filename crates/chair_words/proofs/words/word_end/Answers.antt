use Rattle.std.proofs.Common.{◌≡◌, ◌+◌, ◌-◌, ap, subst, sym, ◌∙◌, arith, false, not, slice_index}
use Rattle.std.proofs.lemmas.List.Sums.{prefix_len-drop_yes}
use Rattle.chair_words.specs.Words.{is_blank}
use Rattle.chair_words.proofs.WordLemmas.{words_from-pass, begins_at-inside, words_from-ends}
use Rattle.chair_words.proofs.words.word_end.Goals as goal

pub loop-end-preserved : goal.loop-end-preserved
loop-end-preserved c =
    let line = c.args.line.now in
    let end = c.loop-end.end in
    let lasts : is_blank (slice_index line end) ≡ false = sym c.is_blank.ensures ∙ c.if-not-is_blank.true in
    let counted = prefix_len-drop_yes (λ b. not (is_blank b)) line end 0 (omega arith) (ap not lasts) in
    let here : end + 1 - 1 ≡ end = omega arith in (
      omega arith,
      omega arith,
      subst (λ i. is_blank (slice_index line i) ≡ false) (sym here) lasts,
      c.loop-end.invariant.3 ∙ words_from-pass line end (omega arith) (begins_at-inside line end (omega arith) c.loop-end.invariant.2),
      omega arith,
    )

pub returns-else-not-is_blank-clause-word : goal.returns-else-not-is_blank-clause-word
returns-else-not-is_blank-clause-word c =
    words_from-ends c.args.line.now c.args.start c.loop-end.end (omega arith) c.requires.begins (omega arith) (omega arith)
    c.loop-end.invariant.3 c.loop-end.invariant.4
    (λ _. sym c.is_blank.ensures ∙ c.if-not-is_blank.false)
