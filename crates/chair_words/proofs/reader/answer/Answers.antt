use Rattle.std.proofs.Common.{ℕ, List, sym, ap₂, ◌∙◌, subst}
use Rattle.chair_words.specs.Words.{word_from, words_from}
use Rattle.chair_words.specs.Taking.{TakesNumbers}
use Rattle.chair_words.proofs.LineLemmas.{Says-taken}
use Rattle.chair_words.proofs.reader.answer.Goals as goal

pub returns-in-None : goal.returns-in-None
returns-in-None c =
    let name = c.in-Some.name in
    let rest = words_from c.next.new.self.line.now c.next.new.self.at in
    Says-taken c.args.line.now (word_from name.start name.text.now) rest c.in_ok-command.command
    (sym (ap₂ (λ (line : List ℕ) (at : ℕ). words_from line at) c.new-words.ensures.line c.new-words.ensures.at) ∙ c.in-Some.ensures.some)
    (subst (λ ws. TakesNumbers name.text.now rest ws c.in_ok-command.command) c.in-None.ensures.none c.in_ok-command.ensures.read)
