use Rattle.std.proofs.Common.{◌≡◌, ◌∷◌, ◌∙◌, map, string_bytes, sym, subst, ap}
use Rattle.command_words.specs.Asks.{Asks}
use Rattle.command_words.specs.Answers.{FindsAsked, name_of_command}
use Rattle.command_words.specs.declared.job.Job.{Job}
use Rattle.command_words.proofs.Jobs.{none_asked, no_command}
use Rattle.command_words.proofs.reader.read_command.Goals as goal

pub returns-in-None : goal.returns-in-None
returns-in-None c = none_asked string_bytes c.args.words.now c.in-None.ensures.cases

pub returns-in-None-named : goal.returns-in-None-named
returns-in-None-named c =
    let texts : map string_bytes c.args.words.now ≡ string_bytes c.in-Some.name.now ∷ map string_bytes c.in-Some.options.now =
    ap (map string_bytes) c.in-Some.ensures.cases.0 in
    subst (λ l. (o : Job) → Asks l o → ⊥) (sym texts)
    (no_command (string_bytes c.in-Some.name.now) (map string_bytes c.in-Some.options.now)
    (λ k e. c.in-None-named.ensures k (c.as_str.ensures.value ∙ e)))

pub returns-in-Some-named : goal.returns-in-Some-named
returns-in-Some-named c =
    let texts : map string_bytes c.args.words.now ≡ string_bytes c.in-Some.name.now ∷ map string_bytes c.in-Some.options.now =
    ap (map string_bytes) c.in-Some.ensures.cases.0 in
    let named : string_bytes c.in-Some.name.now ≡ name_of_command c.in-Some-named.command =
    sym c.as_str.ensures.value ∙ c.in-Some-named.ensures in
    subst (λ l. FindsAsked (Asks l) c.read_options.result) (sym (texts ∙ ap (λ n. n ∷ map string_bytes c.in-Some.options.now) named))
    c.read_options.ensures
