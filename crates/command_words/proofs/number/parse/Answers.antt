use Rattle.clap.specs.Simple.{is_simple, built, app_of}
use Rattle.clap.specs.Faults.{is_free_app}
use Rattle.command_words.proofs.Digits.{both}
use Rattle.command_words.proofs.number.parse.Goals as goal

pub returns-in-Ok : goal.returns-in-Ok
returns-in-Ok c =
    let simple = both (is_simple (app_of c.args.command)) (is_free_app (built (app_of c.args.command))) c.requires in
    (c.in-Ok.ensures.kinds c.requires, (c.in-Ok.ensures.matches simple.0).0)
