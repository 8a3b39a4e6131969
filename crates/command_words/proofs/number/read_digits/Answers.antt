-- What `clap` reads of the digits.
use Rattle.std.proofs.Common.{◌≡◌, Some, refl}
use Rattle.clap.specs.Words.{app_of}
use Rattle.command_words.specs.Numbers.{option_of, value_words}
use Rattle.command_words.specs.Options.{number_of_text}
use Rattle.command_words.proofs.Jobs.{passed_on}
use Rattle.command_words.proofs.OneValue.{parsed_digits, parsed_number, refused_digits}
use Rattle.command_words.proofs.number.read_digits.Goals as goal

pub value-requires : goal.value-requires
value-requires c =
    parsed_digits c.args.option.now c.args.digits.now (app_of c.in_ok-command.command) (value_words c.args.digits.now) c.in_ok-matches.matches
    c.requires c.in_ok-command.ensures refl c.in_ok-matches.ensures

pub returns : goal.returns
returns c =
    parsed_number c.args.option.now c.args.digits.now (app_of c.in_ok-command.command) (value_words c.args.digits.now) c.in_ok-matches.matches
    c.value.result c.requires c.in_ok-command.ensures refl c.in_ok-matches.ensures c.value.ensures

pub returns-in_err-matches : goal.returns-in_err-matches
returns-in_err-matches c =
    passed_on (λ n. number_of_text (option_of c.args.option.now) c.args.digits.now ≡ Some n) c.from_residual-in_err-matches.result _
    c.from_residual-in_err-matches.ensures.1
    (refused_digits c.args.option.now c.args.digits.now (app_of c.in_ok-command.command) (value_words c.args.digits.now) _ c.requires
    c.in_ok-command.ensures refl c.in_err-matches.ensures)
