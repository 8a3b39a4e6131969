-- Inner contracts alone use this; nothing here has to be believed.
-- The options of the table whose value is a number, and how `clap` reads one such value.
use Rattle.std.specs.Prelude.{◌≡◌, ℕ, ◌&&◌, nat_le, Bool, Some, Result, Ok, Err, List, [], ◌∷◌, codes}
use Rattle.std.specs.Str.{bytes_eq}
use Rattle.std.specs.Str.Parse.{digits_value}
use Rattle.clap.specs.Words.{App, new_app, new_rule, with_rule, fault_of, matches_of, found_of, rows_of}
use Rattle.clap.specs.declared.builder.value_parser.ValueParser.TheVariants.{Unsigned}
use Rattle.clap.specs.declared.parser.matches.ArgMatches.{ArgMatches}
use Rattle.command_words.specs.declared.fault.WordsFault.{WordsFault}
use Rattle.command_words.specs.declared.fault.WordsFault.TheVariants.{Usage, NoMemory}
use Rattle.command_words.specs.declared.table.NumberOption.{NumberOption}
use Rattle.command_words.specs.Options.{Text, Number, start_of, are_digits}

-- the option as the rules speak of it
abbrev pub option_of : NumberOption → Number
option_of o = record { name = o.name.now; low = o.low; high = o.high; otherwise = digits_value 10 o.otherwise.now }

-- its words begin with its name, and its value where none is given is of digits and lies in its range
abbrev pub is_formed : NumberOption → Bool
is_formed o =
    let otherwise = digits_value 10 o.otherwise.now in
    bytes_eq o.start.now (start_of o.name.now)
    && (are_digits o.otherwise.now && (nat_le o.low otherwise && nat_le otherwise o.high))

-- a command of one value in a range
abbrev pub value_app : ℕ → ℕ → App
value_app low high =
    with_rule (new_app (codes "number")) (record (new_rule (codes "value")) { parser = Some (Unsigned low high) })

abbrev pub value_words : Text → List Text
value_words text = codes "number" ∷ text ∷ []

-- what a parse answers
abbrev pub Parses : App → List Text → Result ArgMatches WordsFault → Type 0
Parses app words (Ok m) = (fault_of app words ≡ []) × (rows_of (found_of m) ≡ matches_of app words)
Parses app words (Err NoMemory) = Unit {0}
Parses app words (Err Usage) = fault_of app words ≡ [] → ⊥
