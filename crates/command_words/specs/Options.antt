-- The options of a command: words `--name=value` in any order, each name at most once.
use Rattle.std.specs.Prelude.{ℕ, ◌&&◌, nat_le, Bool, Option, Some, None, List, ◌++◌, length, take, drop, find, count_by, option_map, if◌then◌else◌, codes}
use Rattle.std.specs.List.{list_all, list_any}
use Rattle.std.specs.Str.{bytes_eq}
use Rattle.std.specs.Char.{is_ascii_digit}
use Rattle.std.specs.Str.Parse.{digits_value}

-- a text, by its bytes
abbrev pub Text : Type 0
Text = List ℕ

-- how a word begins that gives the option of this name
abbrev pub start_of : Text → Text
start_of name = (codes "--" ++ name) ++ codes "="

-- the word begins so
abbrev pub begins_with : Text → Text → Bool
begins_with start word = bytes_eq start (take (length start) word)

-- the word gives the option of this name
abbrev pub gives_option : Text → Text → Bool
gives_option name = begins_with (start_of name)

-- each word gives an option of these names, and no two words give the same one
abbrev pub are_options : List Text → List Text → Bool
are_options names words =
    list_all (λ word. list_any (λ name. gives_option name word) names) words
    && list_all (λ name. nat_le (count_by (gives_option name) words) 1) names

-- what the words give to the option: what stands behind `=`, if a word gives it at all
abbrev pub given : List Text → Text → Option Text
given words name = option_map (drop (length (start_of name))) (find (gives_option name) words)

-- one to thirteen decimal digits
abbrev pub are_digits : Text → Bool
are_digits text = nat_le 1 (length text) && nat_le (length text) 13 && list_all is_ascii_digit text

-- an option whose value is a number: its least and its greatest value, and that where the words do not give it
pub record Number : Type 0 where
  pub name : Text
  pub low : ℕ
  pub high : ℕ
  pub otherwise : ℕ

-- the number that the text spells, where the option takes it
abbrev pub number_of_text : Number → Text → Option ℕ
number_of_text option text =
    let n = digits_value 10 text in
    if are_digits text && nat_le option.low n && nat_le n option.high then Some n else None

abbrev pub number_or : Number → Option Text → Option ℕ
number_or option None = Some option.otherwise
number_or option (Some text) = number_of_text option text

-- the option's number, where the words have one
abbrev pub number_given : List Text → Number → Option ℕ
number_given words option = number_or option (given words option.name)
