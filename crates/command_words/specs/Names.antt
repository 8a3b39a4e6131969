-- Names that words give: what is opened for a lane or for the chair.
use Rattle.std.specs.Prelude.{ℕ, ◌==◌, ◌&&◌, nat_le, nat_lt, Bool, Option, Some, None, List, [], ◌∷◌, length, if◌then◌else◌}
use Rattle.std.specs.List.{list_all}
use Rattle.command_words.specs.Options.{Text, given}

abbrev pub comma : ℕ
comma = 44

-- the parts with one octet more at the front of the first
abbrev pub prepended : ℕ → List Text → List Text
prepended octet [] = (octet ∷ []) ∷ []
prepended octet (part ∷ parts) = (octet ∷ part) ∷ parts

-- what stands between the commas of a text
abbrev pub between_commas : Text → List Text
between_commas [] = [] ∷ []
between_commas (octet ∷ text) =
    if octet == comma then [] ∷ between_commas text else prepended octet (between_commas text)

-- a name is not empty
abbrev pub is_name : Text → Bool
is_name text = nat_lt 0 (length text)

abbrev pub name_in : Option Text → Option Text
name_in None = None
name_in (Some text) = if is_name text then Some text else None

-- one to sixteen names with commas between
abbrev pub are_names : List Text → Bool
are_names names = nat_le (length names) 16 && list_all is_name names

abbrev pub names_in : Option Text → Option (List Text)
names_in None = None
names_in (Some text) = if are_names (between_commas text) then Some (between_commas text) else None

-- the option's name, where the words have one
abbrev pub name : List Text → Text → Option Text
name words option = name_in (given words option)

-- the option's names, where the words have them
abbrev pub names : List Text → Text → Option (List Text)
names words option = names_in (given words option)
