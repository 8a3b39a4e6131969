-- The rule for the chair's lines. A line is the name of a command and then its numbers, each a word. Its words are
-- read from left to right, and the first that is not what must stand there is the line's fault.
use Rattle.std.specs.Prelude.{◌≡◌, ◌≢◌, ◌⊎◌, ℕ, ◌+◌, ◌-◌, ◌*◌, ◌/◌, ◌%◌, nat_le, nat_lt, Bool, true, false, ◌&&◌, IsTrue, Option, Some, None, List, [], ◌∷◌, ◌++◌, map, length, fold, codes, if◌then◌else◌}
use Rattle.std.specs.List.{list_all, join_with_byte, AllZip}
use Rattle.std.specs.Char.{is_ascii_digit}
use Rattle.pel_model.specs.declared.chair.Command.{Command}
use Rattle.pel_model.specs.declared.chair.Command.TheVariants.{Place, Clear, Swap, Speaker, Pin, Unpin}
use Rattle.pel_model.specs.Regions.{number_of}
use Rattle.chair_words.specs.declared.reader.LineWhy.{LineWhy}
use Rattle.chair_words.specs.declared.reader.LineWhy.TheVariants.{Unknown, Missing, BadNumber, Extra}
use Rattle.chair_words.specs.Words.{Word, words_in}

-- the most bytes of a line
abbrev pub longest_line : ℕ
longest_line = 255

-- a command's name
abbrev pub command_name : Command → List ℕ
command_name (Place q c) = codes "place"
command_name (Clear q) = codes "clear"
command_name (Swap p q) = codes "swap"
command_name (Speaker c) = codes "speaker"
command_name (Pin q) = codes "pin"
command_name (Unpin q) = codes "unpin"

-- a command's numbers, in the order of its line
abbrev pub numbers_of : Command → List ℕ
numbers_of (Place q c) = number_of q ∷ c ∷ []
numbers_of (Clear q) = number_of q ∷ []
numbers_of (Swap p q) = number_of p ∷ number_of q ∷ []
numbers_of (Speaker c) = c ∷ []
numbers_of (Pin q) = number_of q ∷ []
numbers_of (Unpin q) = number_of q ∷ []

-- the numbers that may stand at a place of the line
pub record Range : Type 0 where
  pub low : ℕ
  pub high : ℕ

abbrev pub from_to : ℕ → ℕ → Range
from_to low high = record { low = low; high = high }

-- places are 1 to 4, and lanes 0 to 15
abbrev pub a_place : Range
a_place = from_to 1 4

abbrev pub a_lane : Range
a_lane = from_to 0 15

-- what a command's numbers have to be; all commands of a name ask the same
abbrev pub asked_by : Command → List Range
asked_by (Place q c) = a_place ∷ a_lane ∷ []
asked_by (Clear q) = a_place ∷ []
asked_by (Swap p q) = a_place ∷ a_place ∷ []
asked_by (Speaker c) = a_lane ∷ []
asked_by (Pin q) = a_place ∷ []
asked_by (Unpin q) = a_place ∷ []

-- the number that one to three decimal digits spell
abbrev pub number_spelt : List ℕ → Option ℕ
number_spelt text =
    if nat_le 1 (length text) && nat_le (length text) 3 && list_all is_ascii_digit text
    then Some (fold (λ n d. 10 * n + (d - 48)) 0 text) else None

abbrev pub is_in : Range → Option ℕ → Bool
is_in r None = false
is_in r (Some n) = nat_le r.low n && nat_le n r.high

-- the word spells a number of the range
abbrev pub is_good : Range → Word → Bool
is_good r w = is_in r (number_spelt w.text)

abbrev pub AreGood : List Range → List Word → Type 0
AreGood ranges numbers = AllZip (λ r w. IsTrue (is_good r w)) ranges numbers

-- the line says the command
pub record Says (line : List ℕ) (command : Command) : Type 0 where
  pub name : Word
  pub numbers : List Word
  pub whole : words_in line ≡ name ∷ numbers
  pub named : name.text ≡ command_name command
  pub good : AreGood (asked_by command) numbers
  pub values : map (λ (w : Word). number_spelt w.text) numbers ≡ map Some (numbers_of command)

-- the words begin with the name of a command and with good numbers; of those that it asks, the wanted ones are still
-- to come, and the rest is what stands there
pub record BeginsCommand (ws : List Word) (wanted : List Range) (rest : List Word) : Type 0 where
  pub name : Word
  pub numbers : List Word
  pub whole : ws ≡ name ∷ (numbers ++ rest)
  pub command : Command
  pub named : name.text ≡ command_name command
  pub had : List Range
  pub asked : asked_by command ≡ had ++ wanted
  pub good : AreGood had numbers

-- the first fault of these words of a line of that length, and its place
abbrev pub Fails : List Word → ℕ → ℕ → LineWhy → Type 0
Fails ws len place Unknown =
    (name : Word) × (rest : List Word)
    × (ws ≡ name ∷ rest) × ((c : Command) → name.text ≢ command_name c) × (place ≡ name.start)
Fails ws len place BadNumber =
    (range : Range) × (wanted : List Range) × (word : Word) × (rest : List Word)
    × BeginsCommand ws (range ∷ wanted) (word ∷ rest) × (is_good range word ≡ false) × (place ≡ word.start)
Fails ws len place Missing =
    ((ws ≡ []) ⊎ ((range : Range) × (wanted : List Range) × BeginsCommand ws (range ∷ wanted) [])) × (place ≡ len)
Fails ws len place Extra =
    (word : Word) × (rest : List Word) × BeginsCommand ws [] (word ∷ rest) × (place ≡ word.start)

-- the line says no command: its first fault, and the place of it
abbrev pub HasFaultAt : List ℕ → ℕ → LineWhy → Type 0
HasFaultAt line place why = Fails (words_in line) (length line) place why

-- a line says at most one command, has at most one first fault, and never both
pub record OneAnswer : Type 0 where
  pub one_command : (line : List ℕ) (c d : Command) → Says line c → Says line d → c ≡ d
  pub one_fault :
      (line : List ℕ) (p q : ℕ) (v w : LineWhy) → HasFaultAt line p v → HasFaultAt line q w → (p ≡ q) × (v ≡ w)
  pub not_both : (line : List ℕ) (c : Command) (p : ℕ) (w : LineWhy) → Says line c → HasFaultAt line p w → ⊥

-- the lanes of a command are those that a line can say
abbrev pub has_sayable_lane : Command → Bool
has_sayable_lane (Place q c) = nat_le c 15
has_sayable_lane (Clear q) = true
has_sayable_lane (Swap p q) = true
has_sayable_lane (Speaker c) = nat_le c 15
has_sayable_lane (Pin q) = true
has_sayable_lane (Unpin q) = true

-- a number of at most two digits in decimal, by its ASCII digits
abbrev pub digits_of : ℕ → List ℕ
digits_of n = if nat_lt n 10 then (48 + n) ∷ [] else (48 + n / 10) ∷ (48 + n % 10) ∷ []

-- the line of a command: its words with one space between, its numbers in decimal
abbrev pub line_saying : Command → List ℕ
line_saying command = join_with_byte 32 (command_name command ∷ map digits_of (numbers_of command))
