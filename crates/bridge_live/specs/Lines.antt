-- The chair's lines, and what each of them says.
use Rattle.std.specs.Prelude.{⊤, ◌≡◌, ◌≢◌, ◌⊎◌, ℕ, ◌<◌, ◌≤◌, Bool, true, false, List, [], ◌∷◌, ◌++◌, length, flat_map}
use Rattle.std.specs.List.{AllByRecursion}
use Rattle.chair_words.specs.declared.reader.LineWhy.{LineWhy}
use Rattle.chair_words.specs.Line.{longest_line, Says, HasFaultAt as FailsAt}
use Rattle.chair_words.specs.Words.{words_in as words}
use Rattle.pel_model.specs.declared.chair.Command.{Command}

-- the octet that ends a line, LF
abbrev pub line_feed : ℕ
line_feed = 10

-- no line ends inside
abbrev pub IsLine : List ℕ → Type 0
IsLine line = AllByRecursion (λ b. b ≢ line_feed) line

-- octets are these lines, each ended by LF, and behind them a rest without one
pub record AreLines (octets : List ℕ) (all : List (List ℕ)) (behind : List ℕ) : Type 0 where
  pub cut : octets ≡ flat_map (λ line. line ++ line_feed ∷ []) all ++ behind
  pub lines : AllByRecursion IsLine all
  pub rest : IsLine behind

-- a line is passed over, since it has no words; it is faulty; or it says a command
pub data Heard : Type 0 where
  Blank : Heard
  Faulty : Heard
  Said : Command → Heard

-- a line of more than 255 octets is faulty, whatever it says
abbrev pub IsHeard : List ℕ → Heard → Type 0
IsHeard line Blank = (length line ≤ longest_line) × (words line ≡ [])
IsHeard line Faulty =
    (longest_line < length line)
    ⊎ ((words line ≢ []) × ((place : ℕ) × (why : LineWhy) × FailsAt line place why))
IsHeard line (Said command) = (length line ≤ longest_line) × Says line command

-- each line is so
abbrev pub AreHeard : List (List ℕ) → List Heard → Type 0
AreHeard [] [] = ⊤
AreHeard (line ∷ lines) (heard ∷ more) = IsHeard line heard × AreHeard lines more
AreHeard _ _ = ⊥

-- the commands, in order
abbrev pub said : List Heard → List Command
said [] = []
said (Said command ∷ more) = command ∷ said more
said (_ ∷ more) = said more

abbrev pub is_faulty : Heard → Bool
is_faulty Faulty = true
is_faulty _ = false

-- a line is one of these
abbrev pub LawOfOneHearing : Type 0
LawOfOneHearing = (line : List ℕ) (one other : Heard) → IsHeard line one → IsHeard line other → one ≡ other
