-- Inner contracts alone use this; nothing here has to be believed.
-- What the steps of the reader do to the words that are left of a line.
use Rattle.std.specs.Prelude.{◌≡◌, ℕ, true, false, Some, Result, List, [], ◌∷◌, ◌++◌, map, length, MatchResult}
use Rattle.pel_model.specs.declared.chair.Command.{Command}
use Rattle.chair_words.specs.declared.reader.LineFault.{LineFault}
use Rattle.chair_words.specs.declared.reader.LineWhy.{LineWhy}
use Rattle.chair_words.specs.declared.reader.LineWhy.TheVariants.{Missing, BadNumber}
use Rattle.chair_words.specs.declared.words.Words.{Words}
use Rattle.chair_words.specs.Words.{Word, words_from}
use Rattle.chair_words.specs.Line.{Range, number_spelt, is_good, AreGood, command_name, numbers_of, asked_by, Fails}

-- the next word is a good number
pub record TakesNumber (range : Range) (old new : List Word) (n : ℕ) : Type 0 where
  pub word : Word
  pub taken : old ≡ word ∷ new
  pub good : is_good range word ≡ true
  pub value : number_spelt word.text ≡ Some n

-- there is no next word, or it is no good number
abbrev pub LacksNumber : Range → List Word → ℕ → ℕ → LineWhy → Type 0
LacksNumber range [] len place why = (place ≡ len) × (why ≡ Missing)
LacksNumber range (w ∷ ws) len place why = (is_good range w ≡ false) × (place ≡ w.start) × (why ≡ BadNumber)

-- the next words are the numbers of a command of this name
pub record TakesNumbers (name : List ℕ) (old new : List Word) (command : Command) : Type 0 where
  pub numbers : List Word
  pub taken : old ≡ numbers ++ new
  pub named : name ≡ command_name command
  pub good : AreGood (asked_by command) numbers
  pub values : map (λ (w : Word). number_spelt w.text) numbers ≡ map Some (numbers_of command)

-- the words that are still to be read
abbrev pub words_left : Words → List Word
words_left words = words_from words.line.now words.at

-- the next word was read as a number of the range, which the value has; or it is none, and the fault
pub record ReadsNumber {T : Type 0} (number : T → ℕ) (range : Range) (old new : Words) (result : Result T LineFault) :
    Type 0 where
  pub line : new.line.now ≡ old.line.now
  pub read :
      MatchResult result (λ v. TakesNumber range (words_left old) (words_left new) (number v))
      (λ e. LacksNumber range (words_left old) (length old.line.now) e.place e.why)

-- the next words were read as the numbers of a command of this name; or the line's first fault
pub record ReadsCommand (name : Word) (old new : Words) (result : Result Command LineFault) : Type 0 where
  pub line : new.line.now ≡ old.line.now
  pub read :
      MatchResult result (λ c. TakesNumbers name.text (words_left old) (words_left new) c)
      (λ e. Fails (name ∷ words_left old) (length old.line.now) e.place e.why)
