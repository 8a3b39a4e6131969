-- How a picture ends: the outcome of reading its elements one after another, for the files of worked values.
use Rattle.std.specs.Prelude.{ℕ, zero, suc, Bool, List, [], ◌∷◌, length}
use Rattle.pel_model.specs.declared.Format.{Format}
use Rattle.pel_model.specs.declared.Why.{Why}
use Rattle.pel_model.specs.Walk.{Standing, Good, Stop, Bad, skipped}
use Rattle.pel_model.specs.Grammar.{Element, next_within_limit}

-- the lawful end, or the first fault
pub data Outcome : Type 0 where
  Whole : ℕ → Outcome
  At : ℕ → Why → Outcome
  Spent : Outcome

abbrev pub outcome : Standing Element → ℕ → (Element → ℕ → Outcome) → Outcome
outcome (Good e n) place more = more e n
outcome Stop place more = Whole place
outcome (Bad why) place more = At place why

unfoldable pub run : ℕ → Format → List Element → List Bool × ℕ → Outcome
run zero format before r = Spent
run (suc fuel) format before r =
    outcome (next_within_limit format before r) r.1 (λ e n. run fuel format (e ∷ before) (skipped n r))

abbrev pub answer_from : ℕ → Format → List Bool → Outcome
answer_from place format bits = run (suc (length bits)) format [] (bits, place)
