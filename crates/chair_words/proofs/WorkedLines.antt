-- Worked lines of the chair: words, numbers, names and what a command asks, with values that were computed apart from these
-- definitions.
use Rattle.std.proofs.Common.{◌≡◌, ℕ, true, false, List, [], ◌∷◌, ◌++◌, map, Option, Some, None, codes, refl, sym, ap, subst}
use Rattle.pel_model.specs.declared.Quad.TheVariants.{One, Two, Three, Four}
use Rattle.pel_model.specs.declared.chair.Command.{Command}
use Rattle.pel_model.specs.declared.chair.Command.TheVariants.{Place, Clear, Swap, Speaker, Pin, Unpin}
use Rattle.chair_words.specs.Words.{Word, words_in, word_from, is_blank}
use Rattle.chair_words.specs.Line.{Range, a_place, a_lane, asked_by, number_spelt, is_in, has_sayable_lane, digits_of, line_saying, Says}

-- ---- words: between spaces, tabs and carriage returns, and nothing else

pub blanks : map is_blank (8 ∷ 9 ∷ 10 ∷ 11 ∷ 12 ∷ 13 ∷ 14 ∷ 31 ∷ 32 ∷ 33 ∷ 0 ∷ 160 ∷ [])
    ≡ false ∷ true ∷ false ∷ false ∷ false ∷ true ∷ false ∷ false ∷ true ∷ false ∷ false ∷ false ∷ []
blanks = refl

abbrev spaced : List ℕ
spaced = 9 ∷ 32 ∷ codes "place" ++ 13 ∷ codes "004" ++ 32 ∷ 9 ∷ 32 ∷ codes "a" ++ 10 ∷ codes "b" ++ 13 ∷ []

pub words_of_spaced : words_in spaced ≡ word_from 2 (codes "place") ∷ word_from 8 (codes "004") ∷ word_from 14 (97 ∷ 10 ∷ 98 ∷ []) ∷ []
words_of_spaced = refl

pub words_of_few :
    (words_in [] ≡ []) × (words_in (32 ∷ 13 ∷ 9 ∷ []) ≡ []) × (words_in (codes "x") ≡ word_from 0 (codes "x") ∷ [])
    × (words_in (codes "pin 2") ≡ word_from 0 (codes "pin") ∷ word_from 4 (codes "2") ∷ [])
words_of_few = (refl, refl, refl, refl)

-- ---- numbers: one to three decimal digits

pub numbers : map number_spelt
    (codes "" ∷ codes "0" ∷ codes "7" ∷ codes "15" ∷ codes "004" ∷ codes "120" ∷ codes "999" ∷ codes "0015" ∷ codes "+1" ∷ codes "1x" ∷ codes "x1" ∷ codes "1/" ∷ codes ":" ∷ [])
    ≡ None ∷ Some 0 ∷ Some 7 ∷ Some 15 ∷ Some 4 ∷ Some 120 ∷ Some 999 ∷ None ∷ None ∷ None ∷ None ∷ None ∷ None ∷ []
numbers = refl

pub places_and_lanes :
    (map (λ n. is_in a_place n) (None ∷ Some 0 ∷ Some 1 ∷ Some 4 ∷ Some 5 ∷ []) ≡ false ∷ false ∷ true ∷ true ∷ false ∷ [])
    × (map (λ n. is_in a_lane n) (None ∷ Some 0 ∷ Some 15 ∷ Some 16 ∷ []) ≡ false ∷ true ∷ true ∷ false ∷ [])
places_and_lanes = (refl, refl)

-- ---- commands: each name with its numbers, as the line that says it

abbrev commands : List Command
commands = Place Three 0 ∷ Clear One ∷ Swap Two Four ∷ Speaker 9 ∷ Pin Three ∷ Unpin Four ∷ Place One 10 ∷ Speaker 15 ∷ []

pub lines : map line_saying commands
    ≡ codes "place 3 0" ∷ codes "clear 1" ∷ codes "swap 2 4" ∷ codes "speaker 9" ∷ codes "pin 3" ∷ codes "unpin 4" ∷ codes "place 1 10" ∷ codes "speaker 15" ∷ []
lines = refl

pub asked : map asked_by commands
    ≡ (a_place ∷ a_lane ∷ []) ∷ (a_place ∷ []) ∷ (a_place ∷ a_place ∷ []) ∷ (a_lane ∷ []) ∷ (a_place ∷ []) ∷ (a_place ∷ []) ∷ (a_place ∷ a_lane ∷ []) ∷ (a_lane ∷ []) ∷ []
asked = refl

pub sayable : map has_sayable_lane (Place One 15 ∷ Place One 16 ∷ Speaker 15 ∷ Speaker 16 ∷ Clear Four ∷ Swap One One ∷ Pin One ∷ Unpin One ∷ [])
    ≡ true ∷ false ∷ true ∷ false ∷ true ∷ true ∷ true ∷ true ∷ []
sayable = refl

pub two_digits : map digits_of (0 ∷ 9 ∷ 10 ∷ 15 ∷ 90 ∷ 99 ∷ [])
    ≡ codes "0" ∷ codes "9" ∷ codes "10" ∷ codes "15" ∷ codes "90" ∷ codes "99" ∷ []
two_digits = refl

-- ---- what a line says, and what it does not

pub a_swap : Says (codes "swap 3 03\r") (Swap Three Three)
a_swap = record {
  name = word_from 0 (codes "swap");
  numbers = word_from 5 (codes "3") ∷ word_from 7 (codes "03") ∷ [];
  whole = refl;
  named = refl;
  good = (refl, (refl, tt));
  values = refl;
}

abbrev head_text : List Word → List ℕ
head_text [] = []
head_text (w ∷ ws) = w.text

abbrev behind : List Word → List Word
behind [] = []
behind (w ∷ ws) = ws

pub another_name : Says (codes "pin 2") (Clear Two) → ⊥
another_name s = let name : codes "pin" ≡ s.name.text = ap head_text s.whole in let bad : codes "pin" ≡ codes "clear" = subst (λ t. t ≡ codes "clear") (sym name) s.named in cc

pub another_number : Says (codes "pin 2") (Pin One) → ⊥
another_number s =
    let numbers : (word_from 4 (codes "2") ∷ []) ≡ s.numbers = ap behind s.whole in
    let bad : (Some 2 ∷ []) ≡ (Some 1 ∷ []) = subst (λ ws. map (λ (w : Word). number_spelt w.text) ws ≡ (Some 1 ∷ [])) (sym numbers) s.values in cc
