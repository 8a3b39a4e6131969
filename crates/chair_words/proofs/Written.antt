-- The line that is written for a command says that command: by computing, at each place and each lane.
use Rattle.std.proofs.Common.{◌≡◌, ℕ, zero, suc, ◌<◌, true, false, nat_eq, IsTrue, Some, [], ◌∷◌, codes, refl, subst, ap, ap₂, arith}
use Rattle.std.proofs.lemmas.Bool.Decides.{nat_tests}
use Rattle.pel_model.specs.declared.Quad.{Quad}
use Rattle.pel_model.specs.declared.Quad.TheVariants.{One, Two, Three, Four}
use Rattle.pel_model.specs.declared.chair.Command.{Command}
use Rattle.pel_model.specs.declared.chair.Command.TheVariants.{Place, Clear, Swap, Speaker, Pin, Unpin}
use Rattle.pel_model.specs.Regions.{number_of}
use Rattle.chair_words.specs.Words.{Word, word_from, words_in}
use Rattle.chair_words.specs.Line.{Says, a_place, a_lane, number_spelt, is_good, digits_of, has_sayable_lane, line_saying}

-- P holds of each number below n
abbrev EachBelow : (ℕ → Type 0) → ℕ → Type 0
EachBelow P zero = Unit {0}
EachBelow P (suc n) = EachBelow P n × P n

at_each : (P : ℕ → Type 0) (n : ℕ) → EachBelow P n → (k : ℕ) → k < n → P k
at_each P zero h k below = absurd (omega arith)
at_each P (suc n) h k below =
    elim (nat_eq k n) as (λ b. nat_eq k n ≡ b → P k) [
      | true ↦ λ e. let same : n ≡ k = grind (arith, nat_tests) in subst P same h.1
      | false ↦ λ e. let lower : k < n = grind (arith, nat_tests) in at_each P n h.0 k lower
    ] refl

-- the words of the numbers
abbrev place_word : ℕ → Quad → Word
place_word at q = word_from at (digits_of (number_of q))

abbrev lane_word : ℕ → ℕ → Word
lane_word at c = word_from at (digits_of c)

place_good : (q : Quad) → IsTrue (is_good a_place (place_word 0 q))
place_good One = refl
place_good Two = refl
place_good Three = refl
place_good Four = refl

place_spelled : (q : Quad) → number_spelt (digits_of (number_of q)) ≡ Some (number_of q)
place_spelled One = refl
place_spelled Two = refl
place_spelled Three = refl
place_spelled Four = refl

lane_good : (c : ℕ) → c < 16 → IsTrue (is_good a_lane (lane_word 0 c))
lane_good = at_each (λ c. IsTrue (is_good a_lane (lane_word 0 c))) 16
    ((((((((((((((((tt, refl), refl), refl), refl), refl), refl), refl), refl), refl), refl), refl), refl), refl), refl), refl), refl)

lane_spelled : (c : ℕ) → c < 16 → number_spelt (digits_of c) ≡ Some c
lane_spelled = at_each (λ c. number_spelt (digits_of c) ≡ Some c) 16
    ((((((((((((((((tt, refl), refl), refl), refl), refl), refl), refl), refl), refl), refl), refl), refl), refl), refl), refl), refl)

-- the words of the lines
words-place : (q : Quad) (c : ℕ) → c < 16 → words_in (line_saying (Place q c)) ≡ word_from 0 (codes "place") ∷ place_word 6 q ∷ lane_word 8 c ∷ []
words-place One = at_each (λ c. words_in (line_saying (Place One c)) ≡ word_from 0 (codes "place") ∷ place_word 6 One ∷ lane_word 8 c ∷ []) 16
    ((((((((((((((((tt, refl), refl), refl), refl), refl), refl), refl), refl), refl), refl), refl), refl), refl), refl), refl), refl)
words-place Two = at_each (λ c. words_in (line_saying (Place Two c)) ≡ word_from 0 (codes "place") ∷ place_word 6 Two ∷ lane_word 8 c ∷ []) 16
    ((((((((((((((((tt, refl), refl), refl), refl), refl), refl), refl), refl), refl), refl), refl), refl), refl), refl), refl), refl)
words-place Three = at_each (λ c. words_in (line_saying (Place Three c)) ≡ word_from 0 (codes "place") ∷ place_word 6 Three ∷ lane_word 8 c ∷ []) 16
    ((((((((((((((((tt, refl), refl), refl), refl), refl), refl), refl), refl), refl), refl), refl), refl), refl), refl), refl), refl)
words-place Four = at_each (λ c. words_in (line_saying (Place Four c)) ≡ word_from 0 (codes "place") ∷ place_word 6 Four ∷ lane_word 8 c ∷ []) 16
    ((((((((((((((((tt, refl), refl), refl), refl), refl), refl), refl), refl), refl), refl), refl), refl), refl), refl), refl), refl)

words-speaker : (c : ℕ) → c < 16 → words_in (line_saying (Speaker c)) ≡ word_from 0 (codes "speaker") ∷ lane_word 8 c ∷ []
words-speaker = at_each (λ c. words_in (line_saying (Speaker c)) ≡ word_from 0 (codes "speaker") ∷ lane_word 8 c ∷ []) 16
    ((((((((((((((((tt, refl), refl), refl), refl), refl), refl), refl), refl), refl), refl), refl), refl), refl), refl), refl), refl)

words-swap : (p q : Quad) → words_in (line_saying (Swap p q)) ≡ word_from 0 (codes "swap") ∷ place_word 5 p ∷ place_word 7 q ∷ []
words-swap One One = refl
words-swap One Two = refl
words-swap One Three = refl
words-swap One Four = refl
words-swap Two One = refl
words-swap Two Two = refl
words-swap Two Three = refl
words-swap Two Four = refl
words-swap Three One = refl
words-swap Three Two = refl
words-swap Three Three = refl
words-swap Three Four = refl
words-swap Four One = refl
words-swap Four Two = refl
words-swap Four Three = refl
words-swap Four Four = refl

words-clear : (q : Quad) → words_in (line_saying (Clear q)) ≡ word_from 0 (codes "clear") ∷ place_word 6 q ∷ []
words-clear One = refl
words-clear Two = refl
words-clear Three = refl
words-clear Four = refl

words-pin : (q : Quad) → words_in (line_saying (Pin q)) ≡ word_from 0 (codes "pin") ∷ place_word 4 q ∷ []
words-pin One = refl
words-pin Two = refl
words-pin Three = refl
words-pin Four = refl

words-unpin : (q : Quad) → words_in (line_saying (Unpin q)) ≡ word_from 0 (codes "unpin") ∷ place_word 6 q ∷ []
words-unpin One = refl
words-unpin Two = refl
words-unpin Three = refl
words-unpin Four = refl

pub says_written : (c : Command) → IsTrue (has_sayable_lane c) → Says (line_saying c) c
says_written (Place q c) sayable =
    let below : c < 16 = grind (arith, nat_tests) in
    record {
      name = word_from 0 (codes "place");
      numbers = place_word 6 q ∷ lane_word 8 c ∷ [];
      whole = words-place q c below;
      named = refl;
      good = (place_good q, (lane_good c below, tt));
      values = ap₂ (λ v w. v ∷ w ∷ []) (place_spelled q) (lane_spelled c below);
    }
says_written (Swap p q) sayable = record {
  name = word_from 0 (codes "swap");
  numbers = place_word 5 p ∷ place_word 7 q ∷ [];
  whole = words-swap p q;
  named = refl;
  good = (place_good p, (place_good q, tt));
  values = ap₂ (λ v w. v ∷ w ∷ []) (place_spelled p) (place_spelled q);
}
says_written (Speaker c) sayable =
    let below : c < 16 = grind (arith, nat_tests) in
    record {
      name = word_from 0 (codes "speaker");
      numbers = lane_word 8 c ∷ [];
      whole = words-speaker c below;
      named = refl;
      good = (lane_good c below, tt);
      values = ap (λ v. v ∷ []) (lane_spelled c below);
    }
says_written (Clear q) sayable = record {
  name = word_from 0 (codes "clear");
  numbers = place_word 6 q ∷ [];
  whole = words-clear q;
  named = refl;
  good = (place_good q, tt);
  values = ap (λ v. v ∷ []) (place_spelled q);
}
says_written (Pin q) sayable = record {
  name = word_from 0 (codes "pin");
  numbers = place_word 4 q ∷ [];
  whole = words-pin q;
  named = refl;
  good = (place_good q, tt);
  values = ap (λ v. v ∷ []) (place_spelled q);
}
says_written (Unpin q) sayable = record {
  name = word_from 0 (codes "unpin");
  numbers = place_word 6 q ∷ [];
  whole = words-unpin q;
  named = refl;
  good = (place_good q, tt);
  values = ap (λ v. v ∷ []) (place_spelled q);
}
