-- The words from a byte on, and those from the next byte on.
use Rattle.std.proofs.Common.{◌≡◌, ℕ, suc, ◌+◌, ◌-◌, ◌<◌, ◌≤◌, Bool, true, false, not, ◌&&◌, ◌||◌, ◌==◌, IsTrue, List, [], ◌∷◌, length, slice_index, take, drop, refl, ap, ap₂, ◌∙◌, arith, nat_le, nat_lt}
use Rattle.std.specs.List.{prefix_len, slice_range}
use Rattle.std.proofs.lemmas.Bool.Decides.{nat_tests}
use Rattle.std.proofs.Math.ListN.{drop_of_length-le}
use Rattle.std.proofs.lemmas.List.Sums.{prefix_len-drop_no}
use Rattle.chair_words.specs.Words.{Word, is_blank, begins_at, word_begun_at, word_from, words_from}
use Rattle.chair_words.specs.Reading.{is_between_words}

-- no word begins at byte i
pub words_from-pass : (line : List ℕ) (i : ℕ) → i < length line → begins_at line i ≡ false → words_from line i ≡ words_from line (i + 1)
words_from-pass line i within no_word =
    let e : length line - i ≡ suc (length line - (i + 1)) = omega arith in
    rw (e, no_word) refl

-- a word begins at byte i
pub words_from-word : (line : List ℕ) (i : ℕ) → i < length line → begins_at line i ≡ true → words_from line i ≡ word_begun_at line i ∷ words_from line (i + 1)
words_from-word line i within word =
    let e : length line - i ≡ suc (length line - (i + 1)) = omega arith in
    rw (e, word) refl

pub words_from-end : (line : List ℕ) (i : ℕ) → length line ≤ i → words_from line i ≡ []
words_from-end line i past =
    let e : length line - i ≡ 0 = omega arith in
    rw e refl

-- no word begins at a blank
pub begins_at-blank : (line : List ℕ) (i : ℕ) → is_blank (slice_index line i) ≡ true → begins_at line i ≡ false
begins_at-blank line i blank = rw blank refl

-- nor behind a byte of a word
pub begins_at-inside : (line : List ℕ) (i : ℕ) → 0 < i → is_blank (slice_index line (i - 1)) ≡ false → begins_at line i ≡ false
begins_at-inside line i above inside =
    let first : (i == 0) ≡ false = grind (arith, nat_tests) in
    rw (inside, first) (elim (is_blank (slice_index line i)) as (λ b. (not b && (false || false)) ≡ false) [ true ↦ refl | false ↦ refl ])

outside-cases : (ended blank first : Bool) → IsTrue ((ended || blank) || (not blank && (first || true)))
outside-cases true blank first = refl
outside-cases false true first = refl
outside-cases false false true = refl
outside-cases false false false = refl

-- behind a blank no word goes on
pub outside-blank : (line : List ℕ) (i : ℕ) → is_blank (slice_index line i) ≡ true → IsTrue (is_between_words line (i + 1))
outside-blank line i blank =
    let before : i + 1 - 1 ≡ i = omega arith in
    let begins : begins_at line (i + 1) ≡ not (is_blank (slice_index line (i + 1))) && ((i + 1 == 0) || true) =
    rw (before, blank) refl in
    rw begins (outside-cases (nat_le (length line) (i + 1)) (is_blank (slice_index line (i + 1))) (i + 1 == 0))

-- the word that began at `start` ends here
pub word_at-ends : (line : List ℕ) (start end : ℕ) → start < end → end ≤ length line →
    prefix_len (λ b. not (is_blank b)) (drop start line) ≡ (end - start) + prefix_len (λ b. not (is_blank b)) (drop end line) →
    prefix_len (λ b. not (is_blank b)) (drop end line) ≡ 0 → word_begun_at line start ≡ word_from start (slice_range line start end)
word_at-ends line start end below within counted none =
    let len : prefix_len (λ b. not (is_blank b)) (drop start line) ≡ end - start = omega arith in
    ap (λ n. word_from start (take n (drop start line))) len

-- a word stops at a blank, and at the line's end
no_more : (line : List ℕ) (end : ℕ) → (end < length line → is_blank (slice_index line end) ≡ true) → prefix_len (λ b. not (is_blank b)) (drop end line) ≡ 0
no_more line end stops =
    elim (nat_lt end (length line)) as (λ b. nat_lt end (length line) ≡ b → prefix_len (λ b. not (is_blank b)) (drop end line) ≡ 0) [
      | true ↦ λ e.
          let lower : end < length line = grind (arith, nat_tests) in
          prefix_len-drop_no (λ b. not (is_blank b)) line end 0 lower (ap not (stops lower))
      | false ↦ λ e.
          let upper : length line ≤ end = grind (arith, nat_tests) in
          ap (prefix_len (λ b. not (is_blank b))) (drop_of_length-le line upper)
    ] refl

-- inside the word that begins at `start` no other begins
pub words_from-ends : (line : List ℕ) (start end : ℕ) → start < length line → begins_at line start ≡ true → start < end → end ≤ length line →
    words_from line (start + 1) ≡ words_from line end →
    prefix_len (λ b. not (is_blank b)) (drop start line) ≡ (end - start) + prefix_len (λ b. not (is_blank b)) (drop end line) →
    (end < length line → is_blank (slice_index line end) ≡ true) →
    words_from line start ≡ word_from start (slice_range line start end) ∷ words_from line end
words_from-ends line start end inside begins below within same counted stops =
    words_from-word line start inside begins
    ∙ ap₂ (λ (w : Word) (ws : List Word). w ∷ ws)
    (word_at-ends line start end below within counted (no_more line end stops))
    same
