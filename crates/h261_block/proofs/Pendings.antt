-- What is pending of a word, by what may follow it, and what one more bit makes of it.
use Rattle.std.proofs.Common.{◌≡◌, ◌≢◌, ℕ, zero, suc, ◌+◌, ◌*◌, ◌/◌, ◌%◌, ◌^◌, ◌<◌, ◌==◌, ◌&&◌, ◌||◌, Bool, true, false, cond, List, [], ◌∷◌, ◌++◌, length, get_or, Option}
use Rattle.std.proofs.Common.{Some, None, refl, sym, ◌∙◌, ap, subst, inl, inr, arith, append-nil, append_assoc, length-append}
use Rattle.std.specs.List.{find, list_any}
use Rattle.std.proofs.lemmas.Bool.{ne_eqb, eq-eqb, cases_Bool, cond-true, cond-false}
use Rattle.std.proofs.lemmas.Option.{same_Some}
use Rattle.std.proofs.lemmas.Nat.{pow_pos}
use Rattle.pel_bits.specs.Bits.{number}
use Rattle.pel_bits.proofs.Fields.{number_below, number-append}
use Rattle.pel_model.specs.Bits as model
use Rattle.pel_model.specs.Codes.{tcoeff_table, escape_word, end_of_block_word, first_one_word}
use Rattle.pel_model.specs.Records.{Coefficient}
use Rattle.pel_model.specs.Walk.{Good, read}
use Rattle.pel_model.specs.Grammar.{Tcoeff, Eob, first_rows, later_rows, coefficient_rows, coefficient_row, escape_row, word_row, signed, from_twos_complement, is_forbidden_level}
use Rattle.vlc_codes.proofs.CellLaws.{listed, listed_at}
use Rattle.vlc_codes.proofs.CoefficientLaws.{same_number}
use Rattle.vlc_codes.proofs.FoundRows.{Among, among-left, among-right, among-mapped, read-row}
use Rattle.vlc_codes.proofs.WordLaws.{whole-good}
use Rattle.h261_block.specs.Ahead.{MayStand}
use Rattle.h261_block.specs.Machine.{Pending, First, Code, Sign, Run, Top, Level, Faulty, BitStep, on, same, codes, begins, by_code, by_bits, bit_step}
use Rattle.h261_block.proofs.AheadLaws.{later_free, read-at}

-- the bits are a good coefficient, whatever follows them, and add so many to the block of which `base` stand before
pub record IsCoefficient (base : ℕ) (word : List Bool) (adds : ℕ) : Type 0 where
  pub coefficient : Coefficient
  pub stands : (more : List Bool) → read (cond (base == 0) first_rows later_rows) (word ++ more) ≡ Good (Tcoeff coefficient) (length word)
  pub count : adds ≡ coefficient.run + 1
  pub allowed : (coefficient.long && is_forbidden_level coefficient.level) ≡ false

abbrev pub IsEnd : ℕ → List Bool → Type 0
IsEnd base word = (more : List Bool) → read (cond (base == 0) first_rows later_rows) (word ++ more) ≡ Good Eob (length word)

abbrev some_one : List Bool → Bool
some_one bits = list_any (λ b. b) bits

-- behind these bits of a word, which added so many, this is pending
abbrev pub Holds : Pending → ℕ → List Bool → ℕ → Type 0
Holds First base bits k = (bits ≡ []) × (k ≡ 0) × (base ≡ 0)
Holds (Code word) base bits k = (bits ≡ word) × (k ≡ 0) × MayStand (base == 0) word
Holds Sign base bits k = (s : Bool) → IsCoefficient base (bits ++ s ∷ []) k
Holds (Run n) base bits k =
    (run level : List Bool) (s : Bool) → length run ≡ n → length level ≡ 7 → some_one level ≡ true → IsCoefficient base (bits ++ (run ++ s ∷ level)) (k + number run + 1)
Holds Top base bits k = (level : List Bool) (s : Bool) → length level ≡ 7 → some_one level ≡ true → IsCoefficient base (bits ++ s ∷ level) k
Holds (Level n some) base bits k =
    (level : List Bool) → length level ≡ n → (some || some_one level) ≡ true → IsCoefficient base (bits ++ level) k
Holds Faulty base bits k = ⊥

-- what a step leads to, behind the bits with its own
pub data Outcome (base : ℕ) (bits : List Bool) (k : ℕ) (step : BitStep) : Type 0 where
  Waits : step.ends ≡ false → Holds step.next base bits (k + step.fills) → Outcome base bits k step
  Makes : step.ends ≡ false → step.next ≡ Code [] → IsCoefficient base bits (k + step.fills) → Outcome base bits k step
  Ends : step.ends ≡ true → k + step.fills ≡ 0 → IsEnd base bits → Outcome base bits k step
  Fails : 64 < step.fills → Outcome base bits k step

-- ---- bits

same-is : (v w : List Bool) → same v w ≡ true → v ≡ w
same-is [] [] h = refl
same-is (true ∷ v) (true ∷ w) h = ap (λ t. true ∷ t) (same-is v w h)
same-is (false ∷ v) (false ∷ w) h = ap (λ t. false ∷ t) (same-is v w h)
same-is [] (true ∷ w) h = absurd cc
same-is [] (false ∷ w) h = absurd cc
same-is (true ∷ v) [] h = absurd cc
same-is (false ∷ v) [] h = absurd cc
same-is (true ∷ v) (false ∷ w) h = absurd cc
same-is (false ∷ v) (true ∷ w) h = absurd cc

may-more : (first : Bool) (xs ys : List Bool) → MayStand first xs → MayStand first (xs ++ ys)
may-more false xs ys may = tt
may-more true [] ys may = absurd may
may-more true (true ∷ xs) ys may = absurd may
may-more true (false ∷ xs) ys may = tt

may-zero : (first : Bool) (xs : List Bool) → MayStand first (false ∷ xs)
may-zero true xs = tt
may-zero false xs = tt

some_number : (bits : List Bool) → some_one bits ≡ true → 0 < number bits
unfolding number
some_number [] h = absurd cc
some_number (true ∷ bits) h = omega (arith, pow_pos (length bits))
some_number (false ∷ bits) h = omega (arith, some_number bits h)

or_assoc : (a b c : Bool) → (a || (b || c)) ≡ ((a || b) || c)
or_assoc true b c = refl
or_assoc false b c = refl

-- ---- codes

find_among : {A : Type 0} (test : A → Bool) (xs : List A) (x : A) → find test xs ≡ Some x → Among x xs × (test x ≡ true)
find_among test [] x h = absurd cc
find_among test (y ∷ xs) x h = elim (cases_Bool (test y)) [
  | inl here ↦ let e : y ≡ x = same_Some y x (sym (cond-true (test y) (Some y) (find test xs) here) ∙ h) in (inl (sym e), ap test (sym e) ∙ here)
  | inr other ↦ let r = find_among test xs x (sym (cond-false (test y) (Some y) (find test xs) other) ∙ h) in (inr r.0, r.1)
]

abbrev Row : Type 0
Row = List Bool × (ℕ × ℕ)

code_among : (row : Row) → Among row codes → Among (coefficient_row row.0 row.1.0 row.1.1) later_rows
unfolding codes
code_among row h = elim h [
  | inl e ↦ inl (ap (λ (r : Row). coefficient_row r.0 r.1.0 r.1.1) e)
  | inr t ↦ inr (among-left _ coefficient_rows (word_row end_of_block_word Eob ∷ [])
      (among-left _ _ (escape_row ∷ []) (among-mapped (λ (r : Row). coefficient_row r.0 r.1.0 r.1.1) row tcoeff_table t)))
]

escape_among : Among escape_row later_rows
escape_among =
    inr (among-left escape_row coefficient_rows (word_row end_of_block_word Eob ∷ []) (among-right escape_row _ (escape_row ∷ []) (inl refl)))

end_read : read later_rows end_of_block_word ≡ Good Eob 2
unfolding tcoeff_table
end_read = refl

-- ---- the level of an escape

abbrev is_forbidden : ℕ → Bool
is_forbidden octet = is_forbidden_level (from_twos_complement octet)

forbidden_computed : listed is_forbidden 0 256 ≡ listed (λ n. n == 0 || n == 128) 0 256
forbidden_computed = refl

fine : (octet : ℕ) → octet < 256 → octet ≢ 0 → octet ≢ 128 → is_forbidden octet ≡ false
fine octet fits some other =
    sym (listed_at is_forbidden 256 octet false fits)
    ∙ (ap (λ (bs : List Bool). get_or bs octet false) forbidden_computed
    ∙ (listed_at (λ n. n == 0 || n == 128) 256 octet false fits
    ∙ (ap (λ (b : Bool). b || octet == 128) (ne_eqb octet 0 some) ∙ ne_eqb octet 128 other)))

-- one of its last seven bits is 1
level_fits : (s : Bool) (level : List Bool) → length level ≡ 7 → some_one level ≡ true → (number (s ∷ level) < 256) × (number (s ∷ level) ≢ 0) × (number (s ∷ level) ≢ 128)
unfolding number
level_fits true level long some =
    let top : 2 ^ length level ≡ 128 = ap (λ (n : ℕ). 2 ^ n) long in
    let least = some_number level some in
    let most = number_below level in
    (omega (arith, top, most), λ h. omega (arith, top, h), λ h. omega (arith, top, least, h))
level_fits false level long some =
    let top : 2 ^ length level ≡ 128 = ap (λ (n : ℕ). 2 ^ n) long in
    let least = some_number level some in
    let most = number_below level in
    (omega (arith, top, most), λ h. omega (arith, least, h), λ h. omega (arith, top, most, h))

-- an escape, its run and its level
escaped : (base k : ℕ) (word run level : List Bool) (s : Bool) → word ≡ escape_word → MayStand (base == 0) word → k ≡ 0 → length run ≡ 6 → length level ≡ 7 → some_one level ≡ true
    → IsCoefficient base (word ++ (run ++ s ∷ level)) (k + 0 + number run + 1)
escaped base k word run level s is may none run_long level_long some =
    let tail : List Bool = run ++ s ∷ level in
    let long : length tail ≡ 14 = omega (arith, length-append run (s ∷ level), run_long, level_long) in
    let n : ℕ = model.number tail in
    let low : ℕ = number (s ∷ level) in
    let fits = level_fits s level level_long some in
    let power : 2 ^ length (s ∷ level) ≡ 256 = ap (λ (k : ℕ). 2 ^ suc k) level_long in
    let n_is : n ≡ number run * 256 + low = same_number tail ∙ (number-append run (s ∷ level) ∙ ap (λ (p : ℕ). number run * p + low) power) in
    let c : Coefficient = record { run = n / 256; level = from_twos_complement (n % 256); long = true } in
    let whole : read later_rows (escape_word ++ (tail ++ [])) ≡ Good (Tcoeff c) 20 = read-row later_rows escape_row tail [] later_free escape_among long in
    let all_long : length (word ++ tail) ≡ 20 = omega (arith, length-append word tail, ap length is, long) in
    let later : read later_rows (word ++ tail) ≡ Good (Tcoeff c) (length (word ++ tail)) =
    ap (λ (w : List Bool). read later_rows (w ++ tail)) is ∙ (ap (λ (t : List Bool). read later_rows (escape_word ++ t)) (sym (append-nil tail)) ∙ (whole ∙ ap (Good (Tcoeff c)) (sym all_long))) in
    record {
      coefficient = c;
      stands = λ more. read-at (base == 0) (word ++ tail) more (Tcoeff c) (length (word ++ tail)) (may-more (base == 0) word tail may) later;
      count = omega (arith, none, n_is, fits.0);
      allowed = fine (n % 256) (omega arith) (λ h. fits.1 (omega (arith, n_is, fits.0, h))) (λ h. fits.2 (omega (arith, n_is, fits.0, h)));
    }

-- a code and its sign
signed_code : (base k : ℕ) (word : List Bool) (row : Row) (s : Bool) → MayStand (base == 0) word → k ≡ 0 → Among row codes → row.0 ≡ word → IsCoefficient base (word ++ s ∷ []) (k + (row.1.0 + 1))
signed_code base k word row s may none among is =
    let c : Coefficient = record { run = row.1.0; level = signed row.1.1 (model.number (s ∷ [])); long = false } in
    let whole : read later_rows (row.0 ++ s ∷ []) ≡ Good (Tcoeff c) (length row.0 + 1) = read-row later_rows (coefficient_row row.0 row.1.0 row.1.1) (s ∷ []) [] later_free
    (code_among row among) refl in
    let long : length row.0 + 1 ≡ length (word ++ s ∷ []) = omega (arith, length-append word (s ∷ []), ap length is) in
    let later : read later_rows (word ++ s ∷ []) ≡ Good (Tcoeff c) (length (word ++ s ∷ [])) =
    ap (λ (w : List Bool). read later_rows (w ++ s ∷ [])) (sym is) ∙ (whole ∙ ap (Good (Tcoeff c)) long) in
    record {
      coefficient = c;
      stands = λ more. read-at (base == 0) (word ++ s ∷ []) more (Tcoeff c) (length (word ++ s ∷ [])) (may-more (base == 0) word (s ∷ []) may) later;
      count = omega (arith, none);
      allowed = refl;
    }

-- 1 and a sign, at the beginning of a block without INTRADC
first_one : (base k : ℕ) (s : Bool) → base ≡ 0 → k ≡ 0 → IsCoefficient base (true ∷ s ∷ []) (k + 1)
first_one base k s first none = record {
  coefficient = record { run = 0; level = signed 1 (model.number (s ∷ [])); long = false };
  stands = λ more.
      ap (λ (b : Bool). read (cond b first_rows later_rows) (true ∷ s ∷ more)) (eq-eqb base 0 first)
      ∙ whole-good (coefficient_row first_one_word 0 1) (true ∷ s ∷ more) (omega arith);
  count = omega (arith, none);
  allowed = refl;
}

-- ---- a step

module _ (base k : ℕ) (word : List Bool) (may : MayStand (base == 0) word) (none : k ≡ 0) where
  none_such : (goes_on : Bool) → Outcome base word k (cond goes_on (on (Code word) 0) (on Faulty 127))
  none_such true = Waits refl (refl, omega (arith, none), may)
  none_such false = Fails (omega arith)

  by_code_step : (row : Option Row) → find (λ (row : Row). same row.0 word) codes ≡ row → Outcome base word k (by_code word row)
  by_code_step (Some row) found =
      let told = find_among (λ (row : Row). same row.0 word) codes row found in
      Waits refl (λ s. signed_code base k word row s may none told.0 (same-is row.0 word told.1))
  by_code_step None found = none_such (begins word)

  by_bits_step : (is_end is_escape : Bool) → same word end_of_block_word ≡ is_end → same word escape_word ≡ is_escape
      → Outcome base word k (cond is_end (record { next = First; fills = 0; ends = true }) (cond is_escape (on (Run 6) 0) (by_code word (find (λ (row : Row). same row.0 word) codes))))
  by_bits_step true is_escape end escape =
      let is : word ≡ end_of_block_word = same-is word end_of_block_word end in
      let later : read later_rows word ≡ Good Eob (length word) = subst (λ (w : List Bool). read later_rows w ≡ Good Eob (length w)) (sym is) end_read in
      Ends refl (omega (arith, none)) (λ more. read-at (base == 0) word more Eob (length word) may later)
  by_bits_step false true end escape =
      Waits refl (λ run level s run_long level_long some. escaped base k word run level s (same-is word escape_word escape) may none run_long level_long some)
  by_bits_step false false end escape = by_code_step (find (λ (row : Row). same row.0 word) codes) refl

abbrev Adds : ℕ → List Bool → ℕ → Type 0
Adds base bits k = IsCoefficient base bits k

moved : (base k n : ℕ) (xs ys : List Bool) → xs ≡ ys → k ≡ n → IsCoefficient base xs k → IsCoefficient base ys n
moved base k n xs ys same_bits same_count is =
    subst (λ (m : ℕ). IsCoefficient base ys m) same_count (subst (λ (t : List Bool). IsCoefficient base t k) same_bits is)

last_level : (base k : ℕ) (bits : List Bool) (some b here : Bool) → (some || b) ≡ here → Holds (Level 1 some) base bits k
    → Outcome base (bits ++ b ∷ []) k (cond here (on (Code []) 0) (on Faulty 127))
last_level base k bits some b true is holds =
    Makes refl refl (moved base k (k + 0) (bits ++ b ∷ []) (bits ++ b ∷ []) refl (omega arith) (holds (b ∷ []) refl (or_assoc some b false ∙ ap (λ (c : Bool). c || false) is)))
last_level base k bits some b false is holds = Fails (omega arith)

pub stepped : (pending : Pending) (base k : ℕ) (bits : List Bool) (b : Bool) → Holds pending base bits k → Outcome base (bits ++ b ∷ []) k (bit_step pending b)
unfolding number
stepped First base k bits true holds =
    Waits refl (λ s. moved base (k + 1) (k + 1) (true ∷ s ∷ []) ((bits ++ true ∷ []) ++ s ∷ []) (ap (λ (t : List Bool). (t ++ true ∷ []) ++ s ∷ []) (sym holds.0)) refl
    (first_one base k s holds.2 holds.1))
stepped First base k bits false holds =
    Waits refl (ap (λ (t : List Bool). t ++ false ∷ []) holds.0, omega (arith, holds.1), may-zero (base == 0) [])
stepped (Code word) base k bits b holds =
    let now : List Bool = word ++ b ∷ [] in
    subst (λ (t : List Bool). Outcome base (t ++ b ∷ []) k (by_bits now)) (sym holds.0)
    (by_bits_step base k now (may-more (base == 0) word (b ∷ []) holds.2) holds.1 (same now end_of_block_word) (same now escape_word) refl refl)
stepped Sign base k bits b holds = Makes refl refl (moved base k (k + 0) (bits ++ b ∷ []) (bits ++ b ∷ []) refl (omega arith) (holds b))
stepped (Run (suc zero)) base k bits b holds =
    Waits refl (λ level s level_long some. moved base (k + number (b ∷ []) + 1) (k + (cond b 1 0 + 1)) (bits ++ ((b ∷ []) ++ s ∷ level)) ((bits ++ b ∷ []) ++ s ∷ level)
    (sym (append_assoc bits (b ∷ []) (s ∷ level))) (omega arith) (holds (b ∷ []) level s refl level_long some))
stepped (Run (suc (suc n))) base k bits b holds =
    Waits refl (λ run level s run_long level_long some.
    moved base (k + number (b ∷ run) + 1) (k + cond b (2 ^ suc n) 0 + number run + 1) (bits ++ ((b ∷ run) ++ s ∷ level)) ((bits ++ b ∷ []) ++ (run ++ s ∷ level))
    (sym (append_assoc bits (b ∷ []) (run ++ s ∷ level)))
    (ap (λ (m : ℕ). k + (cond b (2 ^ m) 0 + number run) + 1) run_long ∙ omega arith) (holds (b ∷ run) level s (ap suc run_long) level_long some))
stepped (Run zero) base k bits b holds = Fails (omega arith)
stepped Top base k bits b holds =
    Waits refl (λ level level_long some. moved base k (k + 0) (bits ++ b ∷ level) ((bits ++ b ∷ []) ++ level) (sym (append_assoc bits (b ∷ []) level)) (omega arith)
    (holds level b level_long some))
stepped (Level (suc zero) some) base k bits b holds = last_level base k bits some b (some || b) refl holds
stepped (Level (suc (suc n)) some) base k bits b holds =
    Waits refl (λ level level_long one. moved base k (k + 0) (bits ++ b ∷ level) ((bits ++ b ∷ []) ++ level) (sym (append_assoc bits (b ∷ []) level)) (omega arith)
    (holds (b ∷ level) (ap suc level_long) (or_assoc some b (some_one level) ∙ one)))
stepped (Level zero some) base k bits b holds = Fails (omega arith)
stepped Faulty base k bits b holds = absurd holds
