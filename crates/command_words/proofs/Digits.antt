-- Texts of one to thirteen digits, as clap and std read them.
use Rattle.std.proofs.Common.{◌≡◌, ℕ, ◌<◌, ◌≤◌, ◌^◌, ◌&&◌, Option, Some, None, Result, Ok, Err, Bool, true, false, refl, ap, sym, length, arith, nat_le, cond, rules, subst}
use Rattle.std.specs.Prelude.{option_map}
use Rattle.std.specs.Option.{option_map_or}
use Rattle.std.proofs.lemmas.Bool.Decides.{nat_tests}
use Rattle.std.proofs.lemmas.Str.Parse.{IsNumeralModel, numerals_by_value, digits_value_short, not_in_digits, without_leading_plus_none, parse_digits}
use Rattle.std.specs.List.{list_all}
use Rattle.std.specs.Char.{is_ascii_digit}
use Rattle.std.specs.Str.Parse.{digits_value, IsNumeral, without_leading_plus, ParsesUnsigned}
use Rattle.clap.specs.Values.{IsUnsignedIn}
use Rattle.clap.specs.Matches.{ReadsOne}
use Rattle.clap.specs.ValueTests.{accepts}
use Rattle.clap.proofs.ValueTestLemmas.{accepts-Accepts, Accepts-accepts}
use Rattle.clap.specs.declared.builder.value_parser.ValueParser.TheVariants.{Unsigned}
use Rattle.command_words.specs.Options.{Text, Number, are_digits, number_of_text, number_or}

own : IsNumeralModel (λ ds. list_all is_ascii_digit ds ≡ true) (digits_value 10)
own = numerals_by_value _ (search rules)

pub both : (a b : Bool) → (a && b) ≡ true → (a ≡ true) × (b ≡ true)
both true b h = (refl, h)
both false b h = cc

pub and_true : (a b : Bool) → a ≡ true → b ≡ true → (a && b) ≡ true
and_true true b p q = q
and_true false b p q = cc

pub le_true : (a b : ℕ) → a ≤ b → nat_le a b ≡ true
le_true a b h = grind (arith, nat_tests)

pub true_le : (a b : ℕ) → nat_le a b ≡ true → a ≤ b
true_le a b h = grind (arith, nat_tests)

record Digits (t : Text) : Type 0 where
  pub some : 1 ≤ length t
  pub few : length t ≤ 13
  pub all : list_all is_ascii_digit t ≡ true

digits : (t : Text) → are_digits t ≡ true → Digits t
digits t h =
    let outer = both (nat_le 1 (length t) && nat_le (length t) 13) (list_all is_ascii_digit t) h in
    let inner = both (nat_le 1 (length t)) (nat_le (length t) 13) outer.0 in
    record { some = true_le _ _ inner.0; few = true_le _ _ inner.1; all = outer.1 }

pub digits_below : (t : Text) → are_digits t ≡ true → digits_value 10 t < 10 ^ 13
digits_below t h = let d = digits t h in digits_value_short own t 13 d.all d.few

pub no_plus : (t : Text) → are_digits t ≡ true → without_leading_plus t ≡ t
no_plus t h =
    let d = digits t h in
    without_leading_plus_none t (not_in_digits own t 43 d.all (λ r. let low : 48 ≤ 43 = r.0 in omega arith) 0 (omega arith))

-- `clap` takes the number where it lies in the range
pub accepted : (low high : ℕ) (t : Text) → are_digits t ≡ true → low ≤ digits_value 10 t → digits_value 10 t ≤ high
    → accepts false (Unsigned low high) t ≡ true
accepted low high t h above below =
    let d = digits t h in
    let plain = no_plus t h in
    let fits : digits_value 10 t < 2 ^ 64 = let small = digits_below t h in omega arith in
    let numeral : IsNumeral 10 t = (omega arith, own.to t d.all) in
    let in_range : IsUnsignedIn low high t = rw plain (numeral, fits, above, below) in
    Accepts-accepts false (Unsigned low high) t in_range

pub accepts_in : (low high : ℕ) (t : Text) → are_digits t ≡ true → accepts false (Unsigned low high) t ≡ true
    → (low ≤ digits_value 10 t) × (digits_value 10 t ≤ high)
accepts_in low high t h fine =
    let in_range : IsUnsignedIn low high t = accepts-Accepts false (Unsigned low high) t fine in
    let plain = rw (no_plus t h) at in_range in
    (plain.2, plain.3)

-- what `get_one` reads of such a text
pub reads_number : (E : Type 0) (G : Text → Result ℕ E → Type 0) (o : Option Text) (r : Option ℕ) → option_map_or are_digits o false ≡ true
    → ((t : Text) (x : Result ℕ E) → G t x → ParsesUnsigned 64 10 t x)
    → ((t : Text) → o ≡ Some t → ReadsOne G t r) → option_map (digits_value 10) o ≡ r
reads_number E G None r h only reads = cc
reads_number E G (Some t) (Some v) h only reads =
    let d = digits t h in
    let gives = parse_digits own {E = E} 64 t (Ok v) (only t (Ok v) (reads t refl)) d.all in
    ap Some (sym gives.1)
reads_number E G (Some t) None h only reads =
    let d = digits t h in
    let small = digits_below t h in
    let got = reads t refl in
    absurd (parse_digits own {E = E} 64 t (Err got.0) (only t (Err got.0) got.1) d.all (omega arith, omega arith))

pub is_read : (o : Option Text) → option_map_or are_digits o false ≡ true → option_map (digits_value 10) o ≡ None → ⊥
is_read None h e = cc
is_read (Some t) h e = cc

-- what is given, or the default, is the option's number
pub in_range_is : (o : Number) (t : Text) → are_digits t ≡ true → o.low ≤ digits_value 10 t → digits_value 10 t ≤ o.high
    → number_of_text o t ≡ Some (digits_value 10 t)
in_range_is o t h above below =
    ap (λ b. cond b (Some (digits_value 10 t)) None)
    (and_true (are_digits t && nat_le o.low (digits_value 10 t)) (nat_le (digits_value 10 t) o.high)
    (and_true (are_digits t) (nat_le o.low (digits_value 10 t)) h (le_true _ _ above)) (le_true _ _ below))

-- a number is of digits, and `clap` takes it
pub number_taken : (o : Number) (t : Text) (n : ℕ) → number_of_text o t ≡ Some n
    → (are_digits t ≡ true) × (accepts false (Unsigned o.low o.high) t ≡ true)
number_taken o t n h =
    go (are_digits t && nat_le o.low (digits_value 10 t) && nat_le (digits_value 10 t) o.high) refl h
  where
    go : (b : Bool) → (are_digits t && nat_le o.low (digits_value 10 t) && nat_le (digits_value 10 t) o.high) ≡ b
        → cond b (Some (digits_value 10 t)) None ≡ Some n
        → (are_digits t ≡ true) × (accepts false (Unsigned o.low o.high) t ≡ true)
    go true is some =
        let outer = both (are_digits t && nat_le o.low (digits_value 10 t)) (nat_le (digits_value 10 t) o.high) is in
        let inner = both (are_digits t) (nat_le o.low (digits_value 10 t)) outer.0 in
        (inner.0, accepted o.low o.high t inner.0 (true_le _ _ inner.1) (true_le _ _ outer.1))
    go false is some = cc

-- and it lies in the range
pub number_within : (o : Number) (g : Option Text) (n : ℕ) → nat_le o.low o.otherwise ≡ true → nat_le o.otherwise o.high ≡ true
    → number_or o g ≡ Some n → (o.low ≤ n) × (n ≤ o.high)
number_within o None n low high h =
    let is : o.otherwise ≡ n = cc in
    (subst (λ x. o.low ≤ x) is (true_le _ _ low), subst (λ x. x ≤ o.high) is (true_le _ _ high))
number_within o (Some t) n low high h =
    go (are_digits t && nat_le o.low (digits_value 10 t) && nat_le (digits_value 10 t) o.high) refl h
  where
    go : (b : Bool) → (are_digits t && nat_le o.low (digits_value 10 t) && nat_le (digits_value 10 t) o.high) ≡ b
        → cond b (Some (digits_value 10 t)) None ≡ Some n → (o.low ≤ n) × (n ≤ o.high)
    go true is some =
        let outer = both (are_digits t && nat_le o.low (digits_value 10 t)) (nat_le (digits_value 10 t) o.high) is in
        let inner = both (are_digits t) (nat_le o.low (digits_value 10 t)) outer.0 in
        let value : digits_value 10 t ≡ n = cc in
        (subst (λ x. o.low ≤ x) value (true_le _ _ inner.1), subst (λ x. x ≤ o.high) value (true_le _ _ outer.1))
    go false is some = cc
