-- What a parse of one value of digits tells, computed for each first digit.
use Rattle.std.proofs.Common.{◌≡◌, ℕ, ◌+◌, ◌≤◌, ◌&&◌, List, [], ◌∷◌, Some, Ok, Err, Bool, true, false, refl, ap, sym, subst, ◌∙◌, cond, codes, nat_le, length, arith, inl, inr}
use Rattle.std.proofs.Math.Nat.{eq-or-lt_of_le}
use Rattle.std.specs.Str.Parse.{digits_value}
use Rattle.std.specs.Option.{option_map_or}
use Rattle.std.specs.Prelude.{option_map}
use Rattle.std.specs.List.{list_all}
use Rattle.std.specs.Char.{is_ascii_digit}
use Rattle.clap.proofs.OnLiterals.{clap_on_literals}
use Rattle.clap.specs.Words.{App, matches_of, one_of, fault_of, is_simple_and_free, rows_of, found_of}
use Rattle.clap.specs.Kinds.{or_else, value_kinds}
use Rattle.clap.specs.Values.{refused_kind}
use Rattle.clap.specs.ValueTests.{accepts}
use Rattle.clap.specs.declared.error.kind.ErrorKind.{ErrorKind}
use Rattle.clap.specs.declared.builder.value_parser.ValueParser.TheVariants.{Unsigned}
use Rattle.clap.specs.declared.parser.matches.ArgMatches.{ArgMatches}
use Rattle.command_words.specs.declared.fault.WordsFault.{WordsFault}
use Rattle.command_words.specs.declared.fault.WordsFault.TheVariants.{Usage, NoMemory}
use Rattle.command_words.specs.declared.table.NumberOption.{NumberOption}
use Rattle.command_words.specs.Answers.{Refuses}
use Rattle.command_words.specs.Options.{Text, are_digits, number_of_text}
use Rattle.command_words.specs.Numbers.{value_app, value_words, option_of, Parses}
use Rattle.command_words.proofs.Digits.{both, true_le, accepts_in, in_range_is, number_taken}

pub value_is_simple : (low high : ℕ) → is_simple_and_free (value_app low high) ≡ true
unfolding clap_on_literals
value_is_simple low high = refl

record ValueRead (low high : ℕ) (text : Text) : Type 0 where
  faults : fault_of (value_app low high) (value_words text) ≡ or_else (or_else (value_kinds false (Unsigned low high) text) []) []
  value : one_of (codes "value") (matches_of (value_app low high) (value_words text)) ≡ Some text

read_0 : (low high : ℕ) (rest : Text) → ValueRead low high (48 ∷ rest)
unfolding clap_on_literals
read_0 low high rest = record { faults = refl; value = refl }

read_1 : (low high : ℕ) (rest : Text) → ValueRead low high (49 ∷ rest)
unfolding clap_on_literals
read_1 low high rest = record { faults = refl; value = refl }

read_2 : (low high : ℕ) (rest : Text) → ValueRead low high (50 ∷ rest)
unfolding clap_on_literals
read_2 low high rest = record { faults = refl; value = refl }

read_3 : (low high : ℕ) (rest : Text) → ValueRead low high (51 ∷ rest)
unfolding clap_on_literals
read_3 low high rest = record { faults = refl; value = refl }

read_4 : (low high : ℕ) (rest : Text) → ValueRead low high (52 ∷ rest)
unfolding clap_on_literals
read_4 low high rest = record { faults = refl; value = refl }

read_5 : (low high : ℕ) (rest : Text) → ValueRead low high (53 ∷ rest)
unfolding clap_on_literals
read_5 low high rest = record { faults = refl; value = refl }

read_6 : (low high : ℕ) (rest : Text) → ValueRead low high (54 ∷ rest)
unfolding clap_on_literals
read_6 low high rest = record { faults = refl; value = refl }

read_7 : (low high : ℕ) (rest : Text) → ValueRead low high (55 ∷ rest)
unfolding clap_on_literals
read_7 low high rest = record { faults = refl; value = refl }

read_8 : (low high : ℕ) (rest : Text) → ValueRead low high (56 ∷ rest)
unfolding clap_on_literals
read_8 low high rest = record { faults = refl; value = refl }

read_9 : (low high : ℕ) (rest : Text) → ValueRead low high (57 ∷ rest)
unfolding clap_on_literals
read_9 low high rest = record { faults = refl; value = refl }

next : (P : ℕ → Type 0) (k d : ℕ) → P k → (k + 1 ≤ d → P d) → k ≤ d → P d
next P k d here more le = elim (eq-or-lt_of_le le) [
  | inl same ↦ subst P same here
  | inr lt ↦ more (omega arith)
]

value_read : (low high : ℕ) (text : Text) → are_digits text ≡ true → ValueRead low high text
value_read low high [] h = cc
value_read low high (d ∷ rest) h =
    let all = (both (nat_le 1 (length (d ∷ rest)) && nat_le (length (d ∷ rest)) 13) (list_all is_ascii_digit (d ∷ rest)) h).1 in
    let here = (both (is_ascii_digit d) (list_all is_ascii_digit rest) all).0 in
    let range = both (nat_le 48 d) (nat_le d 57) here in
    go (true_le d 57 range.1) (true_le 48 d range.0)
  where
    go : d ≤ 57 → 48 ≤ d → ValueRead low high (d ∷ rest)
    go top =
        let Reads : ℕ → Type 0 = λ c. ValueRead low high (c ∷ rest) in
        next Reads 48 d (read_0 low high rest) (next Reads 49 d (read_1 low high rest) (next Reads 50 d (read_2 low high rest)
        (next Reads 51 d (read_3 low high rest) (next Reads 52 d (read_4 low high rest) (next Reads 53 d (read_5 low high rest)
        (next Reads 54 d (read_6 low high rest) (next Reads 55 d (read_7 low high rest) (next Reads 56 d (read_8 low high rest)
        (next Reads 57 d (read_9 low high rest) (λ over. absurd (omega arith)))))))))))

good : (b : Bool) (k : ErrorKind) → or_else (or_else (cond b [] (k ∷ [])) []) [] ≡ [] → b ≡ true
good true k e = refl
good false k e = cc

clean : (b : Bool) (k : ErrorKind) → b ≡ true → or_else (or_else (cond b [] (k ∷ [])) []) [] ≡ []
clean true k fine = refl
clean false k fine = cc

same_text : (a b : Text) → Some a ≡ Some b → a ≡ b
same_text a b e = cc

-- the parse of a text of digits: it comes out where the number lies in the option's range, and gives the text
pub parsed_text : (o : NumberOption) (t : Text) (app : App) (words : List Text) (m : ArgMatches) → are_digits t ≡ true → app ≡ value_app o.low o.high
    → words ≡ value_words t → Parses app words (Ok m) → one_of (codes "value") (rows_of (found_of m)) ≡ Some t
parsed_text o t app words m digits is given parsed =
    let rows : rows_of (found_of m) ≡ matches_of (value_app o.low o.high) (value_words t) =
    subst (λ w. rows_of (found_of m) ≡ matches_of (value_app o.low o.high) w) given (subst (λ a. rows_of (found_of m) ≡ matches_of a words) is parsed.1) in
    ap (one_of (codes "value")) rows ∙ (value_read o.low o.high t digits).value

pub parsed_digits : (o : NumberOption) (t : Text) (app : App) (words : List Text) (m : ArgMatches) → are_digits t ≡ true → app ≡ value_app o.low o.high
    → words ≡ value_words t → Parses app words (Ok m) → option_map_or are_digits (one_of (codes "value") (rows_of (found_of m))) false ≡ true
parsed_digits o t app words m digits is given parsed =
    ap (λ row. option_map_or are_digits row false) (parsed_text o t app words m digits is given parsed) ∙ digits

pub parsed_number : (o : NumberOption) (t : Text) (app : App) (words : List Text) (m : ArgMatches) (n : ℕ) → are_digits t ≡ true
    → app ≡ value_app o.low o.high → words ≡ value_words t → Parses app words (Ok m)
    → option_map (digits_value 10) (one_of (codes "value") (rows_of (found_of m))) ≡ Some n → number_of_text (option_of o) t ≡ Some n
parsed_number o t app words m n digits is given parsed read =
    let fault : fault_of (value_app o.low o.high) (value_words t) ≡ [] =
    subst (λ w. fault_of (value_app o.low o.high) w ≡ []) given (subst (λ a. fault_of a words ≡ []) is parsed.0) in
    let taken = good (accepts false (Unsigned o.low o.high) t) (refused_kind (Unsigned o.low o.high))
    (sym (value_read o.low o.high t digits).faults ∙ fault) in
    let range = accepts_in o.low o.high t digits taken in
    let value : Some (digits_value 10 t) ≡ Some n =
    sym (ap (option_map (digits_value 10)) (parsed_text o t app words m digits is given parsed)) ∙ read in
    in_range_is (option_of o) t digits range.0 range.1 ∙ value

pub refused_digits : (o : NumberOption) (t : Text) (app : App) (words : List Text) (e : WordsFault) → are_digits t ≡ true
    → app ≡ value_app o.low o.high → words ≡ value_words t → Parses app words (Err e) → Refuses (λ n. number_of_text (option_of o) t ≡ Some n) e
refused_digits o t app words NoMemory digits is given parsed = tt
refused_digits o t app words Usage digits is given parsed = λ n asked.
    let clear : fault_of (value_app o.low o.high) (value_words t) ≡ [] =
    (value_read o.low o.high t digits).faults
    ∙ clean (accepts false (Unsigned o.low o.high) t) (refused_kind (Unsigned o.low o.high)) (number_taken (option_of o) t n asked).1 in
    parsed (subst (λ a. fault_of a words ≡ []) (sym is) (subst (λ w. fault_of (value_app o.low o.high) w ≡ []) (sym given) clear))
