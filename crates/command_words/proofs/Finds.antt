-- The words that give options.
use Rattle.std.proofs.Common.{◌≡◌, List, [], ◌∷◌, ◌++◌, Option, Some, None, Bool, true, false, refl, ap, sym, ◌∙◌, map, drop, take, length, nat_le, ◌&&◌, ◌||◌, count_by}
use Rattle.std.specs.Prelude.{option_map, MatchOption}
use Rattle.std.specs.Str.Pattern.{FindsTextPrefix, LacksTextAt, StripsPrefix}
use Rattle.std.specs.Borrow.{Bor}
use Rattle.std.proofs.lemmas.List.{take-append-drop}
use Rattle.std.proofs.lemmas.Slice.Eq.{bytes_eq-Decides}
use Rattle.std.specs.List.{list_all, list_any, find}
use Rattle.command_words.specs.Options.{Text, begins_with, gives_option, start_of, are_options}

list_all-map : {X Y : Type 0} (p : Y → Bool) (f : X → Y) (xs : List X) → list_all p (map f xs) ≡ list_all (λ x. p (f x)) xs
list_all-map p f [] = refl
list_all-map p f (x ∷ xs) = ap (λ b. p (f x) && b) (list_all-map p f xs)

list_any-map : {X Y : Type 0} (p : Y → Bool) (f : X → Y) (xs : List X) → list_any p (map f xs) ≡ list_any (λ x. p (f x)) xs
list_any-map p f [] = refl
list_any-map p f (x ∷ xs) = ap (λ b. p (f x) || b) (list_any-map p f xs)

begins_is : (start word : Text) → begins_with start word ≡ true → start ++ drop (length start) word ≡ word
begins_is start word h =
    ap (λ s. s ++ drop (length start) word) ((bytes_eq-Decides start (take (length start) word)).0 h)
    ∙ take-append-drop (length start) word

-- the words begin as their names say
known_by : (starts : List (Bor Text)) (names : List Text) → map (λ s. s.now) starts ≡ map start_of names → (word : Text)
    → list_any (λ s. begins_with s.now word) starts ≡ list_any (λ name. gives_option name word) names
known_by starts names is word =
    sym (list_any-map (λ s. begins_with s word) (λ (s : Bor Text). s.now) starts)
    ∙ (ap (list_any (λ s. begins_with s word)) is ∙ list_any-map (λ s. begins_with s word) start_of names)

all_known : {X : Type 0} (f : X → Text) (starts : List (Bor Text)) (names : List Text) → map (λ s. s.now) starts ≡ map start_of names → (words : List X)
    → list_all (λ w. list_any (λ s. begins_with s.now (f w)) starts) words ≡ list_all (λ w. list_any (λ name. gives_option name w) names) (map f words)
all_known f starts names is [] = refl
all_known f starts names is (w ∷ ws) =
    ap (λ b. b && list_all (λ x. list_any (λ s. begins_with s.now (f x)) starts) ws) (known_by starts names is (f w))
    ∙ ap (λ b. list_any (λ name. gives_option name (f w)) names && b) (all_known f starts names is ws)

all_single : (starts : List (Bor Text)) (names : List Text) → map (λ s. s.now) starts ≡ map start_of names → (words : List Text)
    → list_all (λ s. nat_le (count_by (begins_with s.now) words) 1) starts ≡ list_all (λ name. nat_le (count_by (gives_option name) words) 1) names
all_single starts names is words =
    sym (list_all-map (λ s. nat_le (count_by (begins_with s) words) 1) (λ (s : Bor Text). s.now) starts)
    ∙ (ap (list_all (λ s. nat_le (count_by (begins_with s) words) 1)) is
    ∙ list_all-map (λ s. nat_le (count_by (begins_with s) words) 1) start_of names)

and_then : (a r b : Bool) → true ≡ a → r ≡ b → r ≡ (a && b)
and_then true r b e q = q
and_then false r b e q = cc

and_else : (a r b : Bool) → false ≡ a → r ≡ false → r ≡ (a && b)
and_else true r b e q = cc
and_else false r b e q = q

pub options_are : {X : Type 0} (f : X → Text) (starts : List (Bor Text)) (words : List X) (r : Bool)
    → true ≡ list_all (λ w. list_any (λ s. begins_with s.now (f w)) starts) words
    → r ≡ list_all (λ s. nat_le (count_by (begins_with s.now) (map f words)) 1) starts
    → (names : List Text) → map (λ s. s.now) starts ≡ map start_of names → r ≡ are_options names (map f words)
options_are f starts words r known single names is =
    and_then _ _ _ (known ∙ all_known f starts names is words) (single ∙ all_single starts names is (map f words))

pub options_are_not : {X : Type 0} (f : X → Text) (starts : List (Bor Text)) (words : List X) (r : Bool)
    → false ≡ list_all (λ w. list_any (λ s. begins_with s.now (f w)) starts) words → r ≡ false
    → (names : List Text) → map (λ s. s.now) starts ≡ map start_of names → r ≡ are_options names (map f words)
options_are_not f starts words r unknown none names is = and_else _ _ _ (unknown ∙ all_known f starts names is words) none

-- the text behind the start of the word that was found
pub text_behind : (words : List Text) (start word : Text) (r : Option (Bor Text)) → Some word ≡ find (begins_with start) words
    → begins_with start word ≡ true → MatchOption r (LacksTextAt start word 0) (λ x. StripsPrefix (FindsTextPrefix start) word x.now)
    → option_map (λ t. t.now) r ≡ option_map (drop (length start)) (find (begins_with start) words)
text_behind words start word (Some x) found begun strips =
    ap Some (strips.2 ∙ ap (λ k. drop k word) strips.1.0) ∙ ap (option_map (drop (length start))) found
text_behind words start word None found begun lacks =
    absurd (lacks (drop (length start) word) (sym (begins_is start word begun)))
