-- Names between commas, as the reader cuts them.
use Rattle.std.proofs.Common.{◌≡◌, ℕ, ◌+◌, ◌<◌, ◌≤◌, List, [], ◌∷◌, ◌++◌, Option, Some, None, Bool, true, false, refl, ap, sym, subst, ◌∙◌, length, cond, arith, nat_le, nat_lt, ◌==◌, take, drop, suc, inl, inr, not, map, append_assoc}
use Rattle.std.specs.Prelude.{◌⊎◌}
use Rattle.std.specs.List.{list_all, position_or_len, before_first, after_first}
use Rattle.std.proofs.lemmas.Bool.Decides.{nat_tests}
use Rattle.std.proofs.lemmas.List.{length-append, length-map}
use Rattle.std.proofs.lemmas.List.Folds.{list_all-append}
use Rattle.std.specs.Borrow.{Bor}
use Rattle.command_words.specs.declared.fault.WordsFault.{WordsFault}
use Rattle.command_words.specs.declared.fault.WordsFault.TheVariants.{Usage, NoMemory}
use Rattle.command_words.specs.Answers.{Refuses}
use Rattle.command_words.specs.Options.{Text}
use Rattle.command_words.specs.Names.{comma, prepended, between_commas, is_name, are_names, names_in}
use Rattle.command_words.proofs.Digits.{both, and_true, le_true, true_le}

lt_true : (a b : ℕ) → a < b → nat_lt a b ≡ true
lt_true a b h = grind (arith, nat_tests)

true_lt : (a b : ℕ) → nat_lt a b ≡ true → a < b
true_lt a b h = grind (arith, nat_tests)

prepended_some : (octet : ℕ) (ps : List Text) → 1 ≤ length (prepended octet ps)
prepended_some octet [] = omega arith
prepended_some octet (p ∷ ps) = omega arith

some_parts : (text : Text) → 1 ≤ length (between_commas text)
some_parts [] = omega arith
some_parts (b ∷ text) = go (b == comma)
  where
    go : (t : Bool) → 1 ≤ length (cond t ([] ∷ between_commas text) (prepended b (between_commas text)))
    go true = omega arith
    go false = prepended_some b (between_commas text)

-- there is a name, and there are not too many
pub names_within : (text : Option Text) (read : List Text) → names_in text ≡ Some read → (1 ≤ length read) × (length read ≤ 16)
names_within None read h = cc
names_within (Some text) read h = go (are_names (between_commas text)) refl h
  where
    go : (b : Bool) → are_names (between_commas text) ≡ b → cond b (Some (between_commas text)) None ≡ Some read → (1 ≤ length read) × (length read ≤ 16)
    go true is some =
        let same : between_commas text ≡ read = cc in
        let few = (both (nat_le (length (between_commas text)) 16) (list_all is_name (between_commas text)) is).0 in
        (subst (λ r. 1 ≤ length r) same (some_parts text), subst (λ r. length r ≤ 16) same (true_le _ _ few))
    go false is some = cc

-- where the first comma stands, or where the text ends
abbrev stop : Text → ℕ
stop text = position_or_len (λ b. b == comma) text

pub parts_alone : (text : Text) → stop text ≡ length text → between_commas text ≡ text ∷ []
parts_alone [] e = refl
parts_alone (b ∷ text) e = go (parts_alone text) (b == comma) e
  where
    go : (stop text ≡ length text → between_commas text ≡ text ∷ []) → (t : Bool) → cond (not t) (1 + stop text) 0 ≡ length (b ∷ text)
        → cond t ([] ∷ between_commas text) (prepended b (between_commas text)) ≡ (b ∷ text) ∷ []
    go back true e = absurd (omega arith)
    go back false e = let before : stop text ≡ length text = omega arith in ap (prepended b) (back before)

pub parts_cut : (text : Text) → stop text < length text
    → between_commas text ≡ before_first (λ b. b == comma) text ∷ between_commas (after_first (λ b. b == comma) text)
parts_cut [] h = absurd (omega arith)
parts_cut (b ∷ text) h = go (parts_cut text) (b == comma) h
  where
    go : (stop text < length text
        → between_commas text ≡ before_first (λ b. b == comma) text ∷ between_commas (after_first (λ b. b == comma) text))
        → (t : Bool) → cond (not t) (1 + stop text) 0 < length (b ∷ text)
        → cond t ([] ∷ between_commas text) (prepended b (between_commas text))
        ≡ take (cond (not t) (1 + stop text) 0) (b ∷ text) ∷ between_commas (drop (cond (not t) (1 + stop text) 0 + 1) (b ∷ text))
    go back true h = refl
    go back false h =
        let before : stop text < length text = omega arith in
        let one : suc (stop text) ≡ 1 + stop text = omega arith in
        let two : suc (stop text + 1) ≡ (1 + stop text) + 1 = omega arith in
        ap (prepended b) (back before)
        ∙ (ap (λ n. take n (b ∷ text) ∷ between_commas (drop (stop text + 1) text)) one
        ∙ ap (λ n. take (1 + stop text) (b ∷ text) ∷ between_commas (drop n (b ∷ text))) two)

-- one name more
pub more_names : (front : List Text) (part : Text) → are_names front ≡ true → 0 < length part → length front < 16
    → are_names (front ++ part ∷ []) ≡ true
more_names front part h some few =
    let all = (both (nat_le (length front) 16) (list_all is_name front) h).1 in
    and_true (nat_le (length (front ++ part ∷ [])) 16) (list_all is_name (front ++ part ∷ []))
    (le_true _ _ (let long : length (front ++ part ∷ []) ≡ length front + 1 = length-append front (part ∷ []) in omega arith))
    (list_all-append is_name front (part ∷ []) ∙ and_true (list_all is_name front) (list_all is_name (part ∷ [])) all
    (and_true (is_name part) true (lt_true _ _ some) refl))

-- a part that is no name, or one too many
pub no_names : (text : Text) (front : List Text) (part : Text) (back : List Text) → between_commas text ≡ front ++ part ∷ back
    → (length part ≡ 0) ⊎ (16 ≤ length front) → (read : List Text) → names_in (Some text) ≡ Some read → ⊥
no_names text front part back is bad read h = go (are_names (between_commas text)) refl h
  where
    go : (b : Bool) → are_names (between_commas text) ≡ b → cond b (Some (between_commas text)) None ≡ Some read → ⊥
    go true fine some =
        let whole : are_names (front ++ part ∷ back) ≡ true = ap are_names (sym is) ∙ fine in
        let two = both (nat_le (length (front ++ part ∷ back)) 16) (list_all is_name (front ++ part ∷ back)) whole in
        let few = true_le _ _ two.0 in
        let long : length (front ++ part ∷ back) ≡ length front + length (part ∷ back) = length-append front (part ∷ back) in
        let more : length (part ∷ back) ≡ length back + 1 = omega arith in
        let all = sym (list_all-append is_name front (part ∷ back)) ∙ two.1 in
        let here = (both (list_all is_name front) (list_all is_name (part ∷ back)) all).1 in
        let named = true_lt _ _ (both (is_name part) (list_all is_name back) here).0 in
        elim bad [
          | inl none ↦ absurd (omega arith)
          | inr many ↦ absurd (omega arith)
        ]
    go false fine some = cc

-- the parts that are left when a part comes
pub next_part : (text rest part more : Text) (front : List Text) → between_commas text ≡ front ++ between_commas rest
    → part ≡ before_first (λ b. b == comma) rest → more ≡ after_first (λ b. b == comma) rest → stop rest < length rest
    → between_commas text ≡ front ++ part ∷ between_commas more
next_part text rest part more front is first behind inside =
    is ∙ ap (λ ps. front ++ ps) (parts_cut rest inside ∙ (ap (λ p. p ∷ between_commas (after_first (λ b. b == comma) rest)) (sym first)
    ∙ ap (λ m. part ∷ between_commas m) (sym behind)))

pub last_part : (text rest : Text) (front : List Text) → between_commas text ≡ front ++ between_commas rest → stop rest ≡ length rest
    → between_commas text ≡ front ++ rest ∷ []
last_part text rest front is none = is ∙ ap (λ ps. front ++ ps) (parts_alone rest none)

-- the names of a text whose parts are names
pub all_names : (text : Text) (read : List Text) → between_commas text ≡ read → are_names read ≡ true → names_in (Some text) ≡ Some read
all_names text read is fine =
    ap (λ ps. cond (are_names ps) (Some ps) None) is ∙ ap (λ b. cond b (Some read) None) fine

-- the names that were read, with one more in front of what is left
pub with_more : (text more part : Text) (front : List Text) → between_commas text ≡ front ++ part ∷ between_commas more
    → between_commas text ≡ (front ++ part ∷ []) ++ between_commas more
with_more text more part front is = is ∙ sym (append_assoc front (part ∷ []) (between_commas more))

pub refused_part : (text part : Text) (names : List (Bor Text)) (back : List Text) (e : WordsFault)
    → between_commas text ≡ map (λ n. n.now) names ++ part ∷ back → (e ≡ Usage → (length part ≡ 0) ⊎ (16 ≤ length names))
    → Refuses (λ (read : List Text). names_in (Some text) ≡ Some read) e
refused_part text part names back NoMemory is bad = tt
refused_part text part names back Usage is bad =
    no_names text (map (λ n. n.now) names) part back is
    (elim (bad refl) [
      | inl none ↦ inl none
      | inr many ↦ inr (subst (λ k. 16 ≤ k) (sym (length-map names (λ n. n.now))) many)
    ])

pub more_read : (names : List (Bor Text)) (new : List Text) (part : Text) → are_names (map (λ n. n.now) names) ≡ true
    → 0 < length part → length names < 16 → new ≡ map (λ n. n.now) names ++ part ∷ [] → are_names new ≡ true
more_read names new part all some few is =
    ap are_names is ∙ more_names (map (λ n. n.now) names) part all some (subst (λ k. k < 16) (sym (length-map names (λ n. n.now))) few)
