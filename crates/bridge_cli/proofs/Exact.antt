-- The first name that finds no entry is one.
use Rattle.std.proofs.Common.{◌≡◌, ◌≢◌, ℕ, List, [], ◌∷◌, ◌++◌, length, refl, sym, ap, ap₂, subst, ◌∙◌, suc}
use Rattle.std.proofs.lemmas.List.Elements.{All-head, All-tail}
use Rattle.command_words.specs.Options.{Text}
use Rattle.io_edge.specs.Directory.{NamedOctets, TakesEntry, HasNone}
use Rattle.bridge_cli.specs.Opening.{TakeEntries, MissesAt}

entry : Text → Text → NamedOctets
entry name octets = record { name = name; octets = octets }

first_of : {X : Type 0} (x y : X) (xs ys : List X) → (x ∷ xs) ≡ (y ∷ ys) → x ≡ y
first_of x y xs ys e = cc

rest_of : {X : Type 0} (x y : X) (xs ys : List X) → (x ∷ xs) ≡ (y ∷ ys) → xs ≡ ys
rest_of x y xs ys e = cc

unlike : (name : Text) (house : List NamedOctets) → HasNone name house → (e : NamedOctets) (rest : List NamedOctets)
    → house ≡ e ∷ rest → e.name ≡ name → ⊥
unlike name house none e rest is named =
    All-head (λ (x : NamedOctets). x.name ≢ name) e rest (subst (HasNone name) is none) named

fewer : (name : Text) (e : NamedOctets) (rest : List NamedOctets) → HasNone name (e ∷ rest) → HasNone name rest
fewer name e rest none = All-tail (λ (x : NamedOctets). x.name ≢ name) e rest none

-- a house that has no entry of a name does not give one
none_taken : (name : Text) (before : List NamedOctets) (e : NamedOctets) (after : List NamedOctets) → e.name ≡ name
    → HasNone name (before ++ e ∷ after) → ⊥
none_taken name [] e after named none = All-head (λ (x : NamedOctets). x.name ≢ name) e after none named
none_taken name (x ∷ before) e after named none = none_taken name before e after named (fewer name x (before ++ e ∷ after) none)

-- what is left of a house without the first entry of a name is one
same_cut : (name : Text) (b c : List NamedOctets) (e f : NamedOctets) (a d : List NamedOctets) → e.name ≡ name → f.name ≡ name
    → HasNone name b → HasNone name c → (b ++ e ∷ a) ≡ (c ++ f ∷ d) → (b ++ a) ≡ (c ++ d)
same_cut name [] [] e f a d p q m n is = rest_of e f a d is
same_cut name [] (y ∷ c) e f a d p q m n is =
    absurd (All-head (λ (x : NamedOctets). x.name ≢ name) y c n (ap (λ x. x.name) (sym (first_of e y a (c ++ f ∷ d) is)) ∙ p))
same_cut name (x ∷ b) [] e f a d p q m n is =
    absurd (All-head (λ (z : NamedOctets). z.name ≢ name) x b m (ap (λ z. z.name) (first_of x f (b ++ e ∷ a) d is) ∙ q))
same_cut name (x ∷ b) (y ∷ c) e f a d p q m n is =
    ap₂ (λ z zs. z ∷ zs) (first_of x y (b ++ e ∷ a) (c ++ f ∷ d) is)
    (same_cut name b c e f a d p q (fewer name x b m) (fewer name y c n) (rest_of x y (b ++ e ∷ a) (c ++ f ∷ d) is))

one_rest : (name : Text) (house r s : List NamedOctets) (o q : Text) → TakesEntry name house r o → TakesEntry name house s q → r ≡ s
one_rest name house r s o q t u =
    t.left ∙ (same_cut name t.before u.before (record { name = name; octets = o }) (record { name = name; octets = q }) t.after u.after refl refl
    t.first u.first (sym t.is ∙ u.is) ∙ sym u.left)

not_both : (name : Text) (house rest : List NamedOctets) (o : Text) → TakesEntry name house rest o → HasNone name house → ⊥
not_both name house rest o t none =
    none_taken name t.before (record { name = name; octets = o }) t.after refl (subst (HasNone name) t.is none)

-- where all names find entries, none misses
all_or_one : (reached : List Text) (name : Text) (others : List Text) (house rest mid : List NamedOctets) (octets some : List Text)
    → TakeEntries (reached ++ name ∷ others) house rest octets → TakeEntries reached house mid some → HasNone name mid → ⊥
all_or_one [] name others house rest mid octets some (first, more, next, is, here, behind) u none =
    not_both name house next first here (subst (HasNone name) u.1 none)
all_or_one (n ∷ ns) name others house rest mid octets some (first, more, next, is, here, behind) (f, m, after, at, there, left) none =
    all_or_one ns name others next rest mid more m behind
    (subst (λ h. TakeEntries ns h mid m) (one_rest n house after next f first there here) left) none

pub none_misses : (names : List Text) (house rest : List NamedOctets) (octets : List Text) (place : ℕ) → TakeEntries names house rest octets
    → MissesAt names house place → ⊥
none_misses names house rest octets place all misses =
    all_or_one misses.reached misses.name misses.others house rest misses.rest octets misses.octets
    (subst (λ ns. TakeEntries ns house rest octets) misses.is all) misses.takes misses.none

-- two names that are the first to miss stand at one place
same_place : (r s : List Text) (n m : Text) (o p : List Text) (house g h : List NamedOctets) (x y : List Text)
    → (r ++ n ∷ o) ≡ (s ++ m ∷ p) → TakeEntries r house g x → HasNone n g → TakeEntries s house h y → HasNone m h
    → length r ≡ length s
same_place [] [] n m o p house g h x y is t none u nil = refl
same_place [] (q ∷ s) n m o p house g h x y is t none (first, more, next, at, here, behind) nil =
    absurd (not_both q house next first here
    (subst (λ z. HasNone z house) (first_of n q o (s ++ m ∷ p) is) (subst (HasNone n) t.1 none)))
same_place (q ∷ r) [] n m o p house g h x y is (first, more, next, at, here, behind) none u nil =
    absurd (not_both q house next first here
    (subst (λ z. HasNone z house) (sym (first_of q m (r ++ n ∷ o) p is)) (subst (HasNone m) u.1 nil)))
same_place (q ∷ r) (z ∷ s) n m o p house g h x y is (f, more, next, at, here, behind) none (k, rest, after, to, there, left) nil =
    let one : q ≡ z = first_of q z (r ++ n ∷ o) (s ++ m ∷ p) is in
    let there_too : TakesEntry q house after k = subst (λ w. TakesEntry w house after k) (sym one) there in
    ap suc (same_place r s n m o p next g h more rest (rest_of q z (r ++ n ∷ o) (s ++ m ∷ p) is) behind none
    (subst (λ w. TakeEntries s w h rest) (one_rest q house after next k f there_too here) left) nil)

pub one_place : (names : List Text) (house : List NamedOctets) (a b : ℕ) → MissesAt names house a → MissesAt names house b → a ≡ b
one_place names house a b m n =
    sym m.place_is ∙ (same_place m.reached n.reached m.name n.name m.others n.others house m.rest n.rest m.octets n.octets
    (sym m.is ∙ n.is) m.takes m.none n.takes n.none ∙ n.place_is)
