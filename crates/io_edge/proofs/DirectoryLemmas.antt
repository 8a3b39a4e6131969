-- The first source of a name, and the sources without it.
use Rattle.std.proofs.Common.{◌≡◌, ◌≢◌, ℕ, ◌+◌, ◌<◌, ◌≤◌, List, [], ◌∷◌, ◌++◌, length, take, drop, suc, sym, ap, subst, refl, ◌∙◌, arith, take-suc, drop-cons, take_all, slice_index_or, String, string_bytes}
use Rattle.std.proofs.lemmas.List.{take-append-drop}
use Rattle.std.proofs.lemmas.List.Elements.{All-nil, All-cons, All-append}
use Rattle.std.specs.declared.alloc.Global.{Global}
use Rattle.io_edge.specs.Directory.{NamedOctets, HasNone, TakesEntry}
use Rattle.io_edge.specs.Memory.{SourceState, entries_of}

abbrev Entry : Type 0
Entry = String Global × SourceState

entries-append : (xs ys : List Entry) → entries_of (xs ++ ys) ≡ entries_of xs ++ entries_of ys
entries-append [] ys = refl
entries-append (x ∷ xs) ys = ap (λ zs. record { name = string_bytes x.0; octets = x.1.left } ∷ zs) (entries-append xs ys)

-- where the source at a place has another name, one source more has none of that name
pub none_more : (name : List ℕ) (xs : List Entry) (at : ℕ) (d : Entry) → at < length xs → HasNone name (entries_of (take at xs))
    → string_bytes (slice_index_or xs at d).0 ≢ name → HasNone name (entries_of (take (at + 1) xs))
none_more name xs at d inside none other =
    let unlike = λ (e : NamedOctets). e.name ≢ name in
    let one = slice_index_or xs at d in
    let more : suc at ≡ at + 1 = omega arith in
    subst (λ (n : ℕ). HasNone name (entries_of (take n xs))) more
    (subst (λ ys. HasNone name (entries_of ys)) (sym (take-suc xs at d inside))
    (subst (HasNone name) (sym (entries-append (take at xs) (one ∷ [])))
    (All-append unlike (entries_of (take at xs)) (entries_of (one ∷ [])) none (All-cons unlike _ [] other (All-nil unlike)))))

-- all sources are those before a place that none is behind
pub none_at_all : (name : List ℕ) (xs : List Entry) (at : ℕ) → HasNone name (entries_of (take at xs)) → length xs ≤ at
    → HasNone name (entries_of xs)
none_at_all name xs at none end = subst (λ ys. HasNone name (entries_of ys)) (take_all at xs end) none

-- the source at a place is the first of its name where none before it has that name
pub takes_entry : (name : List ℕ) (xs : List Entry) (at : ℕ) (d : Entry) → at < length xs → HasNone name (entries_of (take at xs))
    → string_bytes (slice_index_or xs at d).0 ≡ name
    → TakesEntry name (entries_of xs) (entries_of (take at xs ++ drop (at + 1) xs)) (slice_index_or xs at d).1.left
takes_entry name xs at d inside none is =
    let one = slice_index_or xs at d in
    let more : suc at ≡ at + 1 = omega arith in
    record {
      before = entries_of (take at xs);
      after = entries_of (drop (at + 1) xs);
      is =
          ap entries_of (sym (take-append-drop at xs) ∙ ap (λ ys. take at xs ++ ys) (drop-cons xs at d inside))
          ∙ entries-append (take at xs) (one ∷ drop (suc at) xs)
          ∙ ap (λ (n : List ℕ). entries_of (take at xs) ++ record { name = n; octets = one.1.left } ∷ entries_of (drop (suc at) xs)) is
          ∙ ap (λ (n : ℕ). entries_of (take at xs) ++ record { name = name; octets = one.1.left } ∷ entries_of (drop n xs)) more;
      first = none;
      left = entries-append (take at xs) (drop (at + 1) xs);
    }
