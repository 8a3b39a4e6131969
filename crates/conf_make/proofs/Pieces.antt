-- Entries put one behind the other.
use Rattle.std.proofs.Common.{◌≡◌, ℕ, ◌+◌, ◌<◌, List, [], ◌∷◌, ◌++◌, length, take, map, Option, Result, Ok, Err, IsErr, refl, sym, ◌∙◌, ap, subst, arith, append_assoc, append-nil, length-append}
use Rattle.std.specs.List.{concat}
use Rattle.std.specs.Io.KnownBytes.{Appends}
use Rattle.std.proofs.KnownBytes.{Appends-trans, Appends-nil}
use Rattle.std.proofs.lemmas.List.{map-append}
use Rattle.std.proofs.lemmas.List.Folds.{concat-append}
use Rattle.conf_file.specs.Entries.{Content}
use Rattle.conf_make.specs.declared.output.MakeTally.{MakeTally}
use Rattle.conf_make.specs.Made.{entry_of}
use Rattle.conf_make.specs.Writing.{PutsSome, PutsAllOf, PutsPieces, HasPut}

both-concat : (xs ys : List (List ℕ)) → length (concat (xs ++ ys)) ≡ length (concat xs) + length (concat ys)
both-concat xs ys = ap length (concat-append xs ys) ∙ length-append (concat xs) (concat ys)

pub all-behind : (old mid new : Option (List ℕ)) (xs ys : List (List ℕ)) (a b c : MakeTally) → PutsAllOf old mid xs a b → PutsAllOf mid new ys b c
    → PutsAllOf old new (xs ++ ys) a c
all-behind old mid new xs ys a b c h k = record {
  bytes = subst (Appends old new) (sym (concat-append xs ys)) (Appends-trans old mid new (concat xs) (concat ys) h.bytes k.bytes);
  records = omega (arith, h.records, k.records, length-append xs ys);
  octets = omega (arith, h.octets, k.octets, both-concat xs ys);
}

pub some-behind : (old mid new : Option (List ℕ)) (xs ys : List (List ℕ)) (a b c : MakeTally) → PutsAllOf old mid xs a b → PutsSome mid new ys b c
    → PutsSome old new (xs ++ ys) a c
some-behind old mid new xs ys a b c h k = record {
  whole = xs ++ k.whole;
  broken = k.broken;
  rest = k.rest;
  order = ap (λ (ls : List (List ℕ)). xs ++ ls) k.order ∙ sym (append_assoc xs k.whole (k.broken ∷ k.rest));
  count = k.count;
  front = k.front;
  bytes =
      subst (Appends old new)
      (sym (append_assoc (concat xs) (concat k.whole) (take k.count k.broken)) ∙ ap (λ (t : List ℕ). t ++ take k.count k.broken) (sym (concat-append xs k.whole)))
      (Appends-trans old mid new (concat xs) (concat k.whole ++ take k.count k.broken) h.bytes k.bytes);
  records = omega (arith, h.records, k.records, length-append xs k.whole);
  octets = omega (arith, h.octets, k.octets, both-concat xs k.whole);
}

some-before : (old new : Option (List ℕ)) (xs ys : List (List ℕ)) (a b : MakeTally) → PutsSome old new xs a b → PutsSome old new (xs ++ ys) a b
some-before old new xs ys a b k = record {
  whole = k.whole;
  broken = k.broken;
  rest = k.rest ++ ys;
  order = ap (λ (ls : List (List ℕ)). ls ++ ys) k.order ∙ append_assoc k.whole (k.broken ∷ k.rest) ys;
  count = k.count;
  front = k.front;
  bytes = k.bytes;
  records = k.records;
  octets = k.octets;
}

-- ---- entries of a list

pub at-first : (old : Option (List ℕ)) (all : List Content) (a : MakeTally) → HasPut old old all all a a
at-first old all a = record {
  done = [];
  order = refl;
  put = record { bytes = Appends-nil old; records = omega arith; octets = omega arith };
}

-- some more were put
pub next-put : (old mid new : Option (List ℕ)) (all now rest : List Content) (a b c : MakeTally) → HasPut old mid all (now ++ rest) a b
    → PutsAllOf mid new (map entry_of now) b c → HasPut old new all rest a c
next-put old mid new all now rest a b c h k = record {
  done = h.done ++ now;
  order = h.order ∙ sym (append_assoc h.done now rest);
  put =
      subst (λ (ls : List (List ℕ)). PutsAllOf old new ls a c) (sym (map-append entry_of h.done now))
      (all-behind old mid new (map entry_of h.done) (map entry_of now) a b c h.put k);
}

-- the last ones were put, or the sink failed
pub last-put : {E : Type 0} (result : Result Unit E) (old mid new : Option (List ℕ)) (all now : List Content) (a b c : MakeTally) → HasPut old mid all now a b
    → PutsPieces result mid new (map entry_of now) b c → PutsPieces result old new (map entry_of all) a c
last-put (Ok x) old mid new all now a b c h k =
    subst (λ (ls : List (List ℕ)). PutsAllOf old new ls a c) (sym (ap (map entry_of) h.order ∙ map-append entry_of h.done now))
    (all-behind old mid new (map entry_of h.done) (map entry_of now) a b c h.put k)
last-put (Err e) old mid new all now a b c h k =
    subst (λ (ls : List (List ℕ)). PutsSome old new ls a c) (sym (ap (map entry_of) h.order ∙ map-append entry_of h.done now))
    (some-behind old mid new (map entry_of h.done) (map entry_of now) a b c h.put k)

-- the sink failed at some of them
pub failed-put : {E F : Type 0} (result : Result Unit E) (e : F) (old mid new : Option (List ℕ)) (all now rest : List Content) (a b c : MakeTally) → IsErr result
    → HasPut old mid all (now ++ rest) a b → PutsPieces (Err e) mid new (map entry_of now) b c → PutsPieces result old new (map entry_of all) a c
failed-put (Ok x) e old mid new all now rest a b c is h k = absurd (cc)
failed-put (Err f) e old mid new all now rest a b c is h k =
    last-put (Err f) old mid new all (now ++ rest) a b c h
    (subst (λ (ls : List (List ℕ)). PutsSome mid new ls b c) (sym (map-append entry_of now rest)) (some-before mid new (map entry_of now) (map entry_of rest) b c k))

-- all of them were put
pub all-put : (old new : Option (List ℕ)) (all : List Content) (a b : MakeTally) → HasPut old new all [] a b → PutsAllOf old new (map entry_of all) a b
all-put old new all a b h = subst (λ (cs : List Content). PutsAllOf old new (map entry_of cs) a b) (sym (h.order ∙ append-nil h.done)) h.put

-- one entry was put
pub one-put : (old new : Option (List ℕ)) (piece entry : List ℕ) (a b : MakeTally) → piece ≡ entry → Appends old new piece → b.records ≡ a.records + 1 → b.octets ≡ a.octets + length piece
    → PutsAllOf old new (entry ∷ []) a b
one-put old new piece entry a b same bytes records octets = record {
  bytes = subst (Appends old new) (same ∙ sym (append-nil entry)) bytes;
  records = records;
  octets = octets ∙ ap (λ (n : ℕ). a.octets + n) (ap length (same ∙ sym (append-nil entry)));
}

pub one-failed : {E : Type 0} (result : Result Unit E) (old new : Option (List ℕ)) (piece : List ℕ) (a : MakeTally) → IsErr result
    → (n : ℕ) × (n < length piece) × Appends old new (take n piece) → PutsPieces result old new (piece ∷ []) a a
one-failed (Ok x) old new piece a is puts = absurd (cc)
one-failed (Err e) old new piece a is puts = record {
  whole = [];
  broken = piece;
  rest = [];
  order = refl;
  count = puts.0;
  front = puts.1;
  bytes = puts.2;
  records = omega arith;
  octets = omega arith;
}
