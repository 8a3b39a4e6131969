-- What the marks of a picture tell of a place: whether a macroblock is sent there, and whether it is Intra. Marks rise.
use Rattle.std.proofs.Common.{◌≡◌, ℕ, ◌+◌, ◌-◌, ◌*◌, ◌<◌, ◌≤◌, ◌==◌, ◌&&◌, Bool, true, false, cond, if◌then◌else◌, Option, Some, None, List, [], ◌∷◌, ◌++◌, length, map, take, All, refl, sym, ap, ap₂, subst, ◌∙◌, arith}
use Rattle.std.specs.List.{flat_map}
use Rattle.std.proofs.lemmas.Bool.{eqb-true, true≢false, false_from_ne_true}
use Rattle.std.proofs.lemmas.List.{map-append}
use Rattle.std.proofs.lemmas.List.Elements.{All-head, All-tail}
use Rattle.pel_model.specs.declared.Format.{Format}
use Rattle.pel_model.specs.declared.Format.TheVariants.{Qcif, Cif}
use Rattle.pel_model.specs.declared.Mark.{Mark}
use Rattle.pel_model.specs.Codes.{is_intra}
use Rattle.pel_model.specs.Decode.{Quantised, at_address, in_groups}
use Rattle.pel_model.specs.Headers.{group_header_length}
use Rattle.pel_model.specs.Marks.{mark_of, macroblock_marks, group_marks, marks_of}
use Rattle.pel_model.specs.Records.{Macroblock, Group, Picture, quantiser_after}
use Rattle.pel_model.specs.Text.{macroblock_text, group_text}
use Rattle.pel_model.specs.Valid.{AddressesRise, IsValidGroup, IsValid, group_numbers}
use Rattle.update_laws.specs.Kept.{IsPlace, macroblock_of, sent_at, is_update}
use Rattle.update_watch.specs.Counting.{slot_of, place_of_mark}
use Rattle.update_watch.specs.Overdue.{Place, places_in, sent_places}

-- ---- what is found

abbrev pub found_at : (group address : ℕ) → List Mark → Option Bool
found_at group address [] = None
found_at group address (m ∷ ms) =
    if m.group == group && m.address == address then Some m.intra else found_at group address ms

abbrev pub update_of : Option Macroblock → Option Bool
update_of None = None
update_of (Some m) = Some (is_update m)

abbrev or_else : Option Bool → Option Bool → Option Bool
or_else None other = other
or_else (Some b) other = Some b

or-cond : (same b : Bool) (rest other : Option Bool) → or_else (cond same (Some b) rest) other ≡ cond same (Some b) (or_else rest other)
or-cond true b rest other = refl
or-cond false b rest other = refl

or-none : (x : Option Bool) → or_else x None ≡ x
or-none None = refl
or-none (Some b) = refl

found-append : (n a : ℕ) (xs ys : List Mark) → found_at n a (xs ++ ys) ≡ or_else (found_at n a xs) (found_at n a ys)
found-append n a [] ys = refl
found-append n a (x ∷ xs) ys =
    ap (λ (rest : Option Bool). cond (x.group == n && x.address == a) (Some x.intra) rest) (found-append n a xs ys)
    ∙ sym (or-cond (x.group == n && x.address == a) x.intra (found_at n a xs) (found_at n a ys))

-- in its own group
here-step : (group same : Bool) (m : Macroblock) (quant : ℕ) (rest : Option Bool) (other : Option Quantised) → group ≡ true → rest ≡ update_of (macroblock_of other)
    → cond (group && same) (Some (is_update m)) rest ≡ update_of (macroblock_of (cond same (Some (record { macroblock = m; quant = quant })) other))
here-step true true m quant rest other is h = refl
here-step true false m quant rest other is h = h
here-step false same m quant rest other is h = absurd (true≢false (sym is))

found-here : (n a at g q : ℕ) (last : Option Macroblock) (ms : List Macroblock) → (g == n) ≡ true
    → found_at n a (macroblock_marks at g q last ms) ≡ update_of (macroblock_of (at_address a q ms))
found-here n a at g q last [] here = refl
found-here n a at g q last (m ∷ ms) here =
    here-step (g == n) (m.address == a) m (quantiser_after q m.mquant) (found_at n a (macroblock_marks (at + length (macroblock_text last m)) g (quantiser_after q m.mquant) (Some m) ms))
    (at_address a (quantiser_after q m.mquant) ms) here
    (found-here n a (at + length (macroblock_text last m)) g (quantiser_after q m.mquant) (Some m) ms here)

-- and in no other
found-elsewhere : (n a at g q : ℕ) (last : Option Macroblock) (ms : List Macroblock) → (g == n) ≡ false
    → found_at n a (macroblock_marks at g q last ms) ≡ None
found-elsewhere n a at g q last [] other = refl
found-elsewhere n a at g q last (m ∷ ms) other =
    let rest = found_at n a (macroblock_marks (at + length (macroblock_text last m)) g (quantiser_after q m.mquant) (Some m) ms) in
    ap (λ (b : Bool). cond (b && (m.address == a)) (Some (is_update m)) rest) other
    ∙ found-elsewhere n a (at + length (macroblock_text last m)) g (quantiser_after q m.mquant) (Some m) ms other

-- ---- groups rise, and the addresses in each

abbrev pub GroupsRise : ℕ → List Group → Type 0
GroupsRise last [] = Unit {0}
GroupsRise last (g ∷ gs) = (last < g.number) × (g.number ≤ 12) × AddressesRise 0 g.macroblocks × GroupsRise g.number gs

abbrev NumbersRise : ℕ → List ℕ → Type 0
NumbersRise last [] = Unit {0}
NumbersRise last (n ∷ ns) = (last < n) × (n ≤ 12) × NumbersRise n ns

groups-rise : (format : Format) (last : ℕ) (gs : List Group) → NumbersRise last (map (λ (g : Group). g.number) gs) → All (IsValidGroup format) gs → GroupsRise last gs
groups-rise format last [] rise valid = tt
groups-rise format last (g ∷ gs) rise valid =
    (rise.0, rise.1, (All-head (IsValidGroup format) g gs valid).addresses, groups-rise format g.number gs rise.2 (All-tail (IsValidGroup format) g gs valid))

numbers-rise : (format : Format) → NumbersRise 0 (take (length (group_numbers format)) (group_numbers format))
numbers-rise Qcif = (omega arith, omega arith, (omega arith, omega arith, (omega arith, omega arith, tt)))
numbers-rise Cif = (
  omega arith,
  omega arith,
  (
    omega arith,
    omega arith,
    (
      omega arith,
      omega arith,
      (
        omega arith,
        omega arith,
        (
          omega arith,
          omega arith,
          (
            omega arith,
            omega arith,
            (
              omega arith,
              omega arith,
              (
                omega arith,
                omega arith,
                (
                  omega arith,
                  omega arith,
                  (
                    omega arith,
                    omega arith,
                    (
                      omega arith,
                      omega arith,
                      (
                        omega arith,
                        omega arith,
                        tt,
                      ),
                    ),
                  ),
                ),
              ),
            ),
          ),
        ),
      ),
    ),
  ),
)

pub valid-rise : (format : Format) (p : Picture) → IsValid format p → GroupsRise 0 p.groups
valid-rise format p valid =
    groups-rise format 0 p.groups
    (subst (NumbersRise 0) (sym (valid.so_far.numbers ∙ ap (λ (n : ℕ). take n (group_numbers format)) valid.whole)) (numbers-rise format))
    valid.so_far.groups

other-number : (m n : ℕ) → (m ≡ n → ⊥) → (m == n) ≡ false
other-number m n other = false_from_ne_true (m == n) (λ is. other (eqb-true m n is))

-- groups with greater numbers send nothing there
found-below : (n a at last : ℕ) (gs : List Group) → GroupsRise last gs → n ≤ last → found_at n a (group_marks at gs) ≡ None
found-below n a at last [] rise below = refl
found-below n a at last (g ∷ gs) rise below =
    found-append n a (macroblock_marks (at + group_header_length) g.number g.quant None g.macroblocks) (group_marks (at + length (group_text g)) gs)
    ∙ ap₂ or_else (found-elsewhere n a (at + group_header_length) g.number g.quant None g.macroblocks (other-number g.number n (λ same. omega (arith, same, rise.0, below))))
    (found-below n a (at + length (group_text g)) g.number gs rise.3 (omega (arith, rise.0, below)))

group-step : (n a : ℕ) (g : Group) (gs : List Group) (x y : Option Bool) (same : Bool) → (g.number == n) ≡ same
    → ((g.number == n) ≡ true → (x ≡ update_of (macroblock_of (at_address a g.quant g.macroblocks))) × (y ≡ None))
    → ((g.number == n) ≡ false → (x ≡ None) × (y ≡ update_of (macroblock_of (in_groups n a gs))))
    → or_else x y ≡ update_of (macroblock_of (cond same (at_address a g.quant g.macroblocks) (in_groups n a gs)))
group-step n a g gs x y true is here other = ap₂ or_else (here is).0 (here is).1 ∙ or-none (update_of (macroblock_of (at_address a g.quant g.macroblocks)))
group-step n a g gs x y false is here other = ap₂ or_else (other is).0 (other is).1

found-groups : (n a at last : ℕ) (gs : List Group) → GroupsRise last gs → found_at n a (group_marks at gs) ≡ update_of (macroblock_of (in_groups n a gs))
found-groups n a at last [] rise = refl
found-groups n a at last (g ∷ gs) rise =
    let first = macroblock_marks (at + group_header_length) g.number g.quant None g.macroblocks in
    let rest = group_marks (at + length (group_text g)) gs in
    found-append n a first rest
    ∙ group-step n a g gs (found_at n a first) (found_at n a rest) (g.number == n) refl
    (λ is. (
      found-here n a (at + group_header_length) g.number g.quant None g.macroblocks is,
      found-below n a (at + length (group_text g)) g.number gs rise.3 (omega (arith, eqb-true g.number n is)),
    ))
    (λ is. (
      found-elsewhere n a (at + group_header_length) g.number g.quant None g.macroblocks is,
      found-groups n a (at + length (group_text g)) g.number gs rise.3,
    ))

-- what is found is what the picture sends there
pub found-sent : (n a : ℕ) (p : Picture) → GroupsRise 0 p.groups → found_at n a (marks_of p) ≡ update_of (sent_at n a p)
found-sent n a p rise = found-groups n a 32 0 p.groups rise

-- ---- the marks rise

abbrev pub Rises : ℕ → List Mark → Type 0
Rises n [] = Unit {0}
Rises n (m ∷ ms) = (n ≤ slot_of m.group m.address) × IsPlace m.group m.address × Rises (slot_of m.group m.address + 1) ms

rises-from : (k n : ℕ) (ms : List Mark) → k ≤ n → Rises n ms → Rises k ms
rises-from k n [] below rise = tt
rises-from k n (m ∷ ms) below rise = (omega (arith, below, rise.0), rise.1, rise.2)

rises-group : (at n q last : ℕ) (before : Option Macroblock) (ms : List Macroblock) (rest : List Mark) → 1 ≤ n → n ≤ 12 → last ≤ 33 → AddressesRise last ms → Rises (33 * n) rest
    → Rises (33 * (n - 1) + last) (macroblock_marks at n q before ms ++ rest)
rises-group at n q last before [] rest from to low rise more = rises-from (33 * (n - 1) + last) (33 * n) rest (omega (arith, from, low)) more
rises-group at n q last before (m ∷ ms) rest from to low rise more = (
  omega (arith, rise.0),
  record { group_from = from; group_to = to; address_from = omega (arith, rise.0); address_to = rise.1 },
  rises-from (slot_of n m.address + 1) (33 * (n - 1) + m.address) (macroblock_marks (at + length (macroblock_text before m)) n (quantiser_after q m.mquant) (Some m) ms ++ rest)
      (omega (arith, rise.0))
      (rises-group (at + length (macroblock_text before m)) n (quantiser_after q m.mquant) m.address (Some m) ms rest from to rise.1 rise.2 more),
)

rises-groups : (at last : ℕ) (gs : List Group) → GroupsRise last gs → Rises (33 * last) (group_marks at gs)
rises-groups at last [] rise = tt
rises-groups at last (g ∷ gs) rise =
    rises-from (33 * last) (33 * (g.number - 1) + 0) (group_marks at (g ∷ gs)) (omega (arith, rise.0))
    (rises-group (at + group_header_length) g.number g.quant 0 None g.macroblocks (group_marks (at + length (group_text g)) gs)
    (omega (arith, rise.0)) rise.1 (omega arith) rise.2 (rises-groups (at + length (group_text g)) g.number gs rise.3))

pub marks-rise : (p : Picture) → GroupsRise 0 p.groups → Rises 0 (marks_of p)
marks-rise p rise = rises-groups 32 0 p.groups rise

-- ---- the places that are sent are those of the marks

group-places : (at n q : ℕ) (last : Option Macroblock) (ms : List Macroblock)
    → map (λ (m : Macroblock). record { group = n; address = m.address }) ms ≡ map place_of_mark (macroblock_marks at n q last ms)
group-places at n q last [] = refl
group-places at n q last (m ∷ ms) =
    ap (λ (ps : List Place). record { group = n; address = m.address } ∷ ps) (group-places (at + length (macroblock_text last m)) n (quantiser_after q m.mquant) (Some m) ms)

all-places : (at : ℕ) (gs : List Group) → flat_map places_in gs ≡ map place_of_mark (group_marks at gs)
all-places at [] = refl
all-places at (g ∷ gs) =
    ap₂ (λ (ps qs : List Place). ps ++ qs) (group-places (at + group_header_length) g.number g.quant None g.macroblocks) (all-places (at + length (group_text g)) gs)
    ∙ sym (map-append place_of_mark (macroblock_marks (at + group_header_length) g.number g.quant None g.macroblocks) (group_marks (at + length (group_text g)) gs))

pub places-marked : (p : Picture) → sent_places p ≡ map place_of_mark (marks_of p)
places-marked p = all-places 32 p.groups
