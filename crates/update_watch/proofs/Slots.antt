-- What marks that rise make of the counts, place by place, and which of them are late.
use Rattle.std.proofs.Common.{◌≡◌, ℕ, suc, ◌+◌, ◌-◌, ◌*◌, ◌^◌, ◌<◌, ◌≤◌, ◌==◌, ◌&&◌, min, Bool, true, false, cond, if◌then◌else◌, Option, Some, None, is_some, List, [], ◌∷◌, ◌++◌, length, map, filter, slice_index_or, slice_set, refl, sym, ap, ap₂, subst, ◌∙◌, arith}
use Rattle.std.proofs.lemmas.Bool.{eqb-true, eq-eqb, true≢false}
use Rattle.std.proofs.lemmas.Grind.{get_or-set_at}
use Rattle.std.proofs.lemmas.List.{get_or-set_other, length-set}
use Rattle.pel_model.specs.declared.Mark.{Mark}
use Rattle.pel_model.specs.Records.{Macroblock}
use Rattle.update_laws.specs.Kept.{IsPlace, is_update, updated_within}
use Rattle.update_watch.specs.declared.overdue.Overdue.{Overdue}
use Rattle.update_watch.specs.Counting.{slot_of, count_more, passed, is_late_mark, counts_behind, place_of_mark, late_marks, told_more, told_behind, count_sent}
use Rattle.update_watch.specs.Overdue.{Place, told_overdue}
use Rattle.update_watch.proofs.Found.{found_at, update_of, Rises}

-- ---- slots

abbrev pub in_slot : List ℕ → ℕ → ℕ
in_slot counts k = slice_index_or counts k 0

abbrev slot_at : Mark → ℕ
slot_at m = slot_of m.group m.address

pub slot-below : (g a : ℕ) → IsPlace g a → slot_of g a < 396
slot-below g a place = omega (arith, place.group_from, place.group_to, place.address_from, place.address_to)

slot-same : (g a h b : ℕ) → IsPlace g a → IsPlace h b → slot_of g a ≡ slot_of h b → (g ≡ h) × (a ≡ b)
slot-same g a h b one other same = (
  omega (arith, same, one.group_from, one.address_from, one.address_to, other.group_from, other.address_from, other.address_to),
  omega (arith, same, one.group_from, one.address_from, one.address_to, other.group_from, other.address_from, other.address_to),
)

pub both-true : (x y : Bool) → (x && y) ≡ true → (x ≡ true) × (y ≡ true)
both-true true y e = (refl, e)
both-true false y e = absurd (true≢false (sym e))

pub both : (x y : Bool) → x ≡ true → y ≡ true → (x && y) ≡ true
both true y e h = h
both false y e h = absurd (true≢false (sym e))

-- ---- one mark

passed-length : (counts : List ℕ) (m : Mark) → length counts ≡ 396 → length (passed counts m) ≡ 396
passed-length counts m long = length-set counts (slot_at m) (count_more (in_slot counts (slot_at m)) m.intra) ∙ long

passed-here : (counts : List ℕ) (m : Mark) (k : ℕ) → length counts ≡ 396 → IsPlace m.group m.address → k ≡ slot_at m
    → in_slot (passed counts m) k ≡ count_more (in_slot counts (slot_at m)) m.intra
passed-here counts m k long place same =
    get_or-set_at counts (slot_at m) k (count_more (in_slot counts (slot_at m)) m.intra) 0 same (omega (arith, long, slot-below m.group m.address place))

passed-other : (counts : List ℕ) (m : Mark) (k : ℕ) → (k ≡ slot_at m → ⊥) → in_slot (passed counts m) k ≡ in_slot counts k
passed-other counts m k other = get_or-set_other counts (slot_at m) k (count_more (in_slot counts (slot_at m)) m.intra) 0 other

-- ---- all marks

pub behind-length : (counts : List ℕ) (ms : List Mark) → length counts ≡ 396 → length (counts_behind counts ms) ≡ 396
behind-length counts [] long = long
behind-length counts (m ∷ ms) long = behind-length (passed counts m) ms (passed-length counts m long)

below-kept : (counts : List ℕ) (ms : List Mark) (n k : ℕ) → Rises n ms → k < n → in_slot (counts_behind counts ms) k ≡ in_slot counts k
below-kept counts [] n k rise below = refl
below-kept counts (m ∷ ms) n k rise below =
    below-kept (passed counts m) ms (slot_at m + 1) k rise.2 (omega (arith, rise.0, below))
    ∙ passed-other counts m k (λ same. omega (arith, rise.0, below, same))

abbrev pub count_found : ℕ → Option Bool → ℕ
count_found n None = n
count_found n (Some update) = count_more n update

behind-step : (counts : List ℕ) (m : Mark) (ms : List Mark) (n g a : ℕ) (same : Bool) → (m.group == g && m.address == a) ≡ same
    → length counts ≡ 396 → Rises n (m ∷ ms) → IsPlace g a
    → in_slot (counts_behind (passed counts m) ms) (slot_of g a) ≡ count_found (in_slot (passed counts m) (slot_of g a)) (found_at g a ms)
    → in_slot (counts_behind (passed counts m) ms) (slot_of g a) ≡ count_found (in_slot counts (slot_of g a)) (cond same (Some m.intra) (found_at g a ms))
behind-step counts m ms n g a true is long rise place rest =
    let tests = both-true (m.group == g) (m.address == a) is in
    let here : slot_of g a ≡ slot_at m = ap₂ slot_of (sym (eqb-true m.group g tests.0)) (sym (eqb-true m.address a tests.1)) in
    below-kept (passed counts m) ms (slot_at m + 1) (slot_of g a) rise.2 (omega (arith, here))
    ∙ passed-here counts m (slot_of g a) long rise.1 here
    ∙ ap (λ (k : ℕ). count_more (in_slot counts k) m.intra) (sym here)
behind-step counts m ms n g a false is long rise place rest =
    rest
    ∙ ap (λ (k : ℕ). count_found k (found_at g a ms))
    (passed-other counts m (slot_of g a)
    (λ here. let same = slot-same g a m.group m.address place rise.1 here in
    true≢false (sym (both (m.group == g) (m.address == a) (eq-eqb m.group g (sym same.0)) (eq-eqb m.address a (sym same.1))) ∙ is)))

pub behind-at : (counts : List ℕ) (ms : List Mark) (n g a : ℕ) → length counts ≡ 396 → Rises n ms → IsPlace g a
    → in_slot (counts_behind counts ms) (slot_of g a) ≡ count_found (in_slot counts (slot_of g a)) (found_at g a ms)
behind-at counts [] n g a long rise place = refl
behind-at counts (m ∷ ms) n g a long rise place =
    behind-step counts m ms n g a (m.group == g && m.address == a) refl long rise place
    (behind-at (passed counts m) ms (slot_at m + 1) g a (passed-length counts m long) rise.2 place)

-- ---- which are late, by counts before all of them

abbrev pub late_of : (counted : ℕ → ℕ → ℕ) → List Mark → List Place
late_of counted [] = []
late_of counted (m ∷ ms) =
    if count_more (counted m.group m.address) m.intra == updated_within then place_of_mark m ∷ late_of counted ms else late_of counted ms

abbrev pub slots_of : List ℕ → ℕ → ℕ → ℕ
slots_of counts g a = in_slot counts (slot_of g a)

late-same : (f h : ℕ → ℕ → ℕ) (n : ℕ) (ms : List Mark) → Rises n ms → ((g a : ℕ) → n ≤ slot_of g a → f g a ≡ h g a) → late_of f ms ≡ late_of h ms
late-same f h n [] rise same = refl
late-same f h n (m ∷ ms) rise same =
    ap₂ (λ (count : ℕ) (rest : List Place). if count_more count m.intra == updated_within then place_of_mark m ∷ rest else rest)
    (same m.group m.address rise.0)
    (late-same f h (slot_at m + 1) ms rise.2 (λ g a above. same g a (omega (arith, above, rise.0))))

pub late-before : (counts : List ℕ) (n : ℕ) (ms : List Mark) → length counts ≡ 396 → Rises n ms → late_marks counts ms ≡ late_of (slots_of counts) ms
late-before counts n [] long rise = refl
late-before counts n (m ∷ ms) long rise =
    ap₂ (λ (count : ℕ) (rest : List Place). if count == updated_within then place_of_mark m ∷ rest else rest)
    (passed-here counts m (slot_at m) long rise.1 refl)
    (late-before (passed counts m) (slot_at m + 1) ms (passed-length counts m long) rise.2
    ∙ late-same (slots_of (passed counts m)) (slots_of counts) (slot_at m + 1) ms rise.2
    (λ g a above. passed-other counts m (slot_of g a) (λ same. omega (arith, above, same))))

-- ---- and by a test of places

abbrev pub late_found : ℕ → Option Bool → Bool
late_found count None = false
late_found count (Some update) = count_more count update == updated_within

found-first : (m : Mark) (ms : List Mark) → found_at m.group m.address (m ∷ ms) ≡ Some m.intra
found-first m ms =
    ap (λ (same : Bool). cond same (Some m.intra) (found_at m.group m.address ms))
    (both (m.group == m.group) (m.address == m.address) (eq-eqb m.group m.group refl) (eq-eqb m.address m.address refl))

found-later : (m : Mark) (ms : List Mark) (g a : ℕ) (same : Bool) → (m.group == g && m.address == a) ≡ same → slot_at m + 1 ≤ slot_of g a
    → cond same (Some m.intra) (found_at g a ms) ≡ found_at g a ms
found-later m ms g a true is above =
    let tests = both-true (m.group == g) (m.address == a) is in
    absurd (omega (arith, above, ap₂ slot_of (eqb-true m.group g tests.0) (eqb-true m.address a tests.1)))
found-later m ms g a false is above = refl

pub late-tested : (P : Place → Bool) (f : ℕ → ℕ → ℕ) (n : ℕ) (ms : List Mark) → Rises n ms
    → ((g a : ℕ) → IsPlace g a → n ≤ slot_of g a → P (record { group = g; address = a }) ≡ late_found (f g a) (found_at g a ms))
    → filter P (map place_of_mark ms) ≡ late_of f ms
late-tested P f n [] rise tests = refl
late-tested P f n (m ∷ ms) rise tests =
    ap₂ (λ (late : Bool) (rest : List Place). if late then place_of_mark m ∷ rest else rest)
    (tests m.group m.address rise.1 rise.0 ∙ ap (late_found (f m.group m.address)) (found-first m ms))
    (late-tested P f (slot_at m + 1) ms rise.2
    (λ g a place above. tests g a place (omega (arith, above, rise.0))
    ∙ ap (late_found (f g a)) (found-later m ms g a (m.group == g && m.address == a) refl above)))

-- ---- they are few, and told

rises-few : (n : ℕ) (ms : List Mark) → n ≤ 396 → Rises n ms → length ms + n ≤ 396
rises-few n [] below rise = omega (arith, below)
rises-few n (m ∷ ms) below rise =
    omega (arith, rise.0, rises-few (slot_at m + 1) ms (omega (arith, slot-below m.group m.address rise.1)) rise.2)

late-step : (late : Bool) (p : Place) (ps : List Place) (n : ℕ) → length ps ≤ n → length (if late then p ∷ ps else ps) ≤ n + 1
late-step true p ps n few = omega (arith, few)
late-step false p ps n few = omega (arith, few)

late-few : (f : ℕ → ℕ → ℕ) (ms : List Mark) → length (late_of f ms) ≤ length ms
late-few f [] = omega arith
late-few f (m ∷ ms) =
    omega (arith, late-step (count_more (f m.group m.address) m.intra == updated_within) (place_of_mark m) (late_of f ms) (length ms) (late-few f ms))

told-on : (overdue : Overdue) (ps : List Place) → overdue.places + length ps ≤ 65535
    → told_behind (Some overdue) ps ≡ Some (record overdue { places = overdue.places + length ps })
told-on overdue [] few = ap (λ (n : ℕ). Some (record overdue { places = n })) (omega arith)
told-on overdue (p ∷ ps) few =
    told-on (told_more (Some overdue) p) ps (omega (arith, few))
    ∙ ap (λ (n : ℕ). Some (record overdue { places = n })) (omega (arith, few))

told-all : (ps : List Place) → length ps ≤ 65535 → told_behind None ps ≡ told_overdue ps
told-all [] few = refl
told-all (p ∷ ps) few =
    told-on (record { group = p.group; address = p.address; places = 1 }) ps (omega (arith, few))
    ∙ ap (λ (n : ℕ). Some (record { group = p.group; address = p.address; places = n })) (omega arith)

pub late-told : (f : ℕ → ℕ → ℕ) (ms : List Mark) → Rises 0 ms → told_behind None (late_of f ms) ≡ told_overdue (late_of f ms)
late-told f ms rise = told-all (late_of f ms) (omega (arith, late-few f ms, rises-few 0 ms (omega arith) rise))
