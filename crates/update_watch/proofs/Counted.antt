-- What a picture makes of the counts, and which places are late at it.
use Rattle.std.proofs.Common.{◌≡◌, ℕ, ◌+◌, ◌<◌, ◌≤◌, ◌==◌, ◌&&◌, nat_le, Bool, true, false, cond, Option, Some, None, is_some, List, [], ◌∷◌, length, filter, replicate, refl, sym, ap, ap₂, ◌∙◌, arith}
use Rattle.std.proofs.lemmas.Bool.{eqb-true, le-leb, leb-true, true≢false}
use Rattle.std.proofs.lemmas.List.{get_or-replicate}
use Rattle.std.proofs.lemmas.Option.{none-some}
use Rattle.pel_model.specs.declared.Format.{Format}
use Rattle.pel_model.specs.declared.Mark.{Mark}
use Rattle.pel_model.specs.Marks.{marks_of}
use Rattle.pel_model.specs.Records.{Macroblock, Picture}
use Rattle.pel_model.specs.Valid.{IsValid}
use Rattle.update_laws.specs.Kept.{IsPlace, sent_at, is_update, updated_within}
use Rattle.update_watch.specs.declared.overdue.Overdue.{Overdue}
use Rattle.update_watch.specs.Counting.{slot_of, is_place, count_at, counts_behind, late_marks, told_behind, count_sent, is_late, late_places, counted_on, Counts, CountsPicture}
use Rattle.update_watch.specs.Overdue.{Place, sent_places, told_overdue}
use Rattle.update_watch.proofs.Found.{found_at, update_of, Rises, valid-rise, GroupsRise, found-sent, marks-rise, places-marked}
use Rattle.update_watch.proofs.Slots.{in_slot, slot-below, both-true, both, count_found, behind-at, slots_of, late_of, late-before, late_found, late-tested, late-told}

-- ---- places

is-place : (g a : ℕ) → IsPlace g a → is_place g a ≡ true
is-place g a place =
    both (nat_le 1 g && nat_le g 12) (nat_le 1 a && nat_le a 33)
    (both (nat_le 1 g) (nat_le g 12) (le-leb 1 g place.group_from) (le-leb g 12 place.group_to))
    (both (nat_le 1 a) (nat_le a 33) (le-leb 1 a place.address_from) (le-leb a 33 place.address_to))

pub place-is : (g a : ℕ) → is_place g a ≡ true → IsPlace g a
place-is g a is =
    let tests = both-true (nat_le 1 g && nat_le g 12) (nat_le 1 a && nat_le a 33) is in
    let group = both-true (nat_le 1 g) (nat_le g 12) tests.0 in
    let address = both-true (nat_le 1 a) (nat_le a 33) tests.1 in
    record {
      group_from = leb-true 1 g group.0;
      group_to = leb-true g 12 group.1;
      address_from = leb-true 1 a address.0;
      address_to = leb-true a 33 address.1;
    }

count-in : (counts : List ℕ) (g a : ℕ) → IsPlace g a → count_at counts g a ≡ in_slot counts (slot_of g a)
count-in counts g a place = ap (λ (b : Bool). cond b (in_slot counts (slot_of g a)) 0) (is-place g a place)

pub count-out : (counts : List ℕ) (g a : ℕ) → is_place g a ≡ false → count_at counts g a ≡ 0
count-out counts g a out = ap (λ (b : Bool). cond b (in_slot counts (slot_of g a)) 0) out

none-counted-by : (g a : ℕ) (b : Bool) → is_place g a ≡ b → count_at (replicate 396 0) g a ≡ 0
none-counted-by g a true is =
    let place = place-is g a is in
    count-in (replicate 396 0) g a place ∙ get_or-replicate 396 (slot_of g a) 0 0 (slot-below g a place)
none-counted-by g a false is = count-out (replicate 396 0) g a is

pub none-counted : (g a : ℕ) → count_at (replicate 396 0) g a ≡ 0
none-counted g a = none-counted-by g a (is_place g a) refl

-- ---- nothing is sent elsewhere

nowhere-step : (m : Mark) (rest : Option Bool) (g a : ℕ) (same : Bool) → (m.group == g && m.address == a) ≡ same → IsPlace m.group m.address → is_place g a ≡ false → rest ≡ None
    → cond same (Some m.intra) rest ≡ None
nowhere-step m rest g a true is place out none =
    let tests = both-true (m.group == g) (m.address == a) is in
    absurd (true≢false (sym (is-place m.group m.address place) ∙ ap₂ is_place (eqb-true m.group g tests.0) (eqb-true m.address a tests.1) ∙ out))
nowhere-step m rest g a false is place out none = none

found-nowhere : (g a n : ℕ) (ms : List Mark) → Rises n ms → is_place g a ≡ false → found_at g a ms ≡ None
found-nowhere g a n [] rise out = refl
found-nowhere g a n (m ∷ ms) rise out =
    nowhere-step m (found_at g a ms) g a (m.group == g && m.address == a) refl rise.1 out (found-nowhere g a (slot_of m.group m.address + 1) ms rise.2 out)

sent-nothing : (s : Option Macroblock) → update_of s ≡ None → s ≡ None
sent-nothing None e = refl
sent-nothing (Some m) e = absurd (none-some (is_update m) (sym e))

-- ---- counts

found-is-sent : (n : ℕ) (s : Option Macroblock) → count_found n (update_of s) ≡ count_sent n s
found-is-sent n None = refl
found-is-sent n (Some m) = refl

late-sent : (n : ℕ) (s : Option Macroblock) → (is_some s && (count_sent n s == updated_within)) ≡ late_found n (update_of s)
late-sent n None = refl
late-sent n (Some m) = refl

counted-by-place : (p : Picture) (counts : List ℕ) (g a : ℕ) (b : Bool) → GroupsRise 0 p.groups → length counts ≡ 396 → is_place g a ≡ b
    → count_at (counts_behind counts (marks_of p)) g a ≡ counted_on (count_at counts) p g a
counted-by-place p counts g a true groups long is =
    let place = place-is g a is in
    count-in (counts_behind counts (marks_of p)) g a place
    ∙ behind-at counts (marks_of p) 0 g a long (marks-rise p groups) place
    ∙ ap (count_found (in_slot counts (slot_of g a))) (found-sent g a p groups)
    ∙ found-is-sent (in_slot counts (slot_of g a)) (sent_at g a p)
    ∙ ap (λ (n : ℕ). count_sent n (sent_at g a p)) (sym (count-in counts g a place))
counted-by-place p counts g a false groups long is =
    count-out (counts_behind counts (marks_of p)) g a is
    ∙ sym (ap₂ count_sent (count-out counts g a is)
    (sent-nothing (sent_at g a p) (sym (found-sent g a p groups) ∙ found-nowhere g a 0 (marks_of p) (marks-rise p groups) is)))

late-picture : (p : Picture) (counts : List ℕ) → GroupsRise 0 p.groups → length counts ≡ 396 → late_of (slots_of counts) (marks_of p) ≡ late_places (count_at counts) p
late-picture p counts groups long =
    sym (ap (λ (ps : List Place). filter (is_late (count_at counts) p) ps) (places-marked p)
    ∙ late-tested (is_late (count_at counts) p) (slots_of counts) 0 (marks_of p) (marks-rise p groups)
    (λ g a place above.
    ap (λ (n : ℕ). is_some (sent_at g a p) && (count_sent n (sent_at g a p) == updated_within)) (count-in counts g a place)
    ∙ late-sent (in_slot counts (slot_of g a)) (sent_at g a p)
    ∙ ap (late_found (in_slot counts (slot_of g a))) (sym (found-sent g a p groups))))

pub counts-picture : (format : Format) (p : Picture) (ms : List Mark) (old new : Counts) (result : Option Overdue) → IsValid format p → length old.counts ≡ 396 → ms ≡ marks_of p
    → new ≡ record old { counts = counts_behind old.counts ms } → result ≡ told_behind None (late_marks old.counts ms) → CountsPicture p old new result
counts-picture format p ms old new result valid long marks new_is told =
    let groups = valid-rise format p valid in
    let rise = marks-rise p groups in
    record {
      format = ap (λ (k : Counts). k.format) new_is;
      counted = λ g a.
          ap (λ (k : Counts). count_at k.counts g a) new_is ∙ ap (λ (l : List Mark). count_at (counts_behind old.counts l) g a) marks
          ∙ counted-by-place p old.counts g a (is_place g a) groups long refl;
      late =
          told ∙ ap (λ (l : List Mark). told_behind None (late_marks old.counts l)) marks
          ∙ ap (told_behind None) (late-before old.counts 0 (marks_of p) long rise)
          ∙ late-told (slots_of old.counts) (marks_of p) rise
          ∙ ap told_overdue (late-picture p old.counts groups long);
    }
