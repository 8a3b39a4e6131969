-- The counts of a watch are the runs in the present stretch, and it knows whether forced updating was kept.
use Rattle.std.proofs.Common.{◌≡◌, ◌⊎◌, inl, inr, ℕ, ◌+◌, ◌<◌, ◌≤◌, ◌==◌, ◌&&◌, min, Bool, true, false, cond, Option, Some, None, is_some, List, [], ◌∷◌, ◌++◌, length, map, filter, filter_map, replicate, refl, sym, ap, ap₂, subst, ◌∙◌, arith, length-append}
use Rattle.std.proofs.Math.Path.{fun_ext}
use Rattle.std.proofs.lemmas.Bool.{eqb-true, true≢false}
use Rattle.std.proofs.lemmas.Bool.Decides.{nat_tests}
use Rattle.std.proofs.lemmas.List.{append-nil, append_assoc, map-append, same_from_push}
use Rattle.std.proofs.lemmas.List.Elements.{filter_map-append}
use Rattle.std.proofs.lemmas.Option.{none-some}
use Rattle.pel_model.specs.declared.Format.{Format}
use Rattle.pel_model.specs.declared.Mark.{Mark}
use Rattle.pel_model.specs.Marks.{marks_of}
use Rattle.pel_model.specs.Records.{Macroblock, Picture}
use Rattle.pel_model.specs.Valid.{IsValid}
use Rattle.update_laws.specs.Kept.{IsPlace, sent_at, transmissions, is_update, updated_within, Kept, KeepsUpdating, run, is_overdue}
use Rattle.update_laws.proofs.Induction.{keeps-front}
use Rattle.update_laws.proofs.Runs.{counted, counted_by, run-sent, kept-on, kept-nothing, last-or, never-overdue}
use Rattle.update_watch.specs.declared.overdue.Overdue.{Overdue}
use Rattle.update_watch.specs.Counting.{is_place, count_at, count_more, count_sent, is_late, late_places, counted_on, place_of_mark, Counts, CountsPicture}
use Rattle.update_watch.specs.Overdue.{Place, sent_places, overdue_places, told_overdue}
use Rattle.update_watch.specs.Stands.{WatchState, stretch_behind, stretch_of, StandsFor, Sees, PassesGap}
use Rattle.update_watch.proofs.Counted.{place-is, count-out, none-counted}
use Rattle.update_watch.proofs.Found.{found_at, update_of, valid-rise, found-sent, places-marked}
use Rattle.update_watch.proofs.Slots.{both-true}

-- ---- counts are runs, as far as 255

abbrev pub AreRuns : (ℕ → ℕ → ℕ) → List Picture → Type 0
AreRuns counts stretch = (g a : ℕ) → counts g a ≡ min (run (transmissions g a stretch)) 255

more-run : (n : ℕ) (update : Bool) → count_more (min n 255) update ≡ min (counted n update) 255
more-run n true = omega arith
more-run n false = omega arith

sent-run : (n : ℕ) (s : Option Macroblock) → count_sent (min n 255) s ≡ min (counted_by n s) 255
sent-run n None = refl
sent-run n (Some m) = more-run n (is_update m)

pub runs-on : (counts : ℕ → ℕ → ℕ) (stretch : List Picture) (p : Picture) → AreRuns counts stretch → AreRuns (counted_on counts p) (stretch ++ p ∷ [])
runs-on counts stretch p runs g a =
    ap (λ (n : ℕ). count_sent n (sent_at g a p)) (runs g a)
    ∙ sent-run (run (transmissions g a stretch)) (sent_at g a p)
    ∙ ap (λ (n : ℕ). min n 255) (sym (run-sent g a stretch p))

test-run : (n : ℕ) → (min n 255 == 132) ≡ (n == 132)
test-run n = grind (arith, nat_tests)

late-overdue : (counts : ℕ → ℕ → ℕ) (stretch : List Picture) (p : Picture) → AreRuns counts stretch → (place : Place)
    → is_late counts p place ≡ is_overdue stretch p place.group place.address
late-overdue counts stretch p runs place =
    ap (λ (b : Bool). is_some (sent_at place.group place.address p) && b)
    (ap (λ (n : ℕ). n == 132) (runs-on counts stretch p runs place.group place.address)
    ∙ test-run (run (transmissions place.group place.address (stretch ++ p ∷ []))))

pub places-late : (counts : ℕ → ℕ → ℕ) (stretch : List Picture) (p : Picture) → AreRuns counts stretch → late_places counts p ≡ overdue_places stretch p
places-late counts stretch p runs = ap (λ (late : Place → Bool). filter late (sent_places p)) (fun_ext (late-overdue counts stretch p runs))

-- ---- the present stretch

stretch-append : (stretch : List Picture) (xs ys : List (Option Picture)) → stretch_behind stretch (xs ++ ys) ≡ stretch_behind (stretch_behind stretch xs) ys
stretch-append stretch [] ys = refl
stretch-append stretch (Some p ∷ xs) ys = stretch-append (stretch ++ p ∷ []) xs ys
stretch-append stretch (None ∷ xs) ys = stretch-append [] xs ys

stretch-pictures : (stretch ps : List Picture) → stretch_behind stretch (map Some ps) ≡ stretch ++ ps
stretch-pictures stretch [] = sym (append-nil stretch)
stretch-pictures stretch (p ∷ ps) = stretch-pictures (stretch ++ p ∷ []) ps ∙ append_assoc stretch (p ∷ []) ps

-- what came ends with it
came-ends : (stretch : List Picture) (came : List (Option Picture)) → (before : List (Option Picture)) × (map Some stretch ++ came ≡ before ++ map Some (stretch_behind stretch came))
came-ends stretch [] = ([], append-nil (map Some stretch))
came-ends stretch (Some p ∷ came) =
    let rest = came-ends (stretch ++ p ∷ []) came in (
      rest.0,
      sym (append_assoc (map Some stretch) (Some p ∷ []) came) ∙ ap (λ (l : List (Option Picture)). l ++ came) (sym (map-append Some stretch (p ∷ []))) ∙ rest.1,
    )
came-ends stretch (None ∷ came) =
    let rest = came-ends [] came in (
      map Some stretch ++ None ∷ rest.0,
      ap (λ (l : List (Option Picture)). map Some stretch ++ None ∷ l) rest.1
          ∙ sym (append_assoc (map Some stretch) (None ∷ rest.0) (map Some (stretch_behind [] came))),
    )

kept-behind : (xs ys : List Picture) → Kept (xs ++ ys) → Kept ys
kept-behind xs ys kept g a place before window after e long =
    let front = transmissions g a xs in
    kept g a place (front ++ before) window after
    (filter_map-append (sent_at g a) xs ys ∙ ap (λ (l : List Macroblock). front ++ l) e ∙ sym (append_assoc front (before ++ window) after)
    ∙ ap (λ (l : List Macroblock). l ++ after) (sym (append_assoc front before window))) long

stretch-kept : (came : List (Option Picture)) → KeepsUpdating came → Kept (stretch_of came)
stretch-kept came keeps =
    let ends = came-ends [] came in
    keeps ends.0 [] (stretch_of came) (ends.1 ∙ sym (append-nil (ends.0 ++ map Some (stretch_of came))))

-- ---- one thing more came

keeps-nothing : KeepsUpdating []
keeps-nothing before after [] e = kept-nothing
keeps-nothing before after (p ∷ ps) e =
    absurd (omega (arith, ap length e, length-append (before ++ map Some (p ∷ ps)) after, length-append before (map Some (p ∷ ps))))

-- all lists of pictures that do not end it are Kept
before-last : (came : List (Option Picture)) (x : Option Picture) → KeepsUpdating came
    → ((before : List (Option Picture)) (stretch : List Picture) → came ++ x ∷ [] ≡ before ++ map Some stretch → Kept stretch)
    → KeepsUpdating (came ++ x ∷ [])
before-last came x keeps ends before after stretch e =
    elim (last-or after) as (λ _. Kept stretch) [
      | inl none ↦
          ends before stretch (e ∙ ap (λ (l : List (Option Picture)). before ++ map Some stretch ++ l) none ∙ append-nil (before ++ map Some stretch))
      | inr more ↦
          keeps before more.0 stretch
          (same_from_push came (before ++ map Some stretch ++ more.0) x more.1
          (e ∙ ap (λ (l : List (Option Picture)). before ++ map Some stretch ++ l) more.2 ∙ sym (append_assoc (before ++ map Some stretch) more.0 (more.1 ∷ [])))).0
    ]

-- what such a list ends with
last-of : (came before : List (Option Picture)) (x : Option Picture) (stretch front : List Picture) (q : Picture) → came ++ x ∷ [] ≡ before ++ map Some stretch → stretch ≡ front ++ q ∷ []
    → (came ≡ before ++ map Some front) × (x ≡ Some q)
last-of came before x stretch front q e is =
    same_from_push came (before ++ map Some front) x (Some q)
    (e ∙ ap (λ (l : List Picture). before ++ map Some l) is ∙ ap (λ (l : List (Option Picture)). before ++ l) (map-append Some front (q ∷ []))
    ∙ sym (append_assoc before (map Some front) (Some q ∷ [])))

some-same : {X : Type 0} (x y : X) → ◌≡◌ {A = Option X} (Some x) (Some y) → x ≡ y
some-same {X} x y e = cc

picture-keeps : (came : List (Option Picture)) (p : Picture) → KeepsUpdating came → Kept (stretch_of came ++ p ∷ []) → KeepsUpdating (came ++ Some p ∷ [])
picture-keeps came p keeps kept =
    before-last came (Some p) keeps
    (λ before stretch e.
    elim (last-or stretch) as (λ _. Kept stretch) [
      | inl none ↦ subst Kept (sym none) kept-nothing
      | inr more ↦
          let last = last-of came before (Some p) stretch more.0 more.1 e more.2 in
          let same : stretch_of came ≡ stretch_of before ++ more.0 =
          ap stretch_of last.0 ∙ stretch-append [] before (map Some more.0) ∙ stretch-pictures (stretch_of before) more.0 in
          let long : Kept (stretch_of before ++ more.0 ++ p ∷ []) = subst (λ (l : List Picture). Kept (l ++ p ∷ [])) same kept in
          let short : Kept (more.0 ++ p ∷ []) =
          kept-behind (stretch_of before) (more.0 ++ p ∷ []) (subst Kept (append_assoc (stretch_of before) more.0 (p ∷ [])) long) in
          subst Kept (ap (λ (q : Picture). more.0 ++ q ∷ []) (some-same p more.1 last.1) ∙ sym more.2) short
    ])

gap-keeps : (came : List (Option Picture)) → KeepsUpdating came → KeepsUpdating (came ++ None ∷ [])
gap-keeps came keeps =
    before-last came None keeps
    (λ before stretch e.
    elim (last-or stretch) as (λ _. Kept stretch) [
      | inl none ↦ subst Kept (sym none) kept-nothing
      | inr more ↦ absurd (none-some more.1 (last-of came before None stretch more.0 more.1 e more.2).1)
    ])

-- ---- where nothing is told, nothing is overdue

first-out : (late : Bool) (x : Place) (xs : List Place) → cond late (x ∷ xs) xs ≡ [] → (late ≡ false) × (xs ≡ [])
first-out true x xs e = absurd (omega (arith, ap length e))
first-out false x xs e = (refl, e)

none-step : (P : Place → Bool) (m : Mark) (g a : ℕ) (update same : Bool) (rest : Option Bool) → (m.group == g && m.address == a) ≡ same → P (place_of_mark m) ≡ false
    → (rest ≡ Some update → P (record { group = g; address = a }) ≡ false) → cond same (Some m.intra) rest ≡ Some update → P (record { group = g; address = a }) ≡ false
none-step P m g a update true rest is first later found =
    let tests = both-true (m.group == g) (m.address == a) is in
    ap₂ (λ (h b : ℕ). P (record { group = h; address = b })) (sym (eqb-true m.group g tests.0)) (sym (eqb-true m.address a tests.1)) ∙ first
none-step P m g a update false rest is first later found = later found

none-late : (P : Place → Bool) (ms : List Mark) (g a : ℕ) (update : Bool) → filter P (map place_of_mark ms) ≡ [] → found_at g a ms ≡ Some update
    → P (record { group = g; address = a }) ≡ false
none-late P [] g a update none found = absurd (none-some update found)
none-late P (m ∷ ms) g a update none found =
    let out = first-out (P (place_of_mark m)) (place_of_mark m) (filter P (map place_of_mark ms)) none in
    none-step P m g a update (m.group == g && m.address == a) (found_at g a ms) refl out.0 (none-late P ms g a update out.1) found

none-told : (places : List Place) → told_overdue places ≡ None → places ≡ []
none-told [] e = refl
none-told (p ∷ ps) e = absurd (none-some (record { group = p.group; address = p.address; places = length (p ∷ ps) }) (sym e))

late-nowhere : (counts : ℕ → ℕ → ℕ) (p : Picture) (g a : ℕ) (s : Option Macroblock) → sent_at g a p ≡ s
    → ((m : Macroblock) → sent_at g a p ≡ Some m → is_late counts p (record { group = g; address = a }) ≡ false)
    → is_late counts p (record { group = g; address = a }) ≡ false
late-nowhere counts p g a None is sent = ap (λ (s : Option Macroblock). is_some s && (count_sent (counts g a) (sent_at g a p) == updated_within)) is
late-nowhere counts p g a (Some m) is sent = sent m is

nothing-late : (format : Format) (p : Picture) (counts : ℕ → ℕ → ℕ) → IsValid format p → told_overdue (late_places counts p) ≡ None → (g a : ℕ)
    → is_late counts p (record { group = g; address = a }) ≡ false
nothing-late format p counts valid none g a =
    let out : filter (is_late counts p) (map place_of_mark (marks_of p)) ≡ [] =
    ap (λ (ps : List Place). filter (is_late counts p) ps) (sym (places-marked p)) ∙ none-told (late_places counts p) none in
    late-nowhere counts p g a (sent_at g a p) refl
    (λ m is. none-late (is_late counts p) (marks_of p) g a (is_update m) out (found-sent g a p (valid-rise format p valid) ∙ ap update_of is))

all-out : (P : Place → Bool) (ps : List Place) → ((place : Place) → P place ≡ false) → filter P ps ≡ []
all-out P [] none = refl
all-out P (p ∷ ps) none = ap (λ (late : Bool). cond late (p ∷ filter P ps) (filter P ps)) (none p) ∙ all-out P ps none

and-false : (b c : Bool) → c ≡ false → (b && c) ≡ false
and-false true c e = e
and-false false c e = refl

-- ---- what a watch stands for

pub stands-nothing : (format : Format) → StandsFor (record { format = format; counts = replicate 396 0; kept = true }) []
stands-nothing format = record { runs = λ g a. none-counted g a; kept = λ _. keeps-nothing; broken = λ _. refl }

-- one that saw nothing late keeps what it knew, and else it knows that forced updating is broken
pub record Knows (old new : Bool) (result : Option Overdue) : Type 0 where
  pub same : result ≡ None → new ≡ old
  pub broken : (overdue : Overdue) → result ≡ Some overdue → new ≡ false

pub knows-broken : (old : Bool) (result : Option Overdue) → is_some result ≡ true → Knows old false result
knows-broken old None is = absurd (true≢false (sym is))
knows-broken old (Some overdue) is = record { same = λ none. absurd (none-some overdue (sym none)); broken = λ told some. refl }

pub knows-same : (old : Bool) (result : Option Overdue) → is_some result ≡ false → Knows old old result
knows-same old None is = record { same = λ none. refl; broken = λ told some. absurd (none-some told some) }
knows-same old (Some overdue) is = absurd (true≢false is)

abbrev pub of_watch : WatchState → Counts
of_watch w = record { format = w.format; counts = w.counts }

-- a place that is late is none of CIF
out-of-place : (p : Picture) (old new : List ℕ) (place : Place) → ((g a : ℕ) → count_at new g a ≡ counted_on (count_at old) p g a) → is_place place.group place.address ≡ false
    → is_late (count_at old) p place ≡ false
out-of-place p old new place counts out =
    and-false (is_some (sent_at place.group place.address p)) (count_sent (count_at old place.group place.address) (sent_at place.group place.address p) == 132)
    (ap (λ (n : ℕ). n == 132) (sym (counts place.group place.address) ∙ count-out new place.group place.address out))

late-by-place : (p : Picture) (old new : List ℕ) (place : Place) (b : Bool) → is_place place.group place.address ≡ b
    → ((g a : ℕ) → count_at new g a ≡ counted_on (count_at old) p g a)
    → (IsPlace place.group place.address → is_late (count_at old) p place ≡ false) → is_late (count_at old) p place ≡ false
late-by-place p old new place true is counts never = never (place-is place.group place.address is)
late-by-place p old new place false is counts never = out-of-place p old new place counts is

keeps-by : (format : Format) (p : Picture) (old new : WatchState) (result told : Option Overdue) (came : List (Option Picture)) → IsValid format p → result ≡ told
    → CountsPicture p (of_watch old) (of_watch new) result → Knows old.kept new.kept result → StandsFor old came → new.kept ≡ true → KeepsUpdating (came ++ Some p ∷ [])
keeps-by format p old new result (Some overdue) came valid is c k s kept = absurd (true≢false (sym kept ∙ k.broken overdue is))
keeps-by format p old new result None came valid is c k s kept =
    let keeps = s.kept (sym (k.same is) ∙ kept) in
    let runs : AreRuns (count_at old.counts) (stretch_of came) = s.runs in
    picture-keeps came p keeps
    (kept-on (stretch_of came) p (stretch-kept came keeps)
    (λ g a place.
    sym (late-overdue (count_at old.counts) (stretch_of came) p runs (record { group = g; address = a }))
    ∙ nothing-late format p (count_at old.counts) valid (sym c.late ∙ is) g a))

broken-by : (p : Picture) (old new : WatchState) (result : Option Overdue) (came : List (Option Picture))
    → CountsPicture p (of_watch old) (of_watch new) result → Knows old.kept new.kept result → StandsFor old came → KeepsUpdating (came ++ Some p ∷ []) → new.kept ≡ true
broken-by p old new result came c k s keeps =
    let runs : AreRuns (count_at old.counts) (stretch_of came) = s.runs in
    let kept : Kept (stretch_of came ++ p ∷ []) = subst Kept (stretch-append [] came (Some p ∷ [])) (stretch-kept (came ++ Some p ∷ []) keeps) in
    let never : (place : Place) → is_late (count_at old.counts) p place ≡ false =
    λ place. late-by-place p old.counts new.counts place (is_place place.group place.address) refl c.counted
    (λ is. late-overdue (count_at old.counts) (stretch_of came) p runs place ∙ never-overdue (stretch_of came ++ p ∷ []) kept (stretch_of came) [] p refl place.group place.address is) in
    let none : result ≡ None = c.late ∙ ap told_overdue (all-out (is_late (count_at old.counts) p) (sent_places p) never) in
    k.same none ∙ s.broken (keeps-front came (Some p ∷ []) keeps)

pub sees : (format : Format) (p : Picture) (old new : WatchState) (result : Option Overdue) → IsValid format p
    → CountsPicture p (of_watch old) (of_watch new) result → Knows old.kept new.kept result → Sees p old new result
sees format p old new result valid c k = record {
  stands = λ came s. record {
    runs = λ g a.
        c.counted g a ∙ runs-on (count_at old.counts) (stretch_of came) p s.runs g a
        ∙ ap (λ (l : List Picture). min (run (transmissions g a l)) 255) (sym (stretch-append [] came (Some p ∷ [])));
    kept = keeps-by format p old new result result came valid refl c k s;
    broken = broken-by p old new result came c k s;
  };
  tells = λ came s. c.late ∙ ap told_overdue (places-late (count_at old.counts) (stretch_of came) p s.runs);
}

pub passes-gap : (old : WatchState) → PassesGap old (record old { counts = replicate 396 0 })
passes-gap old = record {
  format = refl;
  stands = λ came s. record {
    runs = λ g a.
        none-counted g a ∙ ap (λ (l : List Picture). min (run (transmissions g a l)) 255) (sym (stretch-append [] came (None ∷ [])));
    kept = λ kept. gap-keeps came (s.kept kept);
    broken = λ keeps. s.broken (keeps-front came (None ∷ []) keeps);
  };
}
