-- Names that are opened one after the other.
use Rattle.std.proofs.Common.{◌≡◌, ℕ, ◌+◌, ◌<◌, List, [], ◌∷◌, ◌++◌, Option, None, Some, Ok, Err, true, false, length, map, take, cond, nat_lt, refl, sym, ap, subst, ◌∙◌, arith, append_assoc, get_or, suc, drop, drop-cons}
use Rattle.std.proofs.lemmas.Bool.Decides.{nat_tests}
use Rattle.std.proofs.lemmas.List.{length-append, length-map, length-take-le, map-append, length_push, map_push, map_more, take-append-drop}
use Rattle.std.proofs.lemmas.List.Elements.{All-nil, All-push}
use Rattle.std.specs.Borrow.{Bor}
use Rattle.command_words.specs.Options.{Text}
use Rattle.io_edge.specs.Causes.{Rose}
use Rattle.io_edge.specs.declared.edges.Failed.{Failed}
use Rattle.io_edge.specs.Directory.{NamedOctets, Directory, TakesEntry, Reaches}
use Rattle.io_edge.specs.Outside.{Input}
use Rattle.bridge_cli.specs.Opening.{TakeEntries, GivesAll, ReachesAll, Misses, CannotOpen, IsUnopened, number_of_name}
use Rattle.bridge_cli.specs.declared.status.Status.{Status}
use Rattle.bridge_cli.specs.declared.status.Status.TheVariants as status

-- one entry more
take_more : (names : List Text) (name first : Text) (house mid rest : List NamedOctets) (octets : List Text)
    → TakeEntries names house mid octets → TakesEntry name mid rest first
    → TakeEntries (names ++ name ∷ []) house rest (octets ++ first ∷ [])
take_more [] name first house mid rest octets t one =
    (first, [], rest, ap (λ o. o ++ first ∷ []) t.0, subst (λ h. TakesEntry name h rest first) t.1 one, (refl, refl))
take_more (n ∷ ns) name first house mid rest octets (f, more, next, is, here, behind) one =
    (f, more ++ first ∷ [], next, ap (λ o. o ++ first ∷ []) is, here, take_more ns name first next mid rest more behind one)

abbrev left_of : Input → Option Text
left_of input = input.left

gives_more : {S : Type 0} (tells : S → Input) (names : List Text) (name : Text) (opened : List Input) (src : S)
    (o m n : Option (List NamedOctets)) → GivesAll names opened o m → Reaches {E = Failed} tells m n name (Ok src)
    → GivesAll (names ++ name ∷ []) (opened ++ tells src ∷ []) o n
gives_more tells names name opened src None m n all one = tt
gives_more {S} tells names name opened src (Some house) m n (octets, rest, takes, is, now) one =
    go (subst (λ x. Reaches {E = Failed} tells x n name (Ok src)) now one)
  where
    go : Reaches {E = Failed} tells (Some rest) n name (Ok src)
        → GivesAll (names ++ name ∷ []) (opened ++ tells src ∷ []) (Some house) n
    go (first, after, entry, has, new) = (
      octets ++ first ∷ [],
      after,
      take_more names name first house rest after octets takes entry,
      map-append left_of opened (tells src ∷ [])
          ∙ (ap (λ l. l ++ (tells src).left ∷ []) is ∙ (ap (λ x. map Some octets ++ x ∷ []) has ∙ sym (map-append Some octets (first ∷ [])))),
      new,
    )

-- one name more was reached
pub reaches_more : {S : Type 0} (tells : S → Input) (names : List Text) (name : Text) (opened : List Input) (src : S)
    (before mid after : Directory) → ReachesAll names opened before mid
    → Reaches {E = Failed} tells mid.names after.names name (Ok src) → (tells src).faults ≡ 0 → after.faults ≡ mid.faults
    → ReachesAll (names ++ name ∷ []) (opened ++ tells src ∷ []) before after
reaches_more {S} tells names name opened src before mid after all one anew kept = record {
  number = length_push opened (tells src) ∙ (ap (λ n. n + 1) all.number ∙ sym (length_push names name));
  gives = gives_more tells names name opened src before.names mid.names after.names all.gives one;
  anew = All-push (λ (input : Input). input.faults ≡ 0) opened (tells src) all.anew anew;
  kept = kept ∙ all.kept;
}

pub reaches_none : (before : Directory) → ReachesAll [] [] before before
reaches_none before = record { number = refl; gives = none before.names; anew = All-nil (λ (input : Input). input.faults ≡ 0); kept = refl }
  where
    none : (o : Option (List NamedOctets)) → GivesAll [] [] o o
    none None = tt
    none (Some house) = ([], house, (refl, refl), refl, refl)

misses_one : {S : Type 0} (e : Failed) (tells : S → Input) (names : List Text) (name : Text) (opened : List Input)
    (o m n : Option (List NamedOctets)) → GivesAll names opened o m → Reaches {S = S} {E = Failed} tells m n name (Err e)
    → Misses names name o n
misses_one e tells names name opened None m n all one = tt
misses_one {S} e tells names name opened (Some house) m n (octets, rest, takes, is, now) one =
    let last = subst (λ x. Reaches {S = S} {E = Failed} tells x n name (Err e)) now one in
    (octets, rest, takes, last.0, last.1)

-- the name behind those that were reached could not be
pub fails_at : {S : Type 0} (e : Failed) (tells : S → Input) (names reached : List Text) (name : Text) (others : List Text)
    (opened : List Input) (before mid after : Directory) → names ≡ reached ++ name ∷ others → ReachesAll reached opened before mid
    → Reaches {S = S} {E = Failed} tells mid.names after.names name (Err e) → Rose mid.faults after.faults
    → CannotOpen names (length reached) before after
fails_at {S} e tells names reached name others opened before mid after is all one rose = record {
  reached = reached;
  name = name;
  others = others;
  is = is;
  place_is = refl;
  misses = misses_one {S = S} e tells reached name opened before.names mid.names after.names all.gives one;
  rose = subst (λ (n : ℕ). Rose n after.faults) all.kept rose;
}

lanes_own : (lanes place : ℕ) → place < lanes → number_of_name lanes place ≡ place
lanes_own lanes place inside = ap (λ b. cond b place 16) lt
  where
    lt : nat_lt place lanes ≡ true
    lt = grind (arith, nat_tests)

chairs_own : (lanes : ℕ) → number_of_name lanes lanes ≡ 16
chairs_own lanes = ap (λ b. cond b lanes 16) not_lt
  where
    not_lt : nat_lt lanes lanes ≡ false
    not_lt = grind (arith, nat_tests)

-- where a lane could not be opened, so much is said of all names
pub lanes_unopened : (names : List Text) (chair : Text) (before after : Directory) (s : Status)
    → IsUnopened names (λ place. place) before after s
    → IsUnopened (names ++ chair ∷ []) (number_of_name (length names)) before after s
lanes_unopened names chair before after (status.OpenFault lane) (place, lane_is, fails) =
    let whole : names ++ chair ∷ [] ≡ fails.reached ++ fails.name ∷ (fails.others ++ chair ∷ []) =
    ap (λ l. l ++ chair ∷ []) fails.is ∙ append_assoc fails.reached (fails.name ∷ fails.others) (chair ∷ []) in
    let long : length names ≡ length fails.reached + length (fails.name ∷ fails.others) =
    ap length fails.is ∙ length-append fails.reached (fails.name ∷ fails.others) in
    let here = fails.place_is in
    let inside : place < length names = omega arith in (
      place,
      lane_is ∙ sym (lanes_own (length names) place inside),
      record {
        reached = fails.reached;
        name = fails.name;
        others = fails.others ++ chair ∷ [];
        is = whole;
        place_is = here;
        misses = fails.misses;
        rose = fails.rose;
      },
    )
lanes_unopened names chair before after status.NoMemory kept = kept
lanes_unopened names chair before after status.Done u = absurd u
lanes_unopened names chair before after status.Usage u = absurd u
lanes_unopened names chair before after status.ReadFault u = absurd u
lanes_unopened names chair before after status.WriteFault u = absurd u
lanes_unopened names chair before after (status.Cut place) u = absurd u
lanes_unopened names chair before after (status.BadRecord place why) u = absurd u
lanes_unopened names chair before after status.Limit u = absurd u
lanes_unopened names chair before after status.NoteFault u = absurd u

-- the chair could not be
pub chair_unopened : (names : List Text) (chair : Text) (before after : Directory) (lane : ℕ) → lane ≡ 16
    → CannotOpen (names ++ chair ∷ []) (length names) before after
    → IsUnopened (names ++ chair ∷ []) (number_of_name (length names)) before after (status.OpenFault lane)
chair_unopened names chair before after lane is fails = (length names, is ∙ sym (chairs_own (length names)), fails)

-- one name more of a list that is gone through was reached
pub reaches_next : {S : Type 0} (tells : S → Input) (names : List (Bor Text)) (i : ℕ) (d : Bor Text) (lanes new : List S) (src : S)
    (before mid after : Directory) → i < length names → ReachesAll (map (λ n. n.now) (take i names)) (map tells lanes) before mid
    → Reaches {E = Failed} tells mid.names after.names (get_or names i d).now (Ok src) → (tells src).faults ≡ 0
    → after.faults ≡ mid.faults
    → new ≡ lanes ++ src ∷ [] → ReachesAll (map (λ n. n.now) (take (i + 1) names)) (map tells new) before after
reaches_next {S} tells names i d lanes new src before mid after inside all one anew kept is =
    let text : Bor Text → Text = λ n. n.now in
    subst (λ ns. ReachesAll ns (map tells new) before after) (sym (map_more text names i d inside))
    (subst (λ l. ReachesAll (map text (take i names) ++ (get_or names i d).now ∷ []) l before after)
    (sym (ap (map tells) is ∙ map_push tells lanes src))
    (reaches_more tells (map text (take i names)) (get_or names i d).now (map tells lanes) src before mid after all one anew kept))

-- the next name could not be
pub fails_next : {S : Type 0} (e : Failed) (tells : S → Input) (names : List (Bor Text)) (i : ℕ) (d : Bor Text) (lanes : List S)
    (before mid after : Directory) → i < length names → ReachesAll (map (λ n. n.now) (take i names)) (map tells lanes) before mid
    → Reaches {S = S} {E = Failed} tells mid.names after.names (get_or names i d).now (Err e) → Rose mid.faults after.faults
    → CannotOpen (map (λ n. n.now) names) i before after
fails_next {S} e tells names i d lanes before mid after inside all one rose =
    let text : Bor Text → Text = λ n. n.now in
    let cut : map text names ≡ map text (take i names) ++ (get_or names i d).now ∷ map text (drop (suc i) names) =
    ap (map text) (sym (take-append-drop i names) ∙ ap (λ ys. take i names ++ ys) (drop-cons names i d inside))
    ∙ map-append text (take i names) (get_or names i d ∷ drop (suc i) names) in
    let place : length (map text (take i names)) ≡ i = length-map (take i names) text ∙ length-take-le i names (omega arith) in
    subst (λ p. CannotOpen (map text names) p before after) place
    (fails_at {S = S} e tells (map text names) (map text (take i names)) (get_or names i d).now (map text (drop (suc i) names)) (map tells lanes)
    before mid after cut all one rose)
