-- A stream read picture by picture.
use Rattle.std.proofs.Common.{◌≡◌, ℕ, ◌+◌, ◌-◌, ◌*◌, ◌<◌, ◌≤◌, Bool, List, [], ◌∷◌, ◌++◌, length, Option, Some, None, refl, sym, ◌∙◌, ap, ap₂, subst, inl, inr, arith, append-nil, length-append}
use Rattle.std.specs.Io.KnownBytes.{IsAtEnd}
use Rattle.bare_stream.specs.declared.reader.BareEnd.{BareEnd}
use Rattle.bare_stream.specs.declared.reader.BareEnd.TheVariants.{End, Bad, Fault, Limit}
use Rattle.bare_stream.specs.Reading.{Asked, GivesNone, GivesPicture}
use Rattle.bare_stream.specs.SoFar.{PausedSince, AreGiven, ReadingEnds, LawOfStreamBegun, LawOfPictureGiven, LawOfStreamEnded}
use Rattle.bare_stream.specs.Streams.{HasNoNext, IsCutInto, IsBareStream, AtEnd, BadAt}
use Rattle.h261_pic.specs.Coded.{Coding, coding}
use Rattle.io_edge.specs.Allowance.{AllowanceState, TakesOctets, Paused, unused}
use Rattle.io_edge.specs.declared.allowance.Pause.{Pause}
use Rattle.io_edge.specs.declared.allowance.Pause.TheVariants as pause
use Rattle.io_edge.specs.Outside.{Input}
use Rattle.io_edge.proofs.AllowanceLemmas.{takes-both, paused-before}
use Rattle.pel_bits.specs.Bits.{bits}
use Rattle.pel_bits.proofs.OctetBits.{length-bits, bits-append}
use Rattle.pel_model.specs.declared.Format.{Format}
use Rattle.pel_model.specs.declared.Why.{Why}
use Rattle.pel_model.specs.Grammar.{next_within_limit}
use Rattle.pel_model.specs.Records.{Picture}
use Rattle.pel_model.specs.Walk.{FirstFault}
use Rattle.picture_laws.specs.Laws.{kept_length}
use Rattle.bare_stream.proofs.Cutting.{starts-inside, accepted-some, cuts-longer, cuts-on, fault-longer, none-longer}
use Rattle.bare_stream.proofs.Readings.{takes-none}

pub stream-begun : LawOfStreamBegun
stream-begun format budget now = record {
  took = [];
  takes = takes-none now (record { taken = 0; budget = budget }) (omega arith);
  paused = refl;
  given = inl refl;
  format_is = refl;
}

-- ---- why nothing more was asked

same-allowance : (old new : AllowanceState) → new.taken ≡ old.taken → new.budget ≡ old.budget → old ≡ new
same-allowance old new taken budget = ap₂ (λ (t b : ℕ). record { taken = t; budget = b }) (sym taken) (sym budget)

paused-on : (before now after : Input) (old new : AllowanceState) (took : List ℕ) (was is : Option Pause) → TakesOctets now after old new took
    → PausedSince was before now old → Asked was is took now after new → PausedSince is before after new
paused-on before now after old new took None None takes since asked = asked ∙ since
paused-on before now after old new took None (Some why) takes since asked = paused-before why before now after new since asked
paused-on before now after old new took (Some why) is takes since asked =
    let same : old ≡ new = same-allowance old new (omega (arith, takes.taken, ap length asked.1)) takes.budget in
    subst (λ (w : Option Pause). PausedSince w before after new) (sym asked.0)
    (subst (λ (a : AllowanceState). Paused why before after a) same (subst (λ (i : Input). Paused why before i old) (sym asked.2) since))

-- a reader of a source at its end asks for nothing
none-asked : (was is : Option Pause) (why : Pause) (took : List ℕ) (before after : Input) (allowance : AllowanceState) → was ≡ Some why
    → Asked was is took before after allowance → (is ≡ Some why) × (took ≡ [])
none-asked None is why took before after allowance h asked = absurd cc
none-asked (Some other) is why took before after allowance h asked = (asked.0 ∙ h, asked.1)

paused-by : (was : Option Pause) (why : Pause) (before now : Input) (allowance : AllowanceState) → was ≡ Some why → PausedSince was before now allowance
    → Paused why before now allowance
paused-by None why before now allowance h since = absurd cc
paused-by (Some other) why before now allowance h since = subst (λ (w : Option Pause). PausedSince w before now allowance) h since

-- ---- what is given

-- nothing is in no bits
nothing-given : (format : Format) (rest : List Bool) (paused : Option Pause) (coded : Coding) → GivesPicture format [] rest paused coded → ⊥
nothing-given format rest paused coded (inl next) = omega (arith, starts-inside [] next.0 next.1.place.starts)
nothing-given format rest paused coded (inr last) = omega (arith, accepted-some format [] last.2.0 last.2.1)

given-more : (format : Format) (taken seen rest : List Bool) (pictures : List Picture) (paused : Option Pause) (coded : Coding) → IsCutInto format taken pictures seen
    → GivesPicture format seen rest paused coded
    → (p : Picture) × (coded ≡ coding format p) × AreGiven format taken (pictures ++ p ∷ []) rest paused
given-more format taken seen rest pictures paused coded cuts (inl next) =
    (next.2.0, next.2.2, inl (subst (λ (t : List Bool). IsCutInto format taken (pictures ++ next.2.0 ∷ []) t) (sym next.3) (cuts-on format taken pictures seen next.2.0 next.0 cuts next.1 next.2.1)))
given-more format taken seen rest pictures paused coded cuts (inr last) = (
  last.2.0,
  last.2.2,
  inr (
    last.0,
    last.3,
    record {
      former = pictures;
      last = last.2.0 ∷ [];
      rest = seen;
      order = refl;
      cuts = cuts;
      ends = (last.1, last.2.1);
    },
  ),
)

longer : (format : Format) (took more : List ℕ) (pictures : List Picture) (rest : List Bool) → IsCutInto format (bits took) pictures rest
    → IsCutInto format (bits (took ++ more)) pictures (rest ++ bits more)
longer format took more pictures rest cuts =
    subst (λ (t : List Bool). IsCutInto format t pictures (rest ++ bits more)) (sym (bits-append took more)) (cuts-longer format (bits took) (bits more) pictures rest cuts)

-- the source is at its end, and all was given: nothing stands there
all-seen : (rest seen : List Bool) (took : List ℕ) → rest ≡ [] → took ≡ [] → rest ++ bits took ≡ []
all-seen rest seen took none no_more = ap₂ (λ (r : List Bool) (t : List ℕ). r ++ bits t) none no_more

pub picture-given : LawOfPictureGiven
picture-given format budget before now after old new pictures coded unit so calls =
    let seen = old.rest ++ bits calls.took in
    let paused = paused-on before now after old.allowance new.allowance calls.took old.pause new.pause calls.takes so.paused calls.asked in
    let gives : GivesPicture format seen new.rest new.pause coded =
    subst (λ (f : Format). GivesPicture f seen new.rest new.pause coded) (calls.format ∙ so.format_is) calls.gives.0 in
    let cuts : IsCutInto format (bits (so.took ++ calls.took)) pictures seen = elim so.given [
      | inl cuts ↦ longer format so.took calls.took pictures old.rest cuts
      | inr all ↦
          let quiet = none-asked old.pause new.pause pause.End calls.took now after new.allowance all.0 calls.asked in
          absurd (nothing-given format new.rest new.pause coded
          (subst (λ (t : List Bool). GivesPicture format t new.rest new.pause coded) (all-seen old.rest seen calls.took all.1 quiet.1) gives))
    ] in
    let more = given-more format (bits (so.took ++ calls.took)) seen new.rest pictures new.pause coded cuts gives in
    record {
      picture = more.0;
      coded_is = more.1;
      so_far = record {
        took = so.took ++ calls.took;
        takes = takes-both before now after (unused budget) old.allowance new.allowance so.took calls.took so.takes calls.takes;
        paused = paused;
        given = more.2;
        format_is = calls.format ∙ so.format_is;
      };
    }

-- ---- how it ends

no-more : (left : Option (List ℕ)) (more : List ℕ) → IsAtEnd left → left ≡ Some more → more ≡ []
no-more None more at is = absurd cc
no-more (Some xs) more at is = some_same is ∙ at
  where
    some_same : {xs ys : List ℕ} → Some xs ≡ Some ys → ys ≡ xs
    some_same is = cc

bad-stream : (format : Format) (took : List ℕ) (pictures : List Picture) (seen : List Bool) (place fault : ℕ) (why : Why) → IsCutInto format (bits took) pictures seen → HasNoNext format seen
    → 0 < length seen → FirstFault (next_within_limit format) seen fault why → place ≡ 8 * length took - length seen + fault → IsBareStream format (bits took) pictures (BadAt place why)
bad-stream format took pictures seen place fault why cuts none some first is = record {
  former = pictures;
  last = [];
  rest = seen;
  order = sym (append-nil pictures);
  cuts = cuts;
  ends = (some, none, (fault, first, omega (arith, is, length-bits took)));
}

stays-bad : (format : Format) (took more : List ℕ) (pictures : List Picture) (seen : List Bool) (place fault : ℕ) (why : Why) → IsCutInto format (bits took) pictures seen → HasNoNext format seen
    → 0 < length seen → FirstFault (next_within_limit format) seen fault why → place ≡ 8 * length took - length seen + fault → kept_length format ≤ length seen
    → IsBareStream format (bits (took ++ more)) pictures (BadAt place why)
stays-bad format took more pictures seen place fault why cuts none some first is long =
    bad-stream format (took ++ more) pictures (seen ++ bits more) place fault why (longer format took more pictures seen cuts)
    (none-longer format seen (bits more) fault why long first none)
    (omega (arith, some, length-append seen (bits more)))
    (fault-longer format seen (bits more) fault why long first)
    (omega (arith, is, length-append took more, length-append seen (bits more), length-bits more))

reading-ends : (end : BareEnd) (format : Format) (took : List ℕ) (pictures : List Picture) (seen : List Bool) (before after : Input) (allowance : AllowanceState) (paused : Option Pause)
    → allowance.taken ≡ length took → PausedSince paused before after allowance → IsCutInto format (bits took) pictures seen
    → GivesNone end format seen (8 * allowance.taken - length seen) paused → ReadingEnds end format took pictures before after allowance
reading-ends End format took pictures seen before after allowance paused size since cuts gives = (
  record { former = pictures; last = []; rest = seen; order = sym (append-nil pictures); cuts = cuts; ends = gives.1 },
  paused-by paused pause.End before after allowance gives.0 since,
)
reading-ends (Bad place why) format took pictures seen before after allowance paused size since cuts gives =
    let fault = gives.2.0 in
    let first = gives.2.1 in
    let is : place ≡ 8 * length took - length seen + fault = omega (arith, gives.2.2, size) in (
      bad-stream format took pictures seen place fault why cuts gives.0 gives.1 first is,
      λ more left. elim gives.3 [
        | inl at ↦
            let none : more ≡ [] = no-more after.left more (paused-by paused pause.End before after allowance at since).0 left in
            subst (λ (t : List ℕ). IsBareStream format (bits t) pictures (BadAt place why)) (sym (append-nil took) ∙ ap (λ (t : List ℕ). took ++ t) (sym none))
            (bad-stream format took pictures seen place fault why cuts gives.0 gives.1 first is)
        | inr long ↦ stays-bad format took more pictures seen place fault why cuts gives.0 gives.1 first is long
      ],
    )
reading-ends Fault format took pictures seen before after allowance paused size since cuts gives =
    ((seen, cuts, gives.0), paused-by paused pause.Fault before after allowance gives.2 since)
reading-ends Limit format took pictures seen before after allowance paused size since cuts gives =
    ((seen, cuts, gives.0), paused-by paused pause.Limit before after allowance gives.2 since)

-- all was given before
all-given : (end : BareEnd) (format : Format) (took : List ℕ) (pictures : List Picture) (before after : Input) (allowance : AllowanceState) (paused : Option Pause) (at : ℕ)
    → paused ≡ Some pause.End → PausedSince paused before after allowance → IsBareStream format (bits took) pictures AtEnd → GivesNone end format [] at paused
    → ReadingEnds end format took pictures before after allowance
all-given End format took pictures before after allowance paused at is since stream gives = (stream, paused-by paused pause.End before after allowance is since)
all-given (Bad place why) format took pictures before after allowance paused at is since stream gives = absurd (omega (arith, gives.1))
all-given Fault format took pictures before after allowance paused at is since stream gives = absurd (other (sym is ∙ gives.2))
  where
    other : Some pause.End ≡ Some pause.Fault → ⊥
    other h = cc
all-given Limit format took pictures before after allowance paused at is since stream gives = absurd (other (sym is ∙ gives.2))
  where
    other : Some pause.End ≡ Some pause.Limit → ⊥
    other h = cc

pub stream-ended : LawOfStreamEnded
stream-ended format budget before now after old new pictures coded end so calls =
    let seen = old.rest ++ bits calls.took in
    let took = so.took ++ calls.took in
    let paused = paused-on before now after old.allowance new.allowance calls.took old.pause new.pause calls.takes so.paused calls.asked in
    let takes = takes-both before now after (unused budget) old.allowance new.allowance so.took calls.took so.takes calls.takes in
    let at = 8 * new.allowance.taken - length seen in
    let gives : GivesNone end format seen at new.pause = subst (λ (f : Format). GivesNone end f seen at new.pause) (calls.format ∙ so.format_is) calls.gives.0 in
    record {
      took = took;
      taken = new.allowance;
      takes = takes;
      ends = elim so.given [
        | inl cuts ↦ reading-ends end format took pictures seen before after new.allowance new.pause (omega (arith, takes.taken)) paused (longer format so.took calls.took pictures old.rest cuts) gives
        | inr all ↦
            let quiet = none-asked old.pause new.pause pause.End calls.took now after new.allowance all.0 calls.asked in
            all-given end format took pictures before after new.allowance new.pause at quiet.0 paused
            (subst (λ (t : List ℕ). IsBareStream format (bits t) pictures AtEnd) (sym (append-nil so.took) ∙ ap (λ (t : List ℕ). so.took ++ t) (sym quiet.1)) all.2)
            (subst (λ (t : List Bool). GivesNone end format t at new.pause) (all-seen old.rest seen calls.took all.1 quiet.1) gives)
      ];
    }
